-- The identifiers that a look-up borrows, in plain words. The project's own.
use Rattle.std.specs.Prelude.{option_map}
use Rattle.filing_stamps.specs.Stamps as plain
use Rattle.filing_stamps.specs.declared.stamp_spans.IdRange.{IdRange}
use Rattle.filing_stamps.specs.declared.stamp_spans.IdRange.TheVariants.{Only, Between}

abbrev pub id_range_of : IdRange → plain.IdRange
id_range_of (Only id) = plain.Only id
id_range_of (Between after upto) = plain.Between (option_map (λ t. t.now) after) (option_map (λ t. t.now) upto)
