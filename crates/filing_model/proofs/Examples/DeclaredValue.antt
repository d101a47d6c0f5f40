-- Worked examples of setting the declared value of a report's info.
use Rattle.std.specs.Prelude.{◌≡◌, [], ◌++◌, codes, Ok, ◌∷◌, refl}
use Rattle.filing_model.specs.Common.Text.{Text}
use Rattle.filing_model.specs.Common.TextMap.{empty, from_entries}
use Rattle.filing_model.specs.Reading.DeclaredValue.{with_allowed}
use Rattle.filing_model.specs.declared.duplicates.Allowed.TheVariants.{Never, Complete, Consistent}
use Rattle.filing_model.proofs.OnLiterals.{filing_on_literals}
use Rattle.filing_model.proofs.Examples.ReadReport.{info_with, bound, read_literal, table}

-- the member `features` with these features
abbrev features : Text → Text
features members = codes ",\"features\":{" ++ (members ++ codes "}")

-- in byte order of their names
pub other_features_are_kept : with_allowed (info_with (features (codes "\"a\":1,\"z\":{\"b\":null}"))) Consistent
    ≡ info_with (features (codes "\"a\":1,\"xbrl:allowedDuplicates\":\"consistent\",\"z\":{\"b\":null}"))
unfolding filing_on_literals
other_features_are_kept = refl

-- ---- texts that are no report's info

pub a_fraction_stays : with_allowed (codes "{\"x\":1.5}") Never ≡ codes "{\"x\":1.5}"
unfolding filing_on_literals
a_fraction_stays = refl

-- ---- set and read

-- a report that says this of itself declares what was set last
pub last_value_is_read : read_literal (codes "{\"documentInfo\":"
    ++ (with_allowed (with_allowed (info_with bound) Never) Complete ++ codes "}"))
    ≡ Ok (record {
      info = info_with (features (codes "\"xbrl:allowedDuplicates\":\"complete\"") ++ bound);
      names = record { prefixes = from_entries ((codes "ex", codes "http://e.org/t") ∷ []); table = table };
      allowed = Complete;
      facts = empty;
    })
unfolding filing_on_literals
last_value_is_read = refl
