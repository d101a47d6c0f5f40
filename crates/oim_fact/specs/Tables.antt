-- Rows of a numeric table in order.
use Rattle.std.specs.Prelude.{Bool, List, map}
use Rattle.std.specs.FinMap.Entries.{is_sorted}
use Rattle.filing_model.specs.Common.Text.{Text}
use Rattle.filing_model.specs.Oim.Facts.{Table}
use Rattle.filing_model.specs.Oim.Tables.{row_cmp}

-- rows as the keys of a map to nothing
abbrev pub row_entries : Table → List ((Text × Text) × Unit {0})
row_entries rows = map (λ r. (r, tt)) rows

-- in byte order, none twice
abbrev pub is_table : Table → Bool
is_table rows = is_sorted row_cmp (row_entries rows)
