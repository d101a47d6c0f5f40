-- The numeric table and its text. The project's own.
use Rattle.std.specs.Prelude.{ℕ, Bool, not, ◌&&◌, ◌==◌, nat_lt, if◌then◌else◌, List, [], map, filter, fold, length, Result, Ok, Err}
use Rattle.std.specs.declared.cmp.Ordering.{Ordering}
use Rattle.std.specs.Ordering.{on, then_cmp}
use Rattle.std.specs.List.{list_all, before_first, after_first, slice_split, enumerate_from}
use Rattle.std.specs.Char.{is_newline}
use Rattle.std.specs.Str.Lines.{strip_carriage_return}
use Rattle.std.specs.BTreeSet.{insert_key}
use Rattle.filing_model.specs.Common.Text.{Text, text_cmp}
use Rattle.filing_model.specs.Common.Try.{◌>>=◌, each}
use Rattle.filing_model.specs.Oim.Facts.{Table}
use Rattle.filing_model.specs.declared.faults.TableFault.{TableFault}
use Rattle.filing_model.specs.declared.faults.TableFault.TheVariants.{BadLine}

-- URIs by bytes, then local names by bytes
abbrev pub row_cmp : Text × Text → Text × Text → Ordering
row_cmp = then_cmp (on (λ p. p.0) text_cmp) (on (λ p. p.1) text_cmp)

-- the table of these rows. One that stands twice counts once
abbrev pub table_of : List (Text × Text) → Table
table_of rows = fold (insert_key row_cmp) [] rows

abbrev pub is_space : ℕ → Bool
is_space c = c == 32

-- what stands before and after the first space
abbrev pub split_at_space : Text → Text × Text
split_at_space line = (before_first is_space line, after_first is_space line)

-- neither part is empty, and the second has no space
abbrev pub is_row : Text × Text → Bool
is_row parts = nat_lt 0 (length parts.0) && nat_lt 0 (length parts.1) && list_all (λ c. not (is_space c)) parts.1

-- the row that a line is, which stands with its number
abbrev pub row_at : ℕ × Text → Result (Text × Text) TableFault
row_at line = if is_row (split_at_space line.1) then Ok (split_at_space line.1) else Err (BadLine line.0)

-- the lines that are not empty with their numbers from 1. The last line too loses a CR at its end
abbrev pub numbered_lines : Text → List (ℕ × Text)
numbered_lines text = filter (λ line. nat_lt 0 (length line.1))
    (enumerate_from 1 (map strip_carriage_return (slice_split is_newline text)))

-- the table of a text, or its first bad line: each line that is not empty is a URI, one space and a local name
abbrev pub read_table_of : Text → Result Table TableFault
read_table_of text = do
  rows ← each row_at (numbered_lines text)
  Ok (table_of rows)
