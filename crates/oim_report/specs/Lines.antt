-- Lines of a numeric table that are still to be read.
use Rattle.std.specs.Prelude.{ℕ, nat_lt, List, [], map, filter, length, Option, Some, None}
use Rattle.std.specs.List.{slice_split, enumerate_from}
use Rattle.std.specs.Char.{is_newline}
use Rattle.std.specs.Str.Lines.{strip_carriage_return}
use Rattle.filing_model.specs.Common.Text.{Text}

-- the lines of the text that is left, if any
abbrev pub lines_left : Option Text → List Text
lines_left None = []
lines_left (Some text) = slice_split is_newline text

-- of these the ones that are not empty, without a carriage return at their end, numbered from n
abbrev pub numbered_from : ℕ → Option Text → List (ℕ × Text)
numbered_from n left =
    filter (λ line. nat_lt 0 (length line.1)) (enumerate_from n (map strip_carriage_return (lines_left left)))
