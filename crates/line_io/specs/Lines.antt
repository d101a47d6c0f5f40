-- The lines of a text. The cut at line feeds is the project's own; white space in a line is that of JSON.
use Rattle.std.specs.Prelude.{ℕ, Bool, true, false, not, ◌||◌, ◌==◌, List, [], ◌∷◌, ◌++◌, filter}
use Rattle.std.specs.List.{slice_split, list_all}
use Rattle.line_io.specs.Text.{Text}

-- a line feed
abbrev pub is_line_feed : ℕ → Bool
is_line_feed byte = byte == 10

-- the parts of a text between its line feeds
abbrev pub parts_of : Text → List Text
parts_of text = slice_split is_line_feed text

-- all but the last of a list
abbrev pub all_but_last : List Text → List Text
all_but_last [] = []
all_but_last (part ∷ []) = []
all_but_last (part ∷ next ∷ parts) = part ∷ all_but_last (next ∷ parts)

-- the last of a list, and nothing of an empty one
abbrev pub last_of : List Text → Text
last_of [] = []
last_of (part ∷ []) = part
last_of (part ∷ next ∷ parts) = last_of (next ∷ parts)

-- the lines that a line feed ends
unfoldable pub whole_lines : Text → List Text
whole_lines text = all_but_last (parts_of text)

-- what follows the last line feed
unfoldable pub last_part : Text → Text
last_part text = last_of (parts_of text)

-- a part is a line where it is not empty
abbrev pub line_begun : Text → List Text
line_begun [] = []
line_begun (byte ∷ bytes) = (byte ∷ bytes) ∷ []

-- all lines of a text: what follows the last line feed is one where it is not empty
unfoldable pub lines_of : Text → List Text
lines_of text = whole_lines text ++ line_begun (last_part text)

-- the lines read so far: the last one counts without a line feed only once the end was met
abbrev pub lines_read : Bool → Text → List Text
lines_read true text = lines_of text
lines_read false text = whole_lines text

-- a space, a tab or a carriage return
abbrev pub is_blank_byte : ℕ → Bool
is_blank_byte byte = (byte == 32) || (byte == 9) || (byte == 13)

-- a line of nothing else, which is passed over
abbrev pub is_blank : Text → Bool
is_blank line = list_all is_blank_byte line

-- the lines that are not passed over
unfoldable pub spoken : List Text → List Text
spoken lines = filter (λ line. not (is_blank line)) lines

-- a text of lines, each ended by a line feed
unfoldable pub lines_text : List Text → Text
lines_text [] = []
lines_text (line ∷ lines) = (line ++ (10 ∷ [])) ++ lines_text lines
