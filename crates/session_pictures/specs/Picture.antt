-- What a picture of sessions shows: versions along, a row for each session with a bar from the version of its opening
-- to that of its end, an arrow into the bar of each that ended by a conflict, and a mark at each of these versions
-- that a load made. All of it is the project's own.
use Rattle.std.specs.Prelude.{◌≡◌, ℕ, ◌+◌, ◌-◌, max, Bool, cond, ◌&&◌, nat_lt, nat_le, List, [], ◌∷◌, take}
use Rattle.std.specs.Prelude.{drop, length, map, Option, Some, None, option_map, string_bytes}
use Rattle.std.specs.List.{filter_map}
use Rattle.filing_model.specs.Common.Text.{Text}
use Rattle.session_pictures.specs.Told.{End, Told}
use Rattle.session_pictures.specs.Columns.{column_of, columns, count_below, touching_end}
use Rattle.session_pictures.specs.declared.drawing.Drawing.{Drawing}
use Rattle.session_pictures.specs.declared.picture.Arrow.{Arrow}
use Rattle.session_pictures.specs.declared.picture.Label.{Label}
use Rattle.session_pictures.specs.declared.picture.Picture.{Picture}
use Rattle.session_pictures.specs.declared.picture.Row.{Row}
use Rattle.session_pictures.specs.declared.picture.RowEnd.{RowEnd}
use Rattle.session_pictures.specs.declared.picture.TheConstants.{MOST}

-- ---- which sessions

-- at most 200, from the one of this number on, where the first has number 1
abbrev pub shown : ℕ → List Told → List Told
shown first ts = take MOST (drop (first - 1) ts)

-- whether a session is one of so many from the first on
abbrev pub is_shown : ℕ → ℕ → ℕ → Bool
is_shown first many s = nat_le first s && nat_lt s (first + many)

-- ---- the row of a session, among so many from the first on, over these versions

-- the session from whose row an arrow comes: the one whose commit touched what was read, where that is shown
abbrev pub arrow_from : ℕ → ℕ → Option ℕ → Option ℕ
arrow_from first many None = None
arrow_from first many (Some s) = cond (is_shown first many s) (Some s) None

-- at the version that touched what the session had read, if one did
abbrev pub arrow_of : ℕ → ℕ → List ℕ → Option ℕ → Option ℕ → Option Arrow
arrow_of first many versions by None = None
arrow_of first many versions by (Some version) =
    Some (record { column = count_below version versions; from_row = arrow_from first many by })

abbrev pub end_of : List ℕ → End → RowEnd
end_of versions e = record { ending = e.ending; version = e.version; column = count_below e.version versions }

-- its bar goes from the column of the version of its opening to that of its end, or to the last where it has not ended
unfoldable pub row_of : ℕ → ℕ → List ℕ → ℕ → Told → Row
row_of first many versions number t = record {
  number = number;
  kind = t.kind;
  staged = t.staged;
  opening = count_below t.opened_at versions;
  end = option_map (end_of versions) t.ended;
  touched_by = t.touched_by;
  arrow = arrow_of first many versions t.touched_by (touching_end t.ended);
}

-- of sessions that are numbered from this number on
abbrev pub rows_of : ℕ → ℕ → List ℕ → ℕ → List Told → List Row
rows_of first many versions number [] = []
rows_of first many versions number (t ∷ ts) =
    row_of first many versions number t ∷ rows_of first many versions (number + 1) ts

-- what is known of its name and its time
abbrev pub label_of : Told → Option Text × Option Text
label_of t = (t.name, t.time)

abbrev pub label_in : Label → Option Text × Option Text
label_in l = (option_map string_bytes l.name, option_map string_bytes l.time)

-- ---- the whole

-- the picture shows at most 200 of these sessions, from the one of this number on: their versions, and a row of each
-- with its label; and those of the versions that loads made, where a session has one of these
pub record Shows (first : ℕ) (ts : List Told) (loaded : List ℕ) (picture : Picture) : Type 0 where
  pub first_is : picture.first ≡ max first 1
  pub all_is : picture.all ≡ length ts
  pub versions_are : picture.versions.items ≡ columns (shown first ts)
  pub rows_are : picture.rows.items
      ≡ rows_of (max first 1) (length (shown first ts)) (columns (shown first ts)) (max first 1) (shown first ts)
  pub labels_are : map label_in picture.labels.items ≡ map label_of (shown first ts)
  pub loads_are : picture.loads.items ≡ filter_map (column_of (columns (shown first ts))) loaded

-- what is drawn, and its text in SVG
abbrev pub picture_in : Drawing → Picture
picture_in drawing = drawing.picture

abbrev pub text_in : Drawing → Text
text_in drawing = string_bytes drawing.text
