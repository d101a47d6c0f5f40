-- The versions that a picture shows, and where each stands among them. All of it is the project's own.
use Rattle.std.specs.Prelude.{ℕ, suc, ◌==◌, cond, Bool, false, List, [], ◌∷◌, nat_lt, slice_get, Option, Some, None}
use Rattle.std.specs.List.{flat_map}
use Rattle.std.specs.Option.{option_map_or}
use Rattle.session_pictures.specs.Told.{End, Told}
use Rattle.session_pictures.specs.declared.told.Ending.{Ending}
use Rattle.session_pictures.specs.declared.told.Ending.TheVariants.{Committed, Conflict, Closed, Disallowed}

-- the number of the version that touched what the session had read
abbrev pub touching : Ending → Option ℕ
touching (Conflict number) = Some number
touching Committed = None
touching Closed = None
touching Disallowed = None

abbrev pub touching_end : Option End → Option ℕ
touching_end None = None
touching_end (Some e) = touching e.ending

abbrev pub listed : Option ℕ → List ℕ
listed None = []
listed (Some number) = number ∷ []

abbrev pub versions_of_end : Option End → List ℕ
versions_of_end None = []
versions_of_end (Some e) = e.version ∷ listed (touching e.ending)

-- the versions at which a session opened and ended, and the one that touched what it had read
abbrev pub versions_of : Told → List ℕ
versions_of t = t.opened_at ∷ versions_of_end t.ended

-- numbers that rise, with one in its place among them, unless it is there
abbrev pub with_number : ℕ → List ℕ → List ℕ
with_number n [] = n ∷ []
with_number n (m ∷ ms) = cond (nat_lt m n) (m ∷ with_number n ms) (cond (m == n) (m ∷ ms) (n ∷ m ∷ ms))

abbrev pub with_numbers : List ℕ → List ℕ → List ℕ
with_numbers [] ms = ms
with_numbers (n ∷ ns) ms = with_numbers ns (with_number n ms)

-- the versions of sessions, rising, each once
abbrev pub columns : List Told → List ℕ
columns ts = with_numbers (flat_map versions_of ts) []

-- how many stand before a version: its column, where it is one of them
abbrev pub count_below : ℕ → List ℕ → ℕ
count_below n [] = 0
count_below n (m ∷ ms) = cond (nat_lt m n) (suc (count_below n ms)) 0

abbrev pub is_at : ℕ → ℕ → List ℕ → Bool
is_at n k cs = option_map_or (λ m. m == n) (slice_get cs k) false

-- the column of a version, if it has one
abbrev pub column_of : List ℕ → ℕ → Option ℕ
column_of cs n = cond (is_at n (count_below n cs) cs) (Some (count_below n cs)) None
