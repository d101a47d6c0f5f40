-- The things that a session reads and a load or a commit touches, absent ones among them (Kung and Robinson's read and write sets; ranges, declared values and absent things are the project's own).
use Rattle.std.specs.Prelude.{ℕ, Bool, not, List, [], ◌∷◌, ◌++◌, Option, Some, None}
use Rattle.std.specs.Hash as fed
use Rattle.std.specs.Hash.{HashWrites}
use Rattle.std.specs.declared.cmp.Ordering.{Ordering}
use Rattle.std.specs.List.{filter, list_any, flat_map}
use Rattle.std.specs.Option.{option_cmp}
use Rattle.std.specs.Ordering.{on, then_cmp, nat_cmp, eq_by_cmp}
use Rattle.std.specs.Cmp.Lexicographic.{slice_cmp}
use Rattle.filing_model.specs.Common.Text.{Text, text_cmp}
use Rattle.filing_model.specs.Oim.Dimensions.{Dims, dims_hash}
use Rattle.filing_model.specs.Sessions.Calls.{PeriodFilter, Any, Without, Exactly, PageQuery}

-- a report that is not there; an identifier of a report; a cell of it; a page query there, up to an identifier or without end; its declared value
pub data Thing : Type 0 where
  Report : Text → Thing
  Id : Text → Text → Thing
  Cell : Text → Dims → Thing
  Range : Text → PageQuery → Option Text → Thing
  Policy : Text → Thing

-- where a thing lies
abbrev pub report_of : Thing → Text
report_of (Report name) = name
report_of (Id name id) = name
report_of (Cell name dims) = name
report_of (Range name query upto) = name
report_of (Policy name) = name

-- ---- their order

abbrev pub rank_of : Thing → ℕ
rank_of (Report name) = 0
rank_of (Id name id) = 1
rank_of (Cell name dims) = 2
rank_of (Range name query upto) = 3
rank_of (Policy name) = 4

-- any period, then none, then each by its bytes
abbrev pub asked_parts : PeriodFilter → List (Option Text)
asked_parts Any = None ∷ None ∷ []
asked_parts Without = None ∷ Some [] ∷ []
asked_parts (Exactly period) = Some period ∷ None ∷ []

abbrev pub dim_parts : Dims → List (Option Text)
dim_parts dims = flat_map (λ d. Some d.0 ∷ d.1 ∷ []) dims

-- what distinguishes a thing from others of its rank, in the order in which that counts
abbrev pub parts_of : Thing → List (Option Text)
parts_of (Report name) = Some name ∷ []
parts_of (Id name id) = Some name ∷ Some id ∷ []
parts_of (Cell name dims) = Some name ∷ dim_parts dims
parts_of (Range name query upto) = Some name ∷ Some query.concept
    ∷ (asked_parts query.period ++ query.after ∷ upto ∷ [])
parts_of (Policy name) = Some name ∷ []

-- by rank, then part by part: none before any text, texts by bytes
abbrev pub thing_cmp : Thing → Thing → Ordering
thing_cmp = then_cmp (on rank_of nat_cmp) (on parts_of (slice_cmp (option_cmp text_cmp)))

abbrev pub thing_eq : Thing → Thing → Bool
thing_eq = eq_by_cmp thing_cmp

-- ---- what is hashed of them

abbrev pub asked_hash : PeriodFilter → HashWrites
asked_hash Any = fed.u8 0
asked_hash Without = fed.u8 1
asked_hash (Exactly period) = fed.u8 2 ++ fed.str period

abbrev pub page_query_hash : PageQuery → HashWrites
page_query_hash query = fed.str query.concept ++ (asked_hash query.period ++ fed.option fed.str query.after)

-- the rank, then the fields
abbrev pub thing_hash : Thing → HashWrites
thing_hash (Report name) = fed.u8 0 ++ fed.str name
thing_hash (Id name id) = fed.u8 1 ++ (fed.str name ++ fed.str id)
thing_hash (Cell name dims) = fed.u8 2 ++ (fed.str name ++ dims_hash dims)
thing_hash (Range name query upto) = fed.u8 3 ++ (fed.str name ++ (page_query_hash query ++ fed.option fed.str upto))
thing_hash (Policy name) = fed.u8 4 ++ fed.str name

-- ---- lists of things

abbrev pub has_thing : List Thing → Thing → Bool
has_thing things t = list_any (thing_eq t) things

-- in the order in which each first stands there
abbrev pub each_once : List Thing → List Thing
each_once [] = []
each_once (t ∷ ts) = t ∷ filter (λ u. not (thing_eq t u)) (each_once ts)
