-- The stamps of one report: what touched facts leave behind, each with the number of the last touch. The project's own.
use Rattle.std.specs.Prelude.{ℕ, ◌+◌, ◌*◌, ◌/◌, min, nat_lt, Bool, true, false, cond, not}
use Rattle.std.specs.Prelude.{List, [], ◌∷◌, ◌++◌, Option, Some, None}
use Rattle.std.specs.List.{flat_map}
use Rattle.std.specs.Option.{option_cmp, option_map, option_map_or}
use Rattle.std.specs.Ordering.{on, then_cmp, ordering_then, nat_cmp, is_lt}
use Rattle.std.specs.declared.cmp.Ordering.{Ordering}
use Rattle.std.specs.declared.cmp.Ordering.TheVariants.{Less, Equal, Greater}
use Rattle.sorted_pages.specs.Pages.{greatest}
use Rattle.sorted_pages.specs.Ranges.{within}
use Rattle.filing_model.specs.Common.Text.{Text, text_cmp}
use Rattle.filing_model.specs.Oim.Dimensions.{Dims, dims_cmp, dims_eq, concept_of, period_of}
use Rattle.filing_model.specs.Oim.Facts.{Fact}
use Rattle.filing_model.specs.Sessions.Queries.{is_after}
use Rattle.filing_model.specs.Sessions.Calls.{PeriodFilter, Any, Without, Exactly}
use Rattle.filing_facts.specs.Hashes.{hash_of_dims, hash_of_concept, hash_of_period}
use Rattle.text_map.specs.Heads.{name_key}
use Rattle.filing_facts.specs.FactChanges.{FactChange, Part, Id, Cell, Range}
use Rattle.filing_stamps.specs.declared.stamp.StampKind.{StampKind}
use Rattle.filing_stamps.specs.declared.stamp.StampKind.TheVariants as kind

-- ---- stamps and their order

-- what a stamp looks at in the dimensions of a fact: nothing, all, a concept, or a concept with a period or none
pub record Group : Type 0 where
  pub dims : Option Dims
  pub concept : Option Text
  pub period : Option (Option Text)

abbrev pub no_group : Group
no_group = record { dims = None; concept = None; period = None }

abbrev pub group_cmp : Group → Group → Ordering
group_cmp =
    then_cmp (on (λ g. g.dims) (option_cmp dims_cmp))
    (then_cmp (on (λ g. g.concept) (option_cmp text_cmp)) (on (λ g. g.period) (option_cmp (option_cmp text_cmp))))

-- the hash of what is looked at, or 0 of nothing
abbrev pub hash_of_parts : Option Dims → Option Text → Option (Option Text) → ℕ
hash_of_parts (Some dims) concept period = hash_of_dims dims
hash_of_parts None (Some concept) None = hash_of_concept concept
hash_of_parts None (Some concept) (Some period) = hash_of_period concept period
hash_of_parts None None period = 0

abbrev pub group_hash : Group → ℕ
group_hash group = hash_of_parts group.dims group.concept group.period

-- its code, the rank of its kind, the group, an identifier or nothing, and the number of the last touch
pub record Stamp : Type 0 where
  pub code : ℕ
  pub rank : ℕ
  pub group : Group
  pub id : Text
  pub number : ℕ

-- the code comes first because it is fast to compare. The number takes no part
abbrev pub stamp_cmp : Stamp → Stamp → Ordering
stamp_cmp =
    then_cmp (on (λ s. s.code) nat_cmp) (then_cmp (on (λ s. s.rank) nat_cmp)
    (then_cmp (on (λ s. s.group) group_cmp) (on (λ s. s.id) text_cmp)))

-- ---- the stamps that a fact leaves

abbrev pub rank_of : StampKind → ℕ
rank_of kind.Identifier = 0
rank_of kind.Cell = 1
rank_of kind.AnyPeriod = 2
rank_of kind.OnePeriod = 3

-- the code of the stamps of a kind with a hash: the rank in two bits, then the hash without its last two
abbrev pub code_of : StampKind → ℕ → ℕ
code_of stamp_kind hash = rank_of stamp_kind * 4611686018427387904 + min (hash / 4) 4611686018427387903

-- the kind of the stamps with a code
abbrev pub kind_of : ℕ → StampKind
kind_of code =
    cond (nat_lt code 4611686018427387904) kind.Identifier (cond (nat_lt code 9223372036854775808) kind.Cell
    (cond (nat_lt code 13835058055282163712) kind.AnyPeriod kind.OnePeriod))

abbrev pub group_of : StampKind → Dims → Group
group_of kind.Identifier dims = no_group
group_of kind.Cell dims = record no_group { dims = Some dims }
group_of kind.AnyPeriod dims = record no_group { concept = concept_of dims }
group_of kind.OnePeriod dims = record no_group { concept = concept_of dims; period = Some (period_of dims) }

-- a cell has one stamp for all its identifiers
abbrev pub id_of : StampKind → Text → Text
id_of kind.Identifier id = id
id_of kind.Cell id = []
id_of kind.AnyPeriod id = id
id_of kind.OnePeriod id = id

-- the stamp of a kind with a code that a fact under its identifier leaves
abbrev pub stamp_of : StampKind → ℕ → ℕ → Text × Fact → Stamp
stamp_of stamp_kind code number held =
    record {
      code = code;
      rank = rank_of stamp_kind;
      group = group_of stamp_kind held.1.dims;
      id = id_of stamp_kind held.0;
      number = number;
    }

-- the hash of a stamp: that of its group, but of an identifier the key of its name
abbrev pub stamp_hash : StampKind → Text × Fact → ℕ
stamp_hash kind.Identifier held = name_key held.0
stamp_hash kind.Cell held = group_hash (group_of kind.Cell held.1.dims)
stamp_hash kind.AnyPeriod held = group_hash (group_of kind.AnyPeriod held.1.dims)
stamp_hash kind.OnePeriod held = group_hash (group_of kind.OnePeriod held.1.dims)

abbrev pub stamp_code : StampKind → Text × Fact → ℕ
stamp_code stamp_kind held = code_of stamp_kind (stamp_hash stamp_kind held)

-- the stamp of a kind that a fact under its identifier leaves, with its code
abbrev pub coded_stamp : StampKind → ℕ → Text × Fact → Stamp
coded_stamp stamp_kind number held = stamp_of stamp_kind (stamp_code stamp_kind held) number held

-- one of each kind
abbrev pub stamps_of : ℕ → Text × Fact → List Stamp
stamps_of number held =
    coded_stamp kind.Identifier number held ∷ coded_stamp kind.Cell number held ∷ coded_stamp kind.AnyPeriod number held
    ∷ coded_stamp kind.OnePeriod number held ∷ []

abbrev pub stamps_if_there : ℕ → Option (Text × Fact) → List Stamp
stamps_if_there number None = []
stamps_if_there number (Some held) = stamps_of number held

-- whether a fact, where there was one, had these dimensions
abbrev pub had_dims : Option (Text × Fact) → Dims → Bool
had_dims None dims = false
had_dims (Some held) dims = dims_eq held.1.dims dims

-- those of the fact before and of the fact after; of the fact after alone, where both have the same dimensions
abbrev pub stamps_between : ℕ → Option (Text × Fact) → Option (Text × Fact) → List Stamp
stamps_between number old None = stamps_if_there number old
stamps_between number old (Some new) =
    cond (had_dims old new.1.dims) (stamps_of number new) (stamps_if_there number old ++ stamps_of number new)

abbrev pub stamps_of_change : ℕ → FactChange → List Stamp
stamps_of_change number change =
    stamps_between number (option_map (λ f. (change.id, f)) change.old) (option_map (λ f. (change.id, f)) change.new)

-- each that fact changes leave, some more than once
abbrev pub stamps_of_changes : ℕ → List FactChange → List Stamp
stamps_of_changes number fact_changes = flat_map (stamps_of_change number) fact_changes

-- ---- the stamp of a part

-- one identifier; or those greater than one, where it is given, and not greater than another, where that is given
pub data IdRange : Type 0 where
  Only : Text → IdRange
  Between : Option Text → Option Text → IdRange

abbrev pub is_upto : Option Text → Text → Bool
is_upto upto id = option_map_or (λ last. not (is_lt (text_cmp last id))) upto true

-- how an identifier stands to such a range
abbrev pub ids_side : IdRange → Text → Ordering
ids_side (Only id) other = text_cmp other id
ids_side (Between after upto) id = cond (is_after after id) (cond (is_upto upto id) Equal Greater) Less

-- the stamps of one code, kind and group with identifiers in a range
pub record Among : Type 0 where
  pub code : ℕ
  pub rank : ℕ
  pub group : Group
  pub ids : IdRange

-- how a stamp stands to them
abbrev pub among_side : Among → Stamp → Ordering
among_side among s =
    ordering_then (nat_cmp s.code among.code) (ordering_then (nat_cmp s.rank among.rank)
    (ordering_then (group_cmp s.group among.group) (ids_side among.ids s.id)))

abbrev pub asked_kind : PeriodFilter → StampKind
asked_kind Any = kind.AnyPeriod
asked_kind Without = kind.OnePeriod
asked_kind (Exactly text) = kind.OnePeriod

abbrev pub asked_period : PeriodFilter → Option (Option Text)
asked_period Any = None
asked_period Without = Some None
asked_period (Exactly text) = Some (Some text)

-- those of one kind and group
abbrev pub among_group : StampKind → Group → IdRange → Among
among_group stamp_kind group ids =
    record { code = code_of stamp_kind (group_hash group); rank = rank_of stamp_kind; group = group; ids = ids }

-- those of a part
abbrev pub part_among : Part → Among
part_among (Id id) = record {
  code = code_of kind.Identifier (name_key id);
  rank = rank_of kind.Identifier;
  group = no_group;
  ids = Only id;
}
part_among (Cell dims) = among_group kind.Cell (record no_group { dims = Some dims }) (Between None None)
part_among (Range query upto) =
    among_group (asked_kind query.period) (record no_group {
      concept = Some query.concept;
      period = asked_period query.period;
    }) (Between query.after upto)

-- the number of the last touch of a part, or 0 where none was
abbrev pub stamp_in : List Stamp → Part → ℕ
stamp_in stamps part = greatest (λ s. s.number) (within (among_side (part_among part)) stamps)
