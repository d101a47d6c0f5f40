-- Worked examples of the order of things, and of things each once.
use Rattle.std.specs.Prelude.{◌≡◌, false, List, [], ◌∷◌, codes, replicate, Option, None, Some, refl}
use Rattle.std.specs.declared.cmp.Ordering.{Ordering}
use Rattle.std.specs.declared.cmp.Ordering.TheVariants.{Less, Equal}
use Rattle.filing_model.specs.Common.Text.{Text}
use Rattle.filing_model.specs.Sessions.Calls.{PeriodFilter, Any, Without, Exactly}
use Rattle.filing_model.specs.Sessions.Things.{Thing, Report, Id, Cell, Range, Policy, thing_cmp, has_thing, each_once}
use Rattle.filing_model.proofs.Examples.Setting.{query}

abbrev r1 : Text
r1 = codes "r1"

abbrev r2 : Text
r2 = codes "r2"

-- a cell whose second dimension is of a taxonomy
abbrev with_value : Option Text → Thing
with_value value = Cell r1 ((codes "concept", Some (codes "ex:Name")) ∷ (codes "ex:d", value) ∷ [])

-- a page query of a period, after an identifier or from the first on, up to one or without end
abbrev of_range : PeriodFilter → Option Text → Option Text → Thing
of_range period after upto = Range r1 (query period after) upto

-- each beside the next
abbrev neighbours : List Thing → List Ordering
neighbours [] = []
neighbours (thing ∷ []) = []
neighbours (thing ∷ next ∷ things) = thing_cmp thing next ∷ neighbours (next ∷ things)

-- ranks, then names, then the rest; of ranges any period, none, each by its bytes; then from the first on, and without end
pub each_is_less_than_the_next : neighbours
    (Report r2 ∷ Id r1 (codes "b") ∷ Id r2 (codes "a") ∷ with_value None ∷ with_value (Some []) ∷ with_value (Some r2)
    ∷ of_range Any None None ∷ of_range Any None (Some []) ∷ of_range Any None (Some r2) ∷ of_range Any (Some []) None ∷ of_range Any (Some r2) None
    ∷ of_range Without None None ∷ of_range Without (Some r2) None ∷ of_range (Exactly []) None None ∷ Policy r1 ∷ [])
    ≡ replicate 14 Less
each_is_less_than_the_next = refl

pub nothing_differs : thing_cmp (of_range Without None (Some r1)) (of_range Without None (Some r1)) ≡ Equal
nothing_differs = refl

pub ends_are_told_apart : has_thing (of_range Any None None ∷ of_range Any None (Some r1) ∷ []) (of_range Any None (Some r2)) ≡ false
ends_are_told_apart = refl

pub in_order_of_first_standing : each_once (Policy r1 ∷ Id r1 (codes "a") ∷ Policy r1 ∷ Report r2 ∷ Id r1 (codes "a") ∷ [])
    ≡ Policy r1 ∷ Id r1 (codes "a") ∷ Report r2 ∷ []
in_order_of_first_standing = refl
