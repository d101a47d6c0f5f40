-- The key at the end of a list, and the changes that go before an entry.
use Rattle.std.proofs.Common.{◌≡◌, ◌∙◌, ap, subst, refl, ℕ, T, not, List, [], ◌∷◌, ◌++◌, map, Option, Ordering, Less, Equal, Greater, is_lt}
use Rattle.std.specs.Ordering.{is_gt, ordering_reverse}
use Rattle.std.specs.Cmp.{IsTotalOrder}
use Rattle.sorted_pages.specs.declared.apply.Edit.{Edit}
use Rattle.sorted_pages.specs.Changes.{entry_of}
use Rattle.sorted_pages.specs.Edges.{ends_with, begins_with, first_passes}
use Rattle.sorted_pages.specs.Keys.{last_of}

pub last_of-push : {X : Type 0} (k : X → Option ℕ) (xs : List X) (x : X) → last_of k (xs ++ x ∷ []) ≡ k x
last_of-push k [] x = refl
last_of-push k (y ∷ []) x = refl
last_of-push k (y ∷ z ∷ zs) x = last_of-push k (z ∷ zs) x

turned_gt : (r : Ordering) → is_gt (ordering_reverse r) ≡ is_lt r
turned_gt Less = refl
turned_gt Equal = refl
turned_gt Greater = refl

-- changes before the first entry of an item, by how that entry stands to theirs
module _ {E : Type 0} (R : E → E → Ordering) (o : IsTotalOrder R) (x : E) where
  turned : (y : E) → is_gt (R x y) ≡ is_lt (R y x)
  turned y = ap is_gt (o.antisymm x y) ∙ turned_gt (R y x)

  pub before_first : (es rest : List E) → es ≡ x ∷ rest → (cs : List (Edit E))
      → T (ends_with (λ c. first_passes (λ e. is_gt (R e (entry_of c))) es) cs) → T (ends_with (λ c. is_lt (R (entry_of c) x)) cs)
  before_first es rest e cs h =
      subst T ((λ i. ends_with (λ c. first_passes (λ f. is_gt (R f (entry_of c))) (e i)) cs) ∙ (λ i. ends_with (λ c. turned (entry_of c) i) cs)) h

  pub from_first : (es rest : List E) → es ≡ x ∷ rest → (cs : List (Edit E))
      → T (begins_with (λ c. first_passes (λ e. not (is_gt (R e (entry_of c)))) es) cs) → T (begins_with (λ e. not (is_lt (R e x))) (map entry_of cs))
  from_first es rest e [] h = tt
  from_first es rest e (c ∷ cs) h =
      subst T ((λ i. first_passes (λ f. not (is_gt (R f (entry_of c)))) (e i)) ∙ (λ i. not (turned (entry_of c) i))) h
