-- The lengths of pages.
use Rattle.std.proofs.Common.{◌≡◌, ◌∙◌, ap, sym, subst, refl, ℕ, ◌+◌, ◌<◌, ◌≤◌, Bool, ◌&&◌, T, nat_lt, nat_le, sum, List, [], ◌∷◌, ◌++◌}
use Rattle.std.proofs.Common.{length, length-append, lt-ltb, le-leb}
use Rattle.std.proofs.lemmas.List.Sums.{sum_by_push}
use Rattle.std.specs.List.{list_all}
use Rattle.std.specs.Arc.{arc_value}
use Rattle.std.specs.declared.sync.Arc.{Arc}
use Rattle.sorted_pages.specs.Pages.{of_page, AreSizes}
use Rattle.sorted_pages.proofs.Edges.{both, first, second}
use Rattle.sorted_pages.proofs.Orders.{holds_from}
use Rattle.sorted_pages.proofs.Flats.{singles}

sum-push : (ns : List ℕ) (n : ℕ) → sum (ns ++ n ∷ []) ≡ sum ns + n
sum-push ns n = sum_by_push (λ k. k) ns n

list_all-push : {X : Type 0} (p : X → Bool) (xs : List X) (x : X) → T (list_all p xs) → T (p x) → T (list_all p (xs ++ x ∷ []))
list_all-push p [] x g h = both _ _ h tt
list_all-push p (y ∷ ys) x g h = both _ _ (first _ _ g) (list_all-push p ys x (second _ _ g) h)

pub sizes_push : (sizes new : List ℕ) (n m : ℕ) → AreSizes sizes n → 0 < m → m ≤ 64 → new ≡ sizes ++ m ∷ [] → AreSizes new (n + m)
sizes_push sizes new n m a low high e =
    let total : sum (sizes ++ m ∷ []) ≡ n + m = sum-push sizes m ∙ ap (λ k. k + m) a.total in
    record {
      total = ap sum e ∙ total;
      fit =
          subst (λ ns. T (list_all (λ k. nat_lt 0 k && nat_le k 64) ns)) (sym e)
          (list_all-push (λ k. nat_lt 0 k && nat_le k 64) sizes m a.fit
          (both _ _ (holds_from _ (lt-ltb 0 m low)) (holds_from _ (le-leb m 64 high))));
    }

pub no_sizes : AreSizes [] 0
no_sizes = record { total = refl; fit = tt }

-- the entries of one page, and those after it
pub one_page : {E Z : Type 0} (page : Arc (List E) Z) (left rest : List E) → left ≡ of_page page ++ rest
    → length left ≡ length (arc_value page) + length rest
one_page page left rest e =
    ap length e ∙ length-append (of_page page) rest ∙ ap (λ es. length es + length rest) (singles (arc_value page))
