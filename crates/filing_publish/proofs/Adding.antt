-- The exchange that adds a version keeps the rule of the list.
use Rattle.std.proofs.Common.{◌≡◌, ℕ, ◌+◌, ◌<◌, ◌==◌, Bool, true, false, List, [], ◌∷◌, ◌++◌, length, refl, ap, sym, subst, arith, inl, length-append, None}
use Rattle.std.proofs.lemmas.List.{append-nil}
use Rattle.std.proofs.lemmas.Bool.Decides.{nat_tests}
use mathlib.Core.List.{IsPrefix}
use prog.Atomic.{either}
use Rattle.logbook.specs.Pages.{Cell, cell, keeps, no_nib, step, Moves, Goes}
use Rattle.filing_model.specs.Sessions.Repository.{Repository}
use Rattle.filing_model.specs.Histories.Versions.{IsChain}
use Rattle.filing_publish.specs.Rules.{IsKept, Adds}
use Rattle.filing_publish.proofs.Beginnings.{prefix_whole}

abbrev shown : List Repository → List Repository
shown log = []

abbrev moved : List Repository → List Repository → ℕ → Type 0
moved xs ys n = Unit {0}

module _ (v : List Repository) (e : Repository) (old : ℕ) (len : length v ≡ old) (may : IsChain (v ++ e ∷ [])) where
  goes : (log : List Repository) → IsChain log → IsPrefix v log → (b : Bool) → (length log == old) ≡ b
      → Goes IsKept shown moved 0 (v, (no_nib, None)) (λ n. either (n == old) (old + 1) n) (Adds (step 0 old (old + 1) e) (v, (no_nib, None))) ((length log, true) ∷ (0, true) ∷ []) log
  goes log chain pre true is =
      let here : length log ≡ old = grind (arith, nat_tests) in
      let same : v ≡ log = prefix_whole v log pre (omega arith) in
      let chain' : IsChain (log ++ e ∷ []) = subst (λ (l : List Repository). IsChain (l ++ e ∷ [])) same may in
      let n : either (length log == old) (old + 1) (length log) ≡ length (log ++ e ∷ []) = rw is (omega (arith, length-append log (e ∷ []))) in (
        keeps,
        e ∷ [],
        None,
        tt,
        record { words = ap (λ (k : ℕ). (k, true) ∷ (0, true) ∷ []) n; chain = chain' },
        inl (refl, refl),
        rw is (ap (λ w. w ++ e ∷ []) (sym same)),
      )
  goes log chain pre false is =
      let all : log ++ [] ≡ log = append-nil log in
      let chain' : IsChain (log ++ []) = subst IsChain (sym all) chain in
      let n : either (length log == old) (old + 1) (length log) ≡ length (log ++ []) = rw is (ap length (sym all)) in (
        keeps,
        [],
        None,
        tt,
        record { words = ap (λ (k : ℕ). (k, true) ∷ (0, true) ∷ []) n; chain = chain' },
        inl (refl, refl),
        rw is tt,
      )

  -- whatever the book is, the exchange adds the version to all that was seen where it finds the length expected
  pub adds : Moves IsKept shown moved 0 (v, (no_nib, None)) (λ n. either (n == old) (old + 1) n) (Adds (step 0 old (old + 1) e) (v, (no_nib, None)))
  adds cs log kept pre away =
      let P : List Cell → Type 0 = λ c. (0 < length c) × ((cell c 0).1 ≡ true)
      × Goes IsKept shown moved 0 (v, (no_nib, None)) (λ n. either (n == old) (old + 1) n)
      (Adds (step 0 old (old + 1) e) (v, (no_nib, None))) c log in
      subst P (sym kept.words) (omega arith, refl, goes log kept.chain pre (length log == old) refl)
