-- Desks that took no step.
use Rattle.std.proofs.Common.{◌≡◌, ap, refl, arith, ℕ, ◌+◌, ◌<◌, List, [], ◌∷◌, length, sum, map, All}
use Rattle.std.specs.Prelude.{suc}
use Rattle.std.proofs.lemmas.List.Sums.{sum_by-cons}
use Rattle.filing_office.specs.Tallies.{Tally, nothing_taken}

pub none_counted : (ds : List Tally) → All (λ d. d ≡ nothing_taken) ds → sum (map (λ (d : Tally). d.steps) ds) ≡ 0
none_counted [] all = refl
none_counted (d ∷ ds) all =
    let here : d ≡ nothing_taken = all 0 d (omega arith) in
    let rest = none_counted ds (λ k e lt. all (suc k) e (omega (arith, lt))) in
    let one : sum (map (λ (x : Tally). x.steps) (d ∷ ds)) ≡ d.steps + sum (map (λ (x : Tally). x.steps) ds) = sum_by-cons (λ (n : ℕ). n) d.steps (map (λ (x : Tally). x.steps) ds) in
    omega (arith, ap (λ (x : Tally). x.steps) here, rest, one)

pub none_in : {X : Type 0} (xs : List X) → length xs ≡ 0 → xs ≡ []
none_in [] is = refl
none_in (x ∷ xs) is = absurd (omega (arith, is))
