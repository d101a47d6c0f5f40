-- The sessions that are shown.
use Rattle.std.proofs.Common.{◌≡◌, ◌∙◌, ap, sym, refl, ℕ, ◌+◌, ◌-◌, ◌≤◌, ◌<◌, arith, Bool, true, false, leb}
use Rattle.std.proofs.Common.{List, map, take, drop, length}
use Rattle.std.specs.Prelude.{min}
use Rattle.std.proofs.lemmas.Bool.{leb-true, leb-false}
use Rattle.std.proofs.lemmas.List.{take_all, length-drop, take-map, drop-map}
use Rattle.session_pictures.specs.Told.{told_in}
use Rattle.session_pictures.specs.Picture.{shown}
use Rattle.session_pictures.specs.declared.told.ToldSession.{ToldSession}

-- at most so many, of a list that may be shorter
take_fewer : {X : Type 0} (n : ℕ) (xs : List X) → take (min (length xs) n) xs ≡ take n xs
take_fewer n xs = by (leb (length xs) n) refl
  where
    by : (b : Bool) → leb (length xs) n ≡ b → take (min (length xs) n) xs ≡ take n xs
    by true few =
        let within : length xs ≤ n = leb-true (length xs) n few in
        let all : length xs ≤ min (length xs) n = omega (arith, within) in
        take_all (min (length xs) n) xs all ∙ sym (take_all n xs within)
    by false many =
        let over : n < length xs = leb-false (length xs) n many in
        let same : min (length xs) n ≡ n = omega (arith, over) in
        ap (λ k. take k xs) same

module _ (ss : List ToldSession) (first before : ℕ) (is : before ≡ first - 1) where
  shown_is : map told_in (take 200 (drop before ss)) ≡ shown first (map told_in ss)
  shown_is =
      sym (take-map told_in 200 (drop before ss)) ∙ ap (take 200) (sym (drop-map told_in before ss)) ∙ ap (λ k. take 200 (drop k (map told_in ss))) is

  pub some_shown : (many : ℕ) → many ≡ min (length ss - before) 200
      → map told_in (take (before + many - before) (drop before ss)) ≡ shown first (map told_in ss)
  some_shown many few =
      let same : before + many - before ≡ min (length (drop before ss)) 200 = omega (arith, few, length-drop before ss) in
      ap (λ n. map told_in (take n (drop before ss))) same ∙ ap (map told_in) (take_fewer 200 (drop before ss)) ∙ shown_is
