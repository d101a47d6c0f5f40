-- Of the loads and commits that pass a test the newest has the greatest number.
use Rattle.std.proofs.Common.{◌≡◌, ◌∙◌, ap, sym, refl, ℕ, ◌+◌, ◌≤◌, max, arith, Bool, true, false, cond, List, [], ◌∷◌, Some, None, fold}
use Rattle.std.specs.List.{reduce}
use Rattle.std.proofs.Math.Nat.{max-eq_left}
use Rattle.filing_model.specs.Histories.History.{Entry, History, repository}
use Rattle.filing_model.specs.Histories.Touches.{number_in}
use Rattle.filing_model.specs.Histories.Lawful.{IsLawful}
use Rattle.filing_model.specs.Histories.Versions.{counts}
use Rattle.filing_laws.specs.Stamping.Numbers.{numbers_where}
use Rattle.filing_laws.proofs.Stamping.RisingNumbers.{counted, count_grows}

abbrev IsAtMost : ℕ → List ℕ → Type 0
IsAtMost n [] = Unit {0}
IsAtMost n (m ∷ ms) = (m ≤ n) × IsAtMost n ms

at_most_more : (n k : ℕ) (ms : List ℕ) → n ≤ k → IsAtMost n ms → IsAtMost k ms
at_most_more n k [] le h = tt
at_most_more n k (m ∷ ms) le h = (omega (arith, h.0), at_most_more n k ms le h.1)

greatest_first : (n : ℕ) (ms : List ℕ) → IsAtMost n ms → fold max n ms ≡ n
greatest_first n [] h = refl
greatest_first n (m ∷ ms) h = ap (λ k. fold max k ms) (max-eq_left h.0) ∙ greatest_first n ms h.1

module _ (test : Entry → History → Bool) (counting : (e : Entry) (older : History) → test e older ≡ true → counts e.reply ≡ true) where
  at_most_the_count : (h : History) → IsLawful h → IsAtMost (repository h).count (numbers_where test h)
  at_most_the_count [] lawful = tt
  at_most_the_count (e ∷ older) lawful =
      by (test e older) refl (at_most_more (repository older).count (repository (e ∷ older)).count (numbers_where test older) (count_grows older e lawful.1) (at_most_the_count older lawful.0))
    where
      by : (b : Bool) → test e older ≡ b → IsAtMost (repository (e ∷ older)).count (numbers_where test older)
          → IsAtMost (repository (e ∷ older)).count (cond b (number_in e.reply ∷ numbers_where test older) (numbers_where test older))
      by true holds rest =
          let is = counted older e lawful.1 (counting e older holds) in
          let same : number_in e.reply ≡ (repository (e ∷ older)).count = is.number ∙ sym is.count in
          (omega arith, rest)
      by false fails rest = rest

  pub newest_is_the_greatest : (h : History) (e : Entry) → IsLawful (e ∷ h) → reduce max (numbers_where test (e ∷ h)) ≡ cond (test e h) (Some (number_in e.reply)) (reduce max (numbers_where test h))
  newest_is_the_greatest h e lawful = by (test e h) refl
    where
      by : (b : Bool) → test e h ≡ b → reduce max (cond b (number_in e.reply ∷ numbers_where test h) (numbers_where test h)) ≡ cond b (Some (number_in e.reply)) (reduce max (numbers_where test h))
      by true holds =
          let number : number_in e.reply ≡ (repository h).count + 1 = (counted h e lawful.1 (counting e h holds)).number in
          let most = at_most_more (repository h).count (number_in e.reply) (numbers_where test h) (omega arith) (at_most_the_count h lawful.0) in
          ap Some (greatest_first (number_in e.reply) (numbers_where test h) most)
      by false fails = refl

  pub greatest_at_most : (h : History) → IsLawful h → (m : ℕ) → reduce max (numbers_where test h) ≡ Some m → m ≤ (repository h).count
  greatest_at_most [] lawful m e = let apart : None ≡ Some m = e in cc
  greatest_at_most (e ∷ older) lawful m is = by (test e older) refl (greatest_at_most older lawful.0 m) (sym (newest_is_the_greatest older e lawful) ∙ is)
    where
      by : (b : Bool) → test e older ≡ b → (reduce max (numbers_where test older) ≡ Some m → m ≤ (repository older).count)
          → cond b (Some (number_in e.reply)) (reduce max (numbers_where test older)) ≡ Some m → m ≤ (repository (e ∷ older)).count
      by true holds rest same =
          let is = counted older e lawful.1 (counting e older holds) in
          let number : number_in e.reply ≡ (repository (e ∷ older)).count = is.number ∙ sym is.count in
          let alike : number_in e.reply ≡ m = cc in
          omega arith
      by false fails rest same =
          let before : m ≤ (repository older).count = rest same in
          let grows = count_grows older e lawful.1 in
          omega arith
