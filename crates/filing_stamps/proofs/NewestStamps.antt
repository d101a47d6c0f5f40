-- Stamps that were sorted, of those that tie the one with the greatest number.
use Rattle.std.proofs.Common.{◌≡◌, ◌∙◌, ap, sym, refl, true≢false, ℕ, ◌≤◌, le_refl, Bool, true, false, cond, List, Ordering, Less, Equal}
use Rattle.std.proofs.Common.{Greater, is_eq, is_lt, IsPermutation}
use Rattle.std.specs.Cmp.{Equal-is, IsTotalOrder, IsStrictWeakOrder, nat_cmp_total, on_total, back_total, then_total}
use Rattle.std.specs.List.{dedup}
use Rattle.std.specs.List.Sorted.{IsSorted}
use Rattle.std.specs.Ordering.{eq_by_cmp, nat_cmp, ordering_then}
use Rattle.std.proofs.lemmas.List.Sorted.{ranks_by}
use Rattle.std.proofs.lemmas.Map.Keys.{ge_from_not_lt}
use Rattle.sorted_pages.specs.Pages.{greatest}
use Rattle.sorted_pages.specs.Ranges.{within}
use Rattle.filing_stamps.specs.LastStamps.{newest_cmp}
use Rattle.filing_stamps.specs.Stamps.{Stamp, stamp_cmp, Among, among_side}
use Rattle.filing_stamps.specs.StampOrders.{stamp_cmp-total}
use Rattle.filing_stamps.proofs.GreatestNumbers.{counted, greatest_counted, greatest_deduped, greatest_moved}
use Rattle.filing_stamps.proofs.StampTies.{among_alike}

newest_cmp-total : IsTotalOrder newest_cmp
newest_cmp-total = then_total stamp_cmp-total (back_total (on_total (λ s. s.number) nat_cmp_total))

abbrev pub is_newer : Stamp → Stamp → Bool
is_newer x y = is_lt (newest_cmp x y)

pub is_newer-ranks : IsStrictWeakOrder is_newer
is_newer-ranks = ranks_by newest_cmp-total (λ s. s)

-- ---- sorted by place too

not_less : (r s : Ordering) → is_lt (ordering_then r s) ≡ false → is_lt r ≡ false
not_less Less s h = h
not_less Equal s h = refl
not_less Greater s h = refl

pub sorted_by_place : (stamps : List Stamp) → IsSorted newest_cmp stamps → IsSorted stamp_cmp stamps
sorted_by_place stamps h k d low high = not_less _ _ (h k d low high)

-- ---- of those that tie the first has the greatest number

-- a stamp that ties with another and is not newer
not_greater : (x y : Stamp) → stamp_cmp x y ≡ Equal → is_newer x y ≡ false → x.number ≤ y.number
not_greater x y tie h =
    ge_from_not_lt y.number x.number (sym (ap (λ r. is_lt (ordering_then r (nat_cmp y.number x.number))) tie) ∙ h)

counted_falls : (b c : Bool) (m n : ℕ) → b ≡ c → m ≤ n → cond b m 0 ≤ cond c n 0
counted_falls true true m n e h = h
counted_falls true false m n e h = absurd (true≢false e)
counted_falls false true m n e h = absurd (true≢false (sym e))
counted_falls false false m n e h = le_refl 0

module _ (among : Among) where
  abbrev number_among : Stamp → ℕ
  number_among = counted (λ s. s.number) (among_side among)

  falls : (x y : Stamp) → eq_by_cmp stamp_cmp x y ≡ true → is_newer x y ≡ false → number_among x ≤ number_among y
  falls x y tie h =
      let same = (Equal-is (stamp_cmp x y)).0 tie in
      counted_falls (is_eq (among_side among x)) (is_eq (among_side among y)) x.number y.number (ap is_eq (among_alike among x y same)) (not_greater x y same h)

  pub numbers_stay : (stamps sorted : List Stamp) → IsPermutation stamps sorted → IsSorted newest_cmp sorted
      → greatest (λ s. s.number) (within (among_side among) (dedup (eq_by_cmp stamp_cmp) sorted))
      ≡ greatest (λ s. s.number) (within (among_side among) stamps)
  numbers_stay stamps sorted moved h =
      greatest_counted (λ s. s.number) (among_side among) (dedup (eq_by_cmp stamp_cmp) sorted)
      ∙ greatest_deduped number_among is_newer is_newer-ranks (eq_by_cmp stamp_cmp) falls sorted h
      ∙ greatest_moved number_among stamps sorted moved
      ∙ sym (greatest_counted (λ s. s.number) (among_side among) stamps)
