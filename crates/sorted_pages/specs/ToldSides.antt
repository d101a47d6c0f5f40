-- Where lesser keys stand before a range and greater keys past it, keys that differ tell the sides.
use Rattle.std.proofs.Common.{◌≡◌, sym, subst, ℕ, ◌<◌, Ordering, Less, Equal, Greater}
use Rattle.std.specs.Cmp.{ranks}
use Rattle.std.specs.Ordering.{nat_cmp, MatchOrdering}
use Rattle.sorted_pages.specs.Keys.{TellsSide, told_apart}

module _ {E : Type 0} (key : E → ℕ) (side : E → Ordering) (own : ℕ)
    (lesser : (e : E) → key e < own → side e ≡ Less) (greater : (e : E) → own < key e → side e ≡ Greater) where
  by : (number : ℕ) (o : Ordering) → MatchOrdering o (number < own) (number ≡ own) (own < number)
      → TellsSide key side number (told_apart o)
  by number Less lt = λ e is. lesser e (subst (λ n. n < own) (sym is) lt)
  by number Equal same = tt
  by number Greater gt = λ e is. greater e (subst (λ n. own < n) (sym is) gt)

  pub tells_sides : (number : ℕ) → TellsSide key side number (told_apart (nat_cmp number own))
  tells_sides number = by number (nat_cmp number own) (ranks number own)
