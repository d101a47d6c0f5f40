-- Laws of things as keys, and of limits. The project's own.
use Rattle.std.specs.Prelude.{◌≡◌, ◌↔◌, ℕ, ◌≤◌, Some}
use Rattle.std.specs.declared.cmp.Ordering.TheVariants.{Equal}
use Rattle.std.specs.Bool.{Decides}
use Rattle.std.specs.Option.{IsSome}
use Rattle.std.specs.Cmp.{IsTotalOrder}
use Rattle.std.specs.Hash.{Alike}
use Rattle.filing_model.specs.Sessions.Calls.{Limit, limit_of}
use Rattle.filing_model.specs.Sessions.Things.{Thing, thing_cmp, thing_eq, thing_hash}

-- things may be keys of ordered and of hashed collections
pub record AreKeys : Type 0 where
  pub total : IsTotalOrder thing_cmp
  -- only a thing and itself tie
  pub ties : (t u : Thing) → (thing_cmp t u ≡ Equal) ↔ (t ≡ u)
  pub decides : (t u : Thing) → Decides (thing_eq t u) (t ≡ u)
  pub fed_alike : Alike thing_eq thing_hash
  -- different things feed a hasher differently
  pub fed_apart : (t u : Thing) → thing_hash t ≡ thing_hash u → t ≡ u

-- a limit is a number from 1 to 1,000
pub record AreTheirNumbers : Type 0 where
  pub same : (l k : Limit) → l.number ≡ k.number → l ≡ k
  pub again : (l : Limit) → limit_of l.number ≡ Some l
  pub in_range : (n : ℕ) → IsSome (limit_of n) ↔ ((1 ≤ n) × (n ≤ 1000))
  pub kept : (n : ℕ) (l : Limit) → limit_of n ≡ Some l → l.number ≡ n
