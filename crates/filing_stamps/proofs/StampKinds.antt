-- The code of a stamp tells its kind.
use Rattle.std.proofs.Common.{◌≡◌, ap, ℕ, ◌<◌, ◌≤◌, cond}
use Rattle.std.specs.Prelude.{nat_lt}
use Rattle.std.proofs.lemmas.Bool.{lt-ltb, le-ltb}
use Rattle.filing_stamps.specs.declared.stamp.StampKind.{StampKind}

-- past a bound, the later kinds are left
later : (code bound : ℕ) (k others : StampKind) → bound ≤ code → cond (nat_lt code bound) k others ≡ others
later code bound k others l = ap (λ b. cond b k others) (le-ltb code bound l)

here : (code bound : ℕ) (k others : StampKind) → code < bound → cond (nat_lt code bound) k others ≡ k
here code bound k others l = ap (λ b. cond b k others) (lt-ltb code bound l)
