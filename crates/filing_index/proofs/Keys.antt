-- Keys tie where they have one hash and one identifier.
use Rattle.std.proofs.Common.{◌≡◌, ◌∙◌, ap, sym, refl, ℕ, Bool, true, false, ◌&&◌}
use Rattle.std.specs.Prelude.{◌==◌}
use Rattle.std.specs.Ordering.{nat_cmp, eq_by_cmp}
use Rattle.std.specs.Cmp.{nat_eq_equiv, unsigned_tied, tied_then}
use Rattle.filing_model.specs.Common.Text.{Text, text_cmp, text_eq}
use Rattle.filing_index.specs.Index.{key_cmp}

-- whether a key has this identifier and this hash
abbrev pub is_key : ℕ × Text → ℕ × Text → Bool
is_key q k = text_eq q.1 k.1 && (k.0 == q.0)

turned : (a b : Bool) → (a && b) ≡ (b && a)
turned true true = refl
turned true false = refl
turned false true = refl
turned false false = refl

pub tied_keys : (q k : ℕ × Text) → eq_by_cmp key_cmp q k ≡ is_key q k
tied_keys q k =
    sym (tied_then (nat_cmp q.0 k.0) (text_cmp q.1 k.1))
    ∙ turned (eq_by_cmp nat_cmp q.0 k.0) (text_eq q.1 k.1)
    ∙ ap (λ b. text_eq q.1 k.1 && b) (unsigned_tied q.0 k.0 ∙ nat_eq_equiv.symm q.0 k.0)
