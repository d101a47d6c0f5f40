-- Names whose keys differ stand as these do.
use Rattle.std.proofs.Common.{◌≡◌, ◌∙◌, ap, sym, subst, refl, ◌<◌, Ordering, Less, Equal, Greater}
use Rattle.std.specs.Cmp.{ranks}
use Rattle.std.specs.Cmp.Lexicographic.{nat_list_cmp_total}
use Rattle.std.specs.Ordering.{nat_cmp, ordering_reverse, MatchOrdering}
use Rattle.filing_model.specs.Common.Text.{Text, text_cmp}
use Rattle.text_map.specs.Heads.{name_key}
use Rattle.text_map.specs.NameKeys.{name_keys_rise}

ranked : (a b : Text) (o : Ordering) → o ≡ nat_cmp (name_key a) (name_key b)
    → MatchOrdering o (name_key a < name_key b) (name_key a ≡ name_key b) (name_key b < name_key a)
ranked a b o e =
    subst (λ p. MatchOrdering p (name_key a < name_key b) (name_key a ≡ name_key b) (name_key b < name_key a)) (sym e)
    (ranks (name_key a) (name_key b))

-- keys that do not tie tell how the names stand
pub by_key : (a b : Text) (o : Ordering) → o ≡ nat_cmp (name_key a) (name_key b) → (o ≡ Equal → ⊥) → o ≡ text_cmp a b
by_key a b Less e not = sym (name_keys_rise a b (ranked a b Less e))
by_key a b Equal e not = absurd (not refl)
by_key a b Greater e not =
    sym (nat_list_cmp_total.antisymm a b ∙ ap ordering_reverse (name_keys_rise b a (ranked a b Greater e)))
