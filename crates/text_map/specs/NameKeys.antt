-- Of two names the one with the lesser key is less.
use Rattle.std.proofs.Common.{◌≡◌, ◌∙◌, ap, sym, subst, refl, ℕ, zero, suc, ◌+◌, ◌*◌, ◌<◌, ◌≤◌, min, arith, Bool}
use Rattle.std.proofs.Common.{true, false, cond, [], ◌∷◌, nat_lt, Ordering, Less, Equal, Greater, is_lt}
use Rattle.std.proofs.Common.{true≢false, ltb-true, ltb-false}
use Rattle.std.specs.Cmp.{nat_cmp_is, ranks}
use Rattle.std.specs.Ordering.{nat_cmp, ordering_then, MatchOrdering}
use Rattle.filing_model.specs.Common.Text.{Text, text_cmp}
use Rattle.text_map.specs.Heads.{first_byte, later_bytes, key_from, name_key}

first_is_byte : (a : Text) → first_byte a ≤ 255
first_is_byte [] = omega arith
first_is_byte (x ∷ xs) = omega arith

-- no key is greater than that of an item that is no byte
greatest : (k n m : ℕ) (a : Text) (y : ℕ) (ys : Text) → n ≤ m → 256 ≤ y → key_from k n a ≤ key_from k m (y ∷ ys)
greatest zero n m a y ys h over = h
greatest (suc k) n m a y ys h over =
    by (nat_lt y 256) refl (greatest k (n * 256 + first_byte a) (m * 256 + min y 255) (later_bytes a) y ys
    (omega (arith, h, over, first_is_byte a)) over)
  where
    by : (b : Bool) → nat_lt y 256 ≡ b
        → key_from k (n * 256 + first_byte a) (later_bytes a) ≤ key_from k (m * 256 + min y 255) (y ∷ ys)
        → key_from k (n * 256 + first_byte a) (later_bytes a) ≤ key_from k (m * 256 + min y 255) (cond b ys (y ∷ ys))
    by true lt later = absurd (omega (arith, over, ltb-true y 256 lt))
    by false ge later = later

-- numbers that differ before the last bytes differ after them
apart : (k n m : ℕ) (a b : Text) → n < m → key_from k n a < key_from k m b
apart zero n m a b l = l
apart (suc k) n m a b l =
    apart k (n * 256 + first_byte a) (m * 256 + first_byte b) (later_bytes a) (later_bytes b)
    (omega (arith, l, first_is_byte a))

-- a lesser first byte is less
lesser_first : (a b : Text) → first_byte a < first_byte b → text_cmp a b ≡ Less
lesser_first [] [] l = absurd (omega (arith, l))
lesser_first [] (y ∷ ys) l = refl
lesser_first (x ∷ xs) [] l = absurd (omega (arith, l))
lesser_first (x ∷ xs) (y ∷ ys) l = ap (λ o. ordering_then o (text_cmp xs ys))
    (sym (nat_cmp_is x y Less (omega (arith, l))))

not_before_nothing : (xs : Text) → text_cmp xs [] ≡ Less → ⊥
not_before_nothing [] e = true≢false (sym (ap is_lt e))
not_before_nothing (x ∷ xs) e = true≢false (sym (ap is_lt e))

-- after first bytes that are the same, the later ones decide
lesser_later : (k n : ℕ) (a b : Text) → first_byte a ≡ first_byte b → text_cmp (later_bytes a) (later_bytes b) ≡ Less
    → key_from (suc k) n a < key_from (suc k) n b → text_cmp a b ≡ Less
lesser_later k n [] [] same e l = e
lesser_later k n [] (y ∷ ys) same e l = refl
lesser_later k n (x ∷ xs) [] same e l = absurd (not_before_nothing (later_bytes (x ∷ xs)) e)
lesser_later k n (x ∷ xs) (y ∷ ys) same e l = by (nat_lt x 256) (nat_lt y 256) refl refl e
  where
    by : (p q : Bool) → nat_lt x 256 ≡ p → nat_lt y 256 ≡ q → text_cmp (cond p xs (x ∷ xs)) (cond q ys (y ∷ ys)) ≡ Less
        → text_cmp (x ∷ xs) (y ∷ ys) ≡ Less
    by true true x_is y_is e =
        ap (λ o. ordering_then o (text_cmp xs ys)) (sym
        (nat_cmp_is x y Equal (omega (arith, same, ltb-true x 256 x_is, ltb-true y 256 y_is)))) ∙ e
    by true false x_is y_is e = ap (λ o. ordering_then o (text_cmp xs ys))
        (sym (nat_cmp_is x y Less (omega (arith, ltb-true x 256 x_is, ltb-false y 256 y_is))))
    by false q x_is y_is e =
        absurd (omega (arith, l, greatest (suc k) n n (y ∷ ys) x xs (omega arith) (ltb-false x 256 x_is)))

rise : (k n : ℕ) (a b : Text) → key_from k n a < key_from k n b → text_cmp a b ≡ Less
rise zero n a b l = absurd (omega (arith, l))
rise (suc k) n a b l =
    by (λ less. rise k (n * 256 + first_byte a) (later_bytes a) (later_bytes b) less)
    (nat_cmp (first_byte a) (first_byte b)) (ranks (first_byte a) (first_byte b))
  where
    by : (key_from k (n * 256 + first_byte a) (later_bytes a) < key_from k (n * 256 + first_byte a) (later_bytes b)
        → text_cmp (later_bytes a) (later_bytes b) ≡ Less)
        → (o : Ordering) → MatchOrdering o (first_byte a < first_byte b) (first_byte a ≡ first_byte b)
        (first_byte b < first_byte a) → text_cmp a b ≡ Less
    by more Less lt = lesser_first a b lt
    by more Equal same =
        let later : key_from k (n * 256 + first_byte a) (later_bytes a) < key_from k (n * 256 + first_byte a)
        (later_bytes b) =
        subst (λ x. key_from k (n * 256 + first_byte a) (later_bytes a) < key_from k (n * 256 + x) (later_bytes b))
        (sym same) l in
        lesser_later k n a b same (more later) l
    by more Greater gt =
        absurd (omega (
          arith,
          l,
          apart k (n * 256 + first_byte b) (n * 256 + first_byte a) (later_bytes b)
              (later_bytes a) (omega (arith, gt, first_is_byte a)),
        ))

pub name_keys_rise : (a b : Text) → name_key a < name_key b → text_cmp a b ≡ Less
name_keys_rise a b l = rise 8 0 a b l
