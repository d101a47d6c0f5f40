-- Names whose heads differ stand as these do.
use Rattle.std.proofs.Common.{◌≡◌, ◌∙◌, ap, sym, refl, ℕ, zero, suc, ◌+◌, ◌≤◌, ◌<◌, ◌*◌, arith, Bool, true, false}
use Rattle.std.proofs.Common.{List, [], ◌∷◌, drop, length, get_or, nat_lt, Ordering, Less, Equal, Greater, is_lt}
use Rattle.std.proofs.Common.{true≢false, ltb-true, ltb-false}
use Rattle.std.specs.Cmp.{nat_cmp_is, ranks, tied_itself}
use Rattle.std.specs.Cmp.Lexicographic.{slice_cmp, nat_list_cmp_total}
use Rattle.std.specs.Ordering.{nat_cmp, ordering_then, ordering_reverse, MatchOrdering}
use Rattle.std.proofs.lemmas.List.{drop_more, drop_all, get_or_past}
use Rattle.filing_model.specs.Common.Text.{Text, text_cmp}
use Rattle.text_map.specs.Heads.{number_from, head_of, AreBytes}

-- so many bytes from a place on, and 0 behind the last
abbrev bytes_from : ℕ → ℕ → Text → List ℕ
bytes_from zero i t = []
bytes_from (suc k) i t = get_or t i 0 ∷ bytes_from k (i + 1) t

-- numbers with one byte more stand as the numbers, then as the bytes
appended : (n m x y : ℕ) → x < 256 → y < 256 → nat_cmp (n * 256 + x) (m * 256 + y) ≡ ordering_then (nat_cmp n m) (nat_cmp x y)
appended n m x y p q = by (nat_cmp n m) (ranks n m)
  where
    by : (o : Ordering) → MatchOrdering o (n < m) (n ≡ m) (m < n) → nat_cmp (n * 256 + x) (m * 256 + y) ≡ ordering_then o (nat_cmp x y)
    by Less lt = sym (nat_cmp_is (n * 256 + x) (m * 256 + y) Less (omega arith))
    by Equal same = ap (λ k. nat_cmp (k * 256 + x) (m * 256 + y)) same ∙ level (nat_cmp x y) (ranks x y)
      where
        level : (o : Ordering) → MatchOrdering o (x < y) (x ≡ y) (y < x) → nat_cmp (m * 256 + x) (m * 256 + y) ≡ o
        level Less lt = sym (nat_cmp_is (m * 256 + x) (m * 256 + y) Less (omega arith))
        level Equal same = sym (nat_cmp_is (m * 256 + x) (m * 256 + y) Equal (omega arith))
        level Greater gt = sym (nat_cmp_is (m * 256 + x) (m * 256 + y) Greater (omega arith))
    by Greater gt = sym (nat_cmp_is (n * 256 + x) (m * 256 + y) Greater (omega arith))

then_later : (o p q : Ordering) → ordering_then (ordering_then o p) q ≡ ordering_then o (ordering_then p q)
then_later Less p q = refl
then_later Equal p q = refl
then_later Greater p q = refl

then_equal : (o : Ordering) → o ≡ ordering_then o Equal
then_equal Less = refl
then_equal Equal = refl
then_equal Greater = refl

-- numbers of bytes stand as the bytes
numbered : (k i n m : ℕ) (a b : Text) → AreBytes a → AreBytes b
    → nat_cmp (number_from k i n a) (number_from k i m b) ≡ ordering_then (nat_cmp n m) (slice_cmp nat_cmp (bytes_from k i a) (bytes_from k i b))
numbered zero i n m a b p q = then_equal (nat_cmp n m)
numbered (suc k) i n m a b p q =
    let x = get_or a i 0 in
    let y = get_or b i 0 in
    let later = slice_cmp nat_cmp (bytes_from k (i + 1) a) (bytes_from k (i + 1) b) in
    numbered k (i + 1) (n * 256 + x) (m * 256 + y) a b p q
    ∙ ap (λ o. ordering_then o later) (appended n m x y (p i) (q i))
    ∙ then_later (nat_cmp n m) (nat_cmp x y) later

-- so many bytes of a text, filled up by 0
abbrev padded : ℕ → Text → List ℕ
padded zero t = []
padded (suc k) [] = 0 ∷ padded k []
padded (suc k) (x ∷ xs) = x ∷ padded k xs

from_padded : (k i : ℕ) (t : Text) → bytes_from k i t ≡ padded k (drop i t)
from_padded zero i t = refl
from_padded (suc k) i t = by (nat_lt i (length t)) refl (from_padded k (i + 1) t)
  where
    by : (b : Bool) → nat_lt i (length t) ≡ b → bytes_from k (i + 1) t ≡ padded k (drop (i + 1) t) → get_or t i 0 ∷ bytes_from k (i + 1) t ≡ padded (suc k) (drop i t)
    by true lt later = ap (λ bs. get_or t i 0 ∷ bs) later ∙ ap (padded (suc k)) (sym (drop_more t i 0 (ltb-true i (length t) lt)))
    by false ge later =
        let past : length t ≤ i = ltb-false i (length t) ge in
        let after : length t ≤ i + 1 = omega arith in
        (λ j. get_or_past t i 0 past j ∷ (later ∙ ap (padded k) (drop_all (i + 1) t after)) j)
        ∙ ap (padded (suc k)) (sym (drop_all i t past))

not_below_zero : (x : ℕ) → nat_cmp x 0 ≡ Less → ⊥
not_below_zero zero e = true≢false (sym (ap is_lt (nat_cmp_is 0 0 Equal refl ∙ e)))
not_below_zero (suc x) e = true≢false (sym (ap is_lt (nat_cmp_is (suc x) 0 Greater (omega arith) ∙ e)))

not_before_nothing : (xs : Text) → text_cmp xs [] ≡ Less → ⊥
not_before_nothing [] e = true≢false (sym (ap is_lt e))
not_before_nothing (x ∷ xs) e = true≢false (sym (ap is_lt e))

before : (k : ℕ) (a b : Text) → slice_cmp nat_cmp (padded k a) (padded k b) ≡ Less → text_cmp a b ≡ Less
before zero a b e = absurd (true≢false (sym (ap is_lt e)))
before (suc k) [] [] e = absurd (true≢false (sym (ap is_lt (sym (tied_itself nat_list_cmp_total (0 ∷ padded k [])) ∙ e))))
before (suc k) [] (y ∷ ys) e = refl
before (suc k) (x ∷ xs) [] e = by (λ later. before k xs [] later) (nat_cmp x 0) refl e
  where
    by : (slice_cmp nat_cmp (padded k xs) (padded k []) ≡ Less → text_cmp xs [] ≡ Less)
        → (o : Ordering) → nat_cmp x 0 ≡ o → ordering_then o (slice_cmp nat_cmp (padded k xs) (padded k [])) ≡ Less → Greater ≡ Less
    by more Less is e = absurd (not_below_zero x is)
    by more Equal is e = absurd (not_before_nothing xs (more e))
    by more Greater is e = e
before (suc k) (x ∷ xs) (y ∷ ys) e = by (nat_cmp x y) e (before k xs ys)
  where
    by : (o : Ordering) → ordering_then o (slice_cmp nat_cmp (padded k xs) (padded k ys)) ≡ Less
        → (slice_cmp nat_cmp (padded k xs) (padded k ys) ≡ Less → text_cmp xs ys ≡ Less) → ordering_then o (text_cmp xs ys) ≡ Less
    by Less e later = refl
    by Equal e later = later e
    by Greater e later = e

heads_are_bytes : (a b : Text) → AreBytes a → AreBytes b → nat_cmp (head_of a) (head_of b) ≡ slice_cmp nat_cmp (padded 16 a) (padded 16 b)
heads_are_bytes a b p q =
    numbered 16 0 0 0 a b p q
    ∙ ap (λ o. ordering_then o (slice_cmp nat_cmp (bytes_from 16 0 a) (bytes_from 16 0 b))) (sym (nat_cmp_is 0 0 Equal refl))
    ∙ (λ i. slice_cmp nat_cmp (from_padded 16 0 a i) (from_padded 16 0 b i))

less_by_head : (a b : Text) → AreBytes a → AreBytes b → nat_cmp (head_of a) (head_of b) ≡ Less → text_cmp a b ≡ Less
less_by_head a b p q e = before 16 a b (sym (heads_are_bytes a b p q) ∙ e)

greater_by_head : (a b : Text) → AreBytes a → AreBytes b → nat_cmp (head_of a) (head_of b) ≡ Greater → text_cmp a b ≡ Greater
greater_by_head a b p q e =
    nat_list_cmp_total.antisymm a b
    ∙ ap ordering_reverse (before 16 b a (nat_list_cmp_total.antisymm (padded 16 b) (padded 16 a) ∙ ap ordering_reverse (sym (heads_are_bytes a b p q) ∙ e)))

-- heads that do not tie tell how the names stand
pub by_head : (a b : Text) → AreBytes a → AreBytes b → (o : Ordering) → o ≡ nat_cmp (head_of a) (head_of b) → (o ≡ Equal → ⊥) → o ≡ text_cmp a b
by_head a b p q Less e not = sym (less_by_head a b p q (sym e))
by_head a b p q Equal e not = absurd (not refl)
by_head a b p q Greater e not = sym (greater_by_head a b p q (sym e))

-- short texts as long are the same where they tie up to their ends
tied_padded : (k : ℕ) (a b : Text) → length a ≡ length b → length a ≤ k → slice_cmp nat_cmp (padded k a) (padded k b) ≡ Equal → Equal ≡ text_cmp a b
tied_padded k [] [] same few e = refl
tied_padded k [] (y ∷ ys) same few e = absurd (omega arith)
tied_padded k (x ∷ xs) [] same few e = absurd (omega arith)
tied_padded zero (x ∷ xs) (y ∷ ys) same few e = absurd (omega arith)
tied_padded (suc k) (x ∷ xs) (y ∷ ys) same few e = by (nat_cmp x y) e (tied_padded k xs ys (omega arith) (omega arith))
  where
    by : (o : Ordering) → ordering_then o (slice_cmp nat_cmp (padded k xs) (padded k ys)) ≡ Equal
        → (slice_cmp nat_cmp (padded k xs) (padded k ys) ≡ Equal → Equal ≡ text_cmp xs ys) → Equal ≡ ordering_then o (text_cmp xs ys)
    by Less e later = sym e
    by Equal e later = later e
    by Greater e later = sym e

-- short names as long are the same where their heads are
pub same_in_head : (a b : Text) → AreBytes a → AreBytes b → head_of a ≡ head_of b → length a ≡ length b → length a ≤ 16 → Equal ≡ text_cmp a b
same_in_head a b p q same long few =
    tied_padded 16 a b long few (sym (heads_are_bytes a b p q) ∙ sym (nat_cmp_is (head_of a) (head_of b) Equal same))
