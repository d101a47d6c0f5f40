-- The facts whose dimensions have the hash of another fact's: each cell of more than one fact is among them.
use Rattle.std.proofs.Common.{◌≡◌, ◌∙◌, ap, sym, refl, ℕ, ◌<◌, ◌≤◌, ◌==◌, Bool, true, false, cond, ◌||◌, ◌&&◌, nat_lt, true≢false, List, [], ◌∷◌, ◌++◌, length, map, filter, arith}
use Rattle.std.proofs.lemmas.Bool.{or_right, ltb-true, lt-ltb, eqb-true, eq-eqb}
use Rattle.std.proofs.lemmas.List.{append_assoc, map-append}
use Rattle.oim_report.specs.Parts.{fact_view, facts_view}
use Rattle.filing_model.specs.Oim.Dimensions.{Dims, dims_eq}
use Rattle.filing_model.specs.Oim.Duplicates.{cell_of}
use Rattle.filing_model.specs.declared.duplicates.Allowed.{Allowed}
use Rattle.filing_model.proofs.Oim.DimensionSets.{dims_same}
use Rattle.report_inspection.specs.Cells.{AreCells, IsCell, ToldCell}
use Rattle.report_inspection.specs.Crowds.{AreTwice, KeepsShared, hash_at, hash_in, has_hash, is_in, is_twice, with_hashes}
use Rattle.report_inspection.specs.Runs.{dims_in}
use Rattle.report_inspection.proofs.AddedNames.{new_turn, seen_turn}
use Rattle.report_inspection.proofs.CellRuns.{Entry, all_mapped, same_cell}
use Rattle.report_inspection.proofs.OrderedFacts.{Held}

-- ---- hashes of cells

same_hash : (dims : Dims) (e : Entry) → dims_eq dims (dims_in e) ≡ true → (hash_at dims == hash_in e) ≡ true
same_hash dims e is = eq-eqb _ _ (ap hash_at (dims_same dims (dims_in e) is))

-- a cell that is not empty has its hash among the facts
has_at : (dims : Dims) (e : Entry) (es : List Entry) (b : Bool) → dims_eq dims (dims_in e) ≡ b
    → (0 < length (cell_of dims es) → has_hash es (hash_at dims) ≡ true)
    → 0 < length (cond b (e ∷ cell_of dims es) (cell_of dims es)) → has_hash (e ∷ es) (hash_at dims) ≡ true
has_at dims e es true is later some = ap (λ b. b || has_hash es (hash_at dims)) (same_hash dims e is)
has_at dims e es false is later some = or_right (hash_at dims == hash_in e) (has_hash es (hash_at dims)) (later some)

has : (dims : Dims) (es : List Entry) → 0 < length (cell_of dims es) → has_hash es (hash_at dims) ≡ true
has dims [] some = let no : ⊥ = omega (arith, some) in absurd no
has dims (e ∷ es) some = has_at dims e es (dims_eq dims (dims_in e)) refl (has dims es) some

-- and a cell of more than one fact has it twice
twice_at : (dims : Dims) (e : Entry) (es : List Entry) (b : Bool) → dims_eq dims (dims_in e) ≡ b
    → (1 < length (cell_of dims es) → is_twice es (hash_at dims) ≡ true)
    → 1 < length (cond b (e ∷ cell_of dims es) (cell_of dims es)) → is_twice (e ∷ es) (hash_at dims) ≡ true
twice_at dims e es true is later more =
    let some : 0 < length (cell_of dims es) = omega (arith, more) in
    (λ i. (same_hash dims e is i && has dims es some i) || is_twice es (hash_at dims))
twice_at dims e es false is later more =
    or_right ((hash_at dims == hash_in e) && has_hash es (hash_at dims)) (is_twice es (hash_at dims)) (later more)

twice : (dims : Dims) (es : List Entry) → 1 < length (cell_of dims es) → is_twice es (hash_at dims) ≡ true
twice dims [] more = let no : ⊥ = omega (arith, more) in absurd no
twice dims (e ∷ es) more = twice_at dims e es (dims_eq dims (dims_in e)) refl (twice dims es) more

-- ---- the cells of those that are kept

kept_at : (hashes : List ℕ) (dims : Dims) (e : Entry) (es : List Entry) (b k : Bool) → dims_eq dims (dims_in e) ≡ b → is_in hashes (hash_in e) ≡ k
    → is_in hashes (hash_at dims) ≡ true → cell_of dims (with_hashes hashes es) ≡ cell_of dims es
    → cell_of dims (cond k (e ∷ with_hashes hashes es) (with_hashes hashes es)) ≡ cond b (e ∷ cell_of dims es) (cell_of dims es)
kept_at hashes dims e es true true is kept all same =
    ap (λ b. cond b (e ∷ cell_of dims (with_hashes hashes es)) (cell_of dims (with_hashes hashes es))) is ∙ ap (λ xs. e ∷ xs) same
kept_at hashes dims e es true false is kept all same =
    absurd (true≢false (sym all ∙ ap (λ ds. is_in hashes (hash_at ds)) (dims_same dims (dims_in e) is) ∙ kept))
kept_at hashes dims e es false true is kept all same =
    ap (λ b. cond b (e ∷ cell_of dims (with_hashes hashes es)) (cell_of dims (with_hashes hashes es))) is ∙ same
kept_at hashes dims e es false false is kept all same = same

-- the cell of a hash that is kept stays
kept : (hashes : List ℕ) (dims : Dims) (es : List Entry) → is_in hashes (hash_at dims) ≡ true → cell_of dims (with_hashes hashes es) ≡ cell_of dims es
kept hashes dims [] all = refl
kept hashes dims (e ∷ es) all =
    kept_at hashes dims e es (dims_eq dims (dims_in e)) (is_in hashes (hash_in e)) refl refl all (kept hashes dims es all)

fewer_at : (hashes : List ℕ) (dims : Dims) (e : Entry) (es : List Entry) (b k : Bool) → dims_eq dims (dims_in e) ≡ b
    → length (cell_of dims (with_hashes hashes es)) ≤ length (cell_of dims es)
    → length (cell_of dims (cond k (e ∷ with_hashes hashes es) (with_hashes hashes es))) ≤ length (cond b (e ∷ cell_of dims es) (cell_of dims es))
fewer_at hashes dims e es true true is few =
    let here : length (cell_of dims (e ∷ with_hashes hashes es)) ≡ length (e ∷ cell_of dims (with_hashes hashes es)) =
    ap (λ b. length (cond b (e ∷ cell_of dims (with_hashes hashes es)) (cell_of dims (with_hashes hashes es)))) is in
    omega (arith, here, few)
fewer_at hashes dims e es true false is few = omega (arith, few)
fewer_at hashes dims e es false true is few =
    let here : length (cell_of dims (e ∷ with_hashes hashes es)) ≡ length (cell_of dims (with_hashes hashes es)) =
    ap (λ b. length (cond b (e ∷ cell_of dims (with_hashes hashes es)) (cell_of dims (with_hashes hashes es)))) is in
    omega (arith, here, few)
fewer_at hashes dims e es false false is few = few

-- no cell has more facts than it had
fewer : (hashes : List ℕ) (dims : Dims) (es : List Entry) → length (cell_of dims (with_hashes hashes es)) ≤ length (cell_of dims es)
fewer hashes dims [] = omega arith
fewer hashes dims (e ∷ es) =
    fewer_at hashes dims e es (dims_eq dims (dims_in e)) (is_in hashes (hash_in e)) refl (fewer hashes dims es)

more_than : (n : ℕ) → nat_lt 1 n ≡ true → 1 < n
more_than n h = ltb-true 1 n h

more_yet : (n m : ℕ) → nat_lt 1 n ≡ true → n ≤ m → nat_lt 1 m ≡ true
more_yet n m h le =
    let more = more_than n h in
    lt-ltb 1 m (omega (arith, more, le))

pub keeps_shared : (hashes : List ℕ) (es : List Entry) → AreTwice es hashes → KeepsShared es (with_hashes hashes es)
keeps_shared hashes es h = record {
  same = λ dims shared. kept hashes dims es (h (hash_at dims) ∙ twice dims es (more_than _ shared));
  no_other = λ dims shared. more_yet _ _ shared (fewer hashes dims es);
}

-- ---- what is told of those that are kept is told of all

pub cells_of_kept : (a : Allowed) (entries some : List Entry) (cells : List ToldCell) → KeepsShared entries some → AreCells a some cells
    → AreCells a entries cells
cells_of_kept a entries some cells keeps h = record {
  rise = h.rise;
  each = all_mapped (IsCell a some) (IsCell a entries) (λ cell is.
      let shared = keeps.no_other cell.dims is.shared in
      record {
        is = is.is ∙ same_cell a cell.dims some entries (keeps.same cell.dims shared);
        shared = shared;
      }) cells h.each;
  every = λ q shared. h.every q (ap (λ xs. nat_lt 1 (length xs)) (keeps.same q shared) ∙ shared);
}

-- ---- hashes that are added one by one

either : (b c : Bool) → cond b true c ≡ (c || b)
either true true = refl
either true false = refl
either false true = refl
either false false = refl

turned_at : (a b : ℕ) (p q : Bool) → (a == b) ≡ p → (b == a) ≡ q → p ≡ q
turned_at a b true true h k = refl
turned_at a b false false h k = refl
turned_at a b true false h k = absurd (true≢false (sym (eq-eqb b a (sym (eqb-true a b h))) ∙ k))
turned_at a b false true h k = absurd (true≢false (sym (eq-eqb a b (sym (eqb-true b a k))) ∙ h))

turned : (a b : ℕ) → (a == b) ≡ (b == a)
turned a b = turned_at a b (a == b) (b == a) refl refl

-- a set of hashes after one is added
abbrev pub HasOneMore : ℕ → List ℕ → List ℕ → Type 0
HasOneMore new before after = (hash : ℕ) → is_in after hash ≡ cond (new == hash) true (is_in before hash)

one_more : (new : ℕ) (before after : List ℕ) → HasOneMore new before after → (hash : ℕ) → is_in after hash ≡ (is_in before hash || (hash == new))
one_more new before after h hash =
    h hash ∙ either (new == hash) (is_in before hash) ∙ ap (λ b. is_in before hash || b) (turned new hash)

in_as : (hashes : List ℕ) (new : ℕ) (b : Bool) → is_in hashes new ≡ b → (hash : ℕ) → (hash == new) ≡ true → is_in hashes hash ≡ b
in_as hashes new b is hash same = ap (is_in hashes) (eqb-true hash new same) ∙ is

-- what is told of a hash by the sets, and by the facts that are left
abbrev pub told : List ℕ → List ℕ → ℕ → List Entry → Bool
told repeated seen hash left = is_in repeated hash || ((is_in seen hash && has_hash left hash) || is_twice left hash)

pub told_seen : (e : Entry) (left : List Entry) (repeated more seen again : List ℕ) → HasOneMore (hash_in e) repeated more → is_in seen (hash_in e) ≡ true
    → again ≡ seen → (hash : ℕ) → told more again hash left ≡ told repeated seen hash (e ∷ left)
told_seen e left repeated more seen again u is same hash =
    (λ i. one_more (hash_in e) repeated more u hash i || ((is_in (same i) hash && has_hash left hash) || is_twice left hash))
    ∙ seen_turn (is_in repeated hash) (is_in seen hash) (hash == hash_in e) (has_hash left hash) (is_twice left hash) (in_as seen (hash_in e) true is hash)

pub told_new : (e : Entry) (left : List Entry) (repeated seen more : List ℕ) → HasOneMore (hash_in e) seen more → is_in seen (hash_in e) ≡ false
    → (hash : ℕ) → told repeated more hash left ≡ told repeated seen hash (e ∷ left)
told_new e left repeated seen more u is hash =
    ap (λ b. is_in repeated hash || ((b && has_hash left hash) || is_twice left hash)) (one_more (hash_in e) seen more u hash)
    ∙ new_turn (is_in repeated hash) (is_in seen hash) (hash == hash_in e) (has_hash left hash) (is_twice left hash) (in_as seen (hash_in e) false is hash)

-- ---- no fact is left

pub told_all : (repeated seen : List ℕ) (hash : ℕ) → told repeated seen hash [] ≡ is_in repeated hash
told_all repeated seen hash = no_more (is_in repeated hash) (is_in seen hash)
  where
    no_more : (r s : Bool) → (r || ((s && false) || false)) ≡ r
    no_more true s = refl
    no_more false true = refl
    no_more false false = refl

-- ---- facts that are kept one by one

one_kept : (hashes : List ℕ) (fact : Held) (left rest : List Held) (b : Bool) → left ≡ fact ∷ rest → is_in hashes (hash_in (fact_view fact)) ≡ b
    → with_hashes hashes (facts_view left) ≡ cond b (fact_view fact ∷ with_hashes hashes (facts_view rest)) (with_hashes hashes (facts_view rest))
one_kept hashes fact left rest b is kept =
    ap (λ xs. with_hashes hashes (facts_view xs)) is
    ∙ ap (λ b. cond b (fact_view fact ∷ with_hashes hashes (facts_view rest)) (with_hashes hashes (facts_view rest))) kept

pub kept_step : (hashes : List ℕ) (done : List Held) (fact : Held) (left rest : List Held) (all : List Entry) → left ≡ fact ∷ rest
    → is_in hashes (hash_in (fact_view fact)) ≡ true → facts_view done ++ with_hashes hashes (facts_view left) ≡ all
    → facts_view (done ++ fact ∷ []) ++ with_hashes hashes (facts_view rest) ≡ all
kept_step hashes done fact left rest all is kept h =
    ap (λ xs. xs ++ with_hashes hashes (facts_view rest)) (map-append fact_view done (fact ∷ []))
    ∙ append_assoc (facts_view done) (fact_view fact ∷ []) (with_hashes hashes (facts_view rest))
    ∙ ap (λ xs. facts_view done ++ xs) (sym (one_kept hashes fact left rest true is kept))
    ∙ h

pub passed_step : (hashes : List ℕ) (done : List Held) (fact : Held) (left rest : List Held) (all : List Entry) → left ≡ fact ∷ rest
    → is_in hashes (hash_in (fact_view fact)) ≡ false → facts_view done ++ with_hashes hashes (facts_view left) ≡ all
    → facts_view done ++ with_hashes hashes (facts_view rest) ≡ all
passed_step hashes done fact left rest all is passed h =
    ap (λ xs. facts_view done ++ xs) (sym (one_kept hashes fact left rest false is passed)) ∙ h
