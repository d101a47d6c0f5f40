-- The lines of a numeric table, one by one.
use Rattle.std.proofs.Common.{◌≡◌, ◌≢◌, ◌∙◌, ap, sym, refl, ℕ, suc, ◌+◌, ◌-◌, ◌<◌, arith, Bool, true, false, cond}
use Rattle.std.proofs.Common.{not, ◌&&◌, nat_lt, List, [], ◌∷◌, length, take, get_or, Option, Some, None, ◌++◌}
use Rattle.std.proofs.Common.{◌≤◌, take-append-drop, drop-cons, map, filter, option_map, Result, Ok, Bor, IfSome}
use Rattle.std.proofs.Common.{String}
use Rattle.std.proofs.lemmas.List.{drop_all, map-append}
use Rattle.std.specs.declared.alloc.Global.{Global}
use Rattle.std.proofs.lemmas.Bool.{ne_eqb}
use Rattle.std.specs.List.{list_all, enumerate_from, slice_split, position_or_len, before_first, after_first}
use Rattle.std.specs.Str.Lines.{strip_carriage_return}
use Rattle.filing_model.specs.Common.Text.{Text}
use Rattle.std.specs.Char.{is_newline}
use Rattle.filing_model.specs.Oim.Tables.{is_space, is_row, row_at, split_at_space}
use Rattle.filing_model.specs.Common.Try.{each, with_front}
use Rattle.filing_model.specs.declared.faults.TableFault.{TableFault}
use Rattle.filing_model.proofs.Reading.Tries.{each_more}
use Rattle.oim_fact.specs.Texts.{row_of, rows_view}
use Rattle.oim_report.specs.Lines.{lines_left, numbered_from}

-- how much is left to cut into lines
abbrev pub size_left : Option Text → ℕ
size_left None = 0
size_left (Some text) = suc (length text)

uncut_rest : {X : Type 0} (p : X → Bool) (x : X) (xs : List X) (b : Bool) → p x ≡ b
    → cond (not b) (1 + position_or_len p xs) 0 ≡ suc (length xs) → (position_or_len p xs ≡ length xs) × (b ≡ false)
uncut_rest p x xs true e h = absurd (omega (arith, h))
uncut_rest p x xs false e h = (omega (arith, h), refl)

-- a text that has none is its one part
pub uncut : {X : Type 0} (p : X → Bool) (xs : List X) → position_or_len p xs ≡ length xs → slice_split p xs ≡ xs ∷ []
uncut p [] h = refl
uncut p (x ∷ xs) h =
    let rest = uncut_rest p x xs (p x) refl h in
    rw rest.1 (rw (uncut p xs rest.0) refl)

-- ---- a row

without_space : (text : Text) → ((i : ℕ) → i < length text → get_or text i 0 ≢ 32) → list_all (λ c. not (is_space c)) text ≡ true
without_space [] h = refl
without_space (c ∷ text) h =
    let here : is_space c ≡ false = ne_eqb c 32 (h 0 (omega arith)) in
    let rest : list_all (λ c. not (is_space c)) text ≡ true = without_space text (λ i lt. h (suc i) (omega arith)) in
    rw here rest

all_three : (p q r : Bool) → p ≡ true → q ≡ true → r ≡ true → p && q && r ≡ true
all_three p q r a b c = rw (a, b, c) refl

-- parts that are not empty, of which the second has no space
pub row_found : (line uri local : Text) → uri ≡ before_first is_space line → local ≡ after_first is_space line
    → nat_lt 0 (length uri) ≡ true → nat_lt 0 (length local) ≡ true → ((i : ℕ) → i < length local → get_or local i 0 ≢ 32)
    → Some (uri, local) ≡ cond (is_row (split_at_space line)) (Some (split_at_space line)) None
row_found line uri local uri_is local_is some_uri some_local lacks =
    let row : is_row (uri, local) ≡ true = all_three _ _ _ some_uri some_local (without_space local lacks) in
    sym (ap (λ b. cond b (Some (uri, local)) None) row)
    ∙ (λ i. cond (is_row (uri_is i, local_is i)) (Some (uri_is i, local_is i)) None)

-- ---- a line that ends in no carriage return

last_is : (line : Text) (n : ℕ) → length line ≡ suc n → get_or line n 0 ≡ 13 → line ≡ take n line ++ 13 ∷ []
last_is line n size h =
    let inside : n < length line = omega arith in
    sym (take-append-drop n line) ∙ ap (λ l. take n line ++ l) (drop-cons line n 0 inside ∙ (λ i. h i ∷ drop_all (suc n) line (omega arith) i))

pub not_returned : (line : Text) → ((front : Text) → line ≢ front ++ 13 ∷ []) → line ≡ strip_carriage_return line
not_returned [] h = refl
not_returned (b ∷ text) h =
    let other : get_or (b ∷ text) (length (b ∷ text) - 1) 0 ≢ 13 =
    λ e. h (take (length (b ∷ text) - 1) (b ∷ text)) (last_is (b ∷ text) (length (b ∷ text) - 1) (omega arith) e) in
    sym (ap (λ t. cond t (take (length (b ∷ text) - 1) (b ∷ text)) (b ∷ text)) (ne_eqb _ 13 other))

-- ---- one turn

-- the first line that is left, in front of the others
pub numbered_turn : (n : ℕ) (left : Option Text) (rest line stripped : Text) (later : Option Text) → left ≡ Some rest
    → slice_split is_newline rest ≡ line ∷ lines_left later → stripped ≡ strip_carriage_return line
    → numbered_from n left ≡ cond (nat_lt 0 (length stripped)) ((n, stripped) ∷ numbered_from (n + 1) later) (numbered_from (n + 1) later)
numbered_turn n left rest line stripped later left_is split stripped_is =
    ap (λ o. numbered_from n o) left_is
    ∙ ap (λ ls. filter (λ l. nat_lt 0 (length l.1)) (enumerate_from n (map strip_carriage_return ls))) split
    ∙ ap (λ l. cond (nat_lt 0 (length l)) ((n, l) ∷ numbered_from (n + 1) later) (numbered_from (n + 1) later)) (sym stripped_is)

pub row_turn : (n : ℕ) (line : Text) (left lines : List (ℕ × Text))
    (before later : List (String Global × String Global)) (row : String Global × String Global)
    (goal : Result (List (Text × Text)) TableFault)
    → left ≡ cond (nat_lt 0 (length line)) ((n, line) ∷ lines) lines → nat_lt 0 (length line) ≡ true
    → row_at (n, line) ≡ Ok (row_of row) → later ≡ before ++ row ∷ []
    → with_front (rows_view before) (each row_at left) ≡ goal → with_front (rows_view later) (each row_at lines) ≡ goal
row_turn n line left lines before later row goal left_is some read later_is h =
    ap (λ rs. with_front rs (each row_at lines)) (ap rows_view later_is ∙ map-append row_of before (row ∷ []))
    ∙ each_more row_at (rows_view before) (n, line) (row_of row) lines read
    ∙ ap (λ ls. with_front (rows_view before) (each row_at ls)) (sym (left_is ∙ ap (λ b. cond b ((n, line) ∷ lines) lines) some))
    ∙ h

pub empty_turn : (n : ℕ) (line : Text) (left lines : List (ℕ × Text))
    (before later : List (String Global × String Global)) (goal : Result (List (Text × Text)) TableFault)
    → left ≡ cond (nat_lt 0 (length line)) ((n, line) ∷ lines) lines → nat_lt 0 (length line) ≡ false → later ≡ before
    → with_front (rows_view before) (each row_at left) ≡ goal → with_front (rows_view later) (each row_at lines) ≡ goal
empty_turn n line left lines before later goal left_is none later_is h =
    ap (λ rs. with_front (rows_view rs) (each row_at lines)) later_is
    ∙ ap (λ ls. with_front (rows_view before) (each row_at ls)) (sym (left_is ∙ ap (λ b. cond b ((n, line) ∷ lines) lines) none))
    ∙ h

pub counted_turn : (n size : ℕ) (left : Option Text) (rest : Text) (later : Option (Bor (List ℕ))) → left ≡ Some rest
    → IfSome later (λ t. length t.now < length rest)
    → n + size_left left ≤ size → n + 1 + size_left (option_map (λ t. t.now) later) ≤ size
counted_turn n size left rest None left_is shorter h = let now : size_left left ≡ suc (length rest) = ap size_left left_is in omega arith
counted_turn n size left rest (Some t) left_is shorter h = let now : size_left left ≡ suc (length rest) = ap size_left left_is in omega arith
