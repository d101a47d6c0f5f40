-- Lines cut from a text that comes in pieces.
use Rattle.std.proofs.Common.{◌≡◌, ℕ, suc, ◌+◌, ◌<◌, ◌≤◌, true, false, not, cond, List, [], ◌∷◌, ◌++◌, length, take, drop, refl, sym, ◌∙◌, ap}
use Rattle.std.proofs.Common.{subst, arith, append_assoc, nat_lt, append-nil}
use Rattle.std.specs.declared.option.Option.TheVariants.{None, Some}
use Rattle.std.specs.List.{position, position_or_len, before_first, after_first, onto_first}
use Rattle.std.proofs.lemmas.List.Sums.{prefix_len-le-length}
use borrow.Author.Tests.{ltb-true, ltb-false}
use Rattle.line_io.specs.Text.{Text}
use Rattle.line_io.specs.Lines.{is_line_feed, parts_of, all_but_last, last_of, whole_lines, last_part, lines_of, line_begun}
use Rattle.line_io.specs.Pieces.{whole_from, rest_from}

-- the place of the first line feed
pub position_some : (text : Text) (i : ℕ) → position is_line_feed text ≡ Some i → (position_or_len is_line_feed text ≡ i) × (i < length text)
position_some text i =
    let n : ℕ = position_or_len is_line_feed text in
    elim (nat_lt n (length text)) as (λ b. nat_lt n (length text) ≡ b → cond b (Some n) None ≡ Some i → (n ≡ i) × (i < length text)) [
      | true ↦ λ below is. let same : n ≡ i = cc in let lt : n < length text = ltb-true n (length text) below in (same, omega arith)
      | false ↦ λ below is. cc
    ] refl

-- no line feed
pub position_none : (text : Text) → position is_line_feed text ≡ None → position_or_len is_line_feed text ≡ length text
position_none text =
    let n : ℕ = position_or_len is_line_feed text in
    elim (nat_lt n (length text)) as (λ b. nat_lt n (length text) ≡ b → cond b (Some n) None ≡ None → n ≡ length text) [
      | true ↦ λ below is. cc
      | false ↦ λ below is.
          let low : length text ≤ n = ltb-false n (length text) below in
          let high : n ≤ length text = prefix_len-le-length (λ x. not (is_line_feed x)) text in
          omega arith
    ] refl

-- a piece after a piece
pub whole_from-append : (begun first second : Text) → whole_from begun (first ++ second) ≡ whole_from begun first ++ whole_from (rest_from begun first) second
unfolding whole_from rest_from
whole_from-append begun [] second = refl
whole_from-append begun (byte ∷ first) second =
    elim (is_line_feed byte) as (λ b.
    cond b (begun ∷ whole_from [] (first ++ second)) (whole_from (begun ++ byte ∷ []) (first ++ second))
    ≡ cond b (begun ∷ whole_from [] first) (whole_from (begun ++ byte ∷ []) first)
    ++ whole_from (cond b (rest_from [] first) (rest_from (begun ++ byte ∷ []) first)) second) [
      | true ↦ ap (λ lines. begun ∷ lines) (whole_from-append [] first second)
      | false ↦ whole_from-append (begun ++ byte ∷ []) first second
    ]

pub rest_from-append : (begun first second : Text) → rest_from begun (first ++ second) ≡ rest_from (rest_from begun first) second
unfolding rest_from
rest_from-append begun [] second = refl
rest_from-append begun (byte ∷ first) second =
    elim (is_line_feed byte) as (λ b.
    cond b (rest_from [] (first ++ second)) (rest_from (begun ++ byte ∷ []) (first ++ second))
    ≡ rest_from (cond b (rest_from [] first) (rest_from (begun ++ byte ∷ []) first)) second) [
      | true ↦ rest_from-append [] first second
      | false ↦ rest_from-append (begun ++ byte ∷ []) first second
    ]

-- up to the first line feed
abbrev ends : Text → ℕ
ends text = position_or_len is_line_feed text

pub whole_at : (begun text : Text) → ends text < length text
    → whole_from begun text ≡ (begun ++ before_first is_line_feed text) ∷ whole_from [] (after_first is_line_feed text)
unfolding whole_from
whole_at begun [] h = absurd (omega arith)
whole_at begun (byte ∷ bytes) h =
    elim (is_line_feed byte) as (λ b.
    cond (not b) (1 + ends bytes) 0 < suc (length bytes)
    → cond b (begun ∷ whole_from [] bytes) (whole_from (begun ++ byte ∷ []) bytes)
    ≡ (begun ++ take (cond (not b) (1 + ends bytes) 0) (byte ∷ bytes)) ∷ whole_from [] (drop (cond (not b) (1 + ends bytes) 0 + 1) (byte ∷ bytes))) [
      | true ↦ λ k. ap (λ line. line ∷ whole_from [] bytes) (sym (append-nil begun))
      | false ↦ λ k.
          let one : 1 + ends bytes ≡ suc (ends bytes) = omega arith in
          let two : suc (ends bytes) + 1 ≡ suc (ends bytes + 1) = omega arith in
          let small : ends bytes < length bytes = omega arith in
          rw (one, two) (whole_at (begun ++ byte ∷ []) bytes small
          ∙ ap (λ line. line ∷ whole_from [] (after_first is_line_feed bytes))
          (append_assoc begun (byte ∷ []) (before_first is_line_feed bytes)))
    ] h

pub rest_at : (begun text : Text) → ends text < length text → rest_from begun text ≡ rest_from [] (after_first is_line_feed text)
unfolding rest_from
rest_at begun [] h = absurd (omega arith)
rest_at begun (byte ∷ bytes) h =
    elim (is_line_feed byte) as (λ b.
    cond (not b) (1 + ends bytes) 0 < suc (length bytes)
    → cond b (rest_from [] bytes) (rest_from (begun ++ byte ∷ []) bytes)
    ≡ rest_from [] (drop (cond (not b) (1 + ends bytes) 0 + 1) (byte ∷ bytes))) [
      | true ↦ λ k. refl
      | false ↦ λ k.
          let one : 1 + ends bytes ≡ suc (ends bytes) = omega arith in
          let two : suc (ends bytes) + 1 ≡ suc (ends bytes + 1) = omega arith in
          let small : ends bytes < length bytes = omega arith in
          rw (one, two) (rest_at (begun ++ byte ∷ []) bytes small)
    ] h

-- no line feed at all
pub whole_none : (begun text : Text) → ends text ≡ length text → whole_from begun text ≡ []
unfolding whole_from
whole_none begun [] h = refl
whole_none begun (byte ∷ bytes) h =
    elim (is_line_feed byte) as (λ b.
    cond (not b) (1 + ends bytes) 0 ≡ suc (length bytes)
    → cond b (begun ∷ whole_from [] bytes) (whole_from (begun ++ byte ∷ []) bytes) ≡ []) [
      | true ↦ λ k. absurd (omega arith)
      | false ↦ λ k. let small : ends bytes ≡ length bytes = omega arith in whole_none (begun ++ byte ∷ []) bytes small
    ] h

pub rest_none : (begun text : Text) → ends text ≡ length text → rest_from begun text ≡ begun ++ text
unfolding rest_from
rest_none begun [] h = sym (append-nil begun)
rest_none begun (byte ∷ bytes) h =
    elim (is_line_feed byte) as (λ b.
    cond (not b) (1 + ends bytes) 0 ≡ suc (length bytes)
    → cond b (rest_from [] bytes) (rest_from (begun ++ byte ∷ []) bytes) ≡ begun ++ byte ∷ bytes) [
      | true ↦ λ k. absurd (omega arith)
      | false ↦ λ k.
          let small : ends bytes ≡ length bytes = omega arith in
          rest_none (begun ++ byte ∷ []) bytes small ∙ append_assoc begun (byte ∷ []) bytes
    ] h

-- the two ways to say the lines of a text
abbrev onto : Text → List Text → List Text
onto begun [] = []
onto begun (part ∷ parts) = (begun ++ part) ∷ parts

-- a cut into parts has a first part
first_of : (text : Text) → (part : Text) × ((parts : List Text) × (parts_of text ≡ part ∷ parts))
first_of [] = ([], ([], refl))
first_of (byte ∷ bytes) =
    let rest = first_of bytes in
    elim (is_line_feed byte) as (λ b. (part : Text)
    × ((parts : List Text) × (cond b ([] ∷ parts_of bytes) (onto_first byte (parts_of bytes)) ≡ part ∷ parts))) [
      | true ↦ ([], (parts_of bytes, refl))
      | false ↦ (byte ∷ rest.0, (rest.1.0, ap (onto_first byte) rest.1.1))
    ]

-- one part before the parts of a text
abbrev Both : Text → List Text → List Text → Text → Type 0
Both begun parts whole last = (all_but_last (onto begun parts) ≡ whole) × (last_of (onto begun parts) ≡ last)

both : (begun text : Text) → Both begun (parts_of text) (whole_from begun text) (rest_from begun text)
unfolding whole_from rest_from
both begun [] = (refl, append-nil begun)
both begun (byte ∷ bytes) =
    let rest = first_of bytes in
    let part : Text = rest.0 in
    let parts : List Text = rest.1.0 in
    let is : parts_of bytes ≡ part ∷ parts = rest.1.1 in
    elim (is_line_feed byte) as (λ b. Both begun (cond b ([] ∷ parts_of bytes) (onto_first byte (parts_of bytes)))
    (cond b (begun ∷ whole_from [] bytes) (whole_from (begun ++ byte ∷ []) bytes))
    (cond b (rest_from [] bytes) (rest_from (begun ++ byte ∷ []) bytes))) [
      | true ↦
          let below : Both [] (part ∷ parts) (whole_from [] bytes) (rest_from [] bytes) =
          subst (λ ps. Both [] ps (whole_from [] bytes) (rest_from [] bytes)) is (both [] bytes) in
          let here : Both begun ([] ∷ (part ∷ parts)) (begun ∷ whole_from [] bytes) (rest_from [] bytes) =
          (ap (λ line. line ∷ all_but_last (part ∷ parts)) (append-nil begun) ∙ ap (λ lines. begun ∷ lines) below.0, below.1) in
          subst (λ ps. Both begun ([] ∷ ps) (begun ∷ whole_from [] bytes) (rest_from [] bytes)) (sym is) here
      | false ↦
          let more : Text = begun ++ byte ∷ [] in
          let below : Both more (part ∷ parts) (whole_from more bytes) (rest_from more bytes) =
          subst (λ ps. Both more ps (whole_from more bytes) (rest_from more bytes)) is (both more bytes) in
          let same : more ++ part ≡ begun ++ (byte ∷ part) = append_assoc begun (byte ∷ []) part in
          let here : Both begun ((byte ∷ part) ∷ parts) (whole_from more bytes) (rest_from more bytes) =
          subst (λ line. (all_but_last (line ∷ parts) ≡ whole_from more bytes) × (last_of (line ∷ parts) ≡ rest_from more bytes)) same below in
          subst (λ ps. Both begun (onto_first byte ps) (whole_from more bytes) (rest_from more bytes)) (sym is) here
    ]

pub whole_lines_lem : (text : Text) → whole_lines text ≡ whole_from [] text
unfolding whole_lines
whole_lines_lem text =
    let rest = first_of text in
    let begins : all_but_last (parts_of text) ≡ all_but_last (onto [] (parts_of text)) = ap all_but_last (rest.1.1 ∙ sym (ap (onto []) rest.1.1)) in
    begins ∙ (both [] text).0

pub last_part_lem : (text : Text) → last_part text ≡ rest_from [] text
unfolding last_part
last_part_lem text =
    let rest = first_of text in
    let begins : last_of (parts_of text) ≡ last_of (onto [] (parts_of text)) = ap last_of (rest.1.1 ∙ sym (ap (onto []) rest.1.1)) in
    begins ∙ (both [] text).1

pub lines_of_lem : (text : Text) → lines_of text ≡ whole_from [] text ++ line_begun (rest_from [] text)
unfolding lines_of
lines_of_lem text = ap (λ lines. lines ++ line_begun (last_part text)) (whole_lines_lem text)
    ∙ ap (λ part. whole_from [] text ++ line_begun part) (last_part_lem text)
