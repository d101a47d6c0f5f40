-- Over a source each of whose reads gives one byte, until the end, the line at which memory is refused is the last one begun.
use Rattle.std.proofs.Common.{◌≡◌, ℕ, ◌+◌, ◌≤◌, ◌⊎◌, Bool, true, false, cond, [], ◌∷◌, ◌++◌, length, sym, ◌∙◌, ap, subst, inl, inr, arith, length-append}
use Rattle.std.specs.declared.option.Option.TheVariants.{Some}
use Rattle.std.specs.Io.KnownBytes.{Consumes}
use Rattle.line_io.specs.Text.{Text}
use Rattle.line_io.specs.Devices.{SourceState, SinkState, LastRead}
use Rattle.line_io.specs.Lines.{whole_lines, lines_of, line_begun, is_line_feed}
use Rattle.line_io.specs.Run.{IsStarved}
use Rattle.line_io.specs.Pieces.{whole_from, rest_from, count_from}
use Rattle.line_io.proofs.CutLines.{whole_from-append, rest_from-append, whole_lines_lem}
use Rattle.line_io.proofs.RunByReads.{length_lines_of}

begun_once : (begun : Text) → length (line_begun begun) ≤ 1
begun_once [] = omega arith
begun_once (byte ∷ begun) = omega arith

-- a byte more ends the line begun, or goes on with it
byte_more : (begun last : Text) → length last ≤ 1 → count_from begun last ≤ 1
unfolding whole_from rest_from
byte_more begun [] few = let one = begun_once begun in omega (arith, one)
byte_more begun (byte ∷ []) few =
    elim (is_line_feed byte) as (λ b. length (cond b (begun ∷ []) []) + length (line_begun (cond b [] (begun ++ byte ∷ []))) ≤ 1) [
      | true ↦ omega arith
      | false ↦ let one = begun_once (begun ++ byte ∷ []) in omega (arith, one)
    ]
byte_more begun (byte ∷ next ∷ last) few = absurd (omega arith)

lines_after_byte : (earlier last : Text) → length last ≤ 1 → length (lines_of (earlier ++ last)) ≤ length (whole_lines earlier) + 1
lines_after_byte earlier last few =
    let begun : Text = rest_from [] earlier in
    let whole : length (whole_from [] (earlier ++ last)) ≡ length (whole_from [] earlier) + length (whole_from begun last) =
    ap length (whole_from-append [] earlier last) ∙ length-append (whole_from [] earlier) (whole_from begun last) in
    let rest : length (line_begun (rest_from [] (earlier ++ last))) ≡ length (line_begun (rest_from begun last)) =
    ap (λ r. length (line_begun r)) (rest_from-append [] earlier last) in
    let all = length_lines_of (earlier ++ last) in
    let before : length (whole_lines earlier) ≡ length (whole_from [] earlier) = ap length (whole_lines_lem earlier) in
    let one = byte_more begun last few in
    omega (arith, all, whole, rest, before, one)

-- a source that tells so at each moment: the bytes still to come, and the reads that did not meet the end, come to this number
pub record GivesBytes {S : Type 0} (state : S → SourceState) (total : ℕ) : Type 0 where
  pub rest : S → Text
  pub known : (s : S) → (state s).rest ≡ Some (rest s)
  pub sums : (s : S) → (state s).reads + length (rest s) ≡ total + (state s).ends

module _ {M S : Type 0} (R : M → Text → Text → M → Type 0) (state : S → SourceState) (total : ℕ) (bytes : GivesBytes state total)
    {source source' : S} where
  last_is_short : {earlier last : Text} {ended : Bool} → LastRead state source source' earlier last ended → length last ≤ 1
  last_is_short {last = last} p =
      let consumed : Consumes (Some (bytes.rest p.between)) (Some (bytes.rest source')) last =
      subst (λ o. Consumes (Some (bytes.rest p.between)) o last) (bytes.known source')
      (subst (λ o. Consumes o (state source').rest last) (bytes.known p.between) p.gave.bytes) in
      let long : length (bytes.rest p.between) ≡ length last + length (bytes.rest source') =
      ap length consumed ∙ length-append last (bytes.rest source') in
      let before = bytes.sums p.between in
      let after = bytes.sums source' in
      omega (arith, long, before, after, p.one, p.gave.ended)

  pub starved_at_last_line : (before after : M) (sink sink' : SinkState) (number : ℕ)
      → (p : IsStarved R state before after source source' sink sink' number)
      → (source' ≡ source) ⊎ (number ≡ length (lines_of p.given))
  starved_at_last_line before after sink sink' number p =
      elim p.begun as (λ _. (source' ≡ source) ⊎ (number ≡ length (lines_of p.given))) [
        | inl nothing ↦ inl nothing.0
        | inr begun ↦
            let few : length (lines_of p.given) ≤ length (whole_lines p.earlier) + 1 =
            subst (λ given. length (lines_of given) ≤ length (whole_lines p.earlier) + 1) (sym p.pieces)
            (lines_after_byte p.earlier p.last (last_is_short begun.1)) in
            inr (omega (arith, few, begun.0, p.counted, p.answered_before))
      ]
