-- The lines of a text, one after the other.
use Rattle.std.proofs.Common.{◌≡◌, ◌∙◌, ap, sym, refl, true, false, not, cond, [], ◌∷◌, ◌++◌, ◌==◌, true≢false, length, take, drop, arith}
use Rattle.std.proofs.lemmas.List.{take_all, drop_all}
use Rattle.std.proofs.lemmas.Bool.{eqb-true}
use Rattle.std.specs.List.{position_or_len, before_first, after_first}
use Rattle.line_io.specs.Text.{Text}
use Rattle.line_io.specs.Lines.{is_blank, is_line_feed, line_begun, lines_of, spoken}
use Rattle.line_io.specs.Pieces.{IsCut, whole_from, rest_from}
use Rattle.line_io.proofs.CutLines.{lines_of_lem, whole_at, rest_at, whole_none, rest_none}

-- the line before the first line feed is the first
pub cut_lines : (text line others : Text) → IsCut text line others → lines_of text ≡ line ∷ lines_of others
cut_lines text line others cut =
    let rest = after_first is_line_feed text in
    lines_of_lem text
    ∙ ap (λ lines. lines ++ line_begun (rest_from [] text)) (whole_at [] text cut.within)
    ∙ ap (λ part. (before_first is_line_feed text ∷ whole_from [] rest) ++ line_begun part) (rest_at [] text cut.within)
    ∙ ap (λ lines. before_first is_line_feed text ∷ lines) (sym (lines_of_lem rest))
    ∙ ap (λ first. first ∷ lines_of rest) (sym cut.line_is)
    ∙ ap (λ more. line ∷ lines_of more) (sym cut.others_are)

-- without a line feed all of it is one line, where it is not empty
pub one_line : (text : Text) → position_or_len is_line_feed text ≡ length text → lines_of text ≡ line_begun text
one_line text none =
    lines_of_lem text
    ∙ ap (λ lines. lines ++ line_begun (rest_from [] text)) (whole_none [] text none)
    ∙ ap line_begun (rest_none [] text none)

pub no_line : (text : Text) → position_or_len is_line_feed text ≡ length text → true ≡ (length text == 0) → lines_of text ≡ []
no_line [] none empty = one_line [] none
no_line (byte ∷ bytes) none empty =
    absurd (omega (arith, eqb-true (length (byte ∷ bytes)) 0 (sym empty)))

begun_whole : (text : Text) → false ≡ (length text == 0) → line_begun text ≡ text ∷ []
begun_whole [] some = absurd (true≢false (sym some))
begun_whole (byte ∷ bytes) some = refl

lines_of_none : lines_of [] ≡ []
lines_of_none = one_line [] refl

pub whole_line : (text front back : Text) → position_or_len is_line_feed text ≡ length text → false ≡ (length text == 0)
    → front ≡ take (length text) text → back ≡ drop (length text) text → lines_of text ≡ front ∷ lines_of back
whole_line text front back none some is_front is_back =
    one_line text none
    ∙ begun_whole text some
    ∙ ap (λ line. line ∷ []) (sym (is_front ∙ take_all (length text) text (omega arith)))
    ∙ ap (λ lines. front ∷ lines) (sym (ap lines_of (is_back ∙ drop_all (length text) text (omega arith)) ∙ lines_of_none))

-- a blank line is passed over
pub blank_first : (text line others : Text) → lines_of text ≡ line ∷ lines_of others → is_blank line ≡ true
    → spoken (lines_of text) ≡ spoken (lines_of others)
unfolding spoken
blank_first text line others is blank = ap spoken is ∙ ap (λ b. cond (not b) (line ∷ spoken (lines_of others)) (spoken (lines_of others))) blank

-- any other is spoken
pub spoken_first : (text line others : Text) → lines_of text ≡ line ∷ lines_of others → is_blank line ≡ false
    → spoken (lines_of text) ≡ line ∷ spoken (lines_of others)
unfolding spoken
spoken_first text line others is spoken_line = ap spoken is ∙ ap (λ b. cond (not b) (line ∷ spoken (lines_of others)) (spoken (lines_of others))) spoken_line

pub none_spoken : spoken [] ≡ []
unfolding spoken
none_spoken = refl
