-- Lemmas on pieces of which a front was appended.
use Rattle.std.proofs.Common.{◌≡◌, ℕ, suc, ◌+◌, ◌<◌, Bool, true, List, [], ◌∷◌, ◌++◌, length, drop, get_or, map}
use Rattle.std.proofs.Common.{OnErr, Result, Ok, Err, is_ok, refl, sym, ap, subst, ◌∙◌, append_assoc, append-nil}
use Rattle.std.proofs.Common.{arith}
use Rattle.std.proofs.Math.Seq.{drop-cons}
use Rattle.std.specs.Bool.{if◌then◌else◌}
use Rattle.std.proofs.lemmas.List.{append_cancel_left}
use Rattle.serde_json.specs.Written.{comma_if}
use Rattle.filing_model.specs.Common.Text.{Text}
use Rattle.filing_model.specs.Reading.Writing.{listed}
use Rattle.oim_report.specs.Appended.{IsFrontAppended}

-- what holds in any case holds where memory was wanted
pub on_err : {A E P : Type 0} (r : Result A E) → P → OnErr r P
on_err (Ok x) h = tt
on_err (Err e) h = h

-- what follows from a call's answer, which is answered too
pub on_err_too : {A E P Q : Type 0} (r : Result A E) → (P → Q) → OnErr r P → OnErr r Q
on_err_too (Ok x) f h = tt
on_err_too (Err e) f h = f h

-- what was appended, by another name
pub appended_as : {new piece same : Text} (old : Text) → new ≡ old ++ piece → piece ≡ same → new ≡ old ++ same
appended_as old is e = is ∙ ap (λ t. old ++ t) e

-- what `push_str` leaves: all of the piece, or nothing of it
pub front_pushed : {A E : Type 0} {old new : Text} (r : Result A E) (piece : Text)
    → new ≡ if◌then◌else◌ (is_ok r) (old ++ piece) old → IsFrontAppended old new piece
front_pushed {old = old} (Ok x) piece is =
    record { front = piece; rest = []; appended = is; parts = sym (append-nil piece) }
front_pushed {old = old} (Err e) piece is =
    record { front = []; rest = piece; appended = is ∙ sym (append-nil old); parts = refl }

-- more was to be appended after the piece
pub front_before : {old new piece : Text} (more : Text) → IsFrontAppended old new piece
    → IsFrontAppended old new (piece ++ more)
front_before more is = record {
  front = is.front;
  rest = is.rest ++ more;
  appended = is.appended;
  parts = ap (λ t. t ++ more) is.parts ∙ append_assoc is.front is.rest more;
}

-- all of the first was appended before the piece
pub front_behind : {old mid new piece : Text} (first : Text) → mid ≡ old ++ first → IsFrontAppended mid new piece
    → IsFrontAppended old new (first ++ piece)
front_behind {old = old} first was is = record {
  front = first ++ is.front;
  rest = is.rest;
  appended = is.appended ∙ ap (λ t. t ++ is.front) was ∙ append_assoc old first is.front;
  parts = ap (λ t. first ++ t) is.parts ∙ sym (append_assoc first is.front is.rest);
}

-- some of a whole was appended, and this is left of it
pub record IsUnderway (old now left whole : Text) : Type 0 where
  pub made : Text
  pub appended : now ≡ old ++ made
  pub parts : now ++ left ≡ old ++ whole

-- nothing of the whole was appended as yet
pub underway_first : (old whole : Text) → IsUnderway old old whole whole
underway_first old whole = record { made = []; appended = sym (append-nil old); parts = refl }

-- the next piece was appended
pub underway_next : {old now next left rest whole : Text} (piece : Text) → IsUnderway old now left whole → left ≡ piece ++ rest
    → next ≡ now ++ piece → IsUnderway old next rest whole
underway_next {old = old} {now = now} {rest = rest} piece is left_is next_is = record {
  made = is.made ++ piece;
  appended = next_is ∙ ap (λ t. t ++ piece) is.appended ∙ append_assoc old is.made piece;
  parts =
      ap (λ t. t ++ rest) next_is ∙ append_assoc now piece rest ∙ ap (λ t. now ++ t) (sym left_is) ∙ is.parts;
}

-- nothing is left of it
pub underway_all : {old now left whole : Text} → IsUnderway old now left whole → left ≡ [] → now ≡ old ++ whole
underway_all {now = now} is none = sym (append-nil now) ∙ ap (λ t. now ++ t) (sym none) ∙ is.parts

-- a front of the next piece was appended
pub front_underway : {old now new left piece whole : Text} (more : Text) → IsUnderway old now left whole
    → left ≡ piece ++ more → IsFrontAppended now new piece → IsFrontAppended old new whole
front_underway {old = old} {new = new} {left = left} {whole = whole} more is left_is front =
    let parts : is.made ++ left ≡ whole =
    append_cancel_left old (is.made ++ left) whole
    (sym (append_assoc old is.made left) ∙ ap (λ t. t ++ left) (sym is.appended) ∙ is.parts) in
    subst (IsFrontAppended old new) (ap (λ t. is.made ++ t) (sym left_is) ∙ parts)
    (front_behind is.made is.appended (front_before more front))

-- the next of the pieces that are listed
pub listed_next : {X A : Type 0} (later : Bool) (text : A → Text) (view : X → A) (xs : List X) (i : ℕ) (x : X)
    → i < length xs → x ≡ get_or xs i x
    → listed later text (map view (drop i xs)) ≡ comma_if later ++ (text (view x) ++ listed true text (map view (drop (i + 1) xs)))
listed_next later text view xs i x below is =
    let next : i + 1 ≡ suc i = omega arith in
    ap (λ ys. listed later text (map view ys)) (drop-cons xs i x below ∙ (λ k. sym is k ∷ drop (sym next k) xs))
