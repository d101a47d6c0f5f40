-- Replies of scripts that are written one after another.
use Rattle.std.proofs.Common.{◌≡◌, ◌∙◌, ◌⊎◌, inl, inr, ap, cond, sym, refl, subst, ℕ, Bool, true, false, ◌&&◌, List, []}
use Rattle.std.proofs.Common.{◌∷◌, ◌++◌, append_assoc, append-nil, Result, Ok, Err, string_bytes}
use Rattle.std.specs.declared.alloc.AllocError.{AllocError}
use Rattle.filing_model.specs.Common.Text.{Text}
use Rattle.line_io.specs.Devices.{SinkState, Took, TookPart}
use Rattle.line_io.proofs.DeviceSteps.{took_none, took_more, part_after}
use Rattle.line_io.proofs.SentReplies.{part_longer}
use Rattle.filing_threads.specs.declared.fault.ThreadsFault.TheVariants.{Write, NoMemory}
use Rattle.filing_threads.specs.declared.replies.Ending.{Ending}
use Rattle.filing_threads.specs.declared.replies.Ending.TheVariants.{LineStarved, TooDeep, Whole}
use Rattle.filing_threads.specs.declared.replies.Replies.{Replies}
use Rattle.filing_threads.specs.Writing.{is_last, is_fed, texts_of, all_fed, Writes}

-- what is written, and the replies that are left, are all of them; so of whether they are whole
pub record IsWrittenTo (all rest : List (Result Replies AllocError)) (whole : Bool) (start now : SinkState) : Type 0 where
  pub written : Text
  pub took : Took start now written 0
  pub parts : texts_of all ≡ written ++ texts_of rest
  pub whole_is : all_fed all ≡ (whole && all_fed rest)

pub none_written : (all : List (Result Replies AllocError)) (s : SinkState) → IsWrittenTo all all true s s
none_written all s = record { written = []; took = took_none s; parts = refl; whole_is = refl }

and_assoc : (a b c : Bool) → (a && (b && c)) ≡ ((a && b) && c)
and_assoc true b c = refl
and_assoc false b c = refl

pub and_false : (a : Bool) → (a && false) ≡ false
and_false true = refl
and_false false = refl

module _ (all rest : List (Result Replies AllocError)) (whole : Bool) (start now next : SinkState) (replies : Replies)
    (is : IsWrittenTo all (Ok replies ∷ rest) whole start now) where
  -- the replies of a script behind which others may be written
  pub one_written : is_last replies.ending ≡ false → Took now next (string_bytes replies.text) 0
      → IsWrittenTo all rest (whole && is_fed replies.ending) start next
  one_written more took = record {
    written = is.written ++ string_bytes replies.text;
    took = took_more is.took took;
    parts = is.parts
        ∙ ap (λ b. is.written ++ (string_bytes replies.text ++ cond b [] (texts_of rest))) more
        ∙ sym (append_assoc is.written (string_bytes replies.text) (texts_of rest));
    whole_is = is.whole_is ∙ and_assoc whole (is_fed replies.ending) (all_fed rest);
  }

  -- and of one behind which nothing is written
  pub one_stopped : replies.ending ≡ LineStarved → Took now next (string_bytes replies.text) 0 → Writes all (Err NoMemory) start next
  one_stopped starved took = (
    subst (λ text. Took start next text 0)
        (sym (is.parts
        ∙ ap (λ e. is.written ++ (string_bytes replies.text ++ cond (is_last e) [] (texts_of rest))) starved
        ∙ ap (λ text. is.written ++ text) (append-nil (string_bytes replies.text))))
        (took_more is.took took),
    is.whole_is ∙ ap (λ e. whole && (is_fed e && all_fed rest)) starved ∙ and_false whole,
  )

  pub one_failed : TookPart now next (string_bytes replies.text) → Writes all (Err Write) start next
  one_failed part =
      subst (λ text. TookPart start next text) (sym is.parts)
      (part_after is.took (part_longer (cond (is_last replies.ending) [] (texts_of rest)) part))

-- others may be written behind replies for which memory was not wanted
pub fed_so : (e : Ending) → (e ≡ Whole) ⊎ ((number : ℕ) × (e ≡ TooDeep number)) → (is_last e ≡ false) × (is_fed e ≡ true)
fed_so e (inl is) = (ap is_last is, ap is_fed is)
fed_so e (inr (number, is)) = (ap is_last is, ap is_fed is)

pub and_true : (a : Bool) → (a && true) ≡ a
and_true true = refl
and_true false = refl

-- memory was refused for the next
pub one_refused : (all rest : List (Result Replies AllocError)) (whole : Bool) (start now : SinkState) (e : AllocError)
    → IsWrittenTo all (Err e ∷ rest) whole start now → Writes all (Err NoMemory) start now
one_refused all rest whole start now e is = (
  subst (λ text. Took start now text 0) (sym (is.parts ∙ append-nil is.written)) is.took,
  is.whole_is ∙ and_false whole,
)

-- none is left
pub all_written : (all rest : List (Result Replies AllocError)) (whole : Bool) (start now : SinkState) → rest ≡ [] → IsWrittenTo all rest whole start now
    → Took start now (texts_of all) 0 × (all_fed all ≡ whole)
all_written all rest whole start now none is =
    let last : IsWrittenTo all [] whole start now = subst (λ xs. IsWrittenTo all xs whole start now) none is in (
      subst (λ text. Took start now text 0) (sym (last.parts ∙ append-nil last.written)) last.took,
      last.whole_is ∙ and_true whole,
    )
