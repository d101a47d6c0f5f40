-- The stamp of a mark is that of the newest commit that left it, and the stamp of a range is the greatest of those of the marks in it.
use Rattle.std.proofs.Common.{◌≡◌, ◌∙◌, ap, sym, refl, subst, ℕ, ◌≤◌, le_antisymm, arith, Bool, true, false, cond, [], ◌∷◌, Option, Some, None, true≢false}
use Rattle.filing_model.specs.Common.Text.{Text}
use Rattle.filing_model.specs.Sessions.Calls.{PageQuery}
use Rattle.filing_model.specs.Sessions.Replies as reply
use Rattle.filing_model.specs.Sessions.Replies.{Reply}
use Rattle.filing_model.specs.Sessions.Things.{Range}
use Rattle.filing_model.specs.Histories.History.{Entry, History, repository}
use Rattle.filing_model.specs.Histories.Touches.{touches, number_in}
use Rattle.filing_model.specs.Histories.Lawful.{IsLawful}
use Rattle.filing_model.specs.Histories.Versions.{counts}
use Rattle.filing_laws.specs.Stamping.Numbers.{greatest_touch}
use Rattle.filing_laws.specs.Stamping.Marks.{Mark, marks, marks_with, greatest_mark, EachMarkIsTheGreatest, LiesIn, IsStampIn, EachRangeHasTheGreatestOfItsMarks}
use Rattle.filing_laws.proofs.Stamping.RisingNumbers.{counted}
use Rattle.filing_laws.proofs.Stamping.NewestNumbers.{newest_is_the_greatest, greatest_at_most}
use Rattle.filing_laws.proofs.Stamping.Stamps.{touch_counts, each_touch_is_the_greatest}
use Rattle.filing_laws.proofs.Stamping.TouchedRanges.{ranges_are_touched_by_marks}

-- ---- marks

counts_where_marked : (r : Reply) (e : Entry) (older : History) (mark : Mark) → marks_with r e older mark ≡ true → counts r ≡ true
counts_where_marked (reply.Committed n) e older mark left = refl
counts_where_marked _ e older mark left = absurd (true≢false (sym left))

mark_counts : (mark : Mark) (e : Entry) (older : History) → marks e older mark ≡ true → counts e.reply ≡ true
mark_counts mark e older left = counts_where_marked e.reply e older mark left

pub each_mark_is_the_greatest : EachMarkIsTheGreatest
each_mark_is_the_greatest h e mark lawful = newest_is_the_greatest (λ e older. marks e older mark) (mark_counts mark) h e lawful

-- ---- ranges

module _ (name : Text) (query : PageQuery) (upto : Option Text) where
  abbrev IsStamp : History → Option ℕ → Type 0
  IsStamp h stamp = IsStampIn h name query upto stamp

  abbrev is_touched : Entry → History → Bool
  is_touched e older = touches e older (Range name query upto)

  abbrev stamp : History → Option ℕ
  stamp h = greatest_touch (Range name query upto) h

  -- there is one
  same_stamp : (h : History) (o p : Option ℕ) → IsStamp h o → IsStamp h p → o ≡ p
  same_stamp h None None none other = refl
  same_stamp h None (Some n) none other = let apart : None ≡ Some n = sym (none other.mark other.lies) ∙ other.is in cc
  same_stamp h (Some m) None one none = let apart : None ≡ Some m = sym (none one.mark one.lies) ∙ one.is in cc
  same_stamp h (Some m) (Some n) one other = ap Some (le_antisymm (other.most one.mark m one.lies one.is) (one.most other.mark n other.lies other.is))

  module _ (e : Entry) (older : History) (lawful : IsLawful (e ∷ older)) where
    -- the stamp of a mark before the entry and after it
    after : (mark : Mark) (b : Bool) → marks e older mark ≡ b → greatest_mark mark (e ∷ older) ≡ cond b (Some (number_in e.reply)) (greatest_mark mark older)
    after mark b is = each_mark_is_the_greatest older e mark lawful ∙ ap (λ b. cond b (Some (number_in e.reply)) (greatest_mark mark older)) is

    -- no stamp is greater than the number of an entry that touches the range
    none_is_greater : is_touched e older ≡ true → (mark : Mark) (k : ℕ) → greatest_mark mark (e ∷ older) ≡ Some k → k ≤ number_in e.reply
    none_is_greater touched mark k is =
        let number : number_in e.reply ≡ (repository (e ∷ older)).count =
        (let it = counted older e lawful.1 (touch_counts e older (Range name query upto) touched) in it.number ∙ sym it.count) in
        let most : k ≤ (repository (e ∷ older)).count = greatest_at_most (λ e older. marks e older mark) (mark_counts mark) (e ∷ older) lawful k is in
        omega arith

    touched_stamp : is_touched e older ≡ true → IsStamp (e ∷ older) (Some (number_in e.reply))
    touched_stamp touched =
        let is = (ranges_are_touched_by_marks e older name query upto).0 touched in
        record { mark = is.mark; lies = is.lies; is = after is.mark true is.left; most = λ other k lies. none_is_greater touched other k }

    -- where the range is not touched, each mark in it keeps its stamp
    kept : is_touched e older ≡ false → (mark : Mark) → LiesIn name query upto mark → greatest_mark mark (e ∷ older) ≡ greatest_mark mark older
    kept apart mark lies = by (marks e older mark) refl
      where
        by : (b : Bool) → marks e older mark ≡ b → greatest_mark mark (e ∷ older) ≡ greatest_mark mark older
        by true left =
            absurd (true≢false (sym ((ranges_are_touched_by_marks e older name query upto).1 (record { mark = mark; lies = lies; left = left })) ∙ apart))
        by false none = after mark false none

    kept_stamp : is_touched e older ≡ false → (o : Option ℕ) → IsStamp older o → IsStamp (e ∷ older) o
    kept_stamp apart None none = λ mark lies. kept apart mark lies ∙ none mark lies
    kept_stamp apart (Some n) one = record {
      mark = one.mark;
      lies = one.lies;
      is = kept apart one.mark one.lies ∙ one.is;
      most = λ other k lies is. one.most other k lies (sym (kept apart other lies) ∙ is);
    }

  stamp_of : (h : History) → IsLawful h → IsStamp h (stamp h)
  stamp_of [] lawful = λ mark lies. refl
  stamp_of (e ∷ older) lawful =
      subst (IsStamp (e ∷ older)) (sym (each_touch_is_the_greatest older e (Range name query upto) lawful))
      (by (is_touched e older) refl (stamp_of older lawful.0))
    where
      by : (b : Bool) → is_touched e older ≡ b → IsStamp older (stamp older)
          → IsStamp (e ∷ older) (cond b (Some (number_in e.reply)) (stamp older))
      by true touched before = touched_stamp e older lawful touched
      by false apart before = kept_stamp e older lawful apart (stamp older) before

pub each_range_has_the_greatest_of_its_marks : EachRangeHasTheGreatestOfItsMarks
each_range_has_the_greatest_of_its_marks h name query upto stamp lawful = (
  λ is. subst (IsStampIn h name query upto) is (stamp_of name query upto h lawful),
  λ is. same_stamp name query upto h (greatest_touch (Range name query upto) h) stamp (stamp_of name query upto h lawful) is,
)
