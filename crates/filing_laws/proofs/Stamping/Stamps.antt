-- The stamp of a thing, the greatest number of what touched it: it is that of the newest, and tells the last touch since a session's opening.
use Rattle.std.proofs.Common.{◌≡◌, ◌∙◌, ap, sym, refl, ℕ, ◌+◌, ◌<◌, ◌≤◌, arith, Bool, true, false, cond, [], ◌∷◌, Option, Some, None, lt-ltb, le-ltb, true≢false}
use Rattle.filing_model.specs.Sessions.Things.{Thing}
use Rattle.filing_model.specs.Histories.History.{Entry, History, opens, base_of, repository}
use Rattle.filing_model.specs.Histories.Touches.{touches, number_in, last_touch}
use Rattle.filing_model.specs.Histories.Lawful.{IsLawful}
use Rattle.filing_model.specs.Histories.Versions.{counts}
use Rattle.filing_laws.specs.Stamping.Numbers.{greatest_touch, EachTouchIsTheGreatest, above, StampsTellTheLastTouch}
use Rattle.filing_laws.proofs.Touching.QuietEntries.{quiet_touches}
use Rattle.filing_laws.proofs.Stamping.RisingNumbers.{counted, base_count, opens_next}
use Rattle.filing_laws.proofs.Stamping.NewestNumbers.{newest_is_the_greatest, greatest_at_most}

-- ---- touches

pub touch_counts : (e : Entry) (older : History) (t : Thing) → touches e older t ≡ true → counts e.reply ≡ true
touch_counts e older t holds = by (counts e.reply) refl
  where
    by : (b : Bool) → counts e.reply ≡ b → counts e.reply ≡ true
    by true counting = counting
    by false quiet = absurd (true≢false (sym holds ∙ quiet_touches e.reply e older t quiet))

pub each_touch_is_the_greatest : EachTouchIsTheGreatest
each_touch_is_the_greatest h e t lawful = newest_is_the_greatest (λ e older. touches e older t) (λ e older. touch_counts e older t) h e lawful

-- ---- the last touch

greatest_touch_at_most : (t : Thing) (h : History) → IsLawful h → (m : ℕ) → greatest_touch t h ≡ Some m → m ≤ (repository h).count
greatest_touch_at_most t h lawful = greatest_at_most (λ e older. touches e older t) (λ e older. touch_counts e older t) h lawful

-- nothing is above what bounds it
none_above : (n : ℕ) (o : Option ℕ) → ((m : ℕ) → o ≡ Some m → m ≤ n) → above n o ≡ None
none_above n None h = refl
none_above n (Some m) h = ap (λ b. cond b (Some m) None) (le-ltb n m (h m refl))

pub stamps_tell_the_last_touch : StampsTellTheLastTouch
stamps_tell_the_last_touch [] s t lawful = refl
stamps_tell_the_last_touch (e ∷ older) s t lawful =
    by (opens s e) refl (touches e older t) refl (stamps_tell_the_last_touch older s t lawful.0)
    ∙ sym (ap (above (base_of s (e ∷ older)).count) (each_touch_is_the_greatest older e t lawful))
  where
    by : (first : Bool) → opens s e ≡ first → (b : Bool) → touches e older t ≡ b → last_touch s t older ≡ above (base_of s older).count (greatest_touch t older)
        → cond first None (cond b (Some (number_in e.reply)) (last_touch s t older))
        ≡ above (cond first (repository older) (base_of s older)).count (cond b (Some (number_in e.reply)) (greatest_touch t older))
    by true here true holds rest =
        let is = counted older e lawful.1 (touch_counts e older t holds) in
        absurd (true≢false (sym (opens_next older e s lawful.1 here).1 ∙ is.no_opening))
    by true here false fails rest = sym (none_above (repository older).count (greatest_touch t older) (greatest_touch_at_most t older lawful.0))
    by false other true holds rest =
        let number : number_in e.reply ≡ (repository older).count + 1 = (counted older e lawful.1 (touch_counts e older t holds)).number in
        let below = base_count s older lawful.0 in
        let less : (base_of s older).count < number_in e.reply = omega arith in
        sym (ap (λ b. cond b (Some (number_in e.reply)) None) (lt-ltb (base_of s older).count (number_in e.reply) less))
    by false other false fails rest = rest
