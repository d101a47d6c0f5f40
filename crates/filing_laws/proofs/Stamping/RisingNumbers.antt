-- The numbers of accepted loads and commits: they rise by one, and tell what came after a session's opening.
use Rattle.std.proofs.Common.{◌≡◌, ◌∙◌, ap, sym, refl, subst, ℕ, zero, suc, ◌+◌, ◌==◌, ◌<◌, ◌≤◌, arith, Bool, true, false, cond, ◌||◌, ◌↔◌}
use Rattle.std.proofs.Common.{[], ◌∷◌, ◌++◌, Option, eqb-true, true≢false, append-nil}
use Rattle.std.specs.List.{range_with_len}
use Rattle.std.specs.Option.{option_map_or}
use Rattle.std.proofs.lemmas.Bool.{and_parts, and_right}
use Rattle.filing_model.specs.Sessions.Replies.{Reply}
use Rattle.filing_model.specs.Histories.History.{Step, Open, Entry, History, is_of, is_opening, opens, base_of, repository}
use Rattle.filing_model.specs.Histories.Touches.{number_in}
use Rattle.filing_model.specs.Histories.Lawful.{IsLawful, IsNext, IsNextStep, openings}
use Rattle.filing_model.specs.Histories.Versions.{counts}
use Rattle.filing_model.proofs.Histories.NextReply.{older_is_lawful}
use Rattle.filing_laws.specs.Stamping.Numbers.{numbers, NumbersRiseByOne, EachNumberIsTheCount, has_opening, NumbersTellWhatIsLater}
use Rattle.filing_laws.proofs.Opening.NotYetOpened.{openings_next}
use Rattle.filing_laws.proofs.Touching.EntryCases.{EntryCase, Quiet, Accepted, Passed, entry_case, quiet_repository}

-- ---- what counts

pub record IsCounted (older : History) (e : Entry) : Type 0 where
  pub number : number_in e.reply ≡ (repository older).count + 1
  pub count : (repository (e ∷ older)).count ≡ (repository older).count + 1
  pub no_opening : is_opening e.step ≡ false

pub counted : (older : History) (e : Entry) → IsNext older e → counts e.reply ≡ true → IsCounted older e
counted older e next counting = by (entry_case older e next)
  where
    by : EntryCase older e → IsCounted older e
    by (Quiet quiet) = absurd (true≢false (sym counting ∙ quiet))
    by (Accepted load) = record { number = ap number_in load.reply; count = ap (λ c. c.count) load.result; no_opening = ap is_opening load.step }
    by (Passed passed) = record { number = ap number_in passed.reply; count = ap (λ c. c.count) passed.result; no_opening = ap is_opening passed.step }

pub quiet_count : (older : History) (e : Entry) → counts e.reply ≡ false → (repository (e ∷ older)).count ≡ (repository older).count
quiet_count older e quiet = ap (λ c. c.count) (quiet_repository older e quiet)

pub count_grows : (older : History) (e : Entry) → IsNext older e → (repository older).count ≤ (repository (e ∷ older)).count
count_grows older e next = by (counts e.reply) refl
  where
    by : (b : Bool) → counts e.reply ≡ b → (repository older).count ≤ (repository (e ∷ older)).count
    by true holds = let is = counted older e next holds in let one : (repository (e ∷ older)).count ≡ (repository older).count + 1 = is.count in omega arith
    by false fails = let same : (repository (e ∷ older)).count ≡ (repository older).count = quiet_count older e fails in omega arith

count_later : (newer h : History) → IsLawful (newer ++ h) → (repository h).count ≤ (repository (newer ++ h)).count
count_later [] h lawful = omega arith
count_later (e ∷ newer) h lawful =
    let before = count_later newer h lawful.0 in
    let grows = count_grows (newer ++ h) e lawful.1 in
    omega arith

pub base_count : (s : ℕ) (h : History) → IsLawful h → (base_of s h).count ≤ (repository h).count
base_count s [] lawful = omega arith
base_count s (e ∷ older) lawful = by (opens s e) (base_count s older lawful.0) (count_grows older e lawful.1)
  where
    by : (b : Bool) → (base_of s older).count ≤ (repository older).count → (repository older).count ≤ (repository (e ∷ older)).count
        → (cond b (repository older) (base_of s older)).count ≤ (repository (e ∷ older)).count
    by true before grows = grows
    by false before grows = omega arith

-- ---- numbers rise by one

range_more : (a n : ℕ) → range_with_len a (suc n) ≡ range_with_len a n ++ (a + n) ∷ []
range_more a zero = let same : a ≡ a + 0 = omega arith in ap (λ m. m ∷ []) same
range_more a (suc n) =
    let same : a + 1 + n ≡ a + suc n = omega arith in
    ap (λ ms. a ∷ ms) (range_more (a + 1) n) ∙ ap (λ m. a ∷ range_with_len (a + 1) n ++ m ∷ []) same

pub numbers_rise_by_one : NumbersRiseByOne
numbers_rise_by_one [] lawful = refl
numbers_rise_by_one (e ∷ older) lawful = by (counts e.reply) refl (numbers_rise_by_one older lawful.0)
  where
    by : (b : Bool) → counts e.reply ≡ b → numbers older ≡ range_with_len 1 (repository older).count
        → numbers older ++ cond b (number_in e.reply ∷ []) [] ≡ range_with_len 1 (repository (e ∷ older)).count
    by true holds before =
        let is = counted older e lawful.1 holds in
        let number : number_in e.reply ≡ (repository older).count + 1 = is.number in
        let one : 1 + (repository older).count ≡ number_in e.reply = omega arith in
        let next : (repository (e ∷ older)).count ≡ (repository older).count + 1 = is.count in
        let more : suc (repository older).count ≡ (repository (e ∷ older)).count = omega arith in
        ap (λ ns. ns ++ number_in e.reply ∷ []) before
        ∙ ap (λ m. range_with_len 1 (repository older).count ++ m ∷ []) (sym one)
        ∙ sym (range_more 1 (repository older).count)
        ∙ ap (range_with_len 1) more
    by false fails before = append-nil (numbers older) ∙ before ∙ ap (range_with_len 1) (sym (quiet_count older e fails))

number_here : (e : Entry) (older : History) → IsLawful (e ∷ older) → counts e.reply ≡ true → number_in e.reply ≡ (repository (e ∷ older)).count
number_here e older lawful holds = let is = counted older e lawful.1 holds in is.number ∙ sym is.count

pub each_number_is_the_count : EachNumberIsTheCount
each_number_is_the_count h e older lawful at holds = number_here e older (older_is_lawful at.newer (e ∷ older) (subst IsLawful at.place lawful)) holds

-- ---- a session opens once

opening_number : (older : History) (session : Option ℕ) (step : Step) (r : Reply) (s : ℕ) → IsNextStep older session step r → is_opening step ≡ true
    → option_map_or (λ n. n == s) session false ≡ true → openings older + 1 ≡ s
opening_number older session (Open kind) r s next opening mine =
    eqb-true (openings older + 1) s (sym (ap (λ o. option_map_or (λ n. n == s) o false) next.0) ∙ mine)
opening_number older session step r s next opening mine = absurd (true≢false (sym opening))

pub opens_next : (older : History) (e : Entry) (s : ℕ) → IsNext older e → opens s e ≡ true → (openings older + 1 ≡ s) × (is_opening e.step ≡ true)
opens_next older e s next holds =
    let parts = and_parts (is_of s e) (is_opening e.step) holds in
    (opening_number older e.session e.step e.reply s next parts.1 parts.0, parts.1)

no_opening_yet : (s : ℕ) (h : History) → IsLawful h → openings h < s → has_opening s h ≡ false
no_opening_yet s [] lawful above = refl
no_opening_yet s (e ∷ older) lawful above = by (opens s e) refl (no_opening_yet s older lawful.0)
  where
    counted_openings : openings (e ∷ older) ≡ cond (is_opening e.step) 1 0 + openings older
    counted_openings = openings_next e older

    by : (b : Bool) → opens s e ≡ b → (openings older < s → has_opening s older ≡ false) → (b || has_opening s older) ≡ false
    by true holds before =
        let is = opens_next older e s lawful.1 holds in
        let number : openings older + 1 ≡ s = is.0 in
        let one : openings (e ∷ older) ≡ 1 + openings older = counted_openings ∙ ap (λ b. cond b 1 0 + openings older) is.1 in
        absurd (omega arith)
    by false fails before = before (omega (arith, counted_openings))

-- what opens a session has no earlier opening of it
opens_first : (older : History) (e : Entry) (s : ℕ) → IsLawful (e ∷ older) → opens s e ≡ true → has_opening s older ≡ false
opens_first older e s lawful holds =
    let number : openings older + 1 ≡ s = (opens_next older e s lawful.1 holds).0 in
    no_opening_yet s older lawful.0 (omega arith)

-- ---- later than an opening

still_open : (s : ℕ) (newer h : History) → has_opening s h ≡ true → has_opening s (newer ++ h) ≡ true
still_open s [] h holds = holds
still_open s (e ∷ newer) h holds = by (opens s e) (still_open s newer h holds)
  where
    by : (b : Bool) → has_opening s (newer ++ h) ≡ true → (b || has_opening s (newer ++ h)) ≡ true
    by true rest = refl
    by false rest = rest

base_stays : (s : ℕ) (newer h : History) → IsLawful (newer ++ h) → has_opening s h ≡ true → base_of s (newer ++ h) ≡ base_of s h
base_stays s [] h lawful holds = refl
base_stays s (e ∷ newer) h lawful holds = by (opens s e) refl (base_stays s newer h lawful.0 holds)
  where
    by : (b : Bool) → opens s e ≡ b → base_of s (newer ++ h) ≡ base_of s h → cond b (repository (newer ++ h)) (base_of s (newer ++ h)) ≡ base_of s h
    by true again rest = absurd (true≢false (sym (still_open s newer h holds) ∙ opens_first (newer ++ h) e s lawful again))
    by false other rest = rest

opened_after : (s : ℕ) (newer h : History) → IsLawful (newer ++ h) → has_opening s h ≡ false → has_opening s (newer ++ h) ≡ true
    → (repository h).count ≤ (base_of s (newer ++ h)).count
opened_after s [] h lawful fails holds = absurd (true≢false (sym holds ∙ fails))
opened_after s (e ∷ newer) h lawful fails holds = by (opens s e) holds (opened_after s newer h lawful.0 fails)
  where
    by : (b : Bool) → (b || has_opening s (newer ++ h)) ≡ true
        → (has_opening s (newer ++ h) ≡ true → (repository h).count ≤ (base_of s (newer ++ h)).count)
        → (repository h).count ≤ (cond b (repository (newer ++ h)) (base_of s (newer ++ h))).count
    by true some rest = count_later newer h lawful.0
    by false some rest = rest some

not_opened_by : (s : ℕ) (e : Entry) → is_opening e.step ≡ false → opens s e ≡ false
not_opened_by s e fails = and_right (is_of s e) (is_opening e.step) fails

tells : (newer : History) (s : ℕ) (e : Entry) (older : History) → IsLawful (newer ++ e ∷ older) → has_opening s (newer ++ e ∷ older) ≡ true
    → counts e.reply ≡ true
    → (b : Bool) → has_opening s older ≡ b → (b ≡ true) ↔ ((base_of s (newer ++ e ∷ older)).count < number_in e.reply)
tells newer s e older lawful holds counting true before =
    let there = older_is_lawful newer (e ∷ older) lawful in
    let is = counted older e there.1 counting in
    let other = not_opened_by s e is.no_opening in
    let base : base_of s (newer ++ e ∷ older) ≡ base_of s older =
    base_stays s newer (e ∷ older) lawful (still_open s (e ∷ []) older before) ∙ ap (λ b. cond b (repository older) (base_of s older)) other in
    let same : (base_of s (newer ++ e ∷ older)).count ≡ (base_of s older).count = ap (λ c. c.count) base in
    let below = base_count s older there.0 in
    let number : number_in e.reply ≡ (repository older).count + 1 = is.number in
    (λ _. omega arith, λ _. refl)
tells newer s e older lawful holds counting false before =
    let there = older_is_lawful newer (e ∷ older) lawful in
    let is = counted older e there.1 counting in
    let none : has_opening s (e ∷ older) ≡ false = ap (λ b. b || has_opening s older) (not_opened_by s e is.no_opening) ∙ before in
    let later = opened_after s newer (e ∷ older) lawful none holds in
    let number : number_in e.reply ≡ (repository older).count + 1 = is.number in
    let count : (repository (e ∷ older)).count ≡ (repository older).count + 1 = is.count in
    (λ fails. absurd (true≢false (sym fails)), λ below. absurd (omega arith))

pub numbers_tell_what_is_later : NumbersTellWhatIsLater
numbers_tell_what_is_later h s e older lawful holds at counting =
    let base : base_of s (at.newer ++ e ∷ older) ≡ base_of s h = ap (base_of s) (sym at.place) in
    subst (λ c. (has_opening s older ≡ true) ↔ (c.count < number_in e.reply)) base
    (tells at.newer s e older (subst IsLawful at.place lawful) (sym (ap (has_opening s) at.place) ∙ holds) counting (has_opening s older) refl)
