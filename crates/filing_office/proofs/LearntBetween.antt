-- A desk may take its steps some at a time, and let outcomes go once its reviewer has learnt their receipts.
-- Its steps then become what they become where nothing is let go.
use Rattle.std.proofs.Common.{◌≡◌, ◌∙◌, ap, sym, subst, refl, arith, ℕ, ◌+◌, ◌≤◌, cond, Bool, true, false, List, [], ◌∷◌}
use Rattle.std.proofs.Common.{◌++◌, length, append_assoc, append-nil, Option, Some, None, string_bytes}
use Rattle.std.specs.Prelude.{All, Ok, Err}
use Rattle.std.proofs.lemmas.List.Elements.{All-append}
use mathlib.Core.List.{IsPrefix}
use Rattle.filing_model.specs.Common.Text.{Text}
use Rattle.filing_model.specs.Common.TextMap.{TextMap, get, insert, remove}
use Rattle.filing_model.specs.Sessions.Repository.{Repository}
use Rattle.filing_model.specs.Histories.History.{Step, Load, Open, Ask, Commit, Close}
use Rattle.filing_model.specs.declared.kind.Kind.{Kind}
use Rattle.filing_model.specs.declared.kind.Kind.TheVariants.{Review, Amend}
use Rattle.filing_step.specs.Steps.{step_of}
use Rattle.filing_publish.proofs.Beginnings.{prefix_self, prefix_trans}
use Rattle.filing_office.specs.declared.outcome.Outcome.{Outcome}
use Rattle.filing_office.specs.declared.outcome.Outcome.TheVariants.{Answered, NameInUse, NoSession, NoMemory}
use Rattle.filing_office.specs.declared.session_place.SessionPlace.{SessionPlace}
use Rattle.filing_office.specs.declared.session_place.SessionPlace.TheVariants as place
use Rattle.filing_office.specs.declared.work.DeskStep.{DeskStep}
use Rattle.filing_office.specs.declared.answer.Answer.{Answer}
use Rattle.filing_office.specs.Tallies.{IsCounted}
use Rattle.filing_office.specs.Runs.{RunState, IsTaken, IsWithin, Loads, ReviewOpens, OfficeOpens, Opens, OpensUnder}
use Rattle.filing_office.specs.Runs.{GoesOnAt, StepsUnder, Goes, Runs, Learns, names_after, is_no_memory}
use Rattle.filing_office.proofs.Learning.{all_within_more, last_number, prefix_length}

-- a reviewer has seen at least what it had, and then what else it has learnt
abbrev pub SeenOn : Option (List Repository) → Option (List Repository) → Type 0
SeenOn None None = Unit {0}
SeenOn (Some seen) (Some more) = IsPrefix seen more
SeenOn None (Some more) = ⊥
SeenOn (Some seen) None = ⊥

-- the receipts of these outcomes are among what was seen
abbrev pub Known : {J : Type 0} → Option (List Repository) → List (Outcome J) → Type 0
Known None gone = Unit {0}
Known (Some seen) gone = All (IsWithin (length seen)) gone

-- a state is another but for what its reviewer has learnt besides, among which are the receipts of these outcomes
pub record IsAhead {J : Type 0} (left now : RunState) (gone : List (Outcome J)) : Type 0 where
  pub tally : now.tally ≡ left.tally
  pub names : now.names ≡ left.names
  pub seen : SeenOn left.seen now.seen
  pub known : Known now.seen gone

seen_refl : (seen : Option (List Repository)) → SeenOn seen seen
seen_refl None = tt
seen_refl (Some seen) = prefix_self seen

nothing_known : (J : Type 0) (seen : Option (List Repository)) → Known {J = J} seen []
nothing_known J None = tt
nothing_known J (Some seen) = λ k d lt. absurd (omega (arith, lt))

pub not_ahead : (J : Type 0) (s : RunState) → IsAhead {J = J} s s []
not_ahead J s = record { tally = refl; names = refl; seen = seen_refl s.seen; known = nothing_known J s.seen }

no_cons : {X : Type 0} (x : X) (xs : List X) → (x ∷ xs ≡ []) → ⊥
no_cons x xs is = absurd (cc is)

seen_more : (left : Option (List Repository)) (seen now_seen : List Repository) → SeenOn left (Some seen) → IsPrefix seen now_seen → SeenOn left (Some now_seen)
seen_more None seen now_seen on goes_on = absurd on
seen_more (Some had) seen now_seen on goes_on = prefix_trans had seen now_seen on goes_on

-- the state with this reviewer
abbrev pub seeing : Option (List Repository) → RunState → RunState
seeing seen t = record { tally = t.tally; seen = seen; names = t.names }

module _ {J : Type 0} (left now mid : RunState) (gone kept : List (Outcome J)) (ahead : IsAhead left now gone) where
  -- what is known of a state of the run itself, it is ahead of that in which nothing was learnt between
  abbrev Behind : (RunState → Type 0) → Type 0
  Behind holds = (after : RunState) × holds after × IsAhead after mid gone

  same_ahead : mid ≡ now → IsAhead left mid gone
  same_ahead is = subst (λ s. IsAhead left s gone) (sym is) ahead

  renamed_ahead : (names names' : TextMap SessionPlace) → names ≡ names' → mid ≡ record now { names = names }
      → IsAhead (record left { names = names' }) mid gone
  renamed_ahead names names' same is = record {
    tally = ap (λ (s : RunState). s.tally) is ∙ ahead.tally;
    names = ap (λ (s : RunState). s.names) is ∙ same;
    seen = subst (λ seen. SeenOn left.seen seen) (sym (ap (λ (s : RunState). s.seen) is)) ahead.seen;
    known = subst (λ seen. Known seen gone) (sym (ap (λ (s : RunState). s.seen) is)) ahead.known;
  }

  -- a step under the lock
  taken_ahead : (a : Answer J) (names : TextMap SessionPlace) → IsTaken now mid a names → IsAhead (seeing left.seen mid) mid gone
  taken_ahead a names taken = record {
    tally = refl;
    names = refl;
    seen = subst (λ seen. SeenOn left.seen seen) (sym taken.seen) ahead.seen;
    known = subst (λ seen. Known seen gone) (sym taken.seen) ahead.known;
  }

  taken_behind : (a : Answer J) (names names' : TextMap SessionPlace) → names ≡ names' → IsTaken now mid a names → IsTaken left (seeing left.seen mid) a names'
  taken_behind a names names' same taken = record {
    counted = subst (λ t. IsCounted t mid.tally a) ahead.tally taken.counted;
    seen = refl;
    names_are = taken.names_are ∙ same;
  }

  loads_behind : (o : Outcome J) → Loads now mid o → Behind (λ after. Loads left after o)
  loads_behind (Answered a) goes = (
    seeing left.seen mid,
    (goes.0, taken_behind a now.names left.names ahead.names goes.1),
    taken_ahead a now.names goes.1,
  )
  loads_behind NameInUse goes = absurd goes
  loads_behind NoSession goes = absurd goes
  loads_behind NoMemory goes = (left, refl, same_ahead goes)

  office_opens_behind : (name : Text) (o : Outcome J) → OfficeOpens now mid name o → Behind (λ after. OfficeOpens left after name o)
  office_opens_behind name (Answered a) goes =
      let (number, session, opened, taken) = goes in
      let same : insert now.names name (place.Office number) ≡ insert left.names name (place.Office number) =
      ap (λ names. insert names name (place.Office number)) ahead.names in (
        seeing left.seen mid,
        (number, session, opened, taken_behind a _ _ same taken),
        taken_ahead a _ taken,
      )
  office_opens_behind name NameInUse goes = absurd goes
  office_opens_behind name NoSession goes = absurd goes
  office_opens_behind name NoMemory goes = (left, refl, same_ahead goes)

  -- an opening of the reviewer, which has seen what it had and what it learnt
  module _ (name : Text) (had seen : List Repository) (begins : IsPrefix had seen) (known : All (IsWithin (length seen)) gone) where
    review_opens_behind : (o : Outcome J) → ReviewOpens now mid kept name seen o → Behind (λ after. ReviewOpens left after (gone ++ kept) name had o)
    review_opens_behind (Answered a) goes =
        let (reviewed, last, now_seen, opens, is) = goes in
        let many : length seen ≤ last.count + 1 =
        omega (arith, prefix_length seen now_seen opens.goes_on, last_number now_seen last opens.chain opens.newest) in
        let after : RunState = record left { seen = Some now_seen; names = insert left.names name (place.Review last) } in (
          after,
          (
            reviewed,
            last,
            now_seen,
            record {
              goes_on = prefix_trans had seen now_seen begins opens.goes_on;
              newest = opens.newest;
              chain = opens.chain;
              not_older = All-append (IsWithin (last.count + 1)) gone kept
                  (all_within_more (length seen) (last.count + 1) gone many known) opens.not_older;
            },
            refl,
          ),
          record {
            tally = ap (λ (s : RunState). s.tally) is ∙ ahead.tally;
            names = ap (λ (s : RunState). s.names) is ∙ ap (λ names. insert names name (place.Review last)) ahead.names;
            seen = subst (λ seen. SeenOn (Some now_seen) seen) (sym (ap (λ (s : RunState). s.seen) is)) (prefix_self now_seen);
            known = subst (λ seen. Known seen gone) (sym (ap (λ (s : RunState). s.seen) is))
                (all_within_more (length seen) (length now_seen) gone (prefix_length seen now_seen opens.goes_on) known);
          },
        )
    review_opens_behind NameInUse goes = absurd goes
    review_opens_behind NoSession goes = absurd goes
    review_opens_behind NoMemory goes =
        let (now_seen, goes_on, is) = goes in (
          record left { seen = Some now_seen },
          (now_seen, prefix_trans had seen now_seen begins goes_on, refl),
          record {
            tally = ap (λ (s : RunState). s.tally) is ∙ ahead.tally;
            names = ap (λ (s : RunState). s.names) is ∙ ahead.names;
            seen = subst (λ seen. SeenOn (Some now_seen) seen) (sym (ap (λ (s : RunState). s.seen) is)) (prefix_self now_seen);
            known = subst (λ seen. Known seen gone) (sym (ap (λ (s : RunState). s.seen) is))
                (all_within_more (length seen) (length now_seen) gone (prefix_length seen now_seen goes_on) known);
          },
        )

  reviewer_opens_behind : (name : Text) (o : Outcome J) (had seen : Option (List Repository)) → SeenOn had seen → Known seen gone
      → Opens now mid kept name Review seen o → Behind (λ after. Opens left after (gone ++ kept) name Review had o)
  reviewer_opens_behind name o None None on known goes = office_opens_behind name o goes
  reviewer_opens_behind name o (Some had) (Some seen) on known goes = review_opens_behind name had seen on known o goes
  reviewer_opens_behind name o None (Some seen) on known goes = absurd on
  reviewer_opens_behind name o (Some had) None on known goes = absurd on

  opens_behind : (name : Text) (kind : Kind) (o : Outcome J) → Opens now mid kept name kind now.seen o
      → Behind (λ after. Opens left after (gone ++ kept) name kind left.seen o)
  opens_behind name Review o goes = reviewer_opens_behind name o left.seen now.seen ahead.seen ahead.known goes
  opens_behind name Amend o goes = office_opens_behind name o goes

  opens_under_behind : (name : Text) (kind : Kind) (p : Option SessionPlace) (o : Outcome J) → OpensUnder now mid kept name kind p o
      → Behind (λ after. OpensUnder left after (gone ++ kept) name kind p o)
  opens_under_behind name kind (Some p) o goes = (left, (goes.0, refl), same_ahead goes.1)
  opens_under_behind name kind None o goes = opens_behind name kind o goes

  goes_on_behind : (name : Text) (step : Step) (p : SessionPlace) (o : Outcome J) → GoesOnAt now mid name step p o
      → Behind (λ after. GoesOnAt left after name step p o)
  goes_on_behind name step (place.Office number) (Answered a) goes = (
    seeing left.seen mid,
    (goes.0, taken_behind a _ _ (ap (names_after step name) ahead.names) goes.1),
    taken_ahead a _ goes.1,
  )
  goes_on_behind name step (place.Office number) NameInUse goes = absurd goes
  goes_on_behind name step (place.Office number) NoSession goes = (
    record left { names = remove left.names name },
    refl,
    renamed_ahead (remove now.names name) (remove left.names name) (ap (λ names. remove names name) ahead.names) goes,
  )
  goes_on_behind name step (place.Office number) NoMemory goes = (left, refl, same_ahead goes)
  goes_on_behind name step (place.Review last) (Answered a) goes = (
    record left { names = names_after step name left.names },
    (goes.0, refl),
    renamed_ahead (names_after step name now.names) (names_after step name left.names) (ap (names_after step name) ahead.names) goes.1,
  )
  goes_on_behind name step (place.Review last) NameInUse goes = absurd goes
  goes_on_behind name step (place.Review last) NoSession goes = absurd goes
  goes_on_behind name step (place.Review last) NoMemory goes = (left, refl, same_ahead goes)

  steps_under_behind : (name : Text) (step : Step) (p : Option SessionPlace) (o : Outcome J) → StepsUnder now mid name step p o
      → Behind (λ after. StepsUnder left after name step p o)
  steps_under_behind name step (Some p) o goes = goes_on_behind name step p o goes
  steps_under_behind name step None o goes = (left, (goes.0, refl), same_ahead goes.1)

  under : (name : Text) (step : Step) (o : Outcome J) → StepsUnder now mid name step (get now.names name) o
      → Behind (λ after. StepsUnder left after name step (get left.names name) o)
  under name step o goes =
      steps_under_behind name step (get left.names name) o
      (subst (λ names. StepsUnder now mid name step (get names name) o) ahead.names goes)

  -- one step
  pub goes_behind : (name : Text) (step : Step) (o : Outcome J) → Goes now mid kept name step o
      → Behind (λ after. Goes left after (gone ++ kept) name step o)
  goes_behind name (Load report r) o goes = loads_behind o goes
  goes_behind name (Open kind) o goes =
      opens_under_behind name kind (get left.names name) o
      (subst (λ names. OpensUnder now mid kept name kind (get names name) o) ahead.names goes)
  goes_behind name (Ask call) o goes = under name (Ask call) o goes
  goes_behind name Commit o goes = under name Commit o goes
  goes_behind name Close o goes = under name Close o goes

-- steps, one after another
pub runs_behind : {J : Type 0} (left now after : RunState) (gone kept : List (Outcome J)) (steps : List DeskStep) (os : List (Outcome J))
    → IsAhead left now gone → Runs now after kept steps os
    → (end : RunState) × Runs left end (gone ++ kept) steps os × IsAhead end after gone
runs_behind left now after gone kept [] os ahead runs = (left, (runs.0, refl), subst (λ s. IsAhead left s gone) (sym runs.1) ahead)
runs_behind left now after gone kept (x ∷ xs) [] ahead runs = absurd runs
runs_behind {J} left now after gone kept (x ∷ xs) (o ∷ os) ahead runs =
    let (mid, goes, rest) = runs in
    let (next, goes_too, further) = goes_behind left now mid gone kept ahead (string_bytes x.name) (step_of x.step) o goes in
    by (is_no_memory o) mid next goes_too further rest (λ more. runs_behind next mid after gone (kept ++ o ∷ []) xs os further more)
  where
    by : (b : Bool) (mid next : RunState) → Goes left next (gone ++ kept) (string_bytes x.name) (step_of x.step) o → IsAhead next mid gone
        → cond b ((os ≡ []) × (after ≡ mid)) (Runs mid after (kept ++ o ∷ []) xs os)
        → (Runs mid after (kept ++ o ∷ []) xs os → (end : RunState) × Runs next end (gone ++ (kept ++ o ∷ [])) xs os × IsAhead end after gone)
        → (end : RunState)
        × ((between : RunState) × Goes left between (gone ++ kept) (string_bytes x.name) (step_of x.step) o
        × cond b ((os ≡ []) × (end ≡ between)) (Runs between end ((gone ++ kept) ++ o ∷ []) xs os))
        × IsAhead end after gone
    by true mid next goes_too further rest others =
        (next, (next, goes_too, (rest.0, refl)), subst (λ s. IsAhead next s gone) (sym rest.1) further)
    by false mid next goes_too further rest others =
        let (end, run, last) = others rest in
        (end, (next, goes_too, subst (λ told. Runs next end told xs os) (sym (append_assoc gone kept (o ∷ []))) run), last)

-- ---- runs one after another

-- memory was not wanted for any
abbrev pub NoneStarved : {J : Type 0} → List (Outcome J) → Type 0
NoneStarved [] = Unit {0}
NoneStarved (o ∷ os) = (is_no_memory o ≡ false) × NoneStarved os

pub runs_further : {J : Type 0} (s mid t : RunState) (told : List (Outcome J)) (xs : List DeskStep) (os : List (Outcome J))
    (ys : List DeskStep) (ps : List (Outcome J))
    → NoneStarved os → Runs s mid told xs os → Runs mid t (told ++ os) ys ps → Runs s t told (xs ++ ys) (os ++ ps)
runs_further s mid t told [] [] ys ps none first second =
    subst (λ u. Runs u t told ys ps) first.1 (subst (λ os. Runs mid t os ys ps) (append-nil told) second)
runs_further s mid t told [] (o ∷ os) ys ps none first second = absurd (no_cons o os first.0)
runs_further s mid t told (x ∷ xs) [] ys ps none first second = absurd first
runs_further s mid t told (x ∷ xs) (o ∷ os) ys ps none first second =
    let (next, goes, rest) = first in
    let more : Runs next mid (told ++ o ∷ []) xs os = subst (λ b. cond b ((os ≡ []) × (mid ≡ next)) (Runs next mid (told ++ o ∷ []) xs os)) none.0 rest in
    let after : Runs mid t ((told ++ o ∷ []) ++ os) ys ps = subst (λ all. Runs mid t all ys ps) (sym (append_assoc told (o ∷ []) os)) second in (
      next,
      goes,
      subst (λ b. cond b ((os ++ ps ≡ []) × (t ≡ next)) (Runs next t (told ++ o ∷ []) (xs ++ ys) (os ++ ps))) (sym none.0)
          (runs_further next mid t (told ++ o ∷ []) xs os ys ps none.1 more after),
    )

-- ---- receipts that are learnt between

pub learns_ahead : {J : Type 0} (left now after : RunState) (gone kept : List (Outcome J)) (seen : Option (List Repository)) (A E : Type 0) (x : A)
    → IsAhead left now gone → now.seen ≡ seen → Learns {A = A} {E = E} now after kept seen (Ok x) → IsAhead left after (gone ++ kept)
learns_ahead left now after gone kept None A E x ahead had learns = record {
  tally = ap (λ (s : RunState). s.tally) learns ∙ ahead.tally;
  names = ap (λ (s : RunState). s.names) learns ∙ ahead.names;
  seen = subst (λ seen. SeenOn left.seen seen) (sym (ap (λ (s : RunState). s.seen) learns)) ahead.seen;
  known = subst (λ seen. Known seen (gone ++ kept)) (sym (ap (λ (s : RunState). s.seen) learns ∙ had)) tt;
}
learns_ahead left now after gone kept (Some seen) A E x ahead had learns =
    let (now_seen, goes_on, all, is) = learns in record {
      tally = ap (λ (s : RunState). s.tally) is ∙ ahead.tally;
      names = ap (λ (s : RunState). s.names) is ∙ ahead.names;
      seen = subst (λ s. SeenOn left.seen s) (sym (ap (λ (s : RunState). s.seen) is))
          (seen_more left.seen seen now_seen (subst (λ s. SeenOn left.seen s) had ahead.seen) goes_on);
      known = subst (λ s. Known s (gone ++ kept)) (sym (ap (λ (s : RunState). s.seen) is))
          (All-append (IsWithin (length now_seen)) gone kept
          (all_within_more (length seen) (length now_seen) gone (prefix_length seen now_seen goes_on) (subst (λ s. Known s gone) had ahead.known)) all);
    }

-- where memory was wanted for it, some may be learnt
pub learns_some_ahead : {J : Type 0} (left now after : RunState) (gone kept : List (Outcome J)) (seen : Option (List Repository)) (A E : Type 0) (e : E)
    → IsAhead left now gone → now.seen ≡ seen → Learns {A = A} {E = E} now after kept seen (Err e) → IsAhead left after gone
learns_some_ahead left now after gone kept None A E e ahead had learns = subst (λ s. IsAhead left s gone) (sym learns) ahead
learns_some_ahead left now after gone kept (Some seen) A E e ahead had learns =
    let (now_seen, goes_on, is) = learns in record {
      tally = ap (λ (s : RunState). s.tally) is ∙ ahead.tally;
      names = ap (λ (s : RunState). s.names) is ∙ ahead.names;
      seen = subst (λ s. SeenOn left.seen s) (sym (ap (λ (s : RunState). s.seen) is))
          (seen_more left.seen seen now_seen (subst (λ s. SeenOn left.seen s) had ahead.seen) goes_on);
      known = subst (λ s. Known s gone) (sym (ap (λ (s : RunState). s.seen) is))
          (all_within_more (length seen) (length now_seen) gone (prefix_length seen now_seen goes_on) (subst (λ s. Known s gone) had ahead.known));
    }
