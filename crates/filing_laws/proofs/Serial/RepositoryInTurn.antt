-- The repository of a lawful history is that of the sequential repository after its turns, and the newest of its versions.
use Rattle.std.proofs.Common.{◌≡◌, ◌∙◌, ap, sym, refl, subst, ℕ, ◌+◌, Bool, true, false, cond, List, [], ◌∷◌, ◌++◌, Option, Some, None, true≢false, append-nil}
use Rattle.std.specs.List.{last_or}
use Rattle.std.specs.Option.{option_map_or}
use Rattle.filing_model.specs.Sessions.Repository.{Repository, nothing}
use Rattle.filing_model.specs.Sessions.Replies as reply
use Rattle.filing_model.specs.Sessions.Replies.{Reply}
use Rattle.filing_model.specs.Histories.History.{Step, Entry, History, repository}
use Rattle.filing_model.specs.Histories.Lawful.{IsLawful}
use Rattle.filing_model.specs.Histories.Versions.{counts, versions}
use Rattle.filing_model.proofs.Histories.NextReply.{older_is_lawful}
use Rattle.filing_laws.specs.Stamping.Numbers.{IsEntryOf}
use Rattle.filing_laws.specs.Serial.WholeRuns.{is_accepted, Turn, after_turn, after_turns, turn_in, turns_of}
use Rattle.filing_laws.proofs.Touching.EntryCases.{EntryCase, Quiet, Accepted, Passed, entry_case, passed_copy, quiet_repository}

-- ---- turns

after_more : (c : Repository) (ts us : List Turn) → after_turns c (ts ++ us) ≡ after_turns (after_turns c ts) us
after_more c [] us = refl
after_more c (t ∷ ts) us = after_more (after_turn c t) ts us

no_turn : (r : Reply) (session : Option ℕ) (step : Step) (older : History) → counts r ≡ false → turn_in r session step older ≡ []
no_turn (reply.Loaded n) session step older quiet = absurd (true≢false quiet)
no_turn (reply.Committed n) session step older quiet = absurd (true≢false quiet)
no_turn _ session step older quiet = refl

-- each entry is a turn or none
one_turn : (older : History) (e : Entry) → EntryCase older e → after_turns (repository older) (turn_in e.reply e.session e.step older) ≡ repository (e ∷ older)
one_turn older e (Quiet quiet) = ap (after_turns (repository older)) (no_turn e.reply e.session e.step older quiet) ∙ sym (quiet_repository older e quiet)
one_turn older e (Accepted load) = (λ i. after_turns (repository older) (turn_in (load.reply i) e.session (load.step i) older)) ∙ sym load.result
one_turn older e (Passed it) =
    (λ i. after_turns (repository older) (turn_in (it.reply i) (it.of_it i) e.step older))
    ∙ ap (λ (o : Option Reply). option_map_or (λ (refusal : Reply). repository older) o (record (passed_copy it.s older) { count = (repository older).count + 1 })) it.obeys
    ∙ sym it.result

pub in_turn : (h : History) → IsLawful h → repository h ≡ after_turns nothing (turns_of h)
in_turn [] lawful = refl
in_turn (e ∷ older) lawful =
    sym (one_turn older e (entry_case older e lawful.1))
    ∙ ap (λ c. after_turns c (turn_in e.reply e.session e.step older)) (in_turn older lawful.0)
    ∙ sym (after_more nothing (turns_of older) (turn_in e.reply e.session e.step older))

-- ---- the newest version

last_pushed : (o : Option Repository) (cs : List Repository) (c : Repository) → last_or o (cs ++ c ∷ []) ≡ Some c
last_pushed o [] c = refl
last_pushed o (d ∷ ds) c = last_pushed (Some d) ds c

pub newest : (h : History) → last_or None (versions h) ≡ Some (repository h)
newest [] = refl
newest (e ∷ older) = by (counts e.reply) refl (newest older)
  where
    by : (b : Bool) → counts e.reply ≡ b → last_or None (versions older) ≡ Some (repository older)
        → last_or None (versions older ++ cond b (repository (e ∷ older) ∷ []) []) ≡ Some (repository (e ∷ older))
    by true is rest = last_pushed None (versions older) (repository (e ∷ older))
    by false quiet rest = ap (last_or None) (append-nil (versions older)) ∙ rest ∙ ap Some (sym (quiet_repository older e quiet))

-- ---- every other entry

unchanged_by : (older : History) (e : Entry) → is_accepted e.step e.reply ≡ false → EntryCase older e → repository (e ∷ older) ≡ repository older
unchanged_by older e other (Quiet quiet) = quiet_repository older e quiet
unchanged_by older e other (Accepted load) = absurd (true≢false (sym (λ i. is_accepted (load.step i) (load.reply i)) ∙ other))
unchanged_by older e other (Passed it) = absurd (true≢false (sym (λ i. is_accepted (it.step i) (it.reply i)) ∙ other))

pub other_entries : (h : History) → IsLawful h → (e : Entry) (older : History) → IsEntryOf h e older → is_accepted e.step e.reply ≡ false → repository (e ∷ older) ≡ repository older
other_entries h lawful e older at other = unchanged_by older e other (entry_case older e (older_is_lawful at.newer (e ∷ older) (subst IsLawful at.place lawful)).1)
