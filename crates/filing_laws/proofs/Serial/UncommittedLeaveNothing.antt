-- A session that was not committed leaves the repository that would be there without its entries.
use Rattle.std.proofs.Common.{◌≡◌, ◌∙◌, ap, sym, refl, subst, ℕ, ◌+◌, ◌==◌, arith, Bool, true, false, cond, not}
use Rattle.std.proofs.Common.{◌&&◌, [], ◌∷◌, ◌++◌, Option, Some, None, eq-eqb, eqb-true, ne_eqb, true≢false}
use Rattle.std.proofs.Common.{append-nil}
use Rattle.std.specs.Option.{option_map_or}
use Rattle.filing_model.specs.Sessions.Repository.{Repository}
use Rattle.filing_model.specs.Sessions.Replies as reply
use Rattle.filing_model.specs.Sessions.Replies.{Reply}
use Rattle.filing_model.specs.Histories.History.{Step, Load, Open, Ask, Commit, Close, Entry, History, Status, Unknown, Live}
use Rattle.filing_model.specs.Histories.History.{Ended, is_of, call_in, status_after, status_of, calls_of, repository}
use Rattle.filing_model.specs.Histories.History.{effect_of, committed}
use Rattle.filing_model.specs.Histories.Lawful.{IsLawful, IsNextStep, IsOngoing, openings}
use Rattle.filing_laws.specs.Serial.WholeRuns.{is_commit, told_at_commit, IsCommitted, without}
use Rattle.filing_model.specs.declared.kind.Kind.{Kind}
use Rattle.filing_laws.proofs.Opening.NotYetOpened.{not_opened}
use Rattle.filing_laws.proofs.Opening.OwnReplies.{number_known}
use Rattle.filing_laws.proofs.Touching.EntryCases.{EntryCase, Quiet, Accepted, Passed, entry_case, quiet_repository}
use Rattle.filing_laws.proofs.Serial.SessionRuns.{IsAt, part_of, where_it_stands}

-- ---- what is known of another session

-- an entry of one session is not of another
apart : (s n : ℕ) → (n == s) ≡ false → (session : Option ℕ) → option_map_or (λ m. m == s) session false ≡ true → option_map_or (λ m. m == n) session false ≡ false
apart s n other None mine = refl
apart s n other (Some m) mine =
    let same : m ≡ s = eqb-true m s mine in
    ne_eqb m n (λ also. let alike : n ≡ s = sym also ∙ same in absurd (true≢false (sym (eq-eqb n s alike) ∙ other)))

module _ (s n : ℕ) (other : (n == s) ≡ false) where
  status_without : (h : History) → status_of n (without s h) ≡ status_of n h
  status_without [] = refl
  status_without (e ∷ older) = by (is_of s e) refl (status_without older)
    where
      by : (mine : Bool) → is_of s e ≡ mine → status_of n (without s older) ≡ status_of n older → status_of n (cond (not mine) (e ∷ without s older) (without s older)) ≡ status_of n (e ∷ older)
      by true mine rest = rest ∙ sym (ap (λ b. cond b (status_after e.step (status_of n older)) (status_of n older)) (apart s n other e.session mine))
      by false not_mine rest = ap (λ status. cond (is_of n e) (status_after e.step status) status) rest

  calls_without : (h : History) → calls_of n (without s h) ≡ calls_of n h
  calls_without [] = refl
  calls_without (e ∷ older) = by (is_of s e) refl (calls_without older)
    where
      by : (mine : Bool) → is_of s e ≡ mine → calls_of n (without s older) ≡ calls_of n older → calls_of n (cond (not mine) (e ∷ without s older) (without s older)) ≡ calls_of n (e ∷ older)
      by true mine rest = rest ∙ sym (ap (λ b. calls_of n older ++ cond b (call_in e.step) []) (apart s n other e.session mine) ∙ append-nil (calls_of n older))
      by false not_mine rest = ap (λ calls. calls ++ cond (is_of n e) (call_in e.step) []) rest

-- an entry of another session has the same effect
effect_without : (s : ℕ) (r : Reply) (session : Option ℕ) (step : Step) (older : History) (c : Repository)
    → option_map_or (λ n. n == s) session false ≡ false → effect_of r session step (without s older) c ≡ effect_of r session step older c
effect_without s (reply.Committed n) None step older c other = refl
effect_without s (reply.Committed n) (Some m) step older c other = λ i. committed (status_without s m other older i) c (calls_without s m other older i)
effect_without s _ session step older c other = refl

-- ---- a session that was not committed

not_told : (status : Status) (older : History) (s : ℕ) → IsLawful older → status_of s older ≡ status → (status ≡ Ended → ⊥) → told_at_commit s older ≡ None
not_told Unknown older s lawful is going = (subst (λ status. IsAt status (part_of s older)) is (where_it_stands older s lawful)).told
not_told (Live kind) older s lawful is going = (subst (λ status. IsAt status (part_of s older)) is (where_it_stands older s lawful)).told
not_told Ended older s lawful is going = absurd (going refl)

live_is_not_ended : (older : History) (session : Option ℕ) (s n : ℕ) (k : Kind) → IsOngoing older session n k → option_map_or (λ n. n == s) session false ≡ true → status_of s older ≡ Ended → ⊥
live_is_not_ended older session s n k ongoing mine ended =
    let differ : Live k ≡ Ended = sym ongoing.live ∙ ap (λ m. status_of m older) (number_known session n s ongoing.of_it mine) ∙ ended in
    cc

-- before an entry of its own a session has not ended
going_before : (older : History) (session : Option ℕ) (step : Step) (r : Reply) (s : ℕ) → IsLawful older → IsNextStep older session step r
    → option_map_or (λ n. n == s) session false ≡ true → status_of s older ≡ Ended → ⊥
going_before older session (Load name x) r s lawful next mine ended = absurd (true≢false (sym mine ∙ ap (λ o. option_map_or (λ n. n == s) o false) next.0))
going_before older session (Open k) r s lawful next mine ended =
    let fresh = not_opened older s lawful (let same : openings older + 1 ≡ s = number_known session (openings older + 1) s next.0 mine in omega arith) in
    let differ : Unknown ≡ Ended = sym fresh.status ∙ ended in
    cc
going_before older session (Ask call) r s lawful (n, k, ongoing, is) mine ended = live_is_not_ended older session s n k ongoing mine ended
going_before older session Commit r s lawful (n, k, ongoing, is) mine ended = live_is_not_ended older session s n k ongoing mine ended
going_before older session Close r s lawful (n, k, ongoing, is) mine ended = live_is_not_ended older session s n k ongoing mine ended

told_before : (older : History) (e : Entry) (s : ℕ) → IsLawful (e ∷ older) → is_of s e ≡ true → told_at_commit s older ≡ None
told_before older e s lawful mine = not_told (status_of s older) older s lawful.0 refl (going_before older e.session e.step e.reply s lawful.0 lawful.1 mine)

not_committed_before : (older : History) (e : Entry) (s : ℕ) → IsLawful (e ∷ older) → is_of s e ≡ true → ¬ IsCommitted s older
not_committed_before older e s lawful mine (n, told) = let differ : None ≡ Some (reply.Committed n) = sym (told_before older e s lawful mine) ∙ told in cc

-- its own entry changes nothing
own_entry : (older : History) (e : Entry) (s : ℕ) → IsLawful (e ∷ older) → is_of s e ≡ true → ¬ IsCommitted s (e ∷ older) → EntryCase older e → repository (e ∷ older) ≡ repository older
own_entry older e s lawful mine not_committed (Quiet quiet) = quiet_repository older e quiet
own_entry older e s lawful mine not_committed (Accepted load) =
    let next : IsNextStep older e.session (Load load.name load.report) e.reply = subst (λ step. IsNextStep older e.session step e.reply) load.step lawful.1 in
    absurd (true≢false (sym mine ∙ ap (λ o. option_map_or (λ n. n == s) o false) next.0))
own_entry older e s lawful mine not_committed (Passed it) =
    absurd (not_committed ((repository older).count + 1, (λ i. cond (mine i && is_commit (it.step i)) (Some (it.reply i)) (told_at_commit s older))))

pub leaves : (h : History) (s : ℕ) → IsLawful h → ¬ IsCommitted s h → repository (without s h) ≡ repository h
leaves [] s lawful not_committed = refl
leaves (e ∷ older) s lawful not_committed = by (is_of s e) refl (leaves older s lawful.0)
  where
    by : (mine : Bool) → is_of s e ≡ mine → (¬ IsCommitted s older → repository (without s older) ≡ repository older)
        → repository (cond (not mine) (e ∷ without s older) (without s older)) ≡ repository (e ∷ older)
    by true mine rest = rest (not_committed_before older e s lawful mine) ∙ sym (own_entry older e s lawful mine not_committed (entry_case older e lawful.1))
    by false other rest =
        effect_without s e.reply e.session e.step older (repository (without s older)) other
        ∙ ap (effect_of e.reply e.session e.step older) (rest (λ p. not_committed (p.0, ap (λ b. cond (b && is_commit e.step) (Some e.reply) (told_at_commit s older)) other ∙ p.1)))
