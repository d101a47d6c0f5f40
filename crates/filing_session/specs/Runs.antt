-- What is known of a session after any calls. The project's own.
use Rattle.std.specs.Prelude.{◌≡◌, Bool, true, false, ◌||◌, List, [], ◌∷◌, map, Option, is_some}
use Rattle.std.specs.List.{filter}
use Rattle.filing_model.specs.Common.Text.{Text}
use Rattle.filing_model.specs.Common.TextMap.{empty, from_entries}
use Rattle.filing_model.specs.Oim.Facts.{Fact}
use Rattle.filing_model.specs.Sessions.Repository.{Repository, fact_at}
use Rattle.filing_model.specs.Sessions.Changes.{ReportChange, Change, laid_over}
use Rattle.filing_model.specs.Sessions.Calls.{Call}
use Rattle.filing_model.specs.Sessions.Sessions.{solo_copy, solo_replies}
use Rattle.filing_model.specs.Histories.Touches.{things_read, net_change}
use Rattle.filing_model.specs.declared.kind.Kind.{Kind}
use Rattle.filing_model.specs.declared.kind.Kind.TheVariants.{Review, Amend}
use Rattle.filing_session.specs.Effects.{effect_on, with_effect}
use Rattle.filing_session.specs.States.{SessionState, opened, called, after_calls, replies_to}

-- ---- what is told before is what is done

abbrev pub EachEffectIsItsCall : Type 0
EachEffectIsItsCall = (ask : Call) (s : SessionState) → with_effect (effect_on ask s) s ≡ called ask s

-- ---- whole runs

-- whether a put of an identifier is more than the removal of what the base does not have
abbrev pub is_put : Repository → Text → Text × Option Fact → Bool
is_put base name put = is_some (fact_at base name put.0) || is_some put.1

abbrev pub pruned_report : Repository → Text × ReportChange → Text × ReportChange
pruned_report base e = (e.0, record e.1 { facts = from_entries (filter (is_put base e.0) e.1.facts.entries) })

-- whether a list has any element
abbrev pub is_more : {X : Type 0} → List X → Bool
is_more [] = false
is_more (x ∷ xs) = true

-- whether anything is put, removed or declared
abbrev pub changes_something : Text × ReportChange → Bool
changes_something e = is_some e.1.declared || is_more e.1.facts.entries

-- the change without removals of what the base does not have
abbrev pub pruned : Repository → Change → Change
pruned base change = from_entries (filter changes_something (map (pruned_report base) change.entries))

-- the copy, the things read and the replies are those of the solo run, whatever was staged before each call
pub record RunsAlone (kind : Kind) (base : Repository) (calls : List Call) : Type 0 where
  pub copy : (after_calls calls (opened kind base)).copy ≡ solo_copy kind base calls
  pub reads : (after_calls calls (opened kind base)).reads ≡ things_read kind base calls
  pub replies : replies_to calls (opened kind base) ≡ solo_replies kind base calls

abbrev pub EachSessionRunsAlone : Type 0
EachSessionRunsAlone = (kind : Kind) (base : Repository) (calls : List Call) → RunsAlone kind base calls

-- an amendment's change is its net change, but for removals of what the base does not have. Laid over its base it makes its copy
pub record StagesItsNetChange (base : Repository) (calls : List Call) : Type 0 where
  pub net : pruned base (after_calls calls (opened Amend base)).change
      ≡ net_change base calls (solo_replies Amend base calls)
  pub makes_the_copy : laid_over (after_calls calls (opened Amend base)).change base
      ≡ (after_calls calls (opened Amend base)).copy

abbrev pub EachAmendmentStagesItsNetChange : Type 0
EachAmendmentStagesItsNetChange = (base : Repository) (calls : List Call) → StagesItsNetChange base calls

abbrev pub EachReviewStagesNothing : Type 0
EachReviewStagesNothing = (base : Repository) (calls : List Call)
    → (after_calls calls (opened Review base)).change ≡ empty
