-- What is told of a call before it is done is what the call does.
use Rattle.std.proofs.Common.{◌≡◌, ◌∙◌, refl, Bool, true, false, cond, Option, Some, None, true≢false}
use Rattle.std.specs.Option.{option_map_or}
use Rattle.filing_model.specs.Oim.Reports.{Report}
use Rattle.filing_model.specs.Sessions.Repository.{Repository, report_at}
use Rattle.filing_model.specs.Sessions.Changes.{Change}
use Rattle.filing_model.specs.Sessions.Calls.{Call, report_of_call}
use Rattle.filing_model.specs.Sessions.Replies as reply
use Rattle.filing_model.specs.Sessions.Replies.{Reply}
use Rattle.filing_model.specs.Sessions.Things as thing
use Rattle.filing_model.specs.Sessions.Things.{Thing}
use Rattle.filing_model.specs.Sessions.Sessions.{Answer, answer_in, answer, may_make}
use Rattle.filing_model.specs.Histories.Touches.{read_in, read_by}
use Rattle.filing_model.specs.declared.kind.Kind.{Kind}
use Rattle.filing_laws.proofs.Agreement.AnswerCases.{finds_none, stages, each_answer}
use Rattle.filing_session.specs.States.{SessionState, with_thing, change_after}
use Rattle.filing_session.specs.Effects.{Effect, staged_by, effect_of, effect_in, no_effect, with_effect}
use Rattle.filing_session.specs.Runs.{EachEffectIsItsCall}

-- ---- by parts

pub effect_by_parts : (kind : Kind) (ask : Call) (copy : Repository) (change : Change) (may : Bool) → may ≡ may_make kind ask
    → cond may (effect_in ask copy change (report_at copy (report_of_call ask))) no_effect ≡ effect_of kind ask copy change
effect_by_parts kind ask copy change may is = by may (report_at copy (report_of_call ask)) ∙ (λ i. made (is i) (report_at copy (report_of_call ask)))
  where
    made : Bool → Option Report → Effect
    made may o = record {
      reply = (cond may (option_map_or (answer_in copy ask) o (reply.NoReport, copy)) (reply.ReadOnly, copy)).0;
      thing = cond may (option_map_or (read_in ask) o (Some (thing.Report (report_of_call ask)))) None;
      staged = staged_by ask (cond may (option_map_or (answer_in copy ask) o (reply.NoReport, copy)) (reply.ReadOnly, copy)) change;
    }

    by : (may : Bool) (o : Option Report) → cond may (effect_in ask copy change o) no_effect ≡ made may o
    by false o = refl
    by true None = refl
    by true (Some r) = refl

-- ---- what is done

abbrev IsDone : SessionState → Option Thing → Call → Answer → Type 0
IsDone s read ask a = with_effect (record { reply = a.0; thing = read; staged = staged_by ask a s.change }) s
    ≡ record s { copy = a.1; change = change_after ask a.0 a.1 s.change; reads = with_thing s.reads read }

done : (s : SessionState) (read : Option Thing) (ask : Call) → IsDone s read ask (answer s.kind ask s.copy)
done s read ask = each_answer (IsDone s read) s.kind ask s.copy (record {
  told = told;
  found = λ name id r fact is some. refl;
  put = λ name id raw r fact is fits. refl;
  removed = λ name id r is. refl;
  declared = λ name value r is. refl;
})
  where
    told : (ask : Call) (r : Reply) → stages r ≡ false → finds_none r ≡ true → IsDone s read ask (r, s.copy)
    told ask reply.Staged kept none = absurd (true≢false kept)
    told ask r kept none = refl

pub each_effect_is_its_call : EachEffectIsItsCall
each_effect_is_its_call ask s = done s (read_by s.kind ask s.copy) ask
