-- Lines that are classified and answered, some at a time.
use Rattle.std.proofs.Common.{◌≡◌, ◌∙◌, ap, sym, subst, refl, Bool, true, false, cond, List, [], ◌∷◌, ◌++◌}
use Rattle.std.proofs.Common.{Option, Some, None, String, string_bytes, append-nil, true≢false}
use Rattle.std.specs.Option.{option_map_or}
use Rattle.std.specs.declared.alloc.Global.{Global}
use Rattle.filing_model.specs.Common.Text.{Text}
use Rattle.filing_model.specs.Oim.Facts.{Table}
use Rattle.filing_office.specs.Runs.{RunState, Runs, is_no_memory}
use Rattle.filing_office.specs.declared.outcome.Outcome.{Outcome}
use Rattle.filing_office.specs.declared.outcome.Outcome.TheVariants.{Answered, NameInUse, NoSession, NoMemory}
use Rattle.filing_office.specs.declared.work.DeskStep.{DeskStep}
use Rattle.filing_office.proofs.LearntBetween.{NoneStarved}
use Rattle.script_format.specs.LineOutcomes.{IsLineOutcome}
use Rattle.script_format.specs.declared.line_outcome.LineOutcome.{LineOutcome}
use Rattle.script_format.specs.declared.line_outcome.LineOutcome.TheVariants as outcome
use Rattle.filing_threads.specs.Lines.{AreClassified, is_left_out}
use Rattle.filing_threads.specs.declared.batch.Batch.{Batch}
use Rattle.filing_threads.specs.Batches.{AddsOutcome, AddsLine}
use Rattle.filing_threads.specs.Telling.{replies_of, all_told, outcome_text, AllUsed}

-- lines behind lines
pub lines_further : (journaled : Bool) (table : Table) (lines more : List Text) (told others : List (Option (String Global))) (steps further : List DeskStep)
    → AreClassified journaled table lines told steps → AreClassified journaled table more others further
    → AreClassified journaled table (lines ++ more) (told ++ others) (steps ++ further)
lines_further journaled table [] more told others steps further first second =
    subst (λ t. AreClassified journaled table more (t ++ others) (steps ++ further)) (sym first.0)
    (subst (λ s. AreClassified journaled table more others (s ++ further)) (sym first.1) second)
lines_further journaled table (line ∷ lines) more [] others steps further first second = absurd first
lines_further journaled table (line ∷ lines) more (Some text ∷ told) others steps further first second =
    (first.0, lines_further journaled table lines more told others steps further first.1 second)
lines_further journaled table (line ∷ lines) more (None ∷ told) others [] further first second = absurd first
lines_further journaled table (line ∷ lines) more (None ∷ told) others (step ∷ steps) further first second =
    (first.0, lines_further journaled table lines more told others steps further first.1 second)

pub none_starved : {J : Type 0} (told : List (Option (String Global))) (os : List (Outcome J)) → AllUsed told os → NoneStarved os
none_starved [] [] used = tt
none_starved [] (o ∷ os) used = absurd (cc used)
none_starved (Some text ∷ told) os used = none_starved told os used
none_starved (None ∷ told) [] used = absurd used
none_starved (None ∷ told) (o ∷ os) used = (used.0, none_starved told os used.1)

-- a step that was answered is told, and memory was not wanted for it
told_answered : {J : Type 0} (o : Outcome J) (rest : Bool) → option_map_or (λ text. rest) (outcome_text o) false ≡ true
    → (is_no_memory o ≡ false) × (rest ≡ true)
told_answered (Answered a) rest is = (refl, is)
told_answered NameInUse rest is = (refl, is)
told_answered NoSession rest is = (refl, is)
told_answered NoMemory rest is = absurd (true≢false (sym is))

-- where all lines of a run are told, no outcome is left
pub all_used : {J : Type 0} (journaled : Bool) (table : Table) (lines : List Text) (told : List (Option (String Global))) (steps : List DeskStep)
    (s t : RunState) (before os : List (Outcome J))
    → AreClassified journaled table lines told steps → Runs s t before steps os → all_told told os ≡ true → AllUsed told os
all_used journaled table [] told steps s t before os classified runs all =
    subst (λ told. AllUsed told os) (sym classified.0) (subst (λ steps. Runs s t before steps os) classified.1 runs).0
all_used journaled table (line ∷ lines) [] steps s t before os classified runs all = absurd classified
all_used journaled table (line ∷ lines) (Some text ∷ told) steps s t before os classified runs all =
    all_used journaled table lines told steps s t before os classified.1 runs all
all_used journaled table (line ∷ lines) (None ∷ told) [] s t before os classified runs all = absurd classified
all_used journaled table (line ∷ lines) (None ∷ told) (step ∷ steps) s t before [] classified runs all = absurd runs
all_used {J} journaled table (line ∷ lines) (None ∷ told) (step ∷ steps) s t before (o ∷ os) classified runs all =
    let (mid, goes, rest) = runs in
    let (answered, more) = told_answered o (all_told told os) all in
    let further : Runs mid t (before ++ o ∷ []) steps os =
    subst (λ b. cond b ((os ≡ []) × (t ≡ mid)) (Runs mid t (before ++ o ∷ []) steps os)) answered rest in
    (answered, all_used journaled table lines told steps mid t (before ++ o ∷ []) os classified.1 further more)

-- replies behind replies
text_of_answered : {J : Type 0} (o : Outcome J) → is_no_memory o ≡ false → (text : Text) × (outcome_text o ≡ Some text)
text_of_answered (Answered a) is = (_, refl)
text_of_answered NameInUse is = (_, refl)
text_of_answered NoSession is = (_, refl)
text_of_answered NoMemory is = absurd (true≢false is)

pub replies_further : {J : Type 0} (told others : List (Option (String Global))) (os ps : List (Outcome J)) → AllUsed told os
    → replies_of (told ++ others) (os ++ ps) ≡ replies_of told os ++ replies_of others ps
replies_further [] others os ps used = ap (λ xs. replies_of others (xs ++ ps)) used
replies_further (Some text ∷ told) others os ps used = ap (λ rs. string_bytes text ∷ rs) (replies_further told others os ps used)
replies_further (None ∷ told) others [] ps used = absurd used
replies_further (None ∷ told) others (o ∷ os) ps used =
    let (text, is) = text_of_answered o used.0 in
    ap (λ t. option_map_or (λ r. r ∷ replies_of (told ++ others) (os ++ ps)) t []) is
    ∙ ap (λ rs. text ∷ rs) (replies_further told others os ps used.1)
    ∙ sym (ap (λ t. option_map_or (λ r. r ∷ replies_of told os) t [] ++ replies_of others ps) is)

pub told_further : {J : Type 0} (told others : List (Option (String Global))) (os ps : List (Outcome J)) → AllUsed told os
    → all_told (told ++ others) (os ++ ps) ≡ all_told others ps
told_further [] others os ps used = ap (λ xs. all_told others (xs ++ ps)) used
told_further (Some text ∷ told) others os ps used = told_further told others os ps used
told_further (None ∷ told) others [] ps used = absurd used
told_further (None ∷ told) others (o ∷ os) ps used =
    let (text, is) = text_of_answered o used.0 in
    ap (λ t. option_map_or (λ r. all_told (told ++ others) (os ++ ps)) t false) is ∙ told_further told others os ps used.1

pub used_told : {J : Type 0} (told : List (Option (String Global))) (os : List (Outcome J)) → AllUsed told os → all_told told os ≡ true
used_told [] os used = refl
used_told (Some text ∷ told) os used = used_told told os used
used_told (None ∷ told) [] used = absurd used
used_told (None ∷ told) (o ∷ os) used =
    let (text, is) = text_of_answered o used.0 in
    ap (λ t. option_map_or (λ r. all_told told os) t false) is ∙ used_told told os used.1

pub used_further : {J : Type 0} (told others : List (Option (String Global))) (os ps : List (Outcome J)) → AllUsed told os → AllUsed others ps
    → AllUsed (told ++ others) (os ++ ps)
used_further [] others os ps used more = subst (λ xs. AllUsed others (xs ++ ps)) (sym used) more
used_further (Some text ∷ told) others os ps used more = used_further told others os ps used more
used_further (None ∷ told) others [] ps used more = absurd used
used_further (None ∷ told) others (o ∷ os) ps used more = (used.0, used_further told others os ps used.1 more)

-- a line that was classified so, and is not left out, is one more line
pub adds_line : (journaled : Bool) (table : Table) (line : Text) (j : LineOutcome) (old new : Batch) → IsLineOutcome table line j
    → is_left_out journaled j ≡ false
    → AddsOutcome j old new → AddsLine journaled table line old new
adds_line journaled table line (outcome.ReplyNow text) old new is taken adds = record {
  told = Some text ∷ [];
  steps = [];
  told_are = adds.0.0;
  steps_are = adds.0.1 ∙ sym (append-nil old.steps.items);
  classified = ((outcome.ReplyNow text, is, refl), (refl, refl));
  same_end = adds.1;
}
adds_line journaled table line (outcome.Export name) old new is taken adds =
    let (text, bad, told, steps) = adds.0 in record {
      told = Some text ∷ [];
      steps = [];
      told_are = told;
      steps_are = steps ∙ sym (append-nil old.steps.items);
      classified = ((outcome.Export name, is, ap Some (sym bad)), (refl, refl));
      same_end = adds.1;
    }
adds_line journaled table line (outcome.StepDue name step) old new is taken adds = record {
  told = None ∷ [];
  steps = record { name = name; step = step } ∷ [];
  told_are = adds.0.0;
  steps_are = adds.0.1;
  classified = (record { outcome = is; taken = taken }, (refl, refl));
  same_end = adds.1;
}
