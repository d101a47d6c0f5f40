-- A script, batch by batch.
use Rattle.std.proofs.lemmas.List.{take_rest}
use Rattle.std.proofs.Common.{ℕ, ◌+◌, ◌-◌, arith, length, length-append, take, drop, ◌≡◌, ◌∙◌, ap, sym, subst, refl, Bool, true, false}
use Rattle.std.proofs.Common.{List, [], ◌∷◌, ◌++◌, append_assoc, append-nil, Result, Ok, Err, Option, string_bytes}
use Rattle.std.specs.declared.alloc.AllocError.{AllocError}
use Rattle.std.specs.Prelude.{OnOk, OnErr}
use Rattle.filing_model.specs.Common.Text.{Text}
use Rattle.filing_model.specs.Oim.Facts.{Table}
use Rattle.filing_model.specs.Sessions.Repository.{Repository}
use Rattle.line_io.specs.Lines.{lines_of, spoken, lines_text}
use Rattle.line_io.proofs.TakenLines.{lines_text-append}
use Rattle.filing_office.specs.Tallies.{Tally}
use Rattle.filing_office.specs.Runs.{NamedDeskState, RunState, Runs, IsLearnt, Learns}
use Rattle.filing_office.specs.declared.outcome.Outcome.{Outcome}
use Rattle.filing_office.proofs.LearntBetween.{IsAhead, not_ahead, runs_behind, runs_further, learns_ahead, learns_some_ahead}
use Rattle.filing_threads.specs.declared.batch.Batch.{Batch}
use Rattle.filing_threads.specs.declared.replies.Ending.TheVariants.{Whole, StepStarved, LineStarved, TooDeep}
use Rattle.filing_threads.specs.declared.replies.Replies.{Replies}
use Rattle.filing_threads.specs.Batches.{AreBatch}
use Rattle.filing_threads.specs.Lines.{BeginsDeep}
use Rattle.filing_threads.specs.Telling.{replies_of}
use Rattle.filing_threads.specs.ScriptRuns.{EndsSo}
use Rattle.filing_threads.specs.FoundHistories.{IsScriptRunTo}
use Rattle.filing_threads.specs.UnderWay.{IsUnderWay, TakesBatch, KeptBy}
use Rattle.filing_threads.proofs.ClassifiedLines.{lines_further, all_used, none_starved, replies_further, told_further, used_told, used_further}
use Rattle.filing_threads.proofs.ToldReplies.{lines_of_none}

pub begins : (J : Type 0) (journaled : Bool) (table : Table) (script : Text) (start : RunState)
    → IsUnderWay {J = J} journaled table script script start start [] [] 0
begins J journaled table script start = record {
  lines = [];
  parts = refl;
  told = [];
  steps = [];
  classified = (refl, refl);
  outcomes = [];
  gone = [];
  are = refl;
  used = refl;
  left = start;
  runs = (refl, refl);
  ahead = not_ahead J start;
  text_is = sym lines_of_none;
  many = refl;
  fewer = omega arith;
}

drop_behind : {X : Type 0} (xs ys : List X) → drop (length xs) (xs ++ ys) ≡ ys
drop_behind [] ys = refl
drop_behind (x ∷ xs) ys = drop_behind xs ys

-- the outcomes behind those that were kept
pub behind_kept : {X : Type 0} (kept os now : List X) (n : ℕ) → now ≡ kept ++ os → n ≡ length kept → take (length now - n) (drop n now) ≡ os
behind_kept kept os now n is many =
    take_rest now n ∙ ap (λ m. drop m now) many ∙ ap (λ xs. drop (length kept) xs) is ∙ drop_behind kept os

-- the same outcomes
pub learns_told : {J : Type 0} (s t : RunState) (seen : Option (List Repository)) (told told' : List (Outcome J)) (result : Result (Unit {0}) AllocError)
    → told ≡ told' → Learns s t told seen result → Learns s t told' seen result
learns_told s t seen told told' result is learns = subst (λ os. Learns s t os seen result) is learns

-- where they were learnt none is kept, and where they were not all are
pub still_learnt : {J : Type 0} (desk : NamedDeskState) (told told' kept : List (Outcome J)) (result : Result (Unit {0}) AllocError)
    → told ≡ told' → KeptBy result told' kept → OnOk result ((others : List (Outcome J)) → IsLearnt desk others)
    → OnErr result (IsLearnt desk told) → IsLearnt desk kept
still_learnt desk told told' kept (Ok x) same is any none = any kept
still_learnt desk told told' kept (Err e) same is none learnt = subst (λ os. IsLearnt desk os) (same ∙ sym is) learnt

-- what is let go
pub record LetGo {J : Type 0} (end t : RunState) (gone all kept : List (Outcome J)) : Type 0 where
  pub more_gone : List (Outcome J)
  pub are : gone ++ all ≡ more_gone ++ kept
  pub ahead : IsAhead end t more_gone

let_go : {J : Type 0} (end mid t : RunState) (gone all kept : List (Outcome J)) → IsAhead end mid gone → (result : Result (Unit {0}) AllocError)
    → Learns mid t all mid.seen result → KeptBy result all kept → LetGo end t gone all kept
let_go end mid t gone all kept ahead (Ok x) learns is = record {
  more_gone = gone ++ all;
  are = sym (append-nil (gone ++ all)) ∙ ap (λ os. (gone ++ all) ++ os) (sym is);
  ahead = learns_ahead end mid t gone all mid.seen (Unit {0}) AllocError x ahead refl learns;
}
let_go end mid t gone all kept ahead (Err e) learns is = record {
  more_gone = gone;
  are = ap (λ os. gone ++ os) (sym is);
  ahead = learns_some_ahead end mid t gone all mid.seen (Unit {0}) AllocError e ahead refl learns;
}

module _ {J : Type 0} (journaled : Bool) (table : Table) (script rest : Text) (start now : RunState) (kept : List (Outcome J)) (text : Text) (answered : ℕ)
    (way : IsUnderWay journaled table script rest start now kept text answered) where
  module _ (rest' : Text) (batch : Batch) (t : RunState) (kept' : List (Outcome J)) (text' : Text)
      (read : AreBatch journaled table rest rest' batch) where
    abbrev Taken : Bool → Type 0
    Taken whole = TakesBatch batch.told.items batch.steps.items now t kept kept' text text' whole

    parts_further : spoken (lines_of script) ≡ (way.lines ++ read.lines) ++ spoken (lines_of rest')
    parts_further =
        way.parts ∙ ap (λ ls. way.lines ++ ls) read.parts ∙ sym (append_assoc way.lines read.lines (spoken (lines_of rest')))

    text_further : (whole : Bool) (takes : Taken whole)
        → text' ≡ lines_text (replies_of (way.told ++ batch.told.items) (way.outcomes ++ takes.outcomes))
    text_further whole takes =
        takes.text_is
        ∙ ap (λ t. t ++ lines_text (replies_of batch.told.items takes.outcomes)) way.text_is
        ∙ sym (lines_text-append (replies_of way.told way.outcomes) (replies_of batch.told.items takes.outcomes))
        ∙ ap lines_text (sym (replies_further way.told batch.told.items way.outcomes takes.outcomes way.used))

    runs_on : (whole : Bool) (takes : Taken whole)
        → (end : RunState) × Runs start end [] (way.steps ++ batch.steps.items) (way.outcomes ++ takes.outcomes) × IsAhead end takes.mid way.gone
    runs_on whole takes =
        let (end, run, ahead) = runs_behind way.left now takes.mid way.gone kept batch.steps.items takes.outcomes way.ahead takes.runs in (
          end,
          runs_further start way.left end [] way.steps way.outcomes batch.steps.items takes.outcomes
              (none_starved way.told way.outcomes way.used) way.runs
              (subst (λ os. Runs way.left end os batch.steps.items takes.outcomes) (sym way.are) run),
          ahead,
        )

    pub goes_on : Taken true → IsUnderWay journaled table script rest' start t kept' text' (answered + length batch.told.items)
    goes_on takes =
        let (end, runs, ahead) = runs_on true takes in
        let (result, learns, is) = takes.lets_go in
        let gone = let_go end takes.mid t way.gone (kept ++ takes.outcomes) kept' ahead result learns is in record {
          lines = way.lines ++ read.lines;
          parts = parts_further;
          told = way.told ++ batch.told.items;
          steps = way.steps ++ batch.steps.items;
          classified = lines_further journaled table way.lines read.lines way.told batch.told.items way.steps batch.steps.items way.classified read.classified;
          outcomes = way.outcomes ++ takes.outcomes;
          gone = gone.more_gone;
          are = ap (λ os. os ++ takes.outcomes) way.are ∙ append_assoc way.gone kept takes.outcomes ∙ gone.are;
          used = used_further way.told batch.told.items way.outcomes takes.outcomes way.used
              (all_used journaled table read.lines batch.told.items batch.steps.items now takes.mid kept takes.outcomes read.classified takes.runs
              (sym takes.whole_is));
          left = end;
          runs = runs;
          ahead = gone.ahead;
          text_is = text_further true takes;
          many = ap (λ (n : ℕ). n + length batch.told.items) way.many ∙ sym (length-append way.told batch.told.items);
          fewer = omega (arith, way.fewer, read.fewer);
        }

    -- a step for which memory was wanted is the last
    pub stops : Taken false → (replies : Replies) → string_bytes replies.text ≡ text' → replies.ending ≡ StepStarved
        → (counted : Tally) → counted ≡ t.tally → IsScriptRunTo J journaled table script start counted replies
    stops takes replies is starved counted same =
        let (end, runs, ahead) = runs_on false takes in
        let (result, learns, kept_is) = takes.lets_go in
        let gone = let_go end takes.mid t way.gone (kept ++ takes.outcomes) kept' ahead result learns kept_is in record {
          run = record {
            lines = way.lines ++ read.lines;
            later = spoken (lines_of rest');
            parts = parts_further;
            told = way.told ++ batch.told.items;
            steps = way.steps ++ batch.steps.items;
            classified = lines_further journaled table way.lines read.lines way.told batch.told.items way.steps batch.steps.items
                way.classified read.classified;
            outcomes = way.outcomes ++ takes.outcomes;
            left = end;
            runs = runs;
            text = is ∙ text_further false takes;
            ends = subst (λ e. EndsSo journaled table e (spoken (lines_of rest')) (way.told ++ batch.told.items) (way.outcomes ++ takes.outcomes)) (sym starved)
                (told_further way.told batch.told.items way.outcomes takes.outcomes way.used ∙ sym takes.whole_is);
          };
          counts = sym (same ∙ gone.ahead.tally);
        }

  run_of : (replies : Replies) → string_bytes replies.text ≡ text → EndsSo journaled table replies.ending (spoken (lines_of rest)) way.told way.outcomes
      → (counted : Tally) → counted ≡ now.tally → IsScriptRunTo J journaled table script start counted replies
  run_of replies is ends counted same = record {
    run = record {
      lines = way.lines;
      later = spoken (lines_of rest);
      parts = way.parts;
      told = way.told;
      steps = way.steps;
      classified = way.classified;
      outcomes = way.outcomes;
      left = way.left;
      runs = way.runs;
      text = is ∙ way.text_is;
      ends = ends;
    };
    counts = sym (same ∙ way.ahead.tally);
  }

  -- no line is left
  pub ends_whole : spoken (lines_of rest) ≡ [] → (replies : Replies) → string_bytes replies.text ≡ text → replies.ending ≡ Whole
      → (counted : Tally) → counted ≡ now.tally → IsScriptRunTo J journaled table script start counted replies
  ends_whole none replies is whole counted same =
      run_of replies is
      (subst (λ e. EndsSo journaled table e (spoken (lines_of rest)) way.told way.outcomes) (sym whole) (none, used_told way.told way.outcomes way.used))
      counted same

  -- memory was wanted while the next lines were classified
  pub ends_starved : (replies : Replies) → string_bytes replies.text ≡ text → replies.ending ≡ LineStarved
      → (counted : Tally) → counted ≡ now.tally → IsScriptRunTo J journaled table script start counted replies
  ends_starved replies is starved counted same =
      run_of replies is
      (subst (λ e. EndsSo journaled table e (spoken (lines_of rest)) way.told way.outcomes) (sym starved) (used_told way.told way.outcomes way.used))
      counted same

  -- the next line nests too deep for the journal
  pub ends_deep : BeginsDeep journaled table (spoken (lines_of rest)) → (replies : Replies) → string_bytes replies.text ≡ text
      → replies.ending ≡ TooDeep (answered + 1)
      → (counted : Tally) → counted ≡ now.tally → IsScriptRunTo J journaled table script start counted replies
  ends_deep deep replies is ending counted same =
      run_of replies is
      (subst (λ e. EndsSo journaled table e (spoken (lines_of rest)) way.told way.outcomes) (sym ending)
      (deep, used_told way.told way.outcomes way.used, ap (λ (n : ℕ). n + 1) way.many))
      counted same
