use Rattle.std.proofs.Common.{◌≡◌, ◌∙◌, ◌++◌, ◌-◌, ap, subst, arith, length, take, drop, string_bytes}
use Rattle.filing_office.specs.Runs.{Runs}
use Rattle.line_io.specs.Lines.{lines_text}
use Rattle.filing_threads.specs.Telling.{replies_of, all_told}
use Rattle.filing_threads.specs.UnderWay.{KeptBy}
use Rattle.filing_threads.proofs.UnderWay.{behind_kept, learns_told, still_learnt}
use Rattle.filing_threads.proofs.script_task.take_batch.Goals as goal

pub returns-clause-taken : goal.returns-clause-taken
returns-clause-taken g c =
    let kept = c.args.outcomes.now.items in
    let ran = c.take_steps.ensures.ran in
    let all : c.take_steps.new.outcomes.items ≡ kept ++ ran.0 = ran.2 ∙ ap (λ os. os ++ ran.0) c.in_default.ensures.items in
    let told : c.deref-2.result.now ≡ c.args.batch.told.items = c.deref-2.ensures.value in
    let seen = c.deref-3.result.now in
    let before = c.len-before.result in
    let many : before ≡ length kept = omega (arith, c.len-before.ensures, c.args.outcomes.now.ok.0) in
    let these : take (length seen - before) (drop before seen) ≡ ran.0 = behind_kept kept ran.0 seen before (c.deref-3.ensures.value ∙ all) many in
    record {
      mid = c.take_steps.new.named_desk.state;
      outcomes = ran.0;
      runs = subst (λ os. Runs c.args.named_desk.now.state c.take_steps.new.named_desk.state os c.args.batch.steps.items ran.0)
          c.in_default.ensures.items ran.1;
      text_is = c.in_ok-whole.ensures.text ∙ (λ i. string_bytes c.args.text.now ++ lines_text (replies_of (told i) (these i)));
      whole_is = c.in_ok-whole.ensures.whole ∙ (λ i. all_told (told i) (these i));
      lets_go = (
        c.learn-learnt.result,
        learns_told _ _ _ _ _ c.learn-learnt.result (c.deref.ensures.value ∙ all) c.learn-learnt.ensures.learns,
        subst (λ os. KeptBy c.learn-learnt.result os c.drop_if_learnt.new.outcomes.items) all c.drop_if_learnt.ensures,
      );
    }

pub returns-clause-learnt : goal.returns-clause-learnt
returns-clause-learnt g c =
    still_learnt c.learn-learnt.new.self c.deref.result.now c.take_steps.new.outcomes.items c.drop_if_learnt.new.outcomes.items c.learn-learnt.result
    c.deref.ensures.value c.drop_if_learnt.ensures c.learn-learnt.ensures.none c.learn-learnt.ensures.err
