use Rattle.std.proofs.Common.{◌∙◌, ◌+◌, ℕ, Bool, cond, ap, sym}
use Rattle.filing_model.specs.Histories.History.{repository}
use Rattle.filing_office.specs.Answers.{IsTold, step_made_ready}
use Rattle.filing_office.proofs.ToldSteps.{told_of_entered}
use Rattle.filing_office.proofs.Publishing.{count_told, one_longer, counts_it}
use Rattle.filing_office.proofs.locked.Locked.step.Goals as goal

pub invariant_of-self-2 : goal.invariant_of-self-2
invariant_of-self-2 g c =
    let old = c.args.self.now.shared in
    let new = c.apply_ready.new.shared in
    let a = c.in_ok-answer.answer in
    let told : IsTold old new c.args.session (step_made_ready c.args.step) a = c.in_ok-answer.ensures in
    record {
      counted = c.count.ensures.steps ∙ ap (λ (n : ℕ). n + 1) c.args.self.now.counted ∙ sym (one_longer old new c.args.session (step_made_ready c.args.step) a told);
      numbered =
          c.count.ensures.receipts
          ∙ ap (λ (n : ℕ). n + cond c.is_some-received.result 1 0) c.args.self.now.numbered
          ∙ ap (λ (b : Bool). (repository old).count + cond b 1 0) c.is_some-received.ensures
          ∙ sym (count_told old new c.args.session (step_made_ready c.args.step) a told);
      no_parts = c.args.self.now.no_parts;
    }

pub returns-clause-counted : goal.returns-clause-counted
returns-clause-counted g c =
    counts_it c.args.self.now.shared c.apply_ready.new.shared c.args.session (step_made_ready c.args.step) c.in_ok-answer.answer c.in_ok-answer.ensures c.args.desk.now c.count.new.desk
    (c.count.ensures.desk ∙ ap (λ (b : Bool). record { steps = c.args.desk.now.steps + 1; receipts = c.args.desk.now.receipts + cond b 1 0 }) c.is_some-received.ensures)

pub returns-clause-told : goal.returns-clause-told
returns-clause-told g c =
    told_of_entered c.args.self.now.shared c.apply_ready.new.shared c.args.session (step_made_ready c.args.step) c.in_ok-answer.answer c.in_ok-answer.ensures
