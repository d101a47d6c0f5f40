use Rattle.std.proofs.Common.{◌≡◌, sym, subst, refl, rules, string_bytes}
use Rattle.script_format.specs.ReplyText.{bad_line_text}
use Rattle.filing_threads.specs.Batches.{AddsOutcome}
use Rattle.filing_threads.proofs.batch.Batch.push.Goals as goal

pub returns-in_ok-push-in-Export : goal.returns-in_ok-push-in-Export
returns-in_ok-push-in-Export c =
    let bad : string_bytes c.in_ok-text-in-Export.text ≡ bad_line_text = search rules in
    subst (λ j. AddsOutcome j c.args.self.now
    (record {
      told = c.push-in-Export.new.self;
      steps = c.args.self.now.steps;
      names = c.args.self.now.names;
      ends_deep = c.args.self.now.ends_deep;
    })) (sym c.in-Export.is)
    ((c.in_ok-text-in-Export.text, bad, c.in_ok-push-in-Export.ensures.items, refl), refl)
