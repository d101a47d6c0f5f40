use Rattle.std.proofs.Common.{◌≡◌, ◌∙◌, ap, sym, ◌++◌, false, true, true≢false, is_some, option_map}
use Rattle.filing_model.specs.Common.TextMap.{get}
use Rattle.filing_index.proofs.PushedFactChanges.{pushed}
use Rattle.filing_index.proofs.facts.Facts.push_fact_change.Goals as goal
use Rattle.filing_index.proofs.facts.Facts.push_fact_change.Goals.{then-is_some-via-then-is_some, then-is_some-via-else-is_some+then-is_some-2}

pub returns-in_ok-push : goal.returns-in_ok-push
returns-in_ok-push c =
    let some : is_some c.in_ok-old.old ≡ false → is_some c.in_ok-new.new ≡ true =
    λ none. elim c.then-is_some.branch [
      | then-is_some-via-then-is_some w ↦ absurd (true≢false (w.if-is_some.ensures ∙ none))
      | then-is_some-via-else-is_some+then-is_some-2 w ↦ sym w.if-is_some-2.ensures
    ] in
    c.in_ok-push.ensures.items
    ∙ ap (λ pushed. c.args.fact_changes.now.items ++ pushed)
    (pushed c.args.change.now.0 (get c.args.self.now c.args.change.now.0) c.args.change.now.1 c.in_ok-old.old c.in_ok-new.new c.of.result
    (c.in_ok-old.ensures ∙ (λ i. option_map (λ f. (c.name.ensures i, f)) (get c.args.self.now (c.name.ensures i))))
    c.in_ok-new.ensures c.of.ensures some)
