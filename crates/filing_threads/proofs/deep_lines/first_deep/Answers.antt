use Rattle.std.proofs.Common.{◌≡◌, ◌∙◌, ◌+◌, ap, sym, drop, Option, Some, None}
use Rattle.std.proofs.lemmas.List.{drop_all}
use Rattle.std.specs.Option.{option_map_or}
use Rattle.filing_threads.specs.declared.fault.DeepLine.{DeepLine}
use Rattle.filing_threads.specs.DeepLines.{deep_from}
use Rattle.filing_threads.proofs.ToldReplies.{lines_from}
use Rattle.filing_threads.proofs.deep_lines.first_deep.Goals as goal

pub loop-script-preserved : goal.loop-script-preserved
loop-script-preserved c =
    let all = c.args.all_replies.now in
    let script = c.loop-script.script in
    c.loop-script.invariant
    ∙ ap (deep_from script) (lines_from all script c.index-all_replies-script.result c.loop-script-test.true c.index-all_replies-script.is)
    ∙ ap (λ (o : Option DeepLine). option_map_or Some o (deep_from (script + 1) (drop (script + 1) all))) (sym c.deep_line.ensures ∙ c.in_default.is)

pub returns-in-Some : goal.returns-in-Some
returns-in-Some c =
    let all = c.args.all_replies.now in
    let script = c.loop-script.script in
    sym (c.loop-script.invariant
    ∙ ap (deep_from script) (lines_from all script c.index-all_replies-script.result c.loop-script-test.true c.index-all_replies-script.is)
    ∙ ap (λ (o : Option DeepLine). option_map_or Some o (deep_from (script + 1) (drop (script + 1) all))) (sym c.deep_line.ensures ∙ c.in-Some.is))

pub returns : goal.returns
returns c =
    let all = c.args.all_replies.now in
    let script = c.loop-script.script in
    sym (c.loop-script.invariant ∙ ap (deep_from script) (drop_all script all c.loop-script-test.false))
