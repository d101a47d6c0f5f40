use Rattle.std.proofs.Common.{◌∙◌, sym}
use Rattle.std.proofs.lemmas.Result.{on_ok_weaker}
use Rattle.version_differences.proofs.PushedLines.{value_written}
use Rattle.version_differences.proofs.lines.push_declared.Goals as goal

pub returns : goal.returns
returns c = on_ok_weaker c.push_changed_allowed.result
    (value_written _ _ c.args.name.now c.args.from c.args.to (sym c.are_same_values.ensures ∙ c.if-are_same_values.false)) c.push_changed_allowed.ensures
