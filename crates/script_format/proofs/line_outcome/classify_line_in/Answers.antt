use Rattle.std.proofs.Common.{◌∙◌, ap, sym}
use Rattle.std.proofs.lemmas.Result.{IfOk-weaker}
use Rattle.std.specs.Arc.{arc_value}
use Rattle.script_format.specs.LineOutcomes.{state_of}
use Rattle.script_format.specs.Script.{ReplyNow}
use Rattle.script_format.proofs.line_outcome.classify_line_in.Goals as goal

pub returns-then-not-may_be_array : goal.returns-then-not-may_be_array
returns-then-not-may_be_array c =
    IfOk-weaker c.reply_now.result _ _
    (λ outcome comes h names.
    let state = state_of (arc_value c.args.table.now) h names in
    c.if-not-may_be_array.ensures state ∙ ap ReplyNow (sym c.bad_line_reply.ensures) ∙ comes state)
    c.reply_now.ensures
