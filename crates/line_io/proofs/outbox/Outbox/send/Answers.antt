use Rattle.std.proofs.Common.{[], ◌∷◌}
use Rattle.std.proofs.lemmas.Result.{MatchResult-from_err}
use Rattle.line_io.proofs.SentReplies.{told_after, failed_reply}
use Rattle.line_io.proofs.outbox.Outbox.send.Goals as goal

pub returns : goal.returns
returns g c = told_after g.D.Mode.conduct _ _ _
    (10 ∷ []) c.tell-2.result c.if-hold.ensures c.in_ok-flush.ensures.written c.in_ok-tell.ensures c.in_ok-flush.ensures.empty c.tell-2.ensures

pub returns-in_err-tell : goal.returns-in_err-tell
returns-in_err-tell g c =
    MatchResult-from_err c.from_residual-in_err-tell.result _ _ c.from_residual-in_err-tell.ensures.0
    (λ _. failed_reply g.D.Mode.conduct _ (10 ∷ []) c.if-hold.ensures c.in_ok-flush.ensures.written c.in_err-tell.ensures)
