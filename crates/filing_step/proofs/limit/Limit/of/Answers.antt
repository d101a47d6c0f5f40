use Rattle.std.proofs.Common.{sym}
use Rattle.filing_model.proofs.Sessions.Limits.{limit_again}
use Rattle.filing_step.proofs.limit.Limit.of.Goals as goal

pub returns-then-number-lt1001 : goal.returns-then-number-lt1001
returns-then-number-lt1001 c = sym (limit_again _)
