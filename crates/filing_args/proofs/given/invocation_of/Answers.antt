use Rattle.std.proofs.Common.{IfOk, subst, sym}
use Rattle.filing_args.specs.Words.{IsOrdered}
use Rattle.filing_args.proofs.Entered.{both_read}
use Rattle.filing_args.proofs.given.invocation_of.Goals as goal

pub returns-in-Some : goal.returns-in-Some
returns-in-Some c =
    subst (λ entered. IfOk c.command_given.result (IsOrdered entered))
    (sym (both_read _ _ _ _ _ (sym c.in-Some.ensures.name) (sym c.in-Some.ensures.rows)))
    c.command_given.ensures
