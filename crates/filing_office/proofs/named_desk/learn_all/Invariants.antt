use Rattle.std.proofs.Common.{length}
use Rattle.std.specs.Prelude.{All, take}
use mathlib.Core.List.{IsPrefix}
use Rattle.filing_office.specs.Runs.{IsWithin}
use Rattle.filing_office.proofs.named_desk.learn_all.Given as goal

-- the receipts of the outcomes so far are learnt
abbrev pub invariant-loop-outcome : goal.invariant-loop-outcome
invariant-loop-outcome g l = IsPrefix l.fn.reviewer l.reviewer × All (IsWithin (length l.reviewer)) (take l.outcome-index l.outcomes)
