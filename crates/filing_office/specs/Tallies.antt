-- What a desk counts. The project's own.
use Rattle.std.specs.Prelude.{◌≡◌, ℕ, ◌+◌, cond, length, Some, None, is_some, option_map, Result, Ok, Err}
use Rattle.filing_model.specs.Histories.Versions.{counts}
use Rattle.filing_model.specs.Histories.Touches.{number_in}
use Rattle.filing_step.specs.Steps.{reply_of}
use Rattle.filing_core.specs.declared.fault.CoreFault.{CoreFault}
use Rattle.filing_office.specs.declared.answer.Answer.{Answer}

-- the steps that it took, and those that made a version
pub record Tally : Type 0 where
  pub steps : ℕ
  pub receipts : ℕ

abbrev pub nothing_taken : Tally
nothing_taken = record { steps = 0; receipts = 0 }

-- a receipt is there exactly where the reply tells a number, and it has that many versions after the first
pub record IsReceipted {J : Type 0} (a : Answer J) : Type 0 where
  pub there : is_some a.receipt ≡ counts (reply_of a.reply)
  pub number : option_map length a.receipt
      ≡ cond (counts (reply_of a.reply)) (Some (number_in (reply_of a.reply) + 1)) None

-- an answer counts as a step, and one with a receipt as a receipt; a fault counts as neither
pub record IsCounted {J : Type 0} (old new : Tally) (a : Answer J) : Type 0 where
  pub steps : new.steps ≡ old.steps + 1
  pub receipts : new.receipts ≡ old.receipts + cond (is_some a.receipt) 1 0
  pub receipted : IsReceipted a

abbrev pub Counted : {J : Type 0} → Tally → Tally → Result (Answer J) CoreFault → Type 0
Counted old new (Ok a) = IsCounted old new a
Counted old new (Err fault) = new ≡ old
