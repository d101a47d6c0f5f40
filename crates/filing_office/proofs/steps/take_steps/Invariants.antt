use Rattle.std.proofs.Common.{◌+◌, ◌≤◌, length}
use Rattle.std.specs.Prelude.{vec_len, vec_capacity}
use Rattle.filing_office.specs.Runs.{IsLearnt}
use Rattle.filing_office.proofs.RunsOn.{RunsOn}
use Rattle.filing_office.proofs.steps.take_steps.Given as goal

-- what the rest makes of the rest is what the whole makes of the whole
abbrev pub invariant-loop-k : goal.invariant-loop-k
invariant-loop-k g l =
    RunsOn l.fn.named_desk.state l.named_desk.state l.fn.outcomes.items l.fn.steps.items l.k-iterator.iter.rest.items l.outcomes.items
    × IsLearnt l.named_desk l.outcomes.items
    × (vec_len l.outcomes + length l.k-iterator.iter.rest.items ≤ vec_capacity l.outcomes)
