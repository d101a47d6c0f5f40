use Rattle.std.proofs.Common.{length, string_bytes}
use Rattle.std.specs.Arc.{arc_value}
use Rattle.filing_office.specs.Runs.{IsLearnt}
use Rattle.filing_threads.specs.UnderWay.{IsUnderWay}
use Rattle.filing_threads.proofs.script_task.take_lines.Given as goal

-- the lines before the rest are classified and answered
abbrev pub invariant-loop-read : goal.invariant-loop-read
invariant-loop-read g l =
    IsLearnt l.named_desk l.outcomes.items
    × IsUnderWay l.journaled (arc_value l.table) l.script l.rest l.fn.named_desk.state l.named_desk.state l.outcomes.items (string_bytes l.text) l.answered

abbrev pub decreases-loop-read : goal.decreases-loop-read
decreases-loop-read g l = length l.rest
