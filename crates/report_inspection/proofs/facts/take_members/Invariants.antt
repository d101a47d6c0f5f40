use Rattle.report_inspection.proofs.TakenFacts.{Taking}
use Rattle.report_inspection.proofs.facts.take_members.Given as goal

-- what was taken, with what is left
abbrev pub invariant-loop-id : goal.invariant-loop-id
invariant-loop-id l = Taking l.names l.initial.id-iterator l.id-iterator l.initial.found l.found
