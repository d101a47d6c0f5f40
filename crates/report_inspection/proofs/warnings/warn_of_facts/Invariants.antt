use Rattle.report_inspection.specs.KeptFacts.{members_seen}
use Rattle.report_inspection.proofs.ToldWarnings.{Warned}
use Rattle.report_inspection.proofs.warnings.warn_of_facts.Given as goal

-- what was told, with what is left to tell
abbrev pub invariant-loop-id : goal.invariant-loop-id
invariant-loop-id l = Warned (members_seen l.initial.id-iterator) (members_seen l.id-iterator) l.initial.warnings.items l.warnings.items
