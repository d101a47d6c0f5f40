use Rattle.report_inspection.specs.Warnings.{AreOfConcepts, Tells}
use Rattle.report_inspection.proofs.concepts.Concepts.warn_of_others.Given as goal

abbrev pub invariant-loop-uri : goal.invariant-loop-uri
invariant-loop-uri l = Tells AreOfConcepts l.initial.warnings.items l.warnings.items
