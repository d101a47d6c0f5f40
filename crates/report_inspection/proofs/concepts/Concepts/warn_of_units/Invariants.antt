use Rattle.report_inspection.specs.Warnings.{AreOfConcepts, Tells}
use Rattle.report_inspection.proofs.concepts.Concepts.warn_of_units.Given as goal

abbrev pub invariant-loop-concept : goal.invariant-loop-concept
invariant-loop-concept l = Tells AreOfConcepts l.initial.warnings.items l.warnings.items
