use Rattle.std.proofs.Common.{refl}
use Rattle.report_inspection.proofs.TakenFacts.{takes_refused}
use Rattle.report_inspection.proofs.facts.Found.take.Goals as goal

pub returns-in_ok-tell_fact-in-Err : goal.returns-in_ok-tell_fact-in-Err
returns-in_ok-tell_fact-in-Err c =
    takes_refused _ _ _ _ c.in_ok-tell_fact-in-Err.ensures.none c.in_ok-tell_fact-in-Err.ensures.faults refl
