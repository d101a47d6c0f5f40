use Rattle.filing.proofs.runs.beginning.begin_from.Goals as goal

pub returns-in-Lawful : goal.returns-in-Lawful
returns-in-Lawful g c =
    let f = c.in-Ok-view_history.ensures.followed c.in-Lawful.is in
    rw c.in-Some.is (f.0, ((c.in-Ok-view_history.found.engine, f.1.0), (f.1.0.engine_is, f.1.1)))
