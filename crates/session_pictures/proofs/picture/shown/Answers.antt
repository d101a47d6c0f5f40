use Rattle.session_pictures.proofs.ShownSessions.{some_shown}
use Rattle.session_pictures.proofs.picture.shown.Goals as goal

pub returns-clause-shown : goal.returns-clause-shown
returns-clause-shown c = some_shown c.args.sessions.now c.args.first _ c.saturating_sub-before.ensures _ c.min-many.ensures
