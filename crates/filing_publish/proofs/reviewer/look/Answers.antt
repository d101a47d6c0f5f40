use Rattle.filing_publish.proofs.Showing.{looks}
use Rattle.filing_publish.proofs.reviewer.look.Goals as goal

pub enter_as-requires : goal.enter_as-requires
enter_as-requires g c x = looks g.J.Naming.book _ _ x
