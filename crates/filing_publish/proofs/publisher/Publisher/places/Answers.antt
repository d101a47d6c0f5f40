use Rattle.filing_publish.proofs.Showing.{admits}
use Rattle.filing_publish.proofs.publisher.Publisher.places.Goals as goal

pub reader-requires : goal.reader-requires
reader-requires g c = admits g.J.Naming.book
