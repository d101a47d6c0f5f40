use Rattle.std.proofs.Common.{ap, subst, sym, ℕ}
use Rattle.filing_publish.specs.Lists.{IsLonger}
use Rattle.filing_threads.specs.Replaying.{HasSeen, known_by}
use Rattle.filing_threads.proofs.Replayed.{seen_longer}
use Rattle.filing_threads.proofs.tasks.teach.Goals as goal

pub returns : goal.returns
returns g c =
    subst (λ (n : ℕ). HasSeen n c.learn.new.self) (sym (ap known_by c.in-Some.is))
    (seen_longer c.in-Some.receipt c.learn.new.self c.number-number.result c.number-number.ensures.length
    (subst (λ seen. IsLonger seen c.in-Some.receipt c.learn.new.self) c.requires c.in_ok-learn.ensures.longer) c.in_ok-learn.ensures.chain)
