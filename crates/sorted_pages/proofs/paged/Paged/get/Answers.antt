use Rattle.std.proofs.Common.{◌∙◌}
use Rattle.sorted_pages.proofs.Ranging.{first_tied}
use Rattle.sorted_pages.proofs.paged.Paged.get.Goals as goal

pub returns : goal.returns
returns g c = c.first_in.ensures ∙ first_tied g.E.PageEntry.order g.met.E.PageEntry.is_total c.args.like.now c.args.self.now
