use Rattle.std.proofs.Common.{◌∙◌, ap, ◌++◌}
use Rattle.filing_stamps.proofs.AllStamps.{within_all}
use Rattle.filing_stamps.proofs.kept_stamps.LayerKeptStamps.append_to.Goals as goal

pub loop-stamp-init : goal.loop-stamp-init
loop-stamp-init c =
    ap (λ ss. c.args.all.now.items ++ ss)
    (c.into_iter-stamp-iterator.ensures.into_iter_gives ∙ c.range-stamp-items.ensures.entries ∙ within_all _ ∙ c.deref.ensures ∙ c.self.view_is)
