use Rattle.std.proofs.Common.{sym, subst}
use Rattle.filing_stamps.specs.Layers.{AreUpTo}
use Rattle.filing_stamps.proofs.GreatestStamps.{numbered-up_to}
use Rattle.filing_stamps.proofs.kept_stamps.CommitStamps.of.Goals as goal

pub invariant_of-result : goal.invariant_of-result
invariant_of-result c =
    subst (λ v. AreUpTo c.args.number v.items) (sym c.in_ok-stamps.ensures.ok) (numbered-up_to c.args.number c.args.stamps.items c.requires)
