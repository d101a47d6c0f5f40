use Rattle.std.proofs.Common.{◌∙◌, ap, max}
use Rattle.filing_stamps.specs.Stamps.{among_side}
use Rattle.filing_stamps.proofs.GreatestStamps.{best, none-since}
use Rattle.filing_stamps.proofs.kept_stamps.CommitStampsKeptStamps.greatest_since.Goals as goal

pub returns-then-self-since : goal.returns-then-self-since
returns-then-self-since c =
    let side = among_side c.args.among.now in
    none-since side c.args.since c.self.inside.up_to _ c.self.invariant c.if-self-since.true ∙ ap (λ ss. max c.args.since (best side ss)) c.self.view_is
