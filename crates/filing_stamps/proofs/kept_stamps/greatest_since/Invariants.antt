use Rattle.std.proofs.Common.{◌≡◌, max, take}
use Rattle.std.specs.List.{flat_map}
use Rattle.filing_stamps.specs.Stamps.{among_side}
use Rattle.filing_stamps.proofs.GreatestStamps.{best}
use Rattle.filing_stamps.proofs.kept_stamps.greatest_since.Given as goal

-- as great as that of the parts so far, where either is greater
abbrev pub invariant-loop-part : goal.invariant-loop-part
invariant-loop-part g l =
    max l.since l.number ≡ max l.since (best (among_side l.among) (flat_map g.T.KeptStamps.stamps (take l.part-index l.parts)))
