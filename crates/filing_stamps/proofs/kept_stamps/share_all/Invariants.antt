use Rattle.std.proofs.Common.{◌≡◌, take}
use Rattle.filing_stamps.proofs.kept_stamps.share_all.Given as goal

abbrev pub invariant-loop-part : goal.invariant-loop-part
invariant-loop-part g l = l.same.items ≡ take l.part-index l.parts
