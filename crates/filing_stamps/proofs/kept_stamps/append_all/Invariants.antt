use Rattle.std.proofs.Common.{◌≡◌, ◌++◌, take}
use Rattle.std.specs.List.{flat_map}
use Rattle.filing_stamps.proofs.kept_stamps.append_all.Given as goal

abbrev pub invariant-loop-part : goal.invariant-loop-part
invariant-loop-part g l = l.all.items ≡ l.initial.all.items ++ flat_map g.T.KeptStamps.stamps (take l.part-index l.parts)
