use Rattle.std.proofs.Common.{◌≡◌, map, take}
use Rattle.report_inspection.proofs.repeats.names_of.Given as goal

abbrev pub invariant-loop-member : goal.invariant-loop-member
invariant-loop-member l = map (λ n. n.now) l.names.items ≡ map (λ m. m.0.now) (take l.member-index l.members.items)
