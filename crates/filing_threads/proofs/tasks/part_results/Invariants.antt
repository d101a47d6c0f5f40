use Rattle.std.proofs.Common.{◌≡◌, ◌++◌, map}
use Rattle.filing_threads.proofs.tasks.part_results.Given as goal

-- the desks and the replies that were put apart, and those still to come
abbrev pub invariant-loop-left : goal.invariant-loop-left
invariant-loop-left g l =
    (l.desks.items ++ map (λ left. left.0) l.left-iterator.rest.items ≡ map (λ left. left.0) l.fn.all_left.items)
    × (l.all_replies.items ++ map (λ left. left.2) l.left-iterator.rest.items ≡ map (λ left. left.2) l.fn.all_left.items)
