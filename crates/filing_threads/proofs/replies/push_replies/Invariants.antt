use Rattle.std.proofs.Common.{drop, string_bytes}
use Rattle.std.specs.Slice.Iter.{iter_rest}
use Rattle.filing_threads.proofs.ToldReplies.{IsToldTo}
use Rattle.filing_threads.proofs.replies.push_replies.Given as goal

-- the replies so far are those of the lines before
abbrev pub invariant-loop-at_once : goal.invariant-loop-at_once
invariant-loop-at_once g l =
    IsToldTo (string_bytes l.initial.text) l.told (drop l.at_once-index l.told) l.outcomes (iter_rest l.outcomes_left) (string_bytes l.text)
