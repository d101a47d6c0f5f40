use Rattle.filing_threads.proofs.WrittenReplies.{IsWrittenTo}
use Rattle.filing_threads.proofs.written.write_replies.Given as goal

-- the replies of the scripts before are written
abbrev pub invariant-loop-replies : goal.invariant-loop-replies
invariant-loop-replies g l =
    IsWrittenTo l.fn.all_replies.items l.replies-iterator.rest.items l.whole (g.W.Sink.state l.initial.output) (g.W.Sink.state l.output)
