use Rattle.filing_session.proofs.PagesSoFar.{IsPageSoFar}
use Rattle.std.proofs.Common.{map, string_bytes}
use Rattle.filing_session.proofs.reads.page_of.Given as goal

abbrev pub invariant-loop-id : goal.invariant-loop-id
invariant-loop-id l = IsPageSoFar l.limit l.initial.id-iterator (map string_bytes l.texts.items) l.left l.id-iterator
