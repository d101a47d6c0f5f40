use Rattle.std.proofs.Common.{◌≡◌, ◌++◌, map, string_bytes}
use Rattle.filing_session.proofs.reads.texts_of.Given as goal

-- the texts so far, and the identifiers still to come
abbrev pub invariant-loop-id : goal.invariant-loop-id
invariant-loop-id l = map string_bytes l.texts.items ++ l.id-iterator ≡ l.initial.id-iterator
