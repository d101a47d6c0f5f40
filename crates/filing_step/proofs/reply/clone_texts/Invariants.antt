use Rattle.std.proofs.Common.{◌≡◌, map, take, string_bytes}
use Rattle.filing_step.proofs.reply.clone_texts.Given as goal

-- so many texts are copied
abbrev pub invariant-loop-text : goal.invariant-loop-text
invariant-loop-text l = map string_bytes l.copies.items ≡ map string_bytes (take l.text-index l.text-items)
