use Rattle.json.specs.Written.{PlainBetween}
use Rattle.oim_report.proofs.plain_text.are_few_plain.Given as goal

-- all bytes before the place mean themselves
abbrev pub invariant-loop-byte : goal.invariant-loop-byte
invariant-loop-byte l = PlainBetween l.bytes 0 l.byte-index
