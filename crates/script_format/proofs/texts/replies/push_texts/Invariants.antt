use Rattle.std.proofs.Common.{◌≡◌, ◌++◌, string_bytes, drop, map}
use Rattle.json.specs.Print.{quoted}
use Rattle.filing_model.specs.Reading.Writing.{listed}
use Rattle.script_format.proofs.texts.replies.push_texts.Given as goal

-- what is written and what is left to write are the whole
abbrev pub invariant-loop-text : goal.invariant-loop-text
invariant-loop-text l =
    string_bytes l.out ++ listed l.later quoted (map string_bytes (drop l.text-index l.texts)) ≡ (string_bytes l.initial.out)
    ++ listed l.initial.later quoted (map string_bytes l.texts)
