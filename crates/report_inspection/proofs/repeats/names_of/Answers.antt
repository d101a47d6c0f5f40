use Rattle.std.proofs.Common.{◌∙◌, ap, sym, arith, map}
use Rattle.std.proofs.lemmas.List.{take_all}
use Rattle.report_inspection.proofs.RepeatedNames.{keys_are}
use Rattle.report_inspection.proofs.repeats.names_of.Goals as goal

pub returns : goal.returns
returns c =
    c.loop-member.invariant
    ∙ ap (λ xs. map (λ m. m.0.now) xs) (take_all c.loop-member.member-index c.args.members.now.items (omega arith))
    ∙ sym (keys_are c.args.members.now.items)
