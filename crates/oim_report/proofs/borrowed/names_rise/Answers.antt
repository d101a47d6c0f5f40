use Rattle.std.proofs.Common.{rules}
use Rattle.std.proofs.lemmas.Fn.{always_returns_same}
use Rattle.oim_report.proofs.RisingMembers.{is_less, rise_where_told}
use Rattle.oim_report.proofs.borrowed.names_rise.Goals as goal

pub returns : goal.returns
returns c =
    rise_where_told c.is_sorted_by.result c.args.members.now
    (c.is_sorted_by.ensures.cases is_less (always_returns_same _ _ _ (λ a r f' k. search rules)))
