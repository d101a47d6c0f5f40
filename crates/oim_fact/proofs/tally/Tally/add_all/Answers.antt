-- The flags are those of both where the first facts are alike too, and the interval is the common part.
use Rattle.std.proofs.Common.{◌∙◌, ◌&&◌, ap, refl}
use Rattle.filing_model.specs.Oim.Dimensions.{dims_eq}
use Rattle.filing_model.specs.Oim.Duplicates.{is_complete, value_pair}
use Rattle.oim_fact.proofs.JoinedTallies.{joined}
use Rattle.oim_fact.proofs.tally.Tally.add_all.Goals as goal

pub returns : goal.returns
returns c others more told told_more =
    let dims = c.eq-same_dims.ensures ∙ (λ i. dims_eq (c.first.view_is i).dims (c.other_first.view_is i).dims) in
    let value = c.is_complete-same_value.ensures
    ∙ (λ i. is_complete (value_pair (c.first.view_is i).value (c.other_first.view_is i).value)) in
    joined c.args.self.now c.args.other _ c.args.first.now c.args.other_first.now others more refl
    (c.all_three-self.ensures ∙ ap (λ b. c.args.self.now.together && (c.args.other.together && b)) dims)
    (c.all_three-self-2.ensures ∙ ap (λ b. c.args.self.now.complete && (c.args.other.complete && b)) value)
    c.common_part-self.ensures told told_more
