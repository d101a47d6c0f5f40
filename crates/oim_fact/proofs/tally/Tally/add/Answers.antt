-- A fact more: the flags are those of the others and of this fact, and the interval is the common part.
use Rattle.std.proofs.Common.{◌≡◌, ◌∙◌, ◌&&◌, refl, subst, Option}
use Rattle.filing_model.specs.Oim.Dimensions.{dims_eq}
use Rattle.filing_model.specs.Oim.Duplicates.{has_dims, is_complete, value_pair}
use Rattle.filing_model.specs.Oim.Intervals.{Interval}
use Rattle.oim_fact.specs.Tallies.{IsCommonPart, interval_in, has_value_of}
use Rattle.oim_fact.proofs.Tallying.{one_more, flag_tested, flag_kept}
use Rattle.oim_fact.proofs.tally.Tally.add.Goals as goal
use Rattle.oim_fact.proofs.tally.Tally.add.Goals.{then-self, else-self, then-self-2, else-self-2}

pub returns : goal.returns
returns c others told =
    let same_dims = has_dims c.args.first.now.dims c.args.fact.now in
    let same_value = has_value_of c.args.first.now c.args.fact.now in
    let together : c.if-self.self ≡ (c.args.self.now.together && same_dims) = elim c.if-self.branch [
      | then-self w ↦
          flag_tested c.if-self.self c.args.self.now.together same_dims w.if-self.true
          (w.self-is ∙ w.eq-self.ensures ∙ (λ i. dims_eq (c.first.view_is i).dims (c.fact.view_is i).dims))
      | else-self w ↦ flag_kept c.if-self.self c.args.self.now.together same_dims w.if-self.false w.self-is
    ] in
    let complete : c.if-self-2.self ≡ (c.args.self.now.complete && same_value) = elim c.if-self-2.branch [
      | then-self-2 w ↦
          flag_tested c.if-self-2.self c.args.self.now.complete same_value w.if-self-2.true
          (w.self-is ∙ w.is_complete-self.ensures
          ∙ (λ i. is_complete (value_pair (c.first.view_is i).value (c.fact.view_is i).value)))
      | else-self-2 w ↦ flag_kept c.if-self-2.self c.args.self.now.complete same_value w.if-self-2.false w.self-is
    ] in
    let interval : c.interval_in.result ≡ interval_in c.args.fact.now.value =
    c.interval_in.ensures.interval ∙ (λ i. interval_in (c.fact.view_is i).value) in
    let part = subst (λ (o : Option Interval). IsCommonPart c.args.self.now.shared o c.common_part-self.result) interval c.common_part-self.ensures in
    one_more c.args.self.now _ c.args.first.now c.args.fact.now others refl together complete part told
