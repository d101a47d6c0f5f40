-- Names that were sorted stand beside those that are the same.
use Rattle.std.proofs.Common.{◌∙◌, ap, map, rules}
use Rattle.std.proofs.lemmas.Fn.{always_returns_same}
use Rattle.filing_model.specs.Common.Text.{has_repeats}
use Rattle.oim_fact.specs.Texts.{has_equal_neighbours}
use Rattle.report_inspection.proofs.RepeatedNames.{is_before, is_before-ranks, repeats_by_neighbours}
use Rattle.report_inspection.proofs.repeats.have_repeats.Goals as goal

pub returns : goal.returns
returns c =
    c.have_equal_neighbours.ensures
    ∙ ap (λ ns. has_equal_neighbours (map (λ n. n.now) ns)) c.deref.ensures.value
    ∙ repeats_by_neighbours c.in_ok-names.names.items c.sort_unstable_by.new.self.items c.sort_unstable_by.ensures.permutation
    (c.sort_unstable_by.ensures.sorted is_before is_before-ranks (always_returns_same _ _ _ (λ a r f' k. search rules)))
    ∙ ap has_repeats c.in_ok-names.ensures
