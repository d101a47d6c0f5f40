use Rattle.std.proofs.Common.{◌≡◌, ◌∙◌, ap, sym, arith}
use Rattle.std.specs.Arc.{arc_value}
use Rattle.sorted_pages.specs.Pages.{greatest}
use Rattle.filing_stamps.specs.Stamps.{Stamp}
use Rattle.filing_stamps.proofs.AllStamps.{within_all}
use Rattle.filing_stamps.proofs.kept_stamps.Layer.of_sorted.Goals as goal

pub invariant_of-result : goal.invariant_of-result
invariant_of-result c =
    let is : c.total-up_to.result ≡ greatest (λ s. s.number) (arc_value c.in_ok-stamps-2.stamps) =
    c.total-up_to.ensures
    ∙ ap (greatest (λ (s : Stamp). s.number)) (c.range.ensures.entries ∙ within_all c.in_ok-stamps.stamps ∙ sym c.in_ok-stamps-2.ensures.ok) in
    omega (arith, is)
