use Rattle.std.proofs.Common.{◌≡◌, ◌∙◌, ap, sym, subst, List, [], ◌∷◌, Option, Some, map, filter, filter_map, fold, option_map}
use Rattle.filing_model.specs.Common.Text.{Text}
use Rattle.filing_model.specs.Oim.Facts.{Fact}
use Rattle.filing_model.specs.Oim.Dimensions.{Dims}
use Rattle.filing_model.specs.Oim.Duplicates.{facts_of, is_disallowed, lesser_dims}
use Rattle.filing_index.specs.Cells.{WasLookedAt}
use Rattle.filing_index.proofs.CrowdedCells.{was_looked_at}
use Rattle.filing_version.proofs.StampedReports.{facts_put, least_with_one}
use Rattle.filing_version.proofs.stamped_report.StampedReport.least_among.Goals as goal

pub loop-put-preserved-in-Some-value : goal.loop-put-preserved-in-Some-value
loop-put-preserved-in-Some-value c =
    let report = c.args.self.now.report in
    let bad = is_disallowed report.allowed (facts_of report.facts.entries) in
    let least = option_map (λ d. d.now) c.loop-put.least in
    let among : List Fact → Option Dims = λ facts. fold lesser_dims least (filter bad (map (λ f. f.dims) facts)) in
    let rest : List (Text × Option Fact) = c.next.new.self in
    let held = c.in-Some-value.held in
    let dims = ap (λ (f : Fact). f.dims) (c.behind-fact.view_is ∙ c.deref.ensures ∙ c.fact.ensures) in
    let same : is_disallowed c.allowed-allowed.result (facts_of c.self.inside.facts.entries) ≡ bad =
    (λ i. is_disallowed (c.allowed-allowed.ensures i) (facts_of (c.self.view_is i).report.facts.entries)) in
    let before : Option Dims = option_map (λ d. d.now) c.loop-put.before in
    let one = c.lesser_disallowed-least.ensures (subst (λ p. WasLookedAt p before least) (sym same) c.loop-put.invariant.0)
    ∙ (λ i. fold lesser_dims least (filter (same i) (held.dims ∷ []))) in
    let steps : c.loop-put.put-iterator ≡ c.in-Some.put.now ∷ rest = c.in-Some.ensures.steps in
    let put : c.in-Some.put.now.1 ≡ Some held = sym c.value.ensures ∙ c.in-Some-value.is in (
      subst (λ d. WasLookedAt bad (Some d) (option_map (λ d. d.now) c.lesser_disallowed-least.result)) (sym dims)
          (subst (WasLookedAt bad (Some held.dims)) (sym one) (was_looked_at bad held.dims least)),
      ap (λ o. fold lesser_dims o (filter bad (map (λ f. f.dims) (filter_map (λ e. e.1) rest)))) one
          ∙ least_with_one bad least held.dims (map (λ f. f.dims) (filter_map (λ e. e.1) rest))
          ∙ sym (ap among (facts_put c.in-Some.put.now rest held put))
          ∙ sym (ap (λ puts. among (filter_map (λ e. e.1) puts)) steps)
          ∙ c.loop-put.invariant.1,
    )
