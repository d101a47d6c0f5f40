-- A report that allows all has no cell that is not allowed; else the walk meets one fact of each that is not.
use Rattle.std.proofs.Common.{◌∙◌, ap, sym, refl, true, true≢false, map}
use Rattle.std.proofs.lemmas.Iterator.{items_from_drains}
use Rattle.std.proofs.lemmas.Iterator.Consumers.{YieldsList-from_first}
use Rattle.filing_model.specs.Oim.Duplicates.{facts_of, least_disallowed}
use Rattle.filing_model.specs.declared.duplicates.Allowed.TheVariants.{All}
use Rattle.filing_model.proofs.Oim.EveryPair.{pairs_always}
use Rattle.filing_model.proofs.Oim.DisallowedCells.{obeys_where_no_cell_is_disallowed}
use Rattle.filing_index.specs.Cells.{least_among_facts}
use Rattle.filing_index.proofs.KeptElements.{map-map}
use Rattle.filing_index.proofs.CrowdedCells.{least_met}
use Rattle.filing_index.proofs.cells.least_disallowed.Goals as goal
use Rattle.filing_index.proofs.cells.least_disallowed.Goals.{in-All, in_default}

pub returns-then-matches : goal.returns-then-matches
returns-then-matches c = λ facts index.
    elim c.match-matches.branch [
      | in-All w ↦ sym (ap (λ a. least_disallowed a facts.entries) w.in-All.is
          ∙ (obeys_where_no_cell_is_disallowed All facts.entries).0 (pairs_always (λ f g. true) (λ f g. refl) (facts_of facts.entries)))
      | in_default w ↦ absurd (true≢false (sym c.if-matches.true ∙ w.matches-is))
    ]

pub returns : goal.returns
returns c = λ facts index.
    let (given, (end, (last, given_by, over)), is) = c.least_disallowed_among.ensures in
    let all = items_from_drains given (last, given_by, λ _. (end, over)) (YieldsList-from_first (λ x. x.now) (λ b. b) c.of.result refl) in
    is facts index
    ∙ ap (λ fs. least_among_facts fs c.args.allowed facts)
    (sym (map-map (λ e. e.1) (λ h. h.now) given) ∙ ap (map (λ e. e.1)) (all ∙ c.of.ensures.facts))
    ∙ least_met c.args.allowed facts c.args.index.now c.of.ensures.rising index
