use Rattle.std.proofs.Common.{◌∙◌, ap, sym, refl, not, [], ◌∷◌, cond, true, filter, true≢false}
use Rattle.std.specs.List.{fold}
use Rattle.std.specs.Option.{option_map}
use Rattle.filing_model.specs.Oim.Duplicates.{class_of, has_dims, facts_of, is_disallowed, lesser_dims}
use Rattle.filing_model.specs.Sessions.Queries.{cell_facts}
use Rattle.filing_model.specs.declared.duplicates.Allowed.TheVariants.{All}
use Rattle.filing_model.proofs.Oim.EveryPair.{pairs_always}
use Rattle.filing_model.proofs.Oim.DisallowedCells.{allows-cell}
use Rattle.filing_index.proofs.CrowdedCells.{disallowed_by_class}
use Rattle.filing_index.proofs.cells.with_cell.Goals as goal
use Rattle.filing_index.proofs.cells.with_cell.Goals.{in-All, in_default}

-- a report that allows all allows each cell
pub returns-then-matches : goal.returns-then-matches
returns-then-matches c = λ facts index.
    let least = option_map (λ d. d.now) c.args.least in
    let dims = c.args.held.now.dims in
    elim c.match-matches.branch [
      | in-All w ↦ sym (ap (λ a. fold lesser_dims least (filter (is_disallowed a (facts_of facts.entries)) (dims ∷ []))) w.in-All.is
          ∙ ap (λ b. fold lesser_dims least (cond (not b) (dims ∷ []) []))
          (allows-cell All dims (facts_of facts.entries) ∙ pairs_always (λ f g. true) (λ f g. refl) (filter (has_dims dims) (facts_of facts.entries))))
      | in_default w ↦ absurd (true≢false (sym c.if-matches.true ∙ w.matches-is))
    ]

pub returns-then-allows : goal.returns-then-allows
returns-then-allows c = λ facts index.
    let dims = c.args.held.now.dims in
    let class = c.class_in.ensures facts index ∙ ap (λ d. class_of (cell_facts d facts)) c.dims-dims.ensures in
    sym (ap (λ b. fold lesser_dims (option_map (λ d. d.now) c.args.least) (cond b (dims ∷ []) []))
    (disallowed_by_class c.args.allowed dims facts c.class_in.result class
    ∙ ap not (sym c.allows.ensures ∙ c.if-allows.true)))

pub returns : goal.returns
returns c = λ facts index.
    let dims = c.args.held.now.dims in
    let least = option_map (λ d. d.now) c.args.least in
    let class = c.class_in.ensures facts index ∙ ap (λ d. class_of (cell_facts d facts)) c.dims-dims.ensures in
    c.lesser_dims.ensures
    ∙ ap (lesser_dims least) c.dims-dims.ensures
    ∙ sym (ap (λ b. fold lesser_dims least (cond b (dims ∷ []) []))
    (disallowed_by_class c.args.allowed dims facts c.class_in.result class
    ∙ ap not (sym c.allows.ensures ∙ c.if-allows.false)))
