-- Each turn looks at the cell of one more fact, or passes it over.
use Rattle.std.proofs.Common.{◌≡◌, ◌∙◌, ap, sym, subst, List, [], ◌∷◌, ◌++◌, Option, Some, Bor}
use Rattle.std.specs.List.{fold, filter}
use Rattle.std.specs.Option.{option_map}
use Rattle.std.specs.Iterator.{Yields}
use Rattle.std.proofs.lemmas.List.{map-append}
use Rattle.filing_model.specs.Common.Text.{Text}
use Rattle.filing_model.specs.Common.TextMap.{TextMap}
use Rattle.filing_model.specs.Oim.Dimensions.{Dims}
use Rattle.filing_model.specs.Oim.Facts.{Fact}
use Rattle.filing_model.specs.Oim.Duplicates.{facts_of, is_disallowed, lesser_dims}
use Rattle.filing_model.specs.declared.duplicates.Allowed.{Allowed}
use Rattle.filing_index.specs.Cells.{are_these, facts_given}
use Rattle.filing_index.proofs.CrowdedCells.{IsLeastSoFar, one_more, passed_over}
use Rattle.filing_index.proofs.cells.least_disallowed_among.Goals as goal
use Rattle.filing_index.proofs.cells.least_disallowed_among.Goals.{then-not-are_these, else-not-are_these}

taken : (a : Allowed) (all : TextMap Fact) (given : List (Bor (Text × Fact))) (held : Bor (Text × Fact)) (dims : Dims) (least : Option Dims)
    → dims ≡ held.now.1.dims
    → IsLeastSoFar a all (facts_given given ++ held.now.1 ∷ []) (Some held.now.1.dims) least
    → IsLeastSoFar a all (facts_given (given ++ held ∷ [])) (Some dims) least
taken a all given held dims least is so_far =
    subst (λ fs. IsLeastSoFar a all fs (Some dims) least) (sym (map-append (λ e. e.now.1) given (held ∷ [])))
    (subst (λ d. IsLeastSoFar a all (facts_given given ++ held.now.1 ∷ []) (Some d) least) (sym is) so_far)

pub loop-held-preserved : goal.loop-held-preserved
loop-held-preserved g c = λ all index.
    let a = c.args.allowed in
    let given = c.loop-held.yielded in
    let held = c.in-Some.held in
    let before = option_map (λ d. d.now) c.loop-held.before in
    let least = option_map (λ d. d.now) c.loop-held.least in
    let so_far = c.loop-held.invariant all index in
    let of_held = ap (λ (f : Fact). f.dims) c.value-fact.ensures in
    let dims = c.dims-dims.ensures ∙ of_held in
    taken a all given held c.dims-dims.result.now (option_map (λ d. d.now) c.if-not-are_these.least) dims
    (elim c.if-not-are_these.branch [
      | then-not-are_these w ↦ one_more a all (facts_given given) held.now.1 before least (option_map (λ d. d.now) c.if-not-are_these.least) so_far
          (ap (option_map (λ d. d.now)) w.least-is ∙ w.with_cell-least.ensures all index
          ∙ ap (λ d. fold lesser_dims least (filter (is_disallowed a (facts_of all.entries)) (d ∷ []))) of_held)
      | else-not-are_these w ↦ subst (λ m. IsLeastSoFar a all (facts_given given ++ held.now.1 ∷ []) (Some held.now.1.dims) m)
          (sym (ap (option_map (λ d. d.now)) w.least-is))
          (passed_over a all (facts_given given) held.now.1 before least so_far
          (ap (are_these before) (sym dims) ∙ sym c.are_these.ensures ∙ w.if-not-are_these.false))
    ])

pub returns : goal.returns
returns g c =
    let given =
    subst (λ (s : g.row.I.Denot). Yields g.I.Iterator.next_gives s c.loop-held.yielded c.loop-held.held-iterator)
    c.into_iter-held-iterator.ensures.into_iter_gives c.loop-held.yielded_by in (
      c.loop-held.yielded,
      (c.next.new.self, (c.loop-held.held-iterator, given, c.in-None.ensures.steps)),
      λ all index. (c.loop-held.invariant all index).is_least,
    )
