use Rattle.std.proofs.Common.{◌∙◌, ap, sym, option_map}
use Rattle.filing_model.specs.Oim.Duplicates.{facts_of, is_disallowed}
use Rattle.filing_index.specs.Cells.{are_these}
use Rattle.filing_index.proofs.CrowdedCells.{nothing_new}
use Rattle.filing_index.proofs.facts.Facts.lesser_disallowed.Goals as goal

pub returns-then-are_these : goal.returns-then-are_these
returns-then-are_these c = λ was.
    let before = option_map (λ d. d.now) c.args.before in
    let looked_at = ap (are_these before) (sym c.dims.ensures) ∙ sym c.are_these.ensures ∙ c.if-are_these.true in
    let disallowed = is_disallowed c.args.allowed (facts_of c.args.self.now.entries) in
    nothing_new disallowed before _ c.args.held.now.dims was looked_at

pub returns : goal.returns
returns c = λ was. c.with_cell.ensures c.args.self.now c.index.ensures
