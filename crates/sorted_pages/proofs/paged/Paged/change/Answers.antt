use Rattle.std.proofs.Common.{◌≡◌, ◌<◌, ◌∙◌, ap, sym, arith, cond, length, true-eqb, false-eqb}
use Rattle.std.specs.List.{flat_map}
use Rattle.sorted_pages.specs.Changes.{with_change}
use Rattle.sorted_pages.specs.Pages.{of_section, singleton}
use Rattle.sorted_pages.proofs.InPlace.{at_err, at_ok, rises_after}
use Rattle.sorted_pages.proofs.Shorts.{of_short, rises_long, rises_short, still_long, still_short}
use Rattle.sorted_pages.proofs.paged.Paged.change.Goals as goal

pub invariant_of-self : goal.invariant_of-self
invariant_of-self g c =
    let none : length c.self.inside.sections.items ≡ 0 = omega (arith, true-eqb _ 0 c.if-is_empty.ensures, c.self.inside.sections.ok.0) in
    still_short g.E.PageEntry.order c.change.new.items.items c.self.inside.sections.items none
    (rises_after g.E.PageEntry.order g.met.E.PageEntry.is_total c.args.change.now (flat_map singleton c.self.inside.entries.items) _ c.change.result
    c.change.ensures.entries (at_err c.change.result (ap (flat_map singleton)) c.change.ensures.failed)
    (rises_short g.E.PageEntry.order c.self.inside.entries.items c.self.inside.sections.items c.self.invariant none))
    (c.change.ensures.few c.self.invariant.few)

pub returns-then-is_empty : goal.returns-then-is_empty
returns-then-is_empty g c =
    let none : length c.self.inside.sections.items ≡ 0 = omega (arith, true-eqb _ 0 c.if-is_empty.ensures, c.self.inside.sections.ok.0) in
    at_ok c.change.result (λ made e. of_short g.E.PageEntry.order c.change.new.items.items c.self.inside.sections.items none ∙ e
    ∙ ap (λ es. cond made (with_change g.E.PageEntry.order c.args.change.now es) es)
    (sym (of_short g.E.PageEntry.order c.self.inside.entries.items c.self.inside.sections.items none) ∙ c.self.view_is)) c.change.ensures.entries

pub invariant_of-self-2 : goal.invariant_of-self-2
invariant_of-self-2 g c =
    let some : 0 < length c.self.inside.sections.items = omega (arith, false-eqb _ 0 c.if-is_empty.ensures, c.self.inside.sections.ok.0) in
    still_long g.E.PageEntry.order c.self.inside.entries.items c.change-2.new.items.items c.self.inside.sections.items c.self.invariant some
    (rises_after g.E.PageEntry.order g.met.E.PageEntry.is_total c.args.change.now (flat_map of_section c.self.inside.sections.items) _ c.change-2.result
    c.change-2.ensures.entries (at_err c.change-2.result (ap (flat_map of_section)) c.change-2.ensures.failed)
    (rises_long g.E.PageEntry.order c.self.inside.entries.items c.self.inside.sections.items c.self.invariant some))
