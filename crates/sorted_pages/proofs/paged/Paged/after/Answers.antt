use Rattle.std.proofs.Common.{◌≡◌, ◌<◌, sym, subst, arith, length, true-eqb, false-eqb}
use Rattle.std.specs.List.{flat_map}
use Rattle.sorted_pages.specs.Pages.{of_section, singleton}
use Rattle.sorted_pages.specs.Sorted.{IsRising}
use Rattle.sorted_pages.proofs.Shorts.{rises_long, rises_short}
use Rattle.sorted_pages.proofs.paged.Paged.after.Goals as goal

pub short_after-requires-clause-entries : goal.short_after-requires-clause-entries
short_after-requires-clause-entries g c =
    let none : length c.self.inside.sections.items ≡ 0 = omega (arith, true-eqb _ 0 c.if-is_empty.ensures, c.self.inside.sections.ok.0) in
    subst (λ es. IsRising g.E.PageEntry.order (flat_map singleton es)) (sym c.deref.ensures.value)
    (rises_short g.E.PageEntry.order c.self.inside.entries.items c.self.inside.sections.items c.self.invariant none)

pub long_after-requires-clause-entries : goal.long_after-requires-clause-entries
long_after-requires-clause-entries g c =
    let some : 0 < length c.self.inside.sections.items = omega (arith, false-eqb _ 0 c.if-is_empty.ensures, c.self.inside.sections.ok.0) in
    subst (λ ss. IsRising g.E.PageEntry.order (flat_map of_section ss)) (sym c.deref-else-is_empty.ensures.value)
    (rises_long g.E.PageEntry.order c.self.inside.entries.items c.self.inside.sections.items c.self.invariant some)
