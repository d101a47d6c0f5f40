use Rattle.std.proofs.Common.{◌≡◌, ◌∙◌, ◌<◌, ◌++◌, ◌∷◌, [], ap, sym, subst, refl, arith, drop, length, get_or, true}
use Rattle.std.specs.Ordering.{is_eq}
use Rattle.sorted_pages.specs.declared.apply.Edit.TheVariants.{Remove}
use Rattle.sorted_pages.specs.Changes.{with_change}
use Rattle.sorted_pages.specs.Edges.{first_passes}
use Rattle.sorted_pages.specs.Ranges.{first_within}
use Rattle.sorted_pages.specs.Sorted.{IsRising}
use Rattle.sorted_pages.proofs.Flats.{singles}
use Rattle.sorted_pages.proofs.Parts.{rising-with_changes}
use Rattle.sorted_pages.proofs.Shorts.{in_place, of_short, rises_short}
use Rattle.sorted_pages.proofs.InPlace.{there, with_out, passes_first, with_passes, longer, taken, first_there}
use Rattle.sorted_pages.proofs.paged.Paged.take.Goals as goal

record Taken (g : _) (c : goal.After-taken_at-entries g) : Type 0 where
  none : length c.self.inside.sections.items ≡ 0
  rises : IsRising g.E.PageEntry.order c.self.inside.entries.items
  passes : true ≡ first_passes (λ e. is_eq (g.S.Span.side c.args.span.now e)) c.split_at_edge.result.1.now
  head : c.split_at_edge.result.1.now ≡ c.taken_at-entries.result.1 ∷ drop 1 c.split_at_edge.result.1.now
  whole : c.self.inside.entries.items ≡ c.split_at_edge.result.0.now ++ c.taken_at-entries.result.1 ∷ drop 1 c.split_at_edge.result.1.now
  left : c.taken_at-entries.result.0.items ≡ with_change g.E.PageEntry.order (Remove c.taken_at-entries.result.1) c.self.inside.entries.items

how : (g : _) (c : goal.After-taken_at-entries g) → Taken g c
how g c =
    let before = c.split_at_edge.result.0.now in
    let from = c.split_at_edge.result.1.now in
    let x = c.taken_at-entries.result.1 in
    let parts : c.self.inside.entries.items ≡ before ++ from = sym c.deref.ensures.value ∙ c.split_at_edge.ensures.parts in
    let passes : true ≡ first_passes (λ e. is_eq (g.S.Span.side c.args.span.now e)) from = sym c.if-not-is_there.false ∙ c.is_in-is_there.ensures in
    let inside : length before < length (before ++ from) = longer before from (passes_first (λ e. is_eq (g.S.Span.side c.args.span.now e)) from passes) in
    let head : from ≡ x ∷ drop 1 from =
    there before from x inside (c.taken_at-entries.ensures.entry ∙ ap (λ zs. get_or zs (length before) x) parts) in
    let whole : c.self.inside.entries.items ≡ before ++ x ∷ drop 1 from = parts ∙ ap (λ zs. before ++ zs) head in
    let as_long : length c.self.inside.entries.items ≡ length (before ++ from) = ap length parts in
    let none : length c.self.inside.sections.items ≡ 0 =
    in_place g.E.PageEntry.order c.self.inside.entries.items c.self.inside.sections.items c.self.invariant (omega (arith, as_long, inside)) in
    let rises : IsRising g.E.PageEntry.order c.self.inside.entries.items =
    subst (IsRising g.E.PageEntry.order) (singles c.self.inside.entries.items)
    (rises_short g.E.PageEntry.order c.self.inside.entries.items c.self.inside.sections.items c.self.invariant none) in
    record {
      none = none;
      rises = rises;
      passes = passes;
      head = head;
      whole = whole;
      left = with_out c.self.inside.entries.items before from (length before) c.taken_at-entries.result.0.items parts refl c.taken_at-entries.ensures.left
          ∙ taken g.E.PageEntry.order g.met.E.PageEntry.is_total x c.self.inside.entries.items before (drop 1 from) whole rises;
    }

pub of_entries-requires-clause-rises : goal.of_entries-requires-clause-rises
of_entries-requires-clause-rises g c =
    subst (IsRising g.E.PageEntry.order) (sym (singles c.taken_at-entries.result.0.items ∙ (how g c).left))
    (rising-with_changes g.E.PageEntry.order g.met.E.PageEntry.is_total (Remove c.taken_at-entries.result.1 ∷ []) c.self.inside.entries.items (how g c).rises)

pub returns-clause-some : goal.returns-clause-some
returns-clause-some g c =
    let t = how g c.before.before in
    let same : c.self.inside.entries.items ≡ c.args.self =
    sym (singles c.self.inside.entries.items)
    ∙ sym (of_short g.E.PageEntry.order c.self.inside.entries.items c.self.inside.sections.items t.none) ∙ c.self.view_is in (
      first_there g.E.PageEntry.order g.met.E.PageEntry.is_total (g.S.Span.side c.args.span.now) (g.met.S.Span.is_monotone c.args.span.now)
          c.taken_at-entries.result.1 c.self.inside.entries.items c.split_at_edge.result.0.now (drop 1 c.split_at_edge.result.1.now) t.whole t.rises
          c.split_at_edge.ensures.front
          (with_passes (λ e. is_eq (g.S.Span.side c.args.span.now e)) c.split_at_edge.result.1.now (drop 1 c.split_at_edge.result.1.now)
          c.taken_at-entries.result.1 t.head t.passes)
          ∙ ap (first_within (g.S.Span.side c.args.span.now)) same,
      c.of_entries.ensures ∙ singles c.taken_at-entries.result.0.items ∙ t.left
          ∙ ap (with_change g.E.PageEntry.order (Remove c.taken_at-entries.result.1)) same,
    )
