use Rattle.std.proofs.Common.{◌≡◌, ◌∙◌, ap, sym, subst, ◌+◌, ◌<◌, ◌≤◌, arith, sum, length, [], ◌∷◌, ◌++◌, false-eqb}
use Rattle.std.specs.Arc.{arc_value}
use Rattle.sorted_pages.specs.Pages.{AreSizes}
use Rattle.sorted_pages.proofs.Flats.{singles}
use Rattle.sorted_pages.proofs.Shorts.{in_place, of_short}
use Rattle.sorted_pages.proofs.Sizes.{no_sizes, sizes_push, one_page}
use Rattle.sorted_pages.proofs.paged.Paged.page_sizes.Goals as goal

pub returns-then-not-is_empty : goal.returns-then-not-is_empty
returns-then-not-is_empty g c =
    let entries = c.self.inside.entries.items in
    let sections = c.self.inside.sections.items in
    let some : 0 < length entries = omega (arith, false-eqb _ 0 c.if-not-is_empty.ensures, c.self.inside.entries.ok.0) in
    let few : length entries ≤ 64 = c.self.invariant.few in
    let none : length sections ≡ 0 = in_place g.E.PageEntry.order entries sections c.self.invariant some in
    let all : length c.args.self.now ≡ length entries =
    ap length (sym c.self.view_is ∙ of_short g.E.PageEntry.order entries sections none ∙ singles entries) in
    let told : c.len.result ≡ length entries = omega (arith, c.len.ensures, c.self.inside.entries.ok.0) in
    let whole : 0 + c.len.result ≡ length c.args.self.now = omega (arith, told, all) in
    subst (λ n. AreSizes c.push.new.self.items n) whole
    (sizes_push [] c.push.new.self.items 0 c.len.result no_sizes (omega (arith, told, some)) (omega (arith, told, few))
    (c.in_ok-push.ensures.items ∙ ap (λ ns. ns ++ c.len.result ∷ []) c.new-sizes.ensures.items))

pub loop-page-smaller : goal.loop-page-smaller
loop-page-smaller g c =
    let page : length c.loop-page.left ≡ length (arc_value c.in-Some.page.now) + length c.next_page.new.self =
    one_page c.in-Some.page.now c.loop-page.left c.next_page.new.self c.in-Some.ensures.some in
    let items : length (arc_value c.in-Some.page.now) ≡ length c.deref-in-Some.result.now = ap length (sym c.deref-in-Some.ensures) in
    omega (arith, page, items, c.items.ensures.some)

pub loop-page-preserved : goal.loop-page-preserved
loop-page-preserved g c =
    let page : length c.loop-page.left ≡ length (arc_value c.in-Some.page.now) + length c.next_page.new.self =
    one_page c.in-Some.page.now c.loop-page.left c.next_page.new.self c.in-Some.ensures.some in
    let items : length (arc_value c.in-Some.page.now) ≡ length c.deref-in-Some.result.now = ap length (sym c.deref-in-Some.ensures) in
    let count : length c.items.result.now ≡ length c.deref-in-Some.result.now = ap length c.items.ensures.items in
    let low : 0 < length c.items.result.now = omega (arith, count, c.items.ensures.some) in
    let high : length c.items.result.now ≤ 64 = omega (arith, count, c.items.ensures.few) in
    let next : AreSizes c.push-in-Some.new.self.items (sum c.loop-page.sizes.items + length c.items.result.now) =
    sizes_push c.loop-page.sizes.items c.push-in-Some.new.self.items (sum c.loop-page.sizes.items) (length c.items.result.now)
    c.loop-page.invariant.sizes low high c.in_ok-push-2.ensures.items in
    record {
      sizes = subst (λ n. AreSizes c.push-in-Some.new.self.items n) (sym next.total) next;
      total = omega (arith, next.total, page, items, count, c.loop-page.invariant.total);
    }
