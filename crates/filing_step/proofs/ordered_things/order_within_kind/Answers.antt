use Rattle.std.proofs.Common.{◌∙◌, ap, sym, string_bytes}
use Rattle.std.specs.Cmp.Lexicographic.{slice_cmp}
use Rattle.std.specs.Option.{option_cmp}
use Rattle.std.specs.Ordering.{ordering_then}
use Rattle.filing_model.specs.Common.Text.{text_cmp}
use Rattle.filing_model.specs.Sessions.Things.{parts_of}
use Rattle.oim_fact.specs.Texts.{text_view}
use Rattle.filing_step.specs.Ordered.{page_query_order}
use Rattle.filing_step.specs.Steps.{thing_of}
use Rattle.filing_step.proofs.OrderedParts.{dims_by_parts, ranges_by_parts}
use Rattle.filing_step.proofs.ordered_things.order_within_kind.Goals as goal

pub returns-in-Cell-Cell : goal.returns-in-Cell-Cell
returns-in-Cell-Cell c same =
    c.then-in-Cell-Cell.ensures
    ∙ (λ i. ordering_then (c.cmp-in-Cell-Cell.ensures i) (c.cmp-in-Cell-Cell-2.ensures i))
    ∙ ap (λ o. ordering_then (text_cmp (string_bytes c.in-Cell-Cell.report) (string_bytes c.in-Cell-Cell.other)) o)
    (dims_by_parts c.in-Cell-Cell.dims c.in-Cell-Cell.other_dims)
    ∙ (λ i. slice_cmp (option_cmp text_cmp) (parts_of (thing_of (sym c.in-Cell-Cell.is-0 i))) (parts_of (thing_of (sym c.in-Cell-Cell.is-1 i))))

pub returns-in-Range-Range : goal.returns-in-Range-Range
returns-in-Range-Range c same =
    c.then-in-Range-Range-2.ensures
    ∙ (λ i. ordering_then ((c.then-in-Range-Range.ensures
    ∙ (λ j. ordering_then (c.cmp-in-Range-Range.ensures j)
    ((c.order_queries.ensures ∙ (λ k. page_query_order (c.deref.ensures k) (c.deref-in-Range-Range.ensures k))) j)))
    i) (c.order_optional_texts.ensures i))
    ∙ ranges_by_parts (string_bytes c.in-Range-Range.report) (string_bytes c.in-Range-Range.other)
    c.in-Range-Range.query.value c.in-Range-Range.other_query.value
    (text_view c.in-Range-Range.upto) (text_view c.in-Range-Range.other_upto)
    ∙ (λ i. slice_cmp (option_cmp text_cmp) (parts_of (thing_of (sym c.in-Range-Range.is-0 i))) (parts_of (thing_of (sym c.in-Range-Range.is-1 i))))
