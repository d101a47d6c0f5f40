use Rattle.std.proofs.Common.{◌≡◌, ◌∙◌, ap, sym, [], ◌++◌, append_assoc, append-nil}
use Rattle.std.specs.List.{flat_map}
use Rattle.sorted_pages.specs.Pages.{of_page, of_run, of_group, of_section}
use Rattle.sorted_pages.proofs.Flats.{refilled}
use Rattle.sorted_pages.proofs.range.FrontPages.next_page.Goals as goal

pub returns-clause-some : goal.returns-clause-some
returns-clause-some g c =
    let front = c.self.inside in
    let rest = flat_map of_run c.refill-3.result.1.now ++ (flat_map of_group c.refill-2.result.1.now ++ flat_map of_section c.refill.result.1.now) in
    let whole : flat_map of_page c.refill-3.result.0.now ++ rest ≡ flat_map of_page front.pages.now ++ (flat_map of_run front.runs.now
    ++ (flat_map of_group front.groups.now ++ flat_map of_section front.sections.now)) =
    refilled of_page front.pages.now c.refill-2.result.0.now c.refill-3.result.0.now c.refill-3.result.1.now
    (flat_map of_group c.refill-2.result.1.now ++ flat_map of_section c.refill.result.1.now) c.refill-3.ensures.empty c.refill-3.ensures.full
    ∙ ap (λ es. flat_map of_page front.pages.now ++ es)
    (refilled of_run front.runs.now c.refill.result.0.now c.refill-2.result.0.now c.refill-2.result.1.now
    (flat_map of_section c.refill.result.1.now) c.refill-2.ensures.empty c.refill-2.ensures.full
    ∙ ap (λ es. flat_map of_run front.runs.now ++ es)
    (ap (λ es. flat_map of_group c.refill.result.0.now ++ es) (sym (append-nil (flat_map of_section c.refill.result.1.now)))
    ∙ refilled of_group front.groups.now front.sections.now c.refill.result.0.now c.refill.result.1.now [] c.refill.ensures.empty c.refill.ensures.full
    ∙ ap (λ es. flat_map of_group front.groups.now ++ es) (append-nil (flat_map of_section front.sections.now)))) in
    sym c.self.view_is ∙ sym whole ∙ ap (λ ps. flat_map of_page ps ++ rest) c.in_ok-page.ensures.cases.0
    ∙ append_assoc (of_page c.in_ok-page.page.now) (flat_map of_page c.in_ok-page.pages.now) rest
