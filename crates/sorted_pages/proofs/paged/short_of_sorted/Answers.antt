use Rattle.std.proofs.Common.{◌≡◌, ◌∙◌, ◌++◌, ap, sym, arith, length}
use Rattle.std.specs.List.{flat_map}
use Rattle.sorted_pages.specs.Pages.{singleton}
use Rattle.sorted_pages.proofs.Flats.{singles}
use Rattle.sorted_pages.proofs.paged.short_of_sorted.Goals as goal

pub of_entries-requires-clause-few : goal.of_entries-requires-clause-few
of_entries-requires-clause-few g c =
    let same : length c.in_ok-entries.entries.items ≡ length c.args.entries.items =
    ap length (sym (singles c.in_ok-entries.entries.items) ∙ c.in_ok-entries.ensures
    ∙ ap (λ es. flat_map singleton es ++ c.args.entries.items) c.in_ok-room.ensures.items) in
    omega (arith, same, c.requires.few)
