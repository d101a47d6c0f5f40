use Rattle.std.proofs.Common.{◌≡◌, ◌∙◌, ap, sym, subst, rules, List}
use Rattle.std.specs.List.{dedup}
use Rattle.std.specs.List.Sorted.{IsSorted}
use Rattle.std.specs.Ordering.{eq_by_cmp}
use Rattle.std.proofs.lemmas.Fn.{always_returns_same}
use Rattle.std.proofs.lemmas.List.Filters.{dedup_is}
use Rattle.sorted_pages.specs.Pages.{greatest}
use Rattle.sorted_pages.specs.Sorted.{IsRising}
use Rattle.sorted_pages.specs.Ranges.{within}
use Rattle.filing_stamps.specs.LastStamps.{newest_cmp}
use Rattle.filing_stamps.specs.Stamps.{Stamp, stamp_cmp, among_side}
use Rattle.filing_stamps.proofs.SortedStamps.{sorted_stamps_rise}
use Rattle.filing_stamps.proofs.NewestStamps.{numbers_stay, sorted_by_place, is_newer, is_newer-ranks}
use Rattle.filing_stamps.proofs.kept_stamps.last_stamps.Goals as goal

pub returns-clause-last : goal.returns-clause-last
returns-clause-last c =
    let sorted : IsSorted newest_cmp c.sort_by.new.self.items =
    c.in_ok-sort_by.ensures.sorted is_newer is_newer-ranks (always_returns_same _ _ _ (λ a r f' k. search rules)) in
    let once : c.dedup.new.self.items ≡ dedup (eq_by_cmp stamp_cmp) c.sort_by.new.self.items =
    dedup_is (eq_by_cmp stamp_cmp) c.sort_by.new.self.items c.dedup.new.self.items c.dedup.ensures.filtered in
    λ among.
    ap (λ (ss : List Stamp). greatest (λ (s : Stamp). s.number) (within (among_side among) ss)) once
    ∙ numbers_stay among c.args.stamps.items c.sort_by.new.self.items c.in_ok-sort_by.ensures.permutation sorted

pub returns-clause-rising : goal.returns-clause-rising
returns-clause-rising c =
    let sorted : IsSorted newest_cmp c.sort_by.new.self.items =
    c.in_ok-sort_by.ensures.sorted is_newer is_newer-ranks (always_returns_same _ _ _ (λ a r f' k. search rules)) in
    let once : c.dedup.new.self.items ≡ dedup (eq_by_cmp stamp_cmp) c.sort_by.new.self.items =
    dedup_is (eq_by_cmp stamp_cmp) c.sort_by.new.self.items c.dedup.new.self.items c.dedup.ensures.filtered in
    subst (IsRising stamp_cmp) (sym once) (sorted_stamps_rise c.sort_by.new.self.items (sorted_by_place c.sort_by.new.self.items sorted))
