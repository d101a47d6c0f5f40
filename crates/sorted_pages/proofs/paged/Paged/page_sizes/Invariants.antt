use Rattle.std.proofs.Common.{◌≡◌, ◌+◌, sum, length}
use Rattle.sorted_pages.specs.Pages.{AreSizes}
use Rattle.sorted_pages.proofs.paged.Paged.page_sizes.Given as goal

abbrev pub invariant-loop-page : goal.invariant-loop-page
invariant-loop-page g l = record {
  sizes : AreSizes l.sizes.items (sum l.sizes.items);
  total : sum l.sizes.items + length l.left ≡ length l.self;
}

abbrev pub decreases-loop-page : goal.decreases-loop-page
decreases-loop-page g l = length l.left
