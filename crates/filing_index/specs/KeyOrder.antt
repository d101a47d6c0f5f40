-- Keys of hashes and identifiers are in a total order, and so are entries by their keys.
use Rattle.std.specs.Cmp.{IsTotalOrder, on_total, then_total, nat_cmp_total, nat_cmp_is}
use Rattle.std.specs.Cmp.Lexicographic.{nat_list_cmp_total}
use Rattle.std.proofs.Common.{ap, sym}
use Rattle.std.specs.Ordering.{ordering_then}
use Rattle.std.specs.declared.cmp.Ordering.TheVariants.{Less}
use Rattle.sorted_pages.specs.Keys.{KeyRises}
use Rattle.filing_model.specs.Common.Text.{text_cmp}
use Rattle.filing_index.specs.Index.{key_cmp, hashed_cmp}

pub key_cmp_total : IsTotalOrder key_cmp
key_cmp_total = then_total (on_total (λ k. k.0) nat_cmp_total) (on_total (λ k. k.1) nat_list_cmp_total)

pub hashed_cmp_total : IsTotalOrder hashed_cmp
hashed_cmp_total = on_total (λ e. e.0) key_cmp_total

-- a lesser hash is less, whatever the identifiers
pub hashes_rise : KeyRises hashed_cmp (λ c. c.0.0)
hashes_rise = λ x y l. ap (λ o. ordering_then o (text_cmp x.0.1 y.0.1)) (sym (nat_cmp_is x.0.0 y.0.0 Less l))
