-- Codes of stamps tell most of their order.
use Rattle.std.proofs.Common.{ap, sym}
use Rattle.std.specs.Cmp.{nat_cmp_is}
use Rattle.std.specs.Ordering.{nat_cmp, ordering_then}
use Rattle.std.specs.declared.cmp.Ordering.TheVariants.{Less}
use Rattle.sorted_pages.specs.Keys.{KeyRises}
use Rattle.filing_model.specs.Common.Text.{text_cmp}
use Rattle.filing_stamps.specs.Stamps.{group_cmp, stamp_cmp}

pub stamp_codes_rise : KeyRises stamp_cmp (λ s. s.code)
stamp_codes_rise = λ x y l.
    ap (λ o. ordering_then o (ordering_then (nat_cmp x.rank y.rank)
    (ordering_then (group_cmp x.group y.group) (text_cmp x.id y.id)))) (sym (nat_cmp_is x.code y.code Less l))
