use Rattle.std.proofs.Common.{◌∙◌}
use Rattle.std.specs.Ordering.{nat_cmp}
use Rattle.text_map.proofs.ComparedHeads.{by_head}
use Rattle.text_map.proofs.named_value.order_names.Goals as goal

pub returns-in_default : goal.returns-in_default
returns-in_default c =
    by_head c.args.name.now c.args.other.now (λ i. (c.type_inv.name i).fits) (λ i. (c.type_inv.other i).fits) c.cmp.result
    (c.cmp.ensures ∙ (λ i. nat_cmp (c.requires.heads.0 i) (c.requires.heads.1 i)))
    (λ e. c.in_default.not-Equal e)
