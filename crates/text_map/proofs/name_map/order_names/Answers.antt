use Rattle.std.proofs.Common.{◌∙◌}
use Rattle.std.specs.Ordering.{nat_cmp}
use Rattle.text_map.proofs.ComparedKeys.{by_key}
use Rattle.text_map.proofs.name_map.order_names.Goals as goal

pub returns-in_default : goal.returns-in_default
returns-in_default c =
    by_key c.args.name.now c.args.other.now c.cmp.result (c.cmp.ensures ∙ (λ i. nat_cmp (c.requires.keys.0 i) (c.requires.keys.1 i)))
    (λ e. c.in_default.not-Equal e)
