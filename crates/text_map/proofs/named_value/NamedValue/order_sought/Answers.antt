use Rattle.std.proofs.Common.{◌≡◌, ◌∙◌, ap}
use Rattle.std.specs.Ordering.{nat_cmp}
use Rattle.text_map.specs.Heads.{name_key}
use Rattle.text_map.proofs.ComparedKeys.{by_key}
use Rattle.text_map.proofs.named_value.NamedValue.order_sought.Goals as goal

pub returns-in_default : goal.returns-in_default
returns-in_default g c =
    let mine : c.self.inside.key ≡ name_key c.args.self.now.0 = c.self.invariant ∙ ap (λ n. name_key n.0) c.self.view_is in
    by_key c.args.self.now.0 c.args.sought.now c.cmp.result (c.cmp.ensures ∙ (λ i. nat_cmp (mine i) (c.key.ensures i)))
    (λ e. c.in_default.not-Equal e)
