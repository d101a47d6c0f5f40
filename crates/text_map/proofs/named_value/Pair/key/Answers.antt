use Rattle.std.proofs.Common.{◌∙◌, ap}
use Rattle.std.specs.Prelude.{string_bytes}
use Rattle.text_map.specs.Heads.{name_key}
use Rattle.text_map.proofs.named_value.Pair.key.Goals as goal

pub returns : goal.returns
returns g c = c.key_of_head.ensures (string_bytes c.self.inside.name) c.self.invariant ∙ ap (λ p. name_key p.0) c.self.view_is
