use Rattle.std.proofs.Common.{◌∙◌, ap}
use Rattle.text_map.specs.Heads.{name_key}
use Rattle.text_map.proofs.named_value.SoughtName.key.Goals as goal

pub returns : goal.returns
returns c = c.key_of_head.ensures c.self.inside.name.now c.self.invariant ∙ ap name_key c.self.view_is
