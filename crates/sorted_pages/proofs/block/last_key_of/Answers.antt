use Rattle.std.proofs.Common.{◌∙◌, ap, sym}
use Rattle.sorted_pages.specs.Keys.{last_of}
use Rattle.sorted_pages.proofs.Keys.{last_of-push}
use Rattle.sorted_pages.proofs.block.last_key_of.Goals as goal

pub returns : goal.returns
returns g c =
    c.last_key.ensures ∙ sym (ap (last_of g.T.Edged.last_key) c.last_of.ensures.1 ∙ last_of-push g.T.Edged.last_key c.last_of.ensures.0 c.last_of.result.now)
