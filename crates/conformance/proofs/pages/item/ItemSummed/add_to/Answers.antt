use Rattle.std.proofs.Common.{◌∙◌, ap, sym, max}
use Rattle.sorted_pages.proofs.Peaks.{greatest-push}
use Rattle.conformance.specs.declared.pages.item.Item.{Item}
use Rattle.conformance.proofs.pages.item.ItemSummed.add_to.Goals as goal

pub returns : goal.returns
returns c = λ items told.
    c.max.ensures ∙ ap (λ n. max n c.args.self.now.weight) told
    ∙ sym (greatest-push (λ (i : Item). i.weight) items c.args.self.now)
