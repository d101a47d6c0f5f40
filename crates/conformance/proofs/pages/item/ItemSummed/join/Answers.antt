use Rattle.std.proofs.Common.{◌∙◌, sym, max}
use Rattle.sorted_pages.proofs.Peaks.{greatest-append}
use Rattle.conformance.specs.declared.pages.item.Item.{Item}
use Rattle.conformance.proofs.pages.item.ItemSummed.join.Goals as goal

pub returns : goal.returns
returns c = λ items more told kept.
    c.max.ensures ∙ (λ i. max (told i) (kept i)) ∙ sym (greatest-append (λ (i : Item). i.weight) items more)
