use Rattle.std.proofs.Common.{◌∙◌, sym, max}
use Rattle.sorted_pages.proofs.Peaks.{greatest-append}
use Rattle.filing_stamps.specs.Stamps.{Stamp}
use Rattle.filing_stamps.proofs.stamp.StampSummed.join.Goals as goal

pub returns : goal.returns
returns c = λ stamps more told kept.
    c.max.ensures ∙ (λ i. max (told i) (kept i)) ∙ sym (greatest-append (λ (s : Stamp). s.number) stamps more)
