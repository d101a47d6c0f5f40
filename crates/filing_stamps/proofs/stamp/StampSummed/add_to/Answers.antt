use Rattle.std.proofs.Common.{◌∙◌, sym, max}
use Rattle.sorted_pages.proofs.Peaks.{greatest-push}
use Rattle.filing_stamps.specs.Stamps.{Stamp}
use Rattle.filing_stamps.proofs.stamp.StampSummed.add_to.Goals as goal

pub returns : goal.returns
returns c = λ stamps told.
    c.max.ensures ∙ (λ i. max (told i) (c.self.view_is i).number)
    ∙ sym (greatest-push (λ (s : Stamp). s.number) stamps c.args.self.now)
