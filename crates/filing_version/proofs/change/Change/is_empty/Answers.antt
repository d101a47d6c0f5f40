use Rattle.std.proofs.Common.{◌∙◌, ap, refl, sym}
use Rattle.filing_model.specs.Common.TextMap.{empty}
use Rattle.filing_model.specs.Sessions.Changes.{Change}
use Rattle.filing_model.proofs.Common.TextMaps.{same_list}
use Rattle.filing_version.proofs.change.Change.is_empty.Goals as goal

pub returns-in-None : goal.returns-in-None
returns-in-None c = (
  λ none. same_list c.args.self.now empty (ap (λ (change : Change). change.entries) (sym c.self.view_is) ∙ sym c.iter.ensures ∙ c.in-None.ensures.steps.0),
  λ is. refl,
)
