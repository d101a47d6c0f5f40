use Rattle.filing_model.specs.Reading.DeclaredValue.{declaring}
use Rattle.filing_model.proofs.Reading.DeclaredValues.{read_declaring, value_declaring, other_features, others_declaring}
use Rattle.filing_model.proofs.info_laws.the_others_stay.Goals as goal

pub returns : goal.returns
returns c = λ info members allowed is whole. (
  declaring members allowed,
  read_declaring info members allowed is whole,
  value_declaring members allowed,
  λ feature other. other_features feature members allowed other,
  λ name other. others_declaring name members allowed other,
)
