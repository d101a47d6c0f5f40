use Rattle.std.proofs.Common.{◌∙◌, ap, sym}
use Rattle.filing_model.specs.Common.Text.{text_eq}
use Rattle.filing_model.proofs.Common.Texts.{text_same, text_eq-refl}
use Rattle.filing_step.proofs.compared_things.are_same_texts.Goals as goal

pub returns : goal.returns
returns c = (
  λ h. text_same c.args.a.now c.args.b.now (sym c.is_same_text.ensures ∙ h),
  λ e. c.is_same_text.ensures ∙ ap (text_eq c.args.a.now) (sym e) ∙ text_eq-refl c.args.a.now,
)
