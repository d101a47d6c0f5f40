use Rattle.std.proofs.Common.{◌∙◌, sym}
use Rattle.filing_model.proofs.Common.Texts.{text_same}
use Rattle.filing_facts.proofs.KeptTexts.{same_texts}
use Rattle.filing_facts.proofs.concept_period.ConceptPeriod.are_of.Goals as goal

pub returns-then-is_same_text : goal.returns-then-is_same_text
returns-then-is_same_text c h =
    let concept = sym c.concept.ensures ∙ text_same c.concept.result.now c.args.concept.now (sym c.if-is_same_text.ensures) in
    let period = sym c.period.ensures ∙ same_texts _ _ (sym c.are_same_texts.ensures ∙ h) in
    λ i. record { concept = concept i; period = period i }
