-- The fact change of one identifier.
use Rattle.std.proofs.Common.{◌≡◌, ◌∙◌, ap, sym, refl, true, false, cond, true≢false, [], ◌∷◌, Option, Some, None, option_map, is_some}
use Rattle.filing_model.specs.Common.Text.{Text}
use Rattle.filing_model.specs.Oim.Facts.{Fact}
use Rattle.filing_facts.specs.FactChanges.{FactChange, passes}
use Rattle.filing_facts.specs.Records.{id_of}

abbrev records : Text → Option Fact → Option (Text × Fact)
records id facts = option_map (λ f. (id, f)) facts

abbrev fact_change_of : Option (Text × Fact) → Option (Text × Fact) → FactChange
fact_change_of old new = record { id = id_of old new; old = option_map (λ r. r.1) old; new = option_map (λ r. r.1) new }

abbrev plain : Text → Option Fact → Option Fact → FactChange
plain id old new = record { id = id; old = old; new = new }

abbrev IsPushed : Text → Option Fact → Option Fact → FactChange → Type 0
IsPushed id old new m = m ∷ [] ≡ cond (passes (λ fact. true) (plain id old new)) (plain id old new ∷ []) []

of_facts : (id : Text) (old new : Option Fact) (m : FactChange) → m ≡ fact_change_of (records id old) (records id new)
    → (is_some old ≡ false → is_some new ≡ true) → IsPushed id old new m
of_facts id (Some a) (Some b) m e some = ap (λ x. x ∷ []) e
of_facts id (Some a) None m e some = ap (λ x. x ∷ []) e
of_facts id None (Some b) m e some = ap (λ x. x ∷ []) e
of_facts id None None m e some = absurd (true≢false (sym (some refl)))

same_some : (id : Text) (facts : Option Fact) → is_some (records id facts) ≡ is_some facts
same_some id None = refl
same_some id (Some f) = refl

-- a fact change of the records of one identifier is that of its facts
pub pushed : (id : Text) (old_fact new_fact : Option Fact) (old new : Option (Text × Fact)) (m : FactChange)
    → old ≡ records id old_fact → new ≡ records id new_fact → m ≡ fact_change_of old new
    → (is_some old ≡ false → is_some new ≡ true) → IsPushed id old_fact new_fact m
pushed id old_fact new_fact old new m eo en em some =
    of_facts id old_fact new_fact m (em ∙ (λ i. fact_change_of (eo i) (en i)))
    (λ none. sym (same_some id new_fact) ∙ ap is_some (sym en) ∙ some (ap is_some eo ∙ same_some id old_fact ∙ none))
