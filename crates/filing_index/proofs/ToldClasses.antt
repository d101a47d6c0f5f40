-- Where all facts of some entries have the dimensions that are looked for, all of them are found.
use Rattle.std.proofs.Common.{◌≡◌, ◌∙◌, ap, sym, refl, Bool, true, cond, List, [], ◌∷◌, map, filter, Option, None, Some, IfSome}
use Rattle.std.specs.List.{list_all}
use Rattle.std.proofs.lemmas.Bool.{and_parts}
use Rattle.filing_model.specs.Oim.Dimensions.{Dims}
use Rattle.filing_model.specs.Oim.Facts.{Fact}
use Rattle.filing_model.specs.Oim.Duplicates.{class_of, has_dims}
use Rattle.filing_model.specs.declared.duplicates.Class.{Class}
use Rattle.filing_index.specs.Index.{IndexEntry}
use Rattle.filing_index.specs.Found.{unhashed, passing}
use Rattle.filing_index.specs.CellSums.{Tells, facts_in}
use Rattle.filing_index.specs.declared.cells.CellSum.{CellSum}

all_found : (test : Fact → Bool) (es : List IndexEntry) → list_all test (facts_in es) ≡ true
    → map (λ e. e.1) (passing test es) ≡ facts_in es
all_found test [] h = refl
all_found test (e ∷ es) h =
    let parts = and_parts (test e.1) (list_all test (facts_in es)) h in
    let kept = filter (λ f. test f.1) es in
    ap (λ b. map (λ f. f.1) (unhashed (cond b (e ∷ kept) kept))) parts.0
    ∙ ap (λ fs. e.1 ∷ fs) (all_found test es parts.1)

pub class_of_found : (dims : Dims) (sum : CellSum) (es : List IndexEntry) (told : Option Class)
    → IfSome told (λ class. (facts : List Fact) → Tells sum facts
    → (list_all (has_dims dims) facts ≡ true) × (class ≡ class_of facts))
    → Tells sum (facts_in es)
    → IfSome told (λ class. class ≡ class_of (map (λ e. e.1) (passing (has_dims dims) es)))
class_of_found dims sum es None h t = tt
class_of_found dims sum es (Some class) h t =
    let parts = h (facts_in es) t in parts.1 ∙ ap class_of (sym (all_found (has_dims dims) es parts.0))
