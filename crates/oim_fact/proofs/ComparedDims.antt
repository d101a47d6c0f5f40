-- What the comparisons of pairs say of the dimension set that they are.
use Rattle.std.proofs.Common.{◌≡◌, ◌∙◌, ap, sym, refl, Bool, ◌&&◌, ◌++◌, List, [], ◌∷◌, length, Option, Some, None, Ordering, is_eq, String, string_bytes}
use Rattle.std.specs.Ordering.{ordering_then}
use Rattle.std.specs.Option.{option_cmp, option_eq}
use Rattle.std.specs.Cmp.Lexicographic.{slice_cmp, pointwise, texts_ties, lists_ties}
use Rattle.std.specs.List.{flat_map}
use Rattle.std.proofs.lemmas.List.{length-map}
use Rattle.std.specs.Hash as fed
use Rattle.std.specs.Hash.{HashWrites}
use Rattle.std.specs.String.{string_cmp, string_eq}
use Rattle.std.specs.declared.alloc.Global.{Global}
use Rattle.std.specs.Cmp.{tied_then}
use Rattle.filing_model.specs.Common.Text.{text_cmp}
use Rattle.filing_model.specs.Oim.Dimensions.{dims_cmp, dims_eq, dims_hash}
use Rattle.oim_fact.specs.Texts.{text_view}
use Rattle.oim_fact.specs.Dims.{dims_view}

-- a dimension as the program holds it
abbrev pub Held : Type 0
Held = String Global × Option (String Global)

abbrev pub held_cmp : Held → Held → Ordering
held_cmp p q = ordering_then (string_cmp p.0 q.0) (option_cmp string_cmp p.1 q.1)

abbrev pub held_eq : Held → Held → Bool
held_eq p q = string_eq p.0 q.0 && option_eq string_eq p.1 q.1

abbrev pub held_hash : Held → HashWrites
held_hash p = fed.str (string_bytes p.0) ++ fed.option (λ s. fed.str (string_bytes s)) p.1

nullable_cmp : (x y : Option (String Global)) → option_cmp string_cmp x y ≡ option_cmp text_cmp (text_view x) (text_view y)
nullable_cmp None None = refl
nullable_cmp None (Some y) = refl
nullable_cmp (Some x) None = refl
nullable_cmp (Some x) (Some y) = refl

pub compared : (ps qs : List Held) → slice_cmp held_cmp ps qs ≡ dims_cmp (dims_view ps) (dims_view qs)
compared [] [] = refl
compared [] (q ∷ qs) = refl
compared (p ∷ ps) [] = refl
compared (p ∷ ps) (q ∷ qs) = λ i. ordering_then (ordering_then (string_cmp p.0 q.0) (nullable_cmp p.1 q.1 i)) (compared ps qs i)

nullable_eq : (x y : Option (String Global)) → option_eq string_eq x y ≡ is_eq (option_cmp string_cmp x y)
nullable_eq None None = refl
nullable_eq None (Some y) = refl
nullable_eq (Some x) None = refl
nullable_eq (Some x) (Some y) = texts_ties (string_bytes x) (string_bytes y)

held_ties : (p q : Held) → held_eq p q ≡ is_eq (held_cmp p q)
held_ties p q =
    (λ i. texts_ties (string_bytes p.0) (string_bytes q.0) i && nullable_eq p.1 q.1 i)
    ∙ tied_then (string_cmp p.0 q.0) (option_cmp string_cmp p.1 q.1)

pub equal : (ps qs : List Held) → pointwise held_eq ps qs ≡ dims_eq (dims_view ps) (dims_view qs)
equal ps qs = lists_ties held_cmp held_ties ps qs ∙ ap is_eq (compared ps qs)

nullable_fed : (x : Option (String Global)) → fed.option (λ s. fed.str (string_bytes s)) x ≡ fed.option fed.str (text_view x)
nullable_fed None = refl
nullable_fed (Some x) = refl

each_fed : (ps : List Held) → flat_map held_hash ps ≡ flat_map (λ d. fed.str d.0 ++ fed.option fed.str d.1) (dims_view ps)
each_fed [] = refl
each_fed (p ∷ ps) = λ i. (fed.str (string_bytes p.0) ++ nullable_fed p.1 i) ++ each_fed ps i

pub hashed : (ps : List Held) → fed.slice held_hash ps ≡ dims_hash (dims_view ps)
hashed ps =
    let long : length ps ≡ length (dims_view ps) = sym (length-map ps (λ p. (string_bytes p.0, text_view p.1))) in
    λ i. fed.usize (long i) ++ each_fed ps i
