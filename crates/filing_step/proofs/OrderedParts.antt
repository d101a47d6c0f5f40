-- Things of one kind, part by part, stand as their lists of parts do.
use Rattle.std.proofs.Common.{◌≡◌, ◌∙◌, ap, refl, [], ◌∷◌, ◌++◌, Option, Some, None, Ordering, Less, Equal, Greater}
use Rattle.std.specs.Cmp.Lexicographic.{slice_cmp}
use Rattle.std.specs.Option.{option_cmp}
use Rattle.std.specs.Ordering.{ordering_then}
use Rattle.filing_model.specs.Common.Text.{Text, text_cmp}
use Rattle.filing_model.specs.Oim.Dimensions.{Dims, dims_cmp}
use Rattle.filing_model.specs.Sessions.Calls.{PeriodFilter, Any, Without, Exactly, PageQuery}
use Rattle.filing_model.specs.Sessions.Things.{asked_parts, dim_parts}
use Rattle.filing_step.specs.Ordered.{page_query_order}

abbrev part_cmp : Option Text → Option Text → Ordering
part_cmp = option_cmp text_cmp

then_turned : (a b c : Ordering) → ordering_then (ordering_then a b) c ≡ ordering_then a (ordering_then b c)
then_turned Less b c = refl
then_turned Equal b c = refl
then_turned Greater b c = refl

pub dims_by_parts : (ds es : Dims) → dims_cmp ds es ≡ slice_cmp part_cmp (dim_parts ds) (dim_parts es)
dims_by_parts [] [] = refl
dims_by_parts [] (e ∷ es) = refl
dims_by_parts (d ∷ ds) [] = refl
dims_by_parts (d ∷ ds) (e ∷ es) =
    then_turned (text_cmp d.0 e.0) (part_cmp d.1 e.1) (dims_cmp ds es)
    ∙ ap (λ o. ordering_then (text_cmp d.0 e.0) (ordering_then (part_cmp d.1 e.1) o)) (dims_by_parts ds es)

-- six parts, of which four stand together
joined : (r c p q a u : Ordering)
    → ordering_then (ordering_then r (ordering_then (ordering_then c (ordering_then p (ordering_then q Equal))) a)) u
    ≡ ordering_then r (ordering_then c (ordering_then p (ordering_then q (ordering_then a (ordering_then u Equal)))))
joined Less c p q a u = refl
joined Greater c p q a u = refl
joined Equal Less p q a u = refl
joined Equal Greater p q a u = refl
joined Equal Equal Less q a u = refl
joined Equal Equal Greater q a u = refl
joined Equal Equal Equal Less a u = refl
joined Equal Equal Equal Greater a u = refl
joined Equal Equal Equal Equal Less u = refl
joined Equal Equal Equal Equal Greater u = refl
joined Equal Equal Equal Equal Equal Less = refl
joined Equal Equal Equal Equal Equal Equal = refl
joined Equal Equal Equal Equal Equal Greater = refl

ranges_with : (r : Ordering) (c : Ordering) (p q : PeriodFilter) (a b u v : Option Text)
    → ordering_then (ordering_then r (ordering_then (ordering_then c (slice_cmp part_cmp (asked_parts p) (asked_parts q))) (part_cmp a b))) (part_cmp u v)
    ≡ ordering_then r (ordering_then c (slice_cmp part_cmp (asked_parts p ++ a ∷ u ∷ []) (asked_parts q ++ b ∷ v ∷ [])))
ranges_with r c Any Any a b u v = joined r c (part_cmp None None) (part_cmp None None) (part_cmp a b) (part_cmp u v)
ranges_with r c Any Without a b u v = joined r c (part_cmp None None) (part_cmp None (Some [])) (part_cmp a b) (part_cmp u v)
ranges_with r c Any (Exactly y) a b u v = joined r c (part_cmp None (Some y)) (part_cmp None None) (part_cmp a b) (part_cmp u v)
ranges_with r c Without Any a b u v = joined r c (part_cmp None None) (part_cmp (Some []) None) (part_cmp a b) (part_cmp u v)
ranges_with r c Without Without a b u v = joined r c (part_cmp None None) (part_cmp (Some []) (Some [])) (part_cmp a b) (part_cmp u v)
ranges_with r c Without (Exactly y) a b u v = joined r c (part_cmp None (Some y)) (part_cmp (Some []) None) (part_cmp a b) (part_cmp u v)
ranges_with r c (Exactly x) Any a b u v = joined r c (part_cmp (Some x) None) (part_cmp None None) (part_cmp a b) (part_cmp u v)
ranges_with r c (Exactly x) Without a b u v = joined r c (part_cmp (Some x) None) (part_cmp None (Some [])) (part_cmp a b) (part_cmp u v)
ranges_with r c (Exactly x) (Exactly y) a b u v = joined r c (part_cmp (Some x) (Some y)) (part_cmp None None) (part_cmp a b) (part_cmp u v)

pub ranges_by_parts : (name other : Text) (s t : PageQuery) (u v : Option Text)
    → ordering_then (ordering_then (text_cmp name other) (page_query_order s t)) (part_cmp u v)
    ≡ slice_cmp part_cmp (Some name ∷ Some s.concept ∷ (asked_parts s.period ++ s.after ∷ u ∷ []))
    (Some other ∷ Some t.concept ∷ (asked_parts t.period ++ t.after ∷ v ∷ []))
ranges_by_parts name other s t u v = ranges_with (text_cmp name other) (text_cmp s.concept t.concept) s.period t.period s.after t.after u v
