-- The members of an object, whose names rise.
use Rattle.std.proofs.Common.{◌≡◌, sym, subst, T, List, [], ◌∷◌, Less, is_lt, string_bytes}
use Rattle.std.specs.String.{string_cmp}
use Rattle.std.specs.Map.{keys_of}
use Rattle.std.specs.List.{AllByRecursion}
use Rattle.std.specs.List.Sorted.{IsStrictlySortedBy}
use Rattle.std.specs.FinMap.Entries.{is_sorted, below_all}
use Rattle.serde_json.specs.View.{members_view}
use Rattle.filing_model.specs.Common.Text.{Text, text_cmp}
use Rattle.filing_model.specs.Reading.JsonText.{pairs}
use Rattle.filing_model.proofs.Common.Tests.{both_hold}
use Rattle.oim_report.proofs.EachMember.{Entry}

below_members : (k : Text) (es : List Entry) → AllByRecursion (λ y. text_cmp k (string_bytes y) ≡ Less) (keys_of es)
    → T (below_all text_cmp k (pairs (members_view es)))
below_members k [] h = tt
below_members k (e ∷ es) (less, rest) = both_hold _ _ (subst (λ o. T (is_lt o)) (sym less) tt) (below_members k es rest)

-- the keys of a tree rise, and so do the names of the members
pub sorted_members : (es : List Entry) → IsStrictlySortedBy string_cmp (keys_of es) → T (is_sorted text_cmp (pairs (members_view es)))
unfolding IsStrictlySortedBy
sorted_members [] h = tt
sorted_members (e ∷ es) (below, rest) = both_hold _ _ (below_members (string_bytes e.0) es below) (sorted_members es rest)
