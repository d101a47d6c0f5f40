-- Ranges of entries in byte order of their names.
use Rattle.std.specs.Cmp.Lexicographic.{nat_list_cmp_total}
use Rattle.std.specs.Ordering.{on}
use Rattle.std.specs.declared.cmp.Ordering.TheVariants.{Equal}
use Rattle.sorted_pages.specs.Ranges.{IsMonotone}
use Rattle.sorted_pages.specs.Ties.{tie_is_monotone}
use Rattle.filing_model.specs.Common.Text.{Text, text_cmp}

-- the entries of one name
pub name_is_monotone : {X : Type 0} (name : Text)
    → IsMonotone {E = Text × X} (on (λ n. n.0) text_cmp) (λ n. text_cmp n.0 name)
name_is_monotone name =
    let m = tie_is_monotone text_cmp nat_list_cmp_total name in
    record { before = λ x y l h. m.before x.0 y.0 l h; until = λ x y l h. m.until x.0 y.0 l h }

-- all of them
pub all_is_monotone : {X : Type 0} → IsMonotone {E = Text × X} (on (λ n. n.0) text_cmp) (λ n. Equal)
all_is_monotone = record { before = λ x y l h. h; until = λ x y l h. h }
