-- The ranges over blocks, from those over their items, and the parts of a range in a row.
use Rattle.std.proofs.Common.{◌≡◌, ◌∙◌, ap, sym, subst, refl, Bool, false, cond, not, T, List, [], ◌∷◌, ◌++◌}
use Rattle.std.proofs.Common.{append_assoc, append-nil, Option, Some, None, Ordering, Less, Equal, Greater, is_lt}
use Rattle.std.proofs.Common.{is_eq}
use Rattle.std.specs.List.{flat_map, list_all}
use Rattle.std.specs.Ordering.{is_gt, ordering_reverse}
use Rattle.std.specs.Cmp.{IsTotalOrder}
use Rattle.std.specs.FinMap.Entries.{find}
use Rattle.std.specs.declared.sync.Arc.{Arc}
use Rattle.sorted_pages.specs.Pages.{singleton, of_block, IsFirstBlock}
use Rattle.sorted_pages.specs.Sorted.{keyed, IsRising}
use Rattle.sorted_pages.specs.Edges.{ends_with, begins_with, first_passes, last_passes, is_before_edge}
use Rattle.sorted_pages.specs.Ranges.{IsMonotone, from_span, until_span, first_within}
use Rattle.sorted_pages.proofs.Edges.{first, second}
use Rattle.sorted_pages.proofs.Orders.{rising_left, rising_right, all_fail}
use Rattle.sorted_pages.proofs.Flats.{flat_map-append, parted}
use Rattle.sorted_pages.proofs.Steps.{rising_parts}
use Rattle.sorted_pages.proofs.Stretches.{ends_of_blocks, begins_of_blocks, entries_from, entries_to, blocks_from, block_from}
use Rattle.sorted_pages.proofs.Stretches.{blocks_until, block_until, until_past, until_reaching, lasts_past}

-- what follows in a row, from parts of it
pub in_a_row : {X : Type 0} (es ps rs gs ss a b c d : List X) → es ++ ps ≡ a → a ++ rs ≡ b → b ++ gs ≡ c → c ++ ss ≡ d
    → es ++ (ps ++ (rs ++ (gs ++ ss))) ≡ d
in_a_row es ps rs gs ss a b c d e f g h =
    sym (append_assoc es ps (rs ++ (gs ++ ss))) ∙ ap (λ xs. xs ++ (rs ++ (gs ++ ss))) e
    ∙ sym (append_assoc a rs (gs ++ ss)) ∙ ap (λ xs. xs ++ (gs ++ ss)) f ∙ sym (append_assoc b gs ss) ∙ ap (λ xs. xs ++ ss) g ∙ h

module _ {E : Type 0} (R : E → E → Ordering) (o : IsTotalOrder R) (side : E → Ordering) (m : IsMonotone R side) where
  abbrev before : E → Bool
  before e = is_lt (side e)

  abbrev from : E → Bool
  from e = not (is_lt (side e))

  abbrev until : E → Bool
  until e = not (is_gt (side e))

  abbrev past : E → Bool
  past e = is_gt (side e)

  -- ---- entries

  pub leaves_from : (entries front back : List E) → entries ≡ front ++ back → IsRising R (flat_map singleton entries)
      → T (ends_with (λ e. last_passes before (singleton e)) front) → T (begins_with (λ e. last_passes from (singleton e)) back)
      → flat_map singleton back ≡ from_span side (flat_map singleton entries)
  leaves_from entries front back e h a b =
      entries_from R side m (flat_map singleton entries) (flat_map singleton front) (flat_map singleton back)
      (ap (flat_map singleton) e ∙ flat_map-append singleton front back) h
      (ends_of_blocks before singleton (λ x. last_passes before (singleton x)) (λ x k. k) front a)
      (begins_of_blocks from singleton (λ x. last_passes from (singleton x)) (λ x k. k) back b)

  pub leaves_until : (entries front back : List E) → entries ≡ front ++ back → IsRising R (flat_map singleton entries)
      → T (ends_with (λ e. first_passes until (singleton e)) front) → T (begins_with (λ e. first_passes past (singleton e)) back)
      → flat_map singleton front ≡ until_span side (flat_map singleton entries)
  leaves_until entries front back e h a b =
      entries_to R side m (flat_map singleton entries) (flat_map singleton front) (flat_map singleton back)
      (ap (flat_map singleton) e ∙ flat_map-append singleton front back) h
      (ends_of_blocks until singleton (λ x. first_passes until (singleton x)) (λ x k. k) front a)
      (begins_of_blocks past singleton (λ x. first_passes past (singleton x)) (λ x k. k) back b)

  -- ---- blocks

  module _ {X Z : Type 0} (v : X → List E) where
    pub first_rises : (blocks front back rest : List (Arc (List X) Z)) (items : List X) → blocks ≡ front ++ back → IsFirstBlock back items rest
        → IsRising R (flat_map (of_block v) blocks) → IsRising R (flat_map v items)
    first_rises blocks front back rest items e f h =
        (rising_parts R o (flat_map (of_block v) front) (flat_map v items) (flat_map (of_block v) rest) (flat_map (of_block v) blocks)
        (parted v blocks front back rest items e f) h).0

    first_from : (back rest : List (Arc (List X) Z)) (items : List X) → IsFirstBlock back items rest
        → T (begins_with (λ b. last_passes from (of_block v b)) back)
        → from_span side (flat_map (of_block v) back) ≡ from_span side (flat_map v items) ++ flat_map (of_block v) rest
    first_from [] rest items f g = sym (λ i. from_span side (flat_map v (f.0 i)) ++ flat_map (of_block v) (f.1 i))
    first_from (block ∷ blocks) rest items f g =
        block_from R side m (of_block v) (λ b. last_passes before (of_block v b)) (λ b. last_passes from (of_block v b)) (λ b k. k) (λ b k. k) block blocks g
        ∙ sym (λ i. from_span side (flat_map v (f.0 i)) ++ flat_map (of_block v) (f.1 i))

    pub blocks_from_is : (blocks front back rest : List (Arc (List X) Z)) (items : List X) → blocks ≡ front ++ back → IsFirstBlock back items rest
        → IsRising R (flat_map (of_block v) blocks)
        → T (ends_with (λ b. last_passes before (of_block v b)) front) → T (begins_with (λ b. last_passes from (of_block v b)) back)
        → from_span side (flat_map v items) ++ flat_map (of_block v) rest ≡ from_span side (flat_map (of_block v) blocks)
    blocks_from_is blocks front back rest items e f h a b =
        sym (ap (λ bs. from_span side (flat_map (of_block v) bs)) e
        ∙ blocks_from R side m (of_block v) (λ b. last_passes before (of_block v b)) (λ b. last_passes from (of_block v b)) (λ b k. k) (λ b k. k)
        front back (subst (λ bs. IsRising R (flat_map (of_block v) bs)) e h) a
        ∙ first_from back rest items f b)

    first_until : (ahead back rest : List (Arc (List X) Z)) (items : List X) → IsFirstBlock back items rest
        → T (is_before_edge (λ b. first_passes until (of_block v b)) (λ b. first_passes past (of_block v b)) ahead back)
        → until_span side (flat_map (of_block v) back) ≡ until_span side (flat_map v items)
    first_until ahead [] rest items f g = ap (λ xs. until_span side (flat_map v xs)) (sym f.0)
    first_until ahead (block ∷ blocks) rest items f g =
        block_until R side m (of_block v) (λ b. first_passes until (of_block v b)) (λ b. first_passes past (of_block v b)) (λ b k. k) (λ b k. k)
        ahead block blocks g ∙ ap (λ xs. until_span side (flat_map v xs)) (sym f.0)

    pub blocks_until_is : (blocks ahead back rest : List (Arc (List X) Z)) (items : List X) → blocks ≡ ahead ++ back → IsFirstBlock back items rest
        → IsRising R (flat_map (of_block v) blocks)
        → T (is_before_edge (λ b. first_passes until (of_block v b)) (λ b. first_passes past (of_block v b)) ahead back)
        → flat_map (of_block v) ahead ++ until_span side (flat_map v items) ≡ until_span side (flat_map (of_block v) blocks)
    blocks_until_is blocks ahead back rest items e f h g =
        sym (ap (λ bs. until_span side (flat_map (of_block v) bs)) e
        ∙ blocks_until R side m (of_block v) (λ b. first_passes until (of_block v b)) (λ b. first_passes past (of_block v b)) (λ b k. k) (λ b k. k)
        ahead back (subst (λ bs. IsRising R (flat_map (of_block v) bs)) e h) g
        ∙ ap (λ es. flat_map (of_block v) ahead ++ es) (first_until ahead back rest items f g))

  -- ---- entries, pages, runs, groups and sections in a row

  row : (es ps rs more : List E) → (es ++ (ps ++ rs)) ++ more ≡ es ++ (ps ++ (rs ++ more))
  row es ps rs more = append_assoc es (ps ++ rs) more ∙ ap (λ xs. es ++ xs) (append_assoc ps rs more)

  both_past : (xs ys : List E) → T (begins_with past xs) → T (begins_with past ys) → T (begins_with past (xs ++ ys))
  both_past [] ys g h = h
  both_past (x ∷ xs) ys g h = g

  pub until_in_runs : (es ps rs : List E) → IsRising R (es ++ (ps ++ rs)) → T (first_passes until rs)
      → (es ++ (ps ++ [])) ++ until_span side rs ≡ until_span side (es ++ (ps ++ rs))
  until_in_runs es ps rs h g =
      let same : (es ++ ps) ++ rs ≡ es ++ (ps ++ rs) = append_assoc es ps rs in
      ap (λ xs. (es ++ xs) ++ until_span side rs) (append-nil ps)
      ∙ sym (until_reaching R side m (es ++ ps) rs (subst (IsRising R) (sym same) h) g) ∙ ap (until_span side) same

  pub until_in_pages : (es ps rs : List E) → IsRising R (es ++ (ps ++ rs)) → T (begins_with past rs) → T (first_passes until ps)
      → (es ++ []) ++ until_span side ps ≡ until_span side (es ++ (ps ++ rs))
  until_in_pages es ps rs h b g =
      let same : (es ++ ps) ++ rs ≡ es ++ (ps ++ rs) = append_assoc es ps rs in
      ap (λ xs. xs ++ until_span side ps) (append-nil es)
      ∙ sym (until_reaching R side m es ps (rising_left R (es ++ ps) rs (subst (IsRising R) (sym same) h)) g)
      ∙ sym (until_past R side m (es ++ ps) rs b) ∙ ap (until_span side) same

  pub until_in_entries : (es ps rs : List E) → T (begins_with past rs) → T (begins_with past ps)
      → (until_span side es ++ []) ++ [] ≡ until_span side (es ++ (ps ++ rs))
  until_in_entries es ps rs b c =
      append-nil (until_span side es ++ []) ∙ append-nil (until_span side es)
      ∙ sym (until_past R side m es (ps ++ rs) (both_past ps rs c b))

  module _ (es ps rs gs ss all : List E) (is : es ++ (ps ++ (rs ++ (gs ++ ss))) ≡ all) (h : IsRising R all) where
    abbrev front : List E
    front = es ++ (ps ++ rs)

    parts : (front ++ gs) ++ ss ≡ all
    parts = append_assoc front gs ss ∙ row es ps rs (gs ++ ss) ∙ is

    pub each_rises : IsRising R front × IsRising R gs × IsRising R ss
    each_rises =
        let rises : IsRising R ((front ++ gs) ++ ss) = subst (IsRising R) (sym parts) h in
        let most : IsRising R (front ++ gs) = rising_left R (front ++ gs) ss rises in
        (rising_left R front gs most, rising_right R front gs most, rising_right R (front ++ gs) ss rises)

    pub until_in_sections : (before tail : List E) → T (first_passes until ss) → before ++ tail ≡ until_span side ss
        → (es ++ (ps ++ (rs ++ (gs ++ before)))) ++ tail ≡ until_span side all
    until_in_sections before tail g k =
        ap (λ xs. xs ++ tail) (sym (append_assoc front gs before ∙ row es ps rs (gs ++ before)))
        ∙ append_assoc (front ++ gs) before tail ∙ ap (λ xs. (front ++ gs) ++ xs) k
        ∙ sym (until_reaching R side m (front ++ gs) ss (subst (IsRising R) (sym parts) h) g) ∙ ap (until_span side) parts

    pub until_in_groups : T (begins_with past ss) → T (first_passes until gs)
        → (es ++ (ps ++ (rs ++ []))) ++ until_span side gs ≡ until_span side all
    until_in_groups b g =
        ap (λ xs. (es ++ (ps ++ xs)) ++ until_span side gs) (append-nil rs)
        ∙ sym (until_reaching R side m front gs (rising_left R (front ++ gs) ss (subst (IsRising R) (sym parts) h)) g)
        ∙ sym (until_past R side m (front ++ gs) ss b) ∙ ap (until_span side) parts

    pub until_before_groups : T (begins_with past ss) → T (begins_with past gs) → until_span side front ≡ until_span side all
    until_before_groups b c =
        sym (until_past R side m front gs c) ∙ sym (until_past R side m (front ++ gs) ss b) ∙ ap (until_span side) parts

  -- ---- the first in the range

  abbrev first_if : List E → Option E
  first_if [] = None
  first_if (e ∷ es) = cond (is_eq (side e)) (Some e) None

  none_within : (es : List E) → IsRising R es → T (begins_with past es) → first_within side es ≡ None
  none_within [] h g = refl
  none_within (e ∷ es) h g =
      ap (λ b. cond b (Some e) (first_within side es)) (not_in (side e) g)
      ∙ none_within es (second _ _ h) (begins es (second _ _ (all_fail R past (lasts_past R side m) (e ∷ es) h g)))
    where
      not_in : (r : Ordering) → T (is_gt r) → is_eq r ≡ false
      not_in Less k = absurd k
      not_in Equal k = absurd k
      not_in Greater k = refl

      begins : (xs : List E) → T (list_all past xs) → T (begins_with past xs)
      begins [] k = tt
      begins (x ∷ xs) k = first _ _ k

  pub first_is_within : (es : List E) → IsRising R es → first_if (from_span side es) ≡ first_within side es
  first_is_within [] h = refl
  first_is_within (e ∷ es) h =
      elim (side e) as (λ r. side e ≡ r → first_if (cond (is_lt r) (from_span side es) (e ∷ es)) ≡ cond (is_eq r) (Some e) (first_within side es)) [
        | Less ↦ λ s. first_is_within es (second _ _ h)
        | Equal ↦ λ s. ap (λ r. cond (is_eq r) (Some e) None) s
        | Greater ↦
            λ s. ap (λ r. cond (is_eq r) (Some e) None) s
            ∙ sym (ap (λ r. cond (is_eq r) (Some e) (first_within side es)) (sym s)
            ∙ none_within (e ∷ es) h (subst (λ r. T (is_gt r)) (sym s) tt))
      ] refl

  pub found_first : (es row rest : List E) (x : E) → IsRising R es → row ≡ from_span side es → row ≡ x ∷ rest
      → cond (is_eq (side x)) (Some x) None ≡ first_within side es
  found_first es row rest x h e f = ap first_if (sym f ∙ e) ∙ first_is_within es h

  pub found_nowhere : (es row : List E) → IsRising R es → row ≡ from_span side es → row ≡ [] → None ≡ first_within side es
  found_nowhere es row h e f = ap first_if (sym f ∙ e) ∙ first_is_within es h

-- the first that ties, in the words of std
turned_level : (r : Ordering) → is_eq (ordering_reverse r) ≡ is_eq r
turned_level Less = refl
turned_level Equal = refl
turned_level Greater = refl

pub first_tied : {E : Type 0} (R : E → E → Ordering) → IsTotalOrder R → (q : E) (es : List E) → first_within (λ e. R e q) es ≡ find R q (keyed es)
first_tied R o q [] = refl
first_tied R o q (e ∷ es) = λ i. cond ((ap is_eq (o.antisymm e q) ∙ turned_level (R q e)) i) (Some e) (first_tied R o q es i)
