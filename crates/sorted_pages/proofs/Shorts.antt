-- Lists whose entries stand in place, and those whose entries stand in sections.
use Rattle.std.proofs.Common.{◌≡◌, ◌∙◌, ap, sym, subst, refl, ◌<◌, ◌≤◌, arith, List, [], ◌∷◌, ◌++◌}
use Rattle.std.proofs.Common.{append-nil, length, Ordering}
use Rattle.std.specs.List.{flat_map}
use Rattle.std.specs.declared.sync.Arc.{Arc}
use Rattle.sorted_pages.specs.Blocks.{IsShortOrLong}
use Rattle.sorted_pages.specs.Pages.{of_section, singleton}
use Rattle.sorted_pages.specs.Sorted.{IsRising}
use Rattle.sorted_pages.proofs.Flats.{no_items}

module _ {E W X Y Z : Type 0} (R : E → E → Ordering) (entries : List E)
    (sections : List (Arc (List (Arc (List (Arc (List (Arc (List E) Z)) Y)) X)) W)) where
  pub of_long : IsShortOrLong R entries sections → 0 < length sections
      → flat_map singleton entries ++ flat_map of_section sections ≡ flat_map of_section sections
  of_long is h = ap (λ es. flat_map singleton es ++ flat_map of_section sections) (is.apart h)

  pub of_short : length sections ≡ 0 → flat_map singleton entries ++ flat_map of_section sections ≡ flat_map singleton entries
  of_short h = ap (λ ss. flat_map singleton entries ++ flat_map of_section ss) (no_items sections h) ∙ append-nil (flat_map singleton entries)

  pub in_place : IsShortOrLong R entries sections → 0 < length entries → length sections ≡ 0
  in_place is h = none sections is.apart
    where
      none : (ss : List (Arc (List (Arc (List (Arc (List (Arc (List E) Z)) Y)) X)) W)) → (0 < length ss → entries ≡ []) → length ss ≡ 0
      none [] k = refl
      none (x ∷ xs) k =
          let same : length entries ≡ 0 = ap length (k (omega arith)) in
          absurd (omega (arith, h, same))

  pub rises_long : IsShortOrLong R entries sections → 0 < length sections → IsRising R (flat_map of_section sections)
  rises_long is h = subst (IsRising R) (of_long is h) is.rises

  pub rises_short : IsShortOrLong R entries sections → length sections ≡ 0 → IsRising R (flat_map singleton entries)
  rises_short is h = subst (IsRising R) (of_short h) is.rises

  pub still_short : length sections ≡ 0 → IsRising R (flat_map singleton entries) → length entries ≤ 64 → IsShortOrLong R entries sections
  still_short none h few = record {
    rises = subst (IsRising R) (sym (of_short none)) h;
    few = few;
    apart = λ some. absurd (omega (arith, none, some));
  }

  pub still_long : (before : List (Arc (List (Arc (List (Arc (List (Arc (List E) Z)) Y)) X)) W)) → IsShortOrLong R entries before
      → 0 < length before → IsRising R (flat_map of_section sections) → IsShortOrLong R entries sections
  still_long before is some h = record {
    rises = subst (λ es. IsRising R (flat_map singleton es ++ flat_map of_section sections)) (sym (is.apart some)) h;
    few = is.few;
    apart = λ _. is.apart some;
  }
