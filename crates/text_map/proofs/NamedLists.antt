-- Lists in byte order of names: those whose entries are their own keys, against lists of keys and values.
use Rattle.std.proofs.Common.{◌≡◌, ◌∙◌, ap, sym, refl, true, false, cond, not, ◌&&◌, List, [], ◌∷◌, Option, Some, None, Ordering, Less, Equal, Greater, is_lt}
use Rattle.std.specs.Prelude.{option_map}
use Rattle.std.specs.Ordering.{on, eq_by_cmp}
use Rattle.std.specs.FinMap.Entries.{by_order, below_all, put, find, where_key, is_sorted}
use Rattle.sorted_pages.specs.Sorted.{keyed, entries}
use Rattle.sorted_pages.specs.Ranges.{first_within, within}
use Rattle.sorted_pages.proofs.Parts.{entries-keyed}
use Rattle.filing_model.specs.Common.Text.{Text, text_cmp, text_eq}
use Rattle.filing_model.proofs.Common.Texts.{text_cmp-Equal, text_eq-sym, text_same}

module _ {X : Type 0} where
  abbrev pub name_cmp : Text × X → Text × X → Ordering
  name_cmp = on (λ n. n.0) text_cmp

  below_all-keyed : (e : Text × X) (es : List (Text × X)) → below_all name_cmp e (keyed es) ≡ below_all text_cmp e.0 es
  below_all-keyed e [] = refl
  below_all-keyed e (f ∷ fs) = ap (λ b. is_lt (text_cmp e.0 f.0) && b) (below_all-keyed e fs)

  pub is_sorted-keyed : (es : List (Text × X)) → is_sorted name_cmp (keyed es) ≡ is_sorted text_cmp es
  is_sorted-keyed [] = refl
  is_sorted-keyed (e ∷ es) = λ i. below_all-keyed e es i && is_sorted-keyed es i

  pub put-keyed : (e : Text × X) (es : List (Text × X)) → entries (put name_cmp e e (keyed es)) ≡ put text_cmp e.0 e.1 es
  put-keyed e [] = refl
  put-keyed e (f ∷ fs) =
      elim (text_cmp e.0 f.0) as (λ o. text_cmp e.0 f.0 ≡ o → entries (by_order o ((e, e) ∷ keyed (f ∷ fs)) ((f, e) ∷ keyed fs) ((f, f) ∷ put name_cmp e e (keyed fs)))
      ≡ by_order o ((e.0, e.1) ∷ f ∷ fs) ((f.0, e.1) ∷ fs) (f ∷ put text_cmp e.0 e.1 fs)) [
        | Less ↦ λ _. ap (λ es. e ∷ f ∷ es) (entries-keyed fs)
        | Equal ↦ λ tie. λ i. (text_cmp-Equal e.0 f.0 tie i, e.1) ∷ entries-keyed fs i
        | Greater ↦ λ _. ap (λ es. f ∷ es) (put-keyed e fs)
      ] refl

  pub where_key-keyed : (e : Text × X) (es : List (Text × X))
      → entries (where_key name_cmp (λ k. not (eq_by_cmp name_cmp e k)) (keyed es)) ≡ where_key text_cmp (λ k. not (text_eq e.0 k)) es
  where_key-keyed e [] = refl
  where_key-keyed e (f ∷ fs) =
      elim (not (text_eq e.0 f.0)) as
      (λ b. entries (cond b ((f, f)
      ∷ where_key name_cmp (λ k. not (eq_by_cmp name_cmp e k)) (keyed fs))
      (where_key name_cmp (λ k. not (eq_by_cmp name_cmp e k)) (keyed fs)))
      ≡ cond b (f ∷ where_key text_cmp (λ k. not (text_eq e.0 k)) fs) (where_key text_cmp (λ k. not (text_eq e.0 k)) fs)) [
        | true ↦ ap (λ es. f ∷ es) (where_key-keyed e fs)
        | false ↦ where_key-keyed e fs
      ]

  -- the first entry of a name is what a look-up finds, with the name
  pub first_named : (name : Text) (es : List (Text × X)) → first_within (λ n. text_cmp n.0 name) es ≡ option_map (λ v. (name, v)) (find text_cmp name es)
  first_named name [] = refl
  first_named name (e ∷ es) =
      ap (λ b. cond b (Some e) (first_within (λ n. text_cmp n.0 name) es)) (text_eq-sym e.0 name)
      ∙ elim (text_eq name e.0) as (λ b. text_eq name e.0 ≡ b → cond b (Some e) (first_within (λ n. text_cmp n.0 name) es) ≡ option_map (λ v. (name, v)) (cond b (Some e.1) (find text_cmp name es))) [
        | true ↦ λ same. λ i. Some (sym (text_same name e.0 same) i, e.1)
        | false ↦ λ _. first_named name es
      ] refl

  pub within_all : (es : List (Text × X)) → within (λ n. Equal) es ≡ es
  within_all [] = refl
  within_all (e ∷ es) = ap (λ rest. e ∷ rest) (within_all es)

  pub without_name : (name : Text) (o : Option X) → option_map (λ (n : Text × X). n.1) (option_map (λ v. (name, v)) o) ≡ o
  without_name name None = refl
  without_name name (Some v) = refl
