-- Each cell that is not allowed has two facts or more, of which the first stands right before another one of its hash.
use Rattle.std.proofs.Common.{◌≡◌, ◌∙◌, ap, sym, refl, subst, ℕ, Bool, true, false, cond, not, ◌&&◌, ◌||◌, T, List}
use Rattle.std.proofs.Common.{[], ◌∷◌, ◌++◌, map, filter, fold, Option, Some, None, Ordering, Less, Equal, Greater}
use Rattle.std.proofs.Common.{is_eq, is_lt, true≢false}
use Rattle.std.specs.Prelude.{◌==◌}
use Rattle.std.specs.List.{list_any}
use Rattle.std.specs.Ordering.{nat_cmp, ordering_then, ord_min}
use Rattle.std.specs.Cmp.{Equal-is, alike_right, nat_cmp_total, nat_eq_equiv, unsigned_tied}
use Rattle.std.specs.FinMap.{nat_cmp-IsAntisymmetric}
use Rattle.std.specs.FinMap.Entries.{is_sorted, below_all}
use Rattle.std.proofs.lemmas.Bool.{or_right, or_from, and_parts}
use Rattle.std.proofs.lemmas.List.{map-append}
use Rattle.std.proofs.lemmas.List.Elements.{filter_agree}
use Rattle.sorted_pages.specs.Sorted.{IsRising}
use Rattle.sorted_pages.specs.Ranges.{within}
use Rattle.filing_model.specs.Common.Text.{Text, text_cmp}
use Rattle.filing_model.specs.Common.TextMap.{TextMap}
use Rattle.filing_model.specs.Oim.Dimensions.{Dims, dims_cmp, dims_eq}
use Rattle.filing_model.specs.Oim.Facts.{Fact}
use Rattle.filing_model.specs.Oim.Duplicates.{pair_of, class_of, allows, facts_of, has_dims, is_disallowed, lesser_dims, least_dims, least_disallowed}
use Rattle.filing_model.specs.Sessions.Queries.{cell_facts}
use Rattle.filing_model.specs.declared.duplicates.Allowed.{Allowed}
use Rattle.filing_model.specs.declared.duplicates.Class.{Class}
use Rattle.filing_model.proofs.Common.Tests.{first_holds, second_holds, less_from_is_lt}
use Rattle.filing_model.proofs.Oim.DimensionSets.{dims_same}
use Rattle.filing_model.proofs.Oim.AllowedClasses.{empty_is_allowed, allows-class_by}
use Rattle.filing_model.proofs.Oim.LeastDims.{same_least, any_kept}
use Rattle.filing_index.specs.Index.{IndexEntry, key_cmp, hashed_cmp, IsIndex}
use Rattle.filing_facts.specs.Hashes.{cell_hash, hash_of_dims}
use Rattle.filing_index.specs.Found.{passing, side_of}
use Rattle.filing_index.specs.Cells.{shares_hash, first_of, crowded, are_these, least_among_facts, WasLookedAt}
use Rattle.filing_index.proofs.AskedHashes.{hash_of_cell}
use Rattle.filing_index.proofs.FoundEntries.{found_is, found_all, sorted_from_rising}
use Rattle.filing_index.proofs.KeptElements as kept
use Rattle.filing_index.proofs.KeptElements.{filter-filter, has_two, any_of_two, map-filter, list_any-map, has_two-map}

-- ---- a cell, by its class

pub disallowed_by_class : (a : Allowed) (dims : Dims) (facts : TextMap Fact) (class : Class) → class ≡ class_of (cell_facts dims facts)
    → is_disallowed a (facts_of facts.entries) dims ≡ not (allows a class)
disallowed_by_class a dims facts class is =
    ap (λ fs. not (allows a (class_of fs))) (sym (map-filter (λ e. e.1) (has_dims dims) facts.entries)) ∙ ap (λ x. not (allows a x)) (sym is)

-- ---- the least so far

module _ (p : Dims → Bool) where
  -- one more is looked at
  fold_more : (m : Option Dims) (ds : List Dims) (d : Dims)
      → fold lesser_dims m (filter p (ds ++ d ∷ [])) ≡ fold lesser_dims (fold lesser_dims m (filter p ds)) (filter p (d ∷ []))
  fold_more m [] d = refl
  fold_more m (e ∷ ds) d =
      elim (p e) as (λ b. fold lesser_dims m (cond b (e ∷ filter p (ds ++ d ∷ [])) (filter p (ds ++ d ∷ [])))
      ≡ fold lesser_dims (fold lesser_dims m (cond b (e ∷ filter p ds) (filter p ds))) (filter p (d ∷ []))) [
        | true ↦ fold_more (lesser_dims m e) ds d
        | false ↦ fold_more m ds d
      ]

-- ---- two facts

two_or_more : (a : Allowed) (facts : List Fact) → not (allows a (class_of facts)) ≡ true → has_two facts ≡ true
two_or_more a [] h = absurd (true≢false (sym h ∙ ap not (empty_is_allowed a)))
two_or_more a (f ∷ []) h = absurd (true≢false (sym h ∙ ap not (allows-class_by pair_of a (f ∷ []) refl)))
two_or_more a (f ∷ g ∷ facts) h = refl

same_number : (n m : ℕ) → (n == m) ≡ true → n ≡ m
same_number n m h = nat_cmp-IsAntisymmetric n m ((Equal-is (nat_cmp n m)).0 (unsigned_tied n m ∙ h))

other_number : (n m : ℕ) → nat_cmp n m ≡ Less → (m == n) ≡ false
other_number n m h = nat_eq_equiv.symm m n ∙ sym (unsigned_tied n m) ∙ ap is_eq h

-- ---- the walk

module _ (hash : ℕ) (dims : Dims) where
  -- whether an entry is of the cell
  abbrev is_mine : IndexEntry → Bool
  is_mine e = (e.0.0 == hash) && has_dims dims e.1

  not_mine : (e : IndexEntry) → nat_cmp hash e.0.0 ≡ Less → is_mine e ≡ false
  not_mine e l = ap (λ b. b && has_dims dims e.1) (other_number hash e.0.0 l)

  -- hashes rise, so what stands past the hash is of no cell of it
  past : (n m k : ℕ) (s : Ordering) → nat_cmp n m ≡ Less → (o : Ordering) → nat_cmp m k ≡ o → ordering_then o s ≡ Less → nat_cmp n k ≡ Less
  past n m k s l Less is h = nat_cmp_total.trans n m k l is
  past n m k s l Equal is h = sym (alike_right nat_cmp_total m k n is) ∙ l
  past n m k s l Greater is h = absurd (true≢false (sym (ap is_lt h)))

  none_past : (e : IndexEntry) (es : List IndexEntry) → nat_cmp hash e.0.0 ≡ Less → T (below_all key_cmp e.0 es) → list_any is_mine es ≡ false
  none_past e [] l below = refl
  none_past e (f ∷ es) l below =
      let up = less_from_is_lt (key_cmp e.0 f.0) (first_holds _ _ below) in
      or_from (is_mine f) (list_any is_mine es) (not_mine f (past hash e.0.0 f.0.0 (text_cmp e.0.1 f.0.1) l (nat_cmp e.0.0 f.0.0) refl up))
      (none_past e es l (second_holds (is_lt (key_cmp e.0 f.0)) _ below))

  -- where one more of the cell comes, the next has its hash
  next_shares : (e : IndexEntry) (es : List IndexEntry) → e.0.0 ≡ hash → T (below_all key_cmp e.0 es) → T (is_sorted key_cmp es) → list_any is_mine es ≡ true
      → shares_hash (first_of es) e ≡ true
  next_shares e [] own below sorted any = absurd (true≢false (sym any))
  next_shares e (f ∷ fs) own below sorted any = by (nat_cmp e.0.0 f.0.0) refl (less_from_is_lt (key_cmp e.0 f.0) (first_holds _ _ below))
    where
      by : (o : Ordering) → nat_cmp e.0.0 f.0.0 ≡ o → ordering_then o (text_cmp e.0.1 f.0.1) ≡ Less → (f.0.0 == e.0.0) ≡ true
      by Less is up =
          let l : nat_cmp hash f.0.0 ≡ Less = ap (λ n. nat_cmp n f.0.0) (sym own) ∙ is in
          absurd (true≢false (sym any
          ∙ or_from (is_mine f) (list_any is_mine fs) (not_mine f l) (none_past f fs l (first_holds (below_all key_cmp f.0 fs) _ sorted))))
      by Equal is up = nat_eq_equiv.symm f.0.0 e.0.0 ∙ sym (unsigned_tied e.0.0 f.0.0) ∙ ap is_eq is
      by Greater is up = absurd (true≢false (sym (ap is_lt up)))

  some_more : (e : IndexEntry) (es : List IndexEntry) → has_two (e ∷ es) ≡ true → list_any (λ x. true) es ≡ true
  some_more e [] two = two
  some_more e (f ∷ es) two = refl

  abbrev is_met : Text × Fact → Bool
  is_met e = has_dims dims e.1

  -- the first of two in a cell stands before another one of its hash
  meets : (es : List IndexEntry) → T (is_sorted key_cmp es) → has_two (filter is_mine es) ≡ true → list_any is_met (crowded es) ≡ true
  meets [] sorted two = absurd (true≢false (sym two))
  meets (e ∷ es) sorted two = by (is_mine e) refl two (meets es (second_holds (below_all key_cmp e.0 es) _ sorted))
    where
      later : (b : Bool) → list_any is_met (crowded es) ≡ true → list_any is_met (cond b ((e.0.1, e.1) ∷ crowded es) (crowded es)) ≡ true
      later true any = or_right (has_dims dims e.1) (list_any is_met (crowded es)) any
      later false any = any

      by : (b : Bool) → is_mine e ≡ b → has_two (cond b (e ∷ filter is_mine es) (filter is_mine es)) ≡ true
          → (has_two (filter is_mine es) ≡ true → list_any is_met (crowded es) ≡ true) → list_any is_met (crowded (e ∷ es)) ≡ true
      by true mine more rest =
          let own = and_parts (e.0.0 == hash) (has_dims dims e.1) mine in
          let any = kept.any_kept is_mine es (some_more e (filter is_mine es) more) in
          let shares =
          next_shares e es (same_number e.0.0 hash own.0) (first_holds (below_all key_cmp e.0 es) _ sorted)
          (second_holds (below_all key_cmp e.0 es) _ sorted) any in
          ap (λ b. list_any is_met (cond b ((e.0.1, e.1) ∷ crowded es) (crowded es))) shares ∙ ap (λ b. b || list_any is_met (crowded es)) own.1
      by false apart more rest = later (shares_hash (first_of es) e) (rest more)

  level : (o : Ordering) → is_eq (ordering_then o Equal) ≡ is_eq o
  level Less = refl
  level Equal = refl
  level Greater = refl

  mine_is : (es : List IndexEntry) → filter (λ e. has_dims dims e.1) (within (side_of hash None) es) ≡ filter is_mine es
  mine_is es =
      filter-filter (λ e. is_eq (side_of hash None e)) (λ e. has_dims dims e.1) es
      ∙ filter_agree (λ e. is_eq (side_of hash None e) && has_dims dims e.1) is_mine
      (λ e. ap (λ b. b && has_dims dims e.1) (level (nat_cmp e.0.0 hash) ∙ unsigned_tied e.0.0 hash)) es

-- ---- the least cell

alike : (a b : Bool) → (a ≡ true → b ≡ true) → (b ≡ true → a ≡ true) → a ≡ b
alike true b f g = sym (f refl)
alike false true f g = g refl
alike false false f g = refl

module _ (test : Dims → Bool) where
  present : (d : Dims) (ds : List Dims) → test d ≡ true → list_any (dims_eq d) ds ≡ true → list_any test ds ≡ true
  present d [] passes there = there
  present d (e ∷ ds) passes there = by (dims_eq d e) refl there (present d ds passes)
    where
      by : (b : Bool) → dims_eq d e ≡ b → (b || list_any (dims_eq d) ds) ≡ true → (list_any (dims_eq d) ds ≡ true → list_any test ds ≡ true)
          → (test e || list_any test ds) ≡ true
      by true same there later = ap (λ b. b || list_any test ds) (ap test (sym (dims_same d e same)) ∙ passes)
      by false other there later = or_right (test e) (list_any test ds) (later there)

  -- what passes and is in one list is in the other
  through : (ds es : List Dims) → ((d : Dims) → test d ≡ true → list_any (dims_eq d) es ≡ true) → list_any test ds ≡ true → list_any test es ≡ true
  through [] es there any = absurd (true≢false (sym any))
  through (d ∷ ds) es there any = by (test d) refl any (through ds es there)
    where
      by : (b : Bool) → test d ≡ b → (b || list_any test ds) ≡ true → (list_any test ds ≡ true → list_any test es ≡ true) → list_any test es ≡ true
      by true passes any later = present d es passes (there d passes)
      by false fails any later = later any

module _ (a : Allowed) (facts : TextMap Fact) (es : List IndexEntry) (rising : IsRising hashed_cmp es) (index : IsIndex cell_hash facts es) where
  abbrev is_refused : Dims → Bool
  is_refused d = is_disallowed a (facts_of facts.entries) d

  abbrev met : List Dims
  met = map (λ f. f.dims) (map (λ e. e.1) (crowded es))

  abbrev all : List Dims
  all = map (λ f. f.dims) (facts_of facts.entries)

  two_in_cell : (d : Dims) → is_refused d ≡ true → has_two (filter (is_mine (hash_of_dims d) d) es) ≡ true
  two_in_cell d refused =
      let inner = within (side_of (hash_of_dims d) None) es in
      let cell : map (λ e. e.1) (passing (has_dims d) inner) ≡ filter (has_dims d) (facts_of facts.entries) =
      ap (map (λ e. e.1)) (found_is (hash_of_dims d) None (has_dims d) cell_hash (hash_of_cell d) facts es rising index ∙ found_all (has_dims d) facts)
      ∙ map-filter (λ e. e.1) (has_dims d) facts.entries in
      ap has_two (sym (mine_is (hash_of_dims d) d es))
      ∙ sym (has_two-map (λ e. (e.0.1, e.1)) (filter (λ e. has_dims d e.1) inner))
      ∙ sym (has_two-map (λ e. e.1) (passing (has_dims d) inner))
      ∙ ap has_two cell
      ∙ two_or_more a (filter (has_dims d) (facts_of facts.entries)) refused

  in_met : (d : Dims) → is_refused d ≡ true → list_any (dims_eq d) met ≡ true
  in_met d refused =
      list_any-map (λ f. f.dims) (dims_eq d) (map (λ e. e.1) (crowded es))
      ∙ list_any-map (λ e. e.1) (has_dims d) (crowded es)
      ∙ meets (hash_of_dims d) d es (sorted_from_rising es rising) (two_in_cell d refused)

  in_all : (d : Dims) → is_refused d ≡ true → list_any (dims_eq d) all ≡ true
  in_all d refused =
      list_any-map (λ f. f.dims) (dims_eq d) (facts_of facts.entries)
      ∙ kept.any_kept (has_dims d) (facts_of facts.entries)
      (any_of_two (filter (has_dims d) (facts_of facts.entries)) (two_or_more a (filter (has_dims d) (facts_of facts.entries)) refused))

  refused_alike : (test : Dims → Bool) → list_any test (filter is_refused met) ≡ list_any test (filter is_refused all)
  refused_alike test =
      let both : Dims → Bool = λ d. is_refused d && test d in
      any_kept test is_refused met
      ∙ alike (list_any both met) (list_any both all)
      (through both met all (λ d h. in_all d (and_parts (is_refused d) (test d) h).0))
      (through both all met (λ d h. in_met d (and_parts (is_refused d) (test d) h).0))
      ∙ sym (any_kept test is_refused all)

  pub least_met : least_among_facts (map (λ e. e.1) (crowded es)) a facts ≡ least_disallowed a facts.entries
  least_met = same_least (filter is_refused met) (filter is_refused all) refused_alike

-- ---- one more fact

module _ (p : Dims → Bool) where
  again : (d : Dims) (m : Option Dims) (b : Bool)
      → fold lesser_dims (fold lesser_dims m (cond b (d ∷ []) [])) (cond b (d ∷ []) []) ≡ fold lesser_dims m (cond b (d ∷ []) [])
  again d m false = refl
  again d None true = elim (is_lt (dims_cmp d d)) as (λ b. Some (cond b d d) ≡ Some d) [ true ↦ refl | false ↦ refl ]
  again d (Some m) true = by (is_lt (dims_cmp d m)) refl
    where
      by : (b : Bool) → is_lt (dims_cmp d m) ≡ b → Some (ord_min dims_cmp (cond b d m) d) ≡ Some (cond b d m)
      by true is = elim (is_lt (dims_cmp d d)) as (λ b. Some (cond b d d) ≡ Some d) [ true ↦ refl | false ↦ refl ]
      by false is = ap (λ b. Some (cond b d m)) is

  pub was_looked_at : (d : Dims) (m : Option Dims) → WasLookedAt p (Some d) (fold lesser_dims m (filter p (d ∷ [])))
  was_looked_at d m = again d m (p d)

-- what was looked at already
pub nothing_new : (p : Dims → Bool) (before least : Option Dims) (dims : Dims) → WasLookedAt p before least → are_these before dims ≡ true
    → least ≡ fold lesser_dims least (filter p (dims ∷ []))
nothing_new p None least dims was same = absurd (true≢false (sym same))
nothing_new p (Some d) least dims was same = sym (subst (λ e. WasLookedAt p (Some e) least) (dims_same d dims same) was)

-- the least among the facts so far, of which the last has these dimensions
pub record IsLeastSoFar (a : Allowed) (all : TextMap Fact) (facts : List Fact) (before least : Option Dims) : Type 0 where
  pub is_least : least ≡ least_among_facts facts a all
  pub looked_at : WasLookedAt (is_disallowed a (facts_of all.entries)) before least

module _ (a : Allowed) (all : TextMap Fact) (facts : List Fact) (fact : Fact) where
  abbrev refused : Dims → Bool
  refused d = is_disallowed a (facts_of all.entries) d

  least_more : least_among_facts (facts ++ fact ∷ []) a all ≡ fold lesser_dims (least_among_facts facts a all) (filter refused (fact.dims ∷ []))
  least_more =
      ap (λ ds. least_dims (filter refused ds)) (map-append (λ f. f.dims) facts (fact ∷ []))
      ∙ fold_more refused None (map (λ f. f.dims) facts) fact.dims

  -- where its cell is looked at
  pub one_more : (before least new : Option Dims) → IsLeastSoFar a all facts before least
      → new ≡ fold lesser_dims least (filter refused (fact.dims ∷ []))
      → IsLeastSoFar a all (facts ++ fact ∷ []) (Some fact.dims) new
  one_more before least new h is = record {
    is_least = is ∙ ap (λ m. fold lesser_dims m (filter refused (fact.dims ∷ []))) h.is_least ∙ sym least_more;
    looked_at = subst (WasLookedAt refused (Some fact.dims)) (sym is) (was_looked_at refused fact.dims least);
  }

  -- or it is passed over, as the last has its dimensions
  pub passed_over : (before least : Option Dims) → IsLeastSoFar a all facts before least → are_these before fact.dims ≡ true
      → IsLeastSoFar a all (facts ++ fact ∷ []) (Some fact.dims) least
  passed_over None least h same = absurd (true≢false (sym same))
  passed_over (Some d) least h same =
      let was : WasLookedAt refused (Some fact.dims) least = subst (λ e. WasLookedAt refused (Some e) least) (dims_same d fact.dims same) h.looked_at in
      record { is_least = sym was ∙ ap (λ m. fold lesser_dims m (filter refused (fact.dims ∷ []))) h.is_least ∙ sym least_more; looked_at = was }
