-- A difference that is laid over the one repository makes the other, in each report that both have.
use Rattle.std.proofs.Common.{◌≡◌, ◌∙◌, ◌⊎◌, inl, inr, ap, sym, refl, Bool, true, false, cond, ◌&&◌, ◌||◌, List, [], ◌∷◌}
use Rattle.std.proofs.Common.{◌++◌, Option, Some, None, is_some, option_map, option_and_then, true≢false}
use Rattle.std.specs.Prelude.{⊤}
use Rattle.std.specs.List.{flat_map, list_any, AllByRecursion}
use Rattle.std.specs.Option.{option_map_or}
use Rattle.std.specs.FinMap.Entries.{is_some-find}
use Rattle.std.proofs.lemmas.Bool.{and_parts}
use Rattle.filing_model.specs.Common.Text.{Text, text_cmp, text_eq}
use Rattle.filing_model.specs.Common.TextMap.{TextMap, get, from_entries, keys}
use Rattle.filing_model.specs.Oim.Facts.{Fact}
use Rattle.filing_model.specs.Oim.Reports.{Report}
use Rattle.filing_model.specs.Sessions.Repository.{Repository, report_at, fact_in, fact_at, with_fact, with_report_at, with_fact_at, declaring_at}
use Rattle.filing_model.specs.Sessions.Replies.{Found, Declared as DeclaredReply}
use Rattle.filing_model.specs.Reading.DeclaredValue.{report_declaring}
use Rattle.filing_model.specs.declared.duplicates.Allowed.{Allowed}
use Rattle.filing_model.proofs.Common.Texts.{text_same, text_eq-refl}
use Rattle.filing_model.proofs.Common.TextMaps.{same_map}
use Rattle.filing_laws.specs.Histories.SameReplies.{allowed_eq, fact_eq}
use Rattle.filing_laws.proofs.Histories.SameReplies.{reply_same}
use Rattle.filing_laws.proofs.Lists.WithOneFact.{names_at, fact_at-with_fact_at, names_at-with_fact_at}
use Rattle.filing_laws.proofs.Lists.WithOneValue.{value_at, value_at-with_fact_at, names_at-declaring_at, value_at-declaring_at, fact_at-declaring_at}
use Rattle.version_differences.specs.Differences.{marked, Line, NewReport, NoReport, Declared, Added, Removed, Changed, fact_lines}
use Rattle.version_differences.specs.Differences.{declared_lines, report_lines, lines_at, keys_of_either, difference}
use Rattle.version_differences.specs.Laid.{with_line, with_lines, IsMadeTo, IsToldOf, EachDifferenceMakesTheOther}
use Rattle.version_differences.proofs.KeysAlike.{in_neither}
use Rattle.version_differences.proofs.ToldLines.{each_line_is_told_of_both}

-- ---- the place and the report of a line

abbrev is_at : Text → Text → Line → Bool
is_at m q (Added name id fact) = text_eq m name && text_eq q id
is_at m q (Removed name id fact) = text_eq m name && text_eq q id
is_at m q (Changed name id f g) = text_eq m name && text_eq q id
is_at m q _ = false

abbrev is_declared : Text → Line → Bool
is_declared m (Declared name a b) = text_eq m name
is_declared m _ = false

-- ---- reports that are not there

no_fact_put : (c : Repository) (name id : Text) (o : Option Fact) → report_at c name ≡ None → with_fact_at c name id o ≡ c
no_fact_put c name id o gone = ap (λ r. option_map_or (λ (r : Report). with_report_at c name (with_fact r id o)) r c) gone

no_value_put : (c : Repository) (name : Text) (value : Allowed) → report_at c name ≡ None → declaring_at c name value ≡ c
no_value_put c name value gone = ap (λ r. option_map_or (λ (r : Report). with_report_at c name (report_declaring r value)) r c) gone

-- ---- what a line leaves and makes

module _ (from to : Repository) (m : Text) where
  line_leaves_names : (c : Repository) (line : Line) → names_at (with_line c line) m ≡ names_at c m
  line_leaves_names c (NewReport name) = refl
  line_leaves_names c (NoReport name) = refl
  line_leaves_names c (Declared name a b) = by (report_at c name) refl
    where
      by : (o : Option Report) → report_at c name ≡ o → names_at (declaring_at c name b) m ≡ names_at c m
      by None gone = ap (λ c. names_at c m) (no_value_put c name b gone)
      by (Some r) is = names_at-declaring_at c name b m (ap is_some is)
  line_leaves_names c (Added name id fact) = names_at-with_fact_at c name id (Some fact) m
  line_leaves_names c (Removed name id fact) = names_at-with_fact_at c name id None m
  line_leaves_names c (Changed name id f g) = names_at-with_fact_at c name id (Some g) m

  lines_leave_names : (c : Repository) (lines : List Line) → names_at (with_lines c lines) m ≡ names_at c m
  lines_leave_names c [] = refl
  lines_leave_names c (line ∷ lines) = lines_leave_names (with_line c line) lines ∙ line_leaves_names c line

  some_named : (o : Option Report) → is_some (option_map (λ (r : Report). r.names) o) ≡ is_some o
  some_named None = refl
  some_named (Some r) = refl

  still_there : (c : Repository) (line : Line) → is_some (report_at c m) ≡ true → is_some (report_at (with_line c line) m) ≡ true
  still_there c line there =
      sym (some_named (report_at (with_line c line) m)) ∙ ap is_some (line_leaves_names c line) ∙ some_named (report_at c m) ∙ there

  -- ---- facts

  module _ (q : Text) where
    put_keeps : (c : Repository) (name id : Text) (o : Option Fact) → fact_at to name id ≡ o → fact_at c m q ≡ fact_at to m q
        → fact_at (with_fact_at c name id o) m q ≡ fact_at to m q
    put_keeps c name id o is so = by (report_at c name) refl
      where
        here : (b : Bool) → (text_eq m name && text_eq q id) ≡ b → cond b o (fact_at c m q) ≡ fact_at to m q
        here true at =
            let parts = and_parts (text_eq m name) (text_eq q id) at in
            sym is ∙ (λ i. fact_at to (sym (text_same m name parts.0) i) (sym (text_same q id parts.1) i))
        here false other = so

        by : (r : Option Report) → report_at c name ≡ r → fact_at (with_fact_at c name id o) m q ≡ fact_at to m q
        by None gone = ap (λ c. fact_at c m q) (no_fact_put c name id o gone) ∙ so
        by (Some r) there = fact_at-with_fact_at c name id o m q (ap is_some there) ∙ here (text_eq m name && text_eq q id) refl

    put_makes : (c : Repository) (name id : Text) (o : Option Fact) → fact_at to name id ≡ o → is_some (report_at c m) ≡ true
        → (text_eq m name && text_eq q id) ≡ true
        → fact_at (with_fact_at c name id o) m q ≡ fact_at to m q
    put_makes c name id o is there at =
        let parts = and_parts (text_eq m name) (text_eq q id) at in
        fact_at-with_fact_at c name id o m q (ap (λ n. is_some (report_at c n)) (sym (text_same m name parts.0)) ∙ there)
        ∙ ap (λ b. cond b o (fact_at c m q)) at
        ∙ sym is ∙ (λ i. fact_at to (sym (text_same m name parts.0) i) (sym (text_same q id parts.1) i))

    line_keeps : (c : Repository) (line : Line) → IsToldOf from to line → fact_at c m q ≡ fact_at to m q → fact_at (with_line c line) m q ≡ fact_at to m q
    line_keeps c (NewReport name) told so = so
    line_keeps c (NoReport name) told so = so
    line_keeps c (Declared name a b) told so = fact_at-declaring_at c name b m q ∙ so
    line_keeps c (Added name id fact) told so = put_keeps c name id (Some fact) told.1 so
    line_keeps c (Removed name id fact) told so = put_keeps c name id None told.1 so
    line_keeps c (Changed name id f g) told so = put_keeps c name id (Some g) told.1 so

    lines_keep : (c : Repository) (lines : List Line) → AllByRecursion (IsToldOf from to) lines → fact_at c m q ≡ fact_at to m q
        → fact_at (with_lines c lines) m q ≡ fact_at to m q
    lines_keep c [] told so = so
    lines_keep c (line ∷ lines) told so = lines_keep (with_line c line) lines told.1 (line_keeps c line told.0 so)

    line_makes : (c : Repository) (line : Line) → IsToldOf from to line → is_some (report_at c m) ≡ true → is_at m q line ≡ true
        → fact_at (with_line c line) m q ≡ fact_at to m q
    line_makes c (NewReport name) told there at = absurd (true≢false (sym at))
    line_makes c (NoReport name) told there at = absurd (true≢false (sym at))
    line_makes c (Declared name a b) told there at = absurd (true≢false (sym at))
    line_makes c (Added name id fact) told there at = put_makes c name id (Some fact) told.1 there at
    line_makes c (Removed name id fact) told there at = put_makes c name id None told.1 there at
    line_makes c (Changed name id f g) told there at = put_makes c name id (Some g) told.1 there at

    lines_make : (c : Repository) (lines : List Line) → AllByRecursion (IsToldOf from to) lines → is_some (report_at c m) ≡ true
        → list_any (is_at m q) lines ≡ true
        → fact_at (with_lines c lines) m q ≡ fact_at to m q
    lines_make c [] told there at = absurd (true≢false (sym at))
    lines_make c (line ∷ lines) told there at = by (is_at m q line) refl (lines_make (with_line c line) lines told.1 (still_there c line there)) at
      where
        by : (b : Bool) → is_at m q line ≡ b → (list_any (is_at m q) lines ≡ true → fact_at (with_lines (with_line c line) lines) m q ≡ fact_at to m q)
            → (b || list_any (is_at m q) lines) ≡ true → fact_at (with_lines (with_line c line) lines) m q ≡ fact_at to m q
        by true here later any = lines_keep (with_line c line) lines told.1 (line_makes c line told.0 there here)
        by false other later any = later any

  -- ---- values

  line_keeps_value : (c : Repository) (line : Line) → IsToldOf from to line → value_at c m ≡ value_at to m → value_at (with_line c line) m ≡ value_at to m
  line_keeps_value c (NewReport name) told so = so
  line_keeps_value c (NoReport name) told so = so
  line_keeps_value c (Declared name a b) (r, s, is_r, is_s, is_a, is_b, apart) so = by (report_at c name) refl
    where
      here : (t : Bool) → text_eq m name ≡ t → cond t (Some b) (value_at c m) ≡ value_at to m
      here true same = ap Some (sym is_b) ∙ sym (ap (option_map (λ (r : Report). r.allowed)) is_s) ∙ ap (value_at to) (sym (text_same m name same))
      here false other = so

      by : (o : Option Report) → report_at c name ≡ o → value_at (declaring_at c name b) m ≡ value_at to m
      by None gone = ap (λ c. value_at c m) (no_value_put c name b gone) ∙ so
      by (Some x) there = value_at-declaring_at c name b m (ap is_some there) ∙ here (text_eq m name) refl
  line_keeps_value c (Added name id fact) told so = value_at-with_fact_at c name id (Some fact) m ∙ so
  line_keeps_value c (Removed name id fact) told so = value_at-with_fact_at c name id None m ∙ so
  line_keeps_value c (Changed name id f g) told so = value_at-with_fact_at c name id (Some g) m ∙ so

  lines_keep_value : (c : Repository) (lines : List Line) → AllByRecursion (IsToldOf from to) lines → value_at c m ≡ value_at to m
      → value_at (with_lines c lines) m ≡ value_at to m
  lines_keep_value c [] told so = so
  lines_keep_value c (line ∷ lines) told so = lines_keep_value (with_line c line) lines told.1 (line_keeps_value c line told.0 so)

  line_makes_value : (c : Repository) (line : Line) → IsToldOf from to line → is_some (report_at c m) ≡ true → is_declared m line ≡ true
      → value_at (with_line c line) m ≡ value_at to m
  line_makes_value c (Declared name a b) (r, s, is_r, is_s, is_a, is_b, apart) there same =
      value_at-declaring_at c name b m (ap (λ n. is_some (report_at c n)) (sym (text_same m name same)) ∙ there)
      ∙ ap (λ t. cond t (Some b) (value_at c m)) same
      ∙ ap Some (sym is_b) ∙ sym (ap (option_map (λ (r : Report). r.allowed)) is_s) ∙ ap (value_at to) (sym (text_same m name same))
  line_makes_value c (NewReport name) told there at = absurd (true≢false (sym at))
  line_makes_value c (NoReport name) told there at = absurd (true≢false (sym at))
  line_makes_value c (Added name id fact) told there at = absurd (true≢false (sym at))
  line_makes_value c (Removed name id fact) told there at = absurd (true≢false (sym at))
  line_makes_value c (Changed name id f g) told there at = absurd (true≢false (sym at))

  lines_make_value : (c : Repository) (lines : List Line) → AllByRecursion (IsToldOf from to) lines → is_some (report_at c m) ≡ true
      → list_any (is_declared m) lines ≡ true
      → value_at (with_lines c lines) m ≡ value_at to m
  lines_make_value c [] told there at = absurd (true≢false (sym at))
  lines_make_value c (line ∷ lines) told there at = by (is_declared m line) refl
      (lines_make_value (with_line c line) lines told.1 (still_there c line there)) at
    where
      by : (b : Bool) → is_declared m line ≡ b → (list_any (is_declared m) lines ≡ true → value_at (with_lines (with_line c line) lines) m ≡ value_at to m)
          → (b || list_any (is_declared m) lines) ≡ true → value_at (with_lines (with_line c line) lines) m ≡ value_at to m
      by true here later any = lines_keep_value (with_line c line) lines told.1 (line_makes_value c line told.0 there here)
      by false other later any = later any

-- ---- the lines that a difference has

module _ (test : Line → Bool) where
  any_first : (xs ys : List Line) → list_any test xs ≡ true → list_any test (xs ++ ys) ≡ true
  any_first [] ys any = absurd (true≢false (sym any))
  any_first (x ∷ xs) ys any = by (test x) (any_first xs ys) any
    where
      by : (b : Bool) → (list_any test xs ≡ true → list_any test (xs ++ ys) ≡ true) → (b || list_any test xs) ≡ true → (b || list_any test (xs ++ ys)) ≡ true
      by true later any = refl
      by false later any = later any

  any_later : (xs ys : List Line) → list_any test ys ≡ true → list_any test (xs ++ ys) ≡ true
  any_later [] ys any = any
  any_later (x ∷ xs) ys any = by (test x) (any_later xs ys any)
    where
      by : (b : Bool) → list_any test (xs ++ ys) ≡ true → (b || list_any test (xs ++ ys)) ≡ true
      by true later = refl
      by false later = later

  any_of : (f : Text → List Line) (key : Text) (ks : List Text) → list_any (text_eq key) ks ≡ true → list_any test (f key) ≡ true
      → list_any test (flat_map f ks) ≡ true
  any_of f key [] there any = absurd (true≢false (sym there))
  any_of f key (k ∷ ks) there any = by (text_eq key k) refl (λ at. any_of f key ks at any) there
    where
      by : (b : Bool) → text_eq key k ≡ b → (list_any (text_eq key) ks ≡ true → list_any test (flat_map f ks) ≡ true)
          → (b || list_any (text_eq key) ks) ≡ true → list_any test (f k ++ flat_map f ks) ≡ true
      by true same later at = any_first (f k) (flat_map f ks) (ap (λ k. list_any test (f k)) (sym (text_same key k same)) ∙ any)
      by false other later at = any_later (f k) (flat_map f ks) (later at)

-- a key is in neither map, or it is one of the keys of either
one_of_either : {X Y : Type 0} (m : TextMap X) (n : TextMap Y) (q : Text)
    → ((get m q ≡ None) × (get n q ≡ None)) ⊎ (list_any (text_eq q) (keys_of_either m n) ≡ true)
one_of_either m n q = by (get (from_entries (marked (keys m ++ keys n))) q) refl
  where
    by : (o : Option ⊤) → get (from_entries (marked (keys m ++ keys n))) q ≡ o
        → ((get m q ≡ None) × (get n q ≡ None)) ⊎ (list_any (text_eq q) (keys_of_either m n) ≡ true)
    by None none = inl (in_neither m n q none)
    by (Some x) some = inr (sym (is_some-find text_cmp q (from_entries (marked (keys m ++ keys n))).entries) ∙ ap is_some some)

module _ (from to : Repository) (m : Text) (r s : Report) (is_r : report_at from m ≡ Some r) (is_s : report_at to m ≡ Some s) where
  lines_here : lines_at from to m ≡ report_lines m (Some r) (Some s)
  lines_here = λ i. report_lines m (is_r i) (is_s i)

  -- a line of the report is one of the difference
  is_line : (test : Line → Bool) → list_any test (report_lines m (Some r) (Some s)) ≡ true → list_any test (difference from to) ≡ true
  is_line test any = by (one_of_either from.reports to.reports m)
    where
      by : ((report_at from m ≡ None) × (report_at to m ≡ None)) ⊎ (list_any (text_eq m) (keys_of_either from.reports to.reports) ≡ true)
          → list_any test (difference from to) ≡ true
      by (inl gone) = let apart : None ≡ Some r = sym gone.0 ∙ is_r in cc
      by (inr there) = any_of test (lines_at from to) m (keys_of_either from.reports to.reports) there (ap (list_any test) lines_here ∙ any)

  told_at : (q : Text) (o p : Option Fact) → (o ≡ p) ⊎ (list_any (is_at m q) (fact_lines m q o p) ≡ true)
  told_at q None None = inl refl
  told_at q None (Some g) = inr (λ i. (text_eq-refl m i && text_eq-refl q i) || false)
  told_at q (Some f) None = inr (λ i. (text_eq-refl m i && text_eq-refl q i) || false)
  told_at q (Some f) (Some g) = by (fact_eq f g) refl
    where
      by : (b : Bool) → fact_eq f g ≡ b → (Some f ≡ Some g) ⊎ (list_any (is_at m q) (cond b [] (Changed m q f g ∷ [])) ≡ true)
      by true same = let equal : Found f ≡ Found g = reply_same (Found f) (Found g) same in inl cc
      by false apart = inr (λ i. (text_eq-refl m i && text_eq-refl q i) || false)

  fact_of_from : (q : Text) → fact_at from m q ≡ fact_in r q
  fact_of_from q = ap (option_and_then (λ r. fact_in r q)) is_r

  fact_of_to : (q : Text) → fact_at to m q ≡ fact_in s q
  fact_of_to q = ap (option_and_then (λ r. fact_in r q)) is_s

  fact_made : (q : Text) → fact_at (with_lines from (difference from to)) m q ≡ fact_at to m q
  fact_made q = by (told_at q (fact_in r q) (fact_in s q)) (one_of_either r.facts s.facts q)
    where
      told : AllByRecursion (IsToldOf from to) (difference from to)
      told = each_line_is_told_of_both from to

      stays : fact_in r q ≡ fact_in s q → fact_at (with_lines from (difference from to)) m q ≡ fact_at to m q
      stays same = lines_keep from to m q from (difference from to) told (fact_of_from q ∙ same ∙ sym (fact_of_to q))

      by : (fact_in r q ≡ fact_in s q) ⊎ (list_any (is_at m q) (fact_lines m q (fact_in r q) (fact_in s q)) ≡ true)
          → ((fact_in r q ≡ None) × (fact_in s q ≡ None)) ⊎ (list_any (text_eq q) (keys_of_either r.facts s.facts) ≡ true)
          → fact_at (with_lines from (difference from to)) m q ≡ fact_at to m q
      by (inl same) either = stays same
      by (inr any) (inl neither) = stays (neither.0 ∙ sym neither.1)
      by (inr any) (inr there) =
          lines_make from to m q from (difference from to) told (ap is_some is_r)
          (is_line (is_at m q) (any_later (is_at m q) (declared_lines m r.allowed s.allowed) _
          (any_of (is_at m q) (λ id. fact_lines m id (fact_in r id) (fact_in s id)) q (keys_of_either r.facts s.facts) there any)))

  value_made : value_at (with_lines from (difference from to)) m ≡ value_at to m
  value_made = by (allowed_eq r.allowed s.allowed) refl
    where
      told : AllByRecursion (IsToldOf from to) (difference from to)
      told = each_line_is_told_of_both from to

      declared : (b : Bool) → b ≡ false → list_any (is_declared m) (cond b [] (Declared m r.allowed s.allowed ∷ [])) ≡ true
      declared true apart = absurd (true≢false apart)
      declared false apart = λ i. text_eq-refl m i || false

      by : (b : Bool) → allowed_eq r.allowed s.allowed ≡ b → value_at (with_lines from (difference from to)) m ≡ value_at to m
      by true same =
          let equal : DeclaredReply r.allowed ≡ DeclaredReply s.allowed = reply_same (DeclaredReply r.allowed) (DeclaredReply s.allowed) same in
          let values : r.allowed ≡ s.allowed = cc in
          lines_keep_value from to m from (difference from to) told
          (ap (option_map (λ (r : Report). r.allowed)) is_r ∙ ap Some values ∙ sym (ap (option_map (λ (r : Report). r.allowed)) is_s))
      by false apart =
          lines_make_value from to m from (difference from to) told (ap is_some is_r)
          (is_line (is_declared m) (any_first (is_declared m) (declared_lines m r.allowed s.allowed) _ (declared (allowed_eq r.allowed s.allowed) apart)))

  made : (made : Report) × (report_at (with_lines from (difference from to)) m ≡ Some made) × IsMadeTo made r s
  made = by (report_at (with_lines from (difference from to)) m) refl
    where
      laid : Repository
      laid = with_lines from (difference from to)

      by : (o : Option Report) → report_at laid m ≡ o → (made : Report) × (report_at laid m ≡ Some made) × IsMadeTo made r s
      by None gone =
          let apart : None ≡ Some r.names = sym (ap (option_map (λ (r : Report). r.names)) gone) ∙ lines_leave_names from to m from (difference from to)
          ∙ ap (option_map (λ (r : Report). r.names)) is_r in
          cc
      by (Some x) is =
          let names : Some x.names ≡ Some r.names = sym (ap (option_map (λ (r : Report). r.names)) is) ∙ lines_leave_names from to m from (difference from to)
          ∙ ap (option_map (λ (r : Report). r.names)) is_r in
          let values : Some x.allowed ≡ Some s.allowed = sym (ap (option_map (λ (r : Report). r.allowed)) is) ∙ value_made
          ∙ ap (option_map (λ (r : Report). r.allowed)) is_s in (
            x,
            is,
            record {
              names = cc;
              allowed = cc;
              facts = same_map x.facts s.facts (λ q. sym (ap (option_and_then (λ (r : Report). fact_in r q)) is) ∙ fact_made q ∙ fact_of_to q);
            },
          )

pub each_difference_makes_the_other : EachDifferenceMakesTheOther
each_difference_makes_the_other from to name r s is_r is_s = made from to name r s is_r is_s
