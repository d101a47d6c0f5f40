-- An entry touches a range exactly where it leaves a mark in it.
use Rattle.std.proofs.Common.{◌≡◌, ◌∙◌, ap, sym, refl, Bool, true, false, cond, ◌&&◌, ◌||◌, ℕ, List, [], ◌∷◌, Option, Some, None, is_some, true≢false}
use Rattle.std.specs.FinMap.Entries.{find}
use Rattle.std.specs.List.{list_any}
use Rattle.std.specs.Option.{option_eq, option_map_or}
use Rattle.std.proofs.lemmas.Bool.{and_parts, and_from, or_left, or_right}
use Rattle.filing_model.specs.Common.Text.{Text, text_cmp, text_eq}
use Rattle.filing_model.specs.Oim.Dimensions.{concept_of, period_of}
use Rattle.filing_model.specs.Oim.Facts.{Fact}
use Rattle.filing_model.specs.Sessions.Repository.{Repository, fact_at}
use Rattle.filing_model.specs.Sessions.Calls.{PageQuery}
use Rattle.filing_model.specs.Sessions.Queries.{is_asked, answers_query}
use Rattle.filing_model.specs.Sessions.Replies as reply
use Rattle.filing_model.specs.Sessions.Replies.{Reply}
use Rattle.filing_model.specs.Sessions.Things.{Range}
use Rattle.filing_model.specs.Sessions.Changes.{Change, change_in, change_at}
use Rattle.filing_model.specs.Histories.History.{Step, Load, Entry, History, repository}
use Rattle.filing_model.specs.Histories.Touches.{passes_at, is_within, is_changed, is_loaded, net_change_of, touches_with}
use Rattle.filing_model.proofs.Common.Texts.{text_same, text_eq-refl}
use Rattle.filing_laws.specs.Stamping.Marks.{Mark, stands_at, is_marked, marks_with, LiesIn, RangesAreTouchedByMarks}
use Rattle.filing_laws.proofs.Lists.EqualThings.{option_same}
use Rattle.filing_laws.proofs.Histories.SameReplies.{option_itself}

-- ---- keys that pass a test

record IsKeyThatPasses {X : Type 0} (test : Text → Bool) (es : List (Text × X)) : Type 0 where
  key : Text
  found : is_some (find text_cmp key es) ≡ true
  passes : test key ≡ true

key_that_passes : {X : Type 0} (test : Text → Bool) (es : List (Text × X)) → list_any (λ e. test e.0) es ≡ true → IsKeyThatPasses test es
key_that_passes test [] some = absurd (true≢false (sym some))
key_that_passes {X} test (e ∷ es) some = by (test e.0) refl some (key_that_passes test es)
  where
    by : (b : Bool) → test e.0 ≡ b → (b || list_any (λ e. test e.0) es) ≡ true → (list_any (λ e. test e.0) es ≡ true → IsKeyThatPasses test es) → IsKeyThatPasses test (e ∷ es)
    by true holds some rest = record { key = e.0; found = ap (λ b. is_some (cond b (Some e.1) (find text_cmp e.0 es))) (text_eq-refl e.0); passes = holds }
    by false fails some rest = let later = rest some in record { key = later.key; found = still later.key (text_eq later.key e.0) later.found; passes = later.passes }
      where
        still : (key : Text) (b : Bool) → is_some (find text_cmp key es) ≡ true → is_some (cond b (Some e.1) (find text_cmp key es)) ≡ true
        still key true found = refl
        still key false found = found

some_key_passes : {X : Type 0} (test : Text → Bool) (es : List (Text × X)) (key : Text) → is_some (find text_cmp key es) ≡ true → test key ≡ true → list_any (λ e. test e.0) es ≡ true
some_key_passes test [] key found passes = absurd (true≢false (sym found))
some_key_passes {X} test (e ∷ es) key found passes = by (text_eq key e.0) refl found (λ found. some_key_passes test es key found passes)
  where
    by : (b : Bool) → text_eq key e.0 ≡ b → is_some (cond b (Some e.1) (find text_cmp key es)) ≡ true → (is_some (find text_cmp key es) ≡ true → list_any (λ e. test e.0) es ≡ true)
        → (test e.0 || list_any (λ e. test e.0) es) ≡ true
    by true same found rest = or_left (test e.0) (list_any (λ e. test e.0) es) (ap test (sym (text_same key e.0 same)) ∙ passes)
    by false other found rest = or_right (test e.0) (list_any (λ e. test e.0) es) (rest found)

-- ---- a fact that passes, before or after

-- where it passes, each other test that it passes is passed there too
record HasFact (test : Fact → Bool) (o p : Option Fact) : Type 0 where
  fact : Fact
  passes : test fact ≡ true
  others : (other : Fact → Bool) → other fact ≡ true → (option_map_or other o false || option_map_or other p false) ≡ true

has_fact : (test : Fact → Bool) (o p : Option Fact) → (option_map_or test o false || option_map_or test p false) ≡ true → HasFact test o p
has_fact test None None some = absurd (true≢false (sym some))
has_fact test None (Some g) some = record { fact = g; passes = some; others = λ other holds. holds }
has_fact test (Some f) p some = by (test f) refl some
  where
    after : (p : Option Fact) → option_map_or test p false ≡ true → HasFact test (Some f) p
    after None some = absurd (true≢false (sym some))
    after (Some g) some = record { fact = g; passes = some; others = λ other holds. or_right (other f) (other g) holds }

    by : (b : Bool) → test f ≡ b → (b || option_map_or test p false) ≡ true → HasFact test (Some f) p
    by true holds some = record { fact = f; passes = holds; others = λ other passes. or_left (other f) (option_map_or other p false) passes }
    by false fails some = after p some

-- ---- what a change touches and marks

module _ (before after : Repository) (change : Change) (name : Text) (query : PageQuery) (upto : Option Text) where
  abbrev answers : Fact → Bool
  answers = answers_query query.concept query.period

  -- its fact answers, before or after
  abbrev answers_at : Text → Bool
  answers_at id = passes_at answers before after name id

  abbrev is_in_range : Text → Bool
  is_in_range id = is_within query.after upto id && answers_at id

  record IsMarked : Type 0 where
    mark : Mark
    lies : LiesIn name query upto mark
    marked : is_marked before after change mark ≡ true

  marked_where_changed : is_changed before after change (Range name query upto) ≡ true → IsMarked
  marked_where_changed touched =
      let id = key_that_passes is_in_range (change_in change name).facts.entries touched in
      let parts = and_parts (is_within query.after upto id.key) (answers_at id.key) id.passes in
      let some = has_fact answers (fact_at before name id.key) (fact_at after name id.key) parts.1 in
      let concept = option_eq text_eq (Some query.concept) (concept_of some.fact.dims) in
      let period = period_of some.fact.dims in
      let found = and_parts concept (is_asked query.period period) some.passes in
      let mark : Mark = record { report = name; concept = query.concept; period = period; id = id.key } in
      let stands = and_from concept (option_eq text_eq period period) found.0 (option_itself text_eq text_eq-refl period) in
      record {
        mark = mark;
        lies = record { report = refl; concept = refl; period = found.1; within = parts.0 };
        marked = and_from (is_some (change_at change name id.key)) (passes_at (stands_at mark) before after name id.key) id.found (some.others (stands_at mark) stands);
      }

  -- where a fact stands at a mark in the range, it answers
  answers_where_it_stands : (mark : Mark) → LiesIn name query upto mark → (fact : Fact) → stands_at mark fact ≡ true → answers fact ≡ true
  answers_where_it_stands mark lies fact stands =
      let parts = and_parts (option_eq text_eq (Some mark.concept) (concept_of fact.dims)) (option_eq text_eq mark.period (period_of fact.dims)) stands in
      and_from (option_eq text_eq (Some query.concept) (concept_of fact.dims)) (is_asked query.period (period_of fact.dims))
      (ap (λ c. option_eq text_eq (Some c) (concept_of fact.dims)) (sym lies.concept) ∙ parts.0)
      (ap (is_asked query.period) (sym (option_same text_eq text_same mark.period (period_of fact.dims) parts.1)) ∙ lies.period)

  changed_where_marked : (mark : Mark) → LiesIn name query upto mark → is_marked before after change mark ≡ true → is_changed before after change (Range name query upto) ≡ true
  changed_where_marked mark lies marked =
      let parts = and_parts (is_some (change_at change mark.report mark.id)) (passes_at (stands_at mark) before after mark.report mark.id) marked in
      let some = has_fact (stands_at mark) (fact_at before mark.report mark.id) (fact_at after mark.report mark.id) parts.1 in
      let there : answers_at mark.id ≡ true =
      ap (λ n. passes_at answers before after n mark.id) (sym lies.report)
      ∙ some.others answers (answers_where_it_stands mark lies some.fact some.passes) in
      some_key_passes is_in_range (change_in change name).facts.entries mark.id
      (ap (λ n. is_some (change_at change n mark.id)) (sym lies.report) ∙ parts.0)
      (and_from (is_within query.after upto mark.id) (answers_at mark.id) lies.within there)

-- ---- entries

loads_touch_no_range : (step : Step) (name : Text) (query : PageQuery) (upto : Option Text) → is_loaded step (Range name query upto) ≡ false
loads_touch_no_range (Load m r) name query upto = refl
loads_touch_no_range _ name query upto = refl

module _ (e : Entry) (older : History) (name : Text) (query : PageQuery) (upto : Option Text) where
  by_commit : (session : Option ℕ)
      → option_map_or (λ s. is_changed (repository older) (repository (e ∷ older)) (net_change_of s older) (Range name query upto)) session false ≡ true
      → (mark : Mark) × LiesIn name query upto mark × (option_map_or (λ s. is_marked (repository older) (repository (e ∷ older)) (net_change_of s older) mark) session false ≡ true)
  by_commit None touched = absurd (true≢false (sym touched))
  by_commit (Some s) touched =
      let is = marked_where_changed (repository older) (repository (e ∷ older)) (net_change_of s older) name query upto touched in
      (is.mark, is.lies, is.marked)

  by_mark : (session : Option ℕ) (mark : Mark) → LiesIn name query upto mark
      → option_map_or (λ s. is_marked (repository older) (repository (e ∷ older)) (net_change_of s older) mark) session false ≡ true
      → option_map_or (λ s. is_changed (repository older) (repository (e ∷ older)) (net_change_of s older) (Range name query upto)) session false ≡ true
  by_mark None mark lies left = absurd (true≢false (sym left))
  by_mark (Some s) mark lies left = changed_where_marked (repository older) (repository (e ∷ older)) (net_change_of s older) name query upto mark lies left

  left_with : (r : Reply) → touches_with r e older (Range name query upto) ≡ true → (mark : Mark) × LiesIn name query upto mark × (marks_with r e older mark ≡ true)
  left_with (reply.Loaded n) touched = absurd (true≢false (sym touched ∙ loads_touch_no_range e.step name query upto))
  left_with (reply.Committed n) touched = by_commit e.session touched
  left_with _ touched = absurd (true≢false (sym touched))

  touched_with : (r : Reply) (mark : Mark) → LiesIn name query upto mark → marks_with r e older mark ≡ true → touches_with r e older (Range name query upto) ≡ true
  touched_with (reply.Committed n) mark lies left = by_mark e.session mark lies left
  touched_with _ mark lies left = absurd (true≢false (sym left))

pub ranges_are_touched_by_marks : RangesAreTouchedByMarks
ranges_are_touched_by_marks e older name query upto = (
  λ touched. let (mark, lies, left) = left_with e older name query upto e.reply touched in record { mark = mark; lies = lies; left = left },
  λ is. touched_with e older name query upto e.reply is.mark is.lies is.left,
)
