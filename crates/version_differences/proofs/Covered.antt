-- The lines of the places that cover a difference are those of the difference.
use Rattle.std.proofs.Common.{◌≡◌, ◌∙◌, ap, sym, refl, subst, cond, List, [], ◌∷◌, ◌++◌, map, Option, Some}
use Rattle.std.proofs.Common.{None, option_map, option_and_then, unwrap_or, append-nil}
use Rattle.std.specs.List.{flat_map}
use Rattle.filing_model.specs.Common.Text.{Text}
use Rattle.filing_model.specs.Common.TextMap.{empty, get, keys}
use Rattle.filing_model.specs.Oim.Facts.{Fact}
use Rattle.filing_model.specs.Oim.Reports.{Report}
use Rattle.filing_model.specs.Sessions.Repository.{Repository, report_at, fact_in, fact_at}
use Rattle.filing_model.specs.Sessions.Replies.{Found}
use Rattle.filing_model.specs.declared.duplicates.Allowed.{Allowed}
use Rattle.filing_laws.proofs.Histories.SameReplies.{reply_itself}
use Rattle.version_differences.specs.Differences.{Changed, fact_lines, report_lines, lines_at, lines_at_id, declared_lines, difference}
use Rattle.filing_laws.proofs.Lists.EachElement.{Each, each_mapped}
use Rattle.filing_laws.proofs.Updating.FirstFound.{each_is_found}
use Rattle.version_differences.specs.LineText.{lines_text}
use Rattle.version_differences.specs.Places.{Ids, Places, ids_at, CoverFacts, CoverDifference}
use Rattle.version_differences.proofs.KeysAlike.{made_of_either}
use Rattle.version_differences.proofs.PushedLines.{written_both}

-- nothing is told of what is the same
same_fact : (name id : Text) (o : Option Fact) → fact_lines name id o o ≡ []
same_fact name id None = refl
same_fact name id (Some fact) = ap (λ b. cond b [] (Changed name id fact fact ∷ [])) (reply_itself (Found fact))

neither_fact : (name id : Text) (o p : Option Fact) → o ≡ None → p ≡ None → fact_lines name id o p ≡ []
neither_fact name id o p none gone = λ i. fact_lines name id (none i) (gone i)

module _ (from to : Repository) (name : Text) where
  fact_of : (c : Repository) (r : Report) (id : Text) → report_at c name ≡ Some r → fact_at c name id ≡ fact_in r id
  fact_of c r id is = ap (option_and_then (λ r. fact_in r id)) is

  module _ (r s : Report) (is_r : report_at from name ≡ Some r) (is_s : report_at to name ≡ Some s) where
    at_id : (id : Text) → lines_at_id from to name id ≡ fact_lines name id (fact_in r id) (fact_in s id)
    at_id id = λ i. fact_lines name id (fact_of from r id is_r i) (fact_of to s id is_s i)

    flat_at : (ks : List Text) → flat_map (lines_at_id from to name) ks ≡ flat_map (λ id. fact_lines name id (fact_in r id) (fact_in s id)) ks
    flat_at [] = refl
    flat_at (k ∷ ks) = λ i. at_id k i ++ flat_at ks i

    -- the lines of a report that both have
    pub both_have : (ids : Ids) → CoverFacts ids from to name
        → declared_lines name r.allowed s.allowed ++ flat_map (lines_at_id from to name) (keys ids) ≡ lines_at from to name
    both_have ids cover =
        ap (λ lines. declared_lines name r.allowed s.allowed ++ lines)
        (flat_at (keys ids)
        ∙ made_of_either (λ id. fact_lines name id (fact_in r id) (fact_in s id)) r.facts s.facts ids
        (λ id none gone. neither_fact name id (fact_in r id) (fact_in s id) none gone)
        (λ id none. ap (λ o. fact_lines name id o (fact_in s id)) (cover id r s is_r is_s none) ∙ same_fact name id (fact_in s id)))
        ∙ sym (λ i. report_lines name (is_r i) (is_s i))

  -- with its declared values
  pub told_of_both : (ids : Ids) (before after : Allowed) → option_map (λ r. r.allowed) (report_at from name) ≡ Some before
      → option_map (λ r. r.allowed) (report_at to name) ≡ Some after → CoverFacts ids from to name
      → declared_lines name before after ++ flat_map (lines_at_id from to name) (keys ids) ≡ lines_at from to name
  told_of_both ids before after is_before is_after cover = by (report_at from name) (report_at to name) refl refl is_before is_after
    where
      by : (o p : Option Report) → report_at from name ≡ o → report_at to name ≡ p → option_map (λ (r : Report). r.allowed) o ≡ Some before
          → option_map (λ (r : Report). r.allowed) p ≡ Some after
          → declared_lines name before after ++ flat_map (lines_at_id from to name) (keys ids) ≡ lines_at from to name
      by (Some r) (Some s) is_r is_s is_a is_b =
          let a : before ≡ r.allowed = cc in
          let b : after ≡ s.allowed = cc in
          (λ i. declared_lines name (a i) (b i) ++ flat_map (lines_at_id from to name) (keys ids)) ∙ both_have r s is_r is_s ids cover
      by None p is_r is_s is_a is_b = cc
      by (Some r) None is_r is_s is_a is_b = cc

-- ---- all reports

-- the identifiers of each name
pub each_named : (places : Places) → Each (λ e. ids_at places e.0 ≡ e.1) places.entries
each_named places =
    each_mapped (λ e. get places e.0 ≡ Some e.1) (λ e. ids_at places e.0 ≡ e.1) (λ e found. ap (λ (o : Option Ids). unwrap_or o empty) found) places.entries
    (each_is_found places.entries places.sorted)

-- their lines
pub all_lines : (places : Places) (from to : Repository) → CoverDifference places from to → flat_map (lines_at from to) (keys places) ≡ difference from to
all_lines places from to cover =
    made_of_either (lines_at from to) from.reports to.reports places
    (λ name none gone. λ i. report_lines name (none i) (gone i))
    (λ name none. let both = cover.names name none in λ i. report_lines name (both.0 i) (both.1 i))

-- where no name is left, all lines are written
pub all_written : (places : Places) (from to : Repository) (out : Text) (left : List (Text × Ids)) → left ≡ [] → CoverDifference places from to
    → out ++ lines_text (flat_map (lines_at from to) (map (λ e. e.0) left)) ≡ lines_text (flat_map (lines_at from to) (keys places))
    → out ≡ lines_text (difference from to)
all_written places from to out left none cover so_far =
    sym (append-nil out) ∙ ap (λ es. out ++ lines_text (flat_map (lines_at from to) (map (λ (e : Text × Ids). e.0) es))) (sym none) ∙ so_far
    ∙ ap lines_text (all_lines places from to cover)

-- the lines so far, and those of the names still to come, each with its identifiers
abbrev pub IsWrittenTo : Places → Repository → Repository → Text → List (Text × Ids) → Type 0
IsWrittenTo places from to out left =
    Each (λ e. ids_at places e.0 ≡ e.1) left
    × (CoverDifference places from to
    → out ++ lines_text (flat_map (lines_at from to) (map (λ e. e.0) left)) ≡ lines_text (flat_map (lines_at from to) (keys places)))

-- those of one name more are written
pub next_written : (places : Places) (from to : Repository) (out out' : Text) (left rest : List (Text × Ids)) (e : Text × Ids) (name : Text) (ids : Ids)
    → left ≡ e ∷ rest → name ≡ e.0 → ids ≡ e.1 → (CoverFacts ids from to name → out' ≡ out ++ lines_text (lines_at from to name))
    → IsWrittenTo places from to out left → IsWrittenTo places from to out' rest
next_written places from to out out' left rest e name ids is is_name is_ids push so_far =
    let each = subst (Each (λ (x : Text × Ids). ids_at places x.0 ≡ x.1)) is so_far.0 in
    let f = lines_at from to in
    let names = map (λ (x : Text × Ids). x.0) rest in (
      each.1,
      λ cover.
          let covered : CoverFacts ids from to name =
          subst (λ (i : Ids). CoverFacts i from to name) (ap (ids_at places) is_name ∙ each.0 ∙ sym is_ids) (cover.facts name) in
          let here : out' ≡ out ++ lines_text (f e.0) = push covered ∙ ap (λ n. out ++ lines_text (f n)) is_name in
          let before : out ++ lines_text (f e.0 ++ flat_map f names) ≡ lines_text (flat_map f (keys places)) =
          subst (λ (es : List (Text × Ids)). out ++ lines_text (flat_map f (map (λ (x : Text × Ids). x.0) es)) ≡ lines_text (flat_map f (keys places)))
          is (so_far.1 cover) in
          written_both out out' (out' ++ lines_text (flat_map f names)) (f e.0) (flat_map f names) here refl ∙ before,
    )
