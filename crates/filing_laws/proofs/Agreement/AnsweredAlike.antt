-- A call is answered alike in two repositories that agree on what it reads, reads the same in both, and keeps all that they agree on.
use Rattle.std.proofs.Common.{◌≡◌, ◌∙◌, ap, sym, refl, subst, ℕ, Bool, true, false, cond, ◌&&◌, List, map}
use Rattle.std.proofs.Common.{Option, Some, None, is_some, option_map, option_and_then}
use Rattle.std.specs.Option.{option_map_or}
use Rattle.std.specs.declared.result.Result.{Result}
use Rattle.std.specs.declared.result.Result.TheVariants.{Ok, Err}
use Rattle.filing_model.specs.Common.Text.{Text}
use Rattle.filing_model.specs.Oim.Dimensions.{Dims}
use Rattle.filing_model.specs.Oim.Facts.{Fact, Names, RawFact, fit_of}
use Rattle.filing_model.specs.Oim.Reports.{Report}
use Rattle.filing_model.specs.Sessions.Repository.{Repository, report_at, fact_in, fact_at, with_fact_at}
use Rattle.filing_model.specs.Oim.Duplicates.{has_dims, class_of}
use Rattle.filing_model.specs.Sessions.Queries.{answers_query, ids_for, first_cut}
use Rattle.filing_model.specs.Sessions.Calls as call
use Rattle.filing_model.specs.Sessions.Calls.{PageQuery, Limit, Call, report_of_call}
use Rattle.filing_model.specs.Sessions.Replies as reply
use Rattle.filing_model.specs.Sessions.Replies.{Reply}
use Rattle.filing_model.specs.Sessions.Things as thing
use Rattle.filing_model.specs.Sessions.Things.{Thing}
use Rattle.filing_model.specs.Sessions.Sessions.{Answer, may_make, answer_in, answer, fitted, added, removed}
use Rattle.filing_model.specs.Histories.Touches.{read_in, read_by, is_within}
use Rattle.filing_model.specs.declared.duplicates.Allowed.{Allowed}
use Rattle.filing_model.specs.declared.kind.Kind.{Kind}
use Rattle.filing_model.specs.declared.faults.FactFault.{FactFault}
use Rattle.filing_laws.proofs.Lists.EachElement.{OnEach}
use Rattle.filing_laws.proofs.Lists.WithOneFact.{names_at}
use Rattle.filing_model.proofs.Common.FilteredEntries.{only}
use Rattle.filing_laws.proofs.Lists.FilteredFacts.{those_same}
use Rattle.filing_laws.proofs.Agreement.AgreeOnThings.{Agree, agree_fact, agree_kept, agree_declared}
use Rattle.filing_laws.proofs.Agreement.PagesAlike.{SameFront, same_front, page_query_rise, page_query_upto}

-- they agree on what was read, if anything was
abbrev pub AgreeOn : Option Thing → Repository → Repository → Type 0
AgreeOn o c d = OnEach (λ t. Agree t c d) o

-- each report of the one is in the other, with the same names
abbrev pub Stays : Repository → Repository → Type 0
Stays c d = (m : Text) (names : Names) → names_at c m ≡ Some names → names_at d m ≡ Some names

-- the same reply, copies that agree on all that the repositories agree on, and the same thing read
pub record IsAlike (c d : Repository) (p q : Answer) (x y : Option Thing) : Type 0 where
  pub reply : p.0 ≡ q.0
  pub kept : (t : Thing) → Agree t c d → Agree t p.1 q.1
  pub read : x ≡ y

-- ---- the report that a call names

pub names_there : (c : Repository) (name : Text) (r : Report) → report_at c name ≡ Some r → names_at c name ≡ Some r.names
names_there c name r is = ap (option_map (λ (r : Report). r.names)) is

pub fact_there : (c : Repository) (name : Text) (r : Report) (id : Text) → report_at c name ≡ Some r → fact_at c name id ≡ fact_in r id
fact_there c name r id there = ap (option_and_then (λ r. fact_in r id)) there

names_alike : (c d : Repository) (name : Text) (r s : Report) → Stays c d
    → report_at c name ≡ Some r → report_at d name ≡ Some s → r.names ≡ s.names
names_alike c d name r s stays in_c in_d =
    let names : Some r.names ≡ Some s.names = sym (stays name r.names (names_there c name r in_c)) ∙ names_there d name s in_d in
    cc

pub there : (c : Repository) (name : Text) (r : Report) → report_at c name ≡ Some r → is_some (report_at c name) ≡ true
there c name r is = ap is_some is

-- ---- in that report

module _ (c d : Repository) (name : Text) (r s : Report) (in_c : report_at c name ≡ Some r) (in_d : report_at d name ≡ Some s) where
  abbrev Alike : Call → Type 0
  Alike ask = IsAlike c d (answer_in c ask r) (answer_in d ask s) (read_in ask r) (read_in ask s)

  fact_alike : (id : Text) → Agree (thing.Id name id) c d → fact_in r id ≡ fact_in s id
  fact_alike id agree = sym (fact_there c name r id in_c) ∙ agree_fact name id c d agree ∙ fact_there d name s id in_d

  facts_alike : (test : Text → Fact → Bool) → ((id : Text) → only (test id) (fact_at c name id) ≡ only (test id) (fact_at d name id))
      → (id : Text) → only (test id) (fact_in r id) ≡ only (test id) (fact_in s id)
  facts_alike test same id =
      ap (only (test id)) (sym (fact_there c name r id in_c)) ∙ same id ∙ ap (only (test id)) (fact_there d name s id in_d)

  -- a read leaves both copies
  read_alike : {x y : Reply} {t u : Option Thing} → x ≡ y → t ≡ u → IsAlike c d (x, c) (y, d) t u
  read_alike reply read = record { reply = reply; kept = λ t agree. agree; read = read }

  get_alike : (id : Text) → Agree (thing.Id name id) c d → Alike (call.Get name id)
  get_alike id agree = read_alike (ap (λ o. option_map_or reply.Found o reply.Absent) (fact_alike id agree)) refl

  cell_alike : (dims : Dims) → Agree (thing.Cell name dims) c d → Alike (call.Cell name dims)
  cell_alike dims agree = read_alike
      (ap (λ (es : List (Text × Fact)). reply.Cell (class_of (map (λ e. e.1) es)) (map (λ e. e.0) es))
      (those_same (λ id fact. has_dims dims fact) r.facts s.facts (facts_alike (λ id fact. has_dims dims fact) agree.facts)))
      refl

  front_alike : (query : PageQuery) (limit : ℕ) → Agree (thing.Range name query (first_cut limit (ids_for query r.facts))) c d
      → SameFront limit (ids_for query r.facts) (ids_for query s.facts)
  front_alike query limit agree =
      let upto = first_cut limit (ids_for query r.facts) in
      let sees : Text → Fact → Bool = λ id fact. is_within query.after upto id && answers_query query.concept query.period fact in
      same_front limit (ids_for query r.facts) (ids_for query s.facts) (page_query_rise query r.facts) (page_query_rise query s.facts)
      (page_query_upto query upto r.facts.entries
      ∙ ap (λ (es : List (Text × Fact)). map (λ e. e.0) es) (those_same sees r.facts s.facts (facts_alike sees agree.facts))
      ∙ sym (page_query_upto query upto s.facts.entries))

  page_alike : (query : PageQuery) (limit : Limit) → Agree (thing.Range name query (first_cut limit.number (ids_for query r.facts))) c d
      → Alike (call.Page name query limit)
  page_alike query limit agree =
      let same = front_alike query limit.number agree in
      read_alike (λ i. reply.Page (same.front i) (is_some (same.cut i))) (ap (λ upto. Some (thing.Range name query upto)) same.cut)

  declared_alike : Agree (thing.Policy name) c d → Alike (call.Declared name)
  declared_alike agree =
      let same : Some r.allowed ≡ Some s.allowed =
      sym (ap (option_map (λ (r : Report). r.allowed)) in_c) ∙ agree.value ∙ ap (option_map (λ (r : Report). r.allowed)) in_d in
      let values : r.allowed ≡ s.allowed = cc in
      read_alike (ap reply.Declared values) refl

  -- an addition and a removal read their identifier
  abbrev AlikeAt : Text → Answer → Answer → Type 0
  AlikeAt id p q = IsAlike c d p q (Some (thing.Id name id)) (Some (thing.Id name id))

  put_alike : (id : Text) (fact : Option Fact) → AlikeAt id (reply.Staged, with_fact_at c name id fact) (reply.Staged, with_fact_at d name id fact)
  put_alike id fact = record {
    reply = refl;
    kept = λ t agree. agree_kept t c d name id fact (there c name r in_c) (there d name s in_d) agree;
    read = refl;
  }

  added_alike : (id : Text) (taken : Bool) (fit : Result Fact FactFault)
      → AlikeAt id (cond taken (reply.Taken, c) (fitted c name id fit)) (cond taken (reply.Taken, d) (fitted d name id fit))
  added_alike id true fit = read_alike refl refl
  added_alike id false (Ok fact) = put_alike id (Some fact)
  added_alike id false (Err fault) = read_alike refl refl

  add_alike : (id : Text) (raw : RawFact) → r.names ≡ s.names → Agree (thing.Id name id) c d → Alike (call.Add name id raw)
  add_alike id raw names agree = subst
      (λ (p : Option Fact × Names). AlikeAt id (added c name id raw r)
      (cond (is_some p.0) (reply.Taken, d) (fitted d name id (fit_of p.1 raw))))
      (λ i. (fact_alike id agree i, names i)) (added_alike id (is_some (fact_in r id)) (fit_of r.names raw))

  removed_alike : (id : Text) (found : Bool)
      → AlikeAt id (cond found (reply.Staged, with_fact_at c name id None) (reply.Absent, c))
      (cond found (reply.Staged, with_fact_at d name id None) (reply.Absent, d))
  removed_alike id true = put_alike id None
  removed_alike id false = read_alike refl refl

  remove_alike : (id : Text) → Agree (thing.Id name id) c d → Alike (call.Remove name id)
  remove_alike id agree = subst
      (λ o. AlikeAt id (removed c name id r) (cond (is_some o) (reply.Staged, with_fact_at d name id None) (reply.Absent, d)))
      (fact_alike id agree) (removed_alike id (is_some (fact_in r id)))

  declare_alike : (value : Allowed) → Alike (call.Declare name value)
  declare_alike value = record {
    reply = refl;
    kept = λ t agree. agree_declared t c d name value (there c name r in_c) (there d name s in_d) agree;
    read = refl;
  }

alike_in : (c d : Repository) (ask : Call) (r s : Report) → report_at c (report_of_call ask) ≡ Some r → report_at d (report_of_call ask) ≡ Some s
    → r.names ≡ s.names → AgreeOn (read_in ask r) c d
    → IsAlike c d (answer_in c ask r) (answer_in d ask s) (read_in ask r) (read_in ask s)
alike_in c d (call.Get name id) r s in_c in_d names agree = get_alike c d name r s in_c in_d id agree
alike_in c d (call.Cell name dims) r s in_c in_d names agree = cell_alike c d name r s in_c in_d dims agree
alike_in c d (call.Page name query limit) r s in_c in_d names agree = page_alike c d name r s in_c in_d query limit agree
alike_in c d (call.Add name id raw) r s in_c in_d names agree = add_alike c d name r s in_c in_d id raw names agree
alike_in c d (call.Remove name id) r s in_c in_d names agree = remove_alike c d name r s in_c in_d id agree
alike_in c d (call.Declared name) r s in_c in_d names agree = declared_alike c d name r s in_c in_d agree
alike_in c d (call.Declare name value) r s in_c in_d names agree = declare_alike c d name r s in_c in_d value

-- ---- one call

pub call_alike : (kind : Kind) (ask : Call) (c d : Repository) → Stays c d → AgreeOn (read_by kind ask c) c d
    → IsAlike c d (answer kind ask c) (answer kind ask d) (read_by kind ask c) (read_by kind ask d)
call_alike kind ask c d stays = by (may_make kind ask) (report_at c name) (report_at d name) refl refl
  where
    name : Text
    name = report_of_call ask

    answered : Repository → Bool → Option Report → Answer
    answered c may o = cond may (option_map_or (answer_in c ask) o (reply.NoReport, c)) (reply.ReadOnly, c)

    reading : Bool → Option Report → Option Thing
    reading may o = cond may (option_map_or (read_in ask) o (Some (thing.Report name))) None

    new_there : (s : Report) → Agree (thing.Report name) c d → report_at c name ≡ None → report_at d name ≡ Some s → ⊥
    new_there s agree gone is =
        let apart : None ≡ Some s.names = sym (ap (option_map (λ (r : Report). r.names)) gone) ∙ agree.names ∙ names_there d name s is in
        cc

    gone_there : (r : Report) → report_at c name ≡ Some r → report_at d name ≡ None → ⊥
    gone_there r is gone =
        let apart : None ≡ Some r.names = sym (ap (option_map (λ (r : Report). r.names)) gone) ∙ stays name r.names (names_there c name r is) in
        cc

    by : (may : Bool) (o p : Option Report) → report_at c name ≡ o → report_at d name ≡ p → AgreeOn (reading may o) c d
        → IsAlike c d (answered c may o) (answered d may p) (reading may o) (reading may p)
    by false o p in_c in_d agree = record { reply = refl; kept = λ t agree. agree; read = refl }
    by true None None in_c in_d agree = record { reply = refl; kept = λ t agree. agree; read = refl }
    by true None (Some s) in_c in_d agree = absurd (new_there s agree in_c in_d)
    by true (Some r) None in_c in_d agree = absurd (gone_there r in_c in_d)
    by true (Some r) (Some s) in_c in_d agree = alike_in c d ask r s in_c in_d (names_alike c d name r s stays in_c in_d) agree
