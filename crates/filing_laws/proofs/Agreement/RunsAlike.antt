-- A session's solo run in two repositories that agree on what it reads, what it may have read, and what it leaves.
use Rattle.std.proofs.Common.{◌≡◌, ◌∙◌, ap, sym, refl, Bool, true, false, cond, ◌&&◌, List, [], ◌∷◌, Option, Some, None, is_some, option_map, true≢false}
use Rattle.std.specs.List.{cons_option}
use Rattle.std.specs.Option.{option_map_or, option_or}
use Rattle.filing_model.specs.Common.Text.{Text, text_eq}
use Rattle.filing_model.specs.Oim.Facts.{Fact}
use Rattle.filing_model.specs.Oim.Reports.{Report}
use Rattle.filing_model.specs.Sessions.Repository.{Repository, report_at, fact_at, with_fact_at, declaring_at}
use Rattle.filing_model.specs.Sessions.Changes.{declaring_if}
use Rattle.filing_model.specs.Sessions.Calls as call
use Rattle.filing_model.specs.Sessions.Calls.{Call, report_of_call}
use Rattle.filing_model.specs.Sessions.Replies as reply
use Rattle.filing_model.specs.Sessions.Replies.{Reply}
use Rattle.filing_model.specs.Sessions.Things as thing
use Rattle.filing_model.specs.Sessions.Things.{Thing, report_of}
use Rattle.filing_model.specs.Sessions.Sessions.{Answer, may_make, answer_in, answer, solo_replies, solo_copy}
use Rattle.filing_model.specs.Histories.Touches.{read_in, read_by, reads, if_staged, place_of_call, value_of_call, staged_places, staged_values}
use Rattle.filing_model.specs.declared.duplicates.Allowed.{Allowed}
use Rattle.filing_model.specs.declared.kind.Kind.{Kind}
use Rattle.filing_laws.proofs.Lists.EachElement.{Each, OnEach, each_mapped, each_parts, each_joined, IsNever, never_parts}
use Rattle.filing_laws.proofs.Lists.WithOneFact.{names_at, fact_at-with_fact_at}
use Rattle.filing_laws.proofs.Lists.WithOneValue.{bare_at, names_of_bare, value_for, last_value, or_none, names-declaring_if}
use Rattle.filing_laws.proofs.Lists.WithOneValue.{declaring_twice, nothing_declared, bare_at-with_fact_at}
use Rattle.filing_laws.proofs.Lists.WithOneValue.{bare_at-declaring_at, fact_at-declaring_at}
use Rattle.filing_laws.proofs.Agreement.AgreeOnThings.{Agree}
use Rattle.filing_laws.proofs.Agreement.AnsweredAlike.{Stays, call_alike, there}
use Rattle.filing_laws.proofs.Agreement.AnswerCases.{finds_none, stages, each_answer}

-- ---- what a call leaves

abbrev pub is_place : Text → Text → Text × Text → Bool
is_place m q p = text_eq m p.0 && text_eq q p.1

-- each fact at a place that is not staged, and all else of each report but the value that is declared for it
pub record Leaves (c : Repository) (place : Option (Text × Text)) (value : Option (Text × Allowed)) (d : Repository) : Type 0 where
  pub facts : (m q : Text) → option_map_or (is_place m q) place false ≡ false → fact_at d m q ≡ fact_at c m q
  pub heads : (m : Text) → bare_at d m ≡ option_map (declaring_if (value_for m value)) (bare_at c m)

leaves_all : (c : Repository) (place : Option (Text × Text)) → Leaves c place None c
leaves_all c place = record { facts = λ m q out. refl; heads = λ m. sym (nothing_declared (bare_at c m)) }

leaves_facts : (c : Repository) (name id : Text) (fact : Option Fact) → is_some (report_at c name) ≡ true
    → Leaves c (Some (name, id)) None (with_fact_at c name id fact)
leaves_facts c name id fact is = record {
  facts = λ m q out. fact_at-with_fact_at c name id fact m q is ∙ ap (λ b. cond b fact (fact_at c m q)) out;
  heads = λ m. bare_at-with_fact_at c name id fact m ∙ sym (nothing_declared (bare_at c m));
}

leaves_value : (c : Repository) (name : Text) (value : Allowed) → is_some (report_at c name) ≡ true
    → Leaves c None (Some (name, value)) (declaring_at c name value)
leaves_value c name value is = record {
  facts = λ m q out. fact_at-declaring_at c name value m q;
  heads = λ m. bare_at-declaring_at c name value m is;
}

-- by what it answers and what it is
abbrev pub LeavesBy : Repository → Call → Answer → Type 0
LeavesBy c ask a = Leaves c (if_staged a.0 (place_of_call ask)) (if_staged a.0 (value_of_call ask)) a.1

pub call_leaves : (kind : Kind) (ask : Call) (c : Repository) → LeavesBy c ask (answer kind ask c)
call_leaves kind ask c = each_answer (LeavesBy c) kind ask c (record {
  told = told;
  found = λ name id r fact is some. leaves_all c None;
  put = λ name id raw r fact is fits. leaves_facts c name id (Some fact) (there c name r is);
  removed = λ name id r is. leaves_facts c name id None (there c name r is);
  declared = λ name value r is. leaves_value c name value (there c name r is);
})
  where
    told : (ask : Call) (r : Reply) → stages r ≡ false → finds_none r ≡ true → LeavesBy c ask (r, c)
    told ask reply.Staged kept none = absurd (true≢false kept)
    told ask r kept none = leaves_all c None

names_declared : (value : Option Allowed) (o : Option Report)
    → option_map (λ (r : Report). r.names) (option_map (declaring_if value) o) ≡ option_map (λ (r : Report). r.names) o
names_declared value None = refl
names_declared value (Some r) = ap Some (names-declaring_if value r)

pub call_leaves_names : (kind : Kind) (ask : Call) (c : Repository) (m : Text) → names_at (answer kind ask c).1 m ≡ names_at c m
call_leaves_names kind ask c m =
    let leaves = call_leaves kind ask c in
    names_of_bare (answer kind ask c).1 m
    ∙ ap (option_map (λ (r : Report). r.names)) (leaves.heads m)
    ∙ names_declared (value_for m (if_staged (answer kind ask c).0 (value_of_call ask))) (bare_at c m)
    ∙ sym (names_of_bare c m)

-- ---- what a run leaves

pub run_leaves_names : (kind : Kind) (calls : List Call) (c : Repository) (m : Text) → names_at (solo_copy kind c calls) m ≡ names_at c m
run_leaves_names kind [] c m = refl
run_leaves_names kind (ask ∷ calls) c m = run_leaves_names kind calls (answer kind ask c).1 m ∙ call_leaves_names kind ask c m

apart_parts : (m q : Text) (o : Option (Text × Text)) (ps : List (Text × Text)) → IsNever (is_place m q) (cons_option o ps)
    → (option_map_or (is_place m q) o false ≡ false) × IsNever (is_place m q) ps
apart_parts m q None ps h = (refl, h)
apart_parts m q (Some p) ps h = never_parts (is_place m q) p ps h

pub run_leaves_facts : (kind : Kind) (calls : List Call) (c : Repository) (m q : Text)
    → IsNever (is_place m q) (staged_places calls (solo_replies kind c calls)) → fact_at (solo_copy kind c calls) m q ≡ fact_at c m q
run_leaves_facts kind [] c m q out = refl
run_leaves_facts kind (ask ∷ calls) c m q out =
    let after = answer kind ask c in
    let parts = apart_parts m q (if_staged after.0 (place_of_call ask)) (staged_places calls (solo_replies kind after.1 calls)) out in
    run_leaves_facts kind calls after.1 m q parts.1 ∙ (call_leaves kind ask c).facts m q parts.0

last_of_more : (m : Text) (o : Option (Text × Allowed)) (vs : List (Text × Allowed))
    → option_or (last_value m vs) (value_for m o) ≡ last_value m (cons_option o vs)
last_of_more m None vs = or_none (last_value m vs)
last_of_more m (Some v) vs = refl

declared_in_turn : (first last : Option Allowed) (o : Option Report)
    → option_map (declaring_if last) (option_map (declaring_if first) o) ≡ option_map (declaring_if (option_or last first)) o
declared_in_turn first last None = refl
declared_in_turn first last (Some r) = ap Some (declaring_twice first last r)

-- all of each report but its facts, and but the last value that was declared for it
pub run_leaves_heads : (kind : Kind) (calls : List Call) (c : Repository) (m : Text)
    → bare_at (solo_copy kind c calls) m ≡ option_map (declaring_if (last_value m (staged_values calls (solo_replies kind c calls)))) (bare_at c m)
run_leaves_heads kind [] c m = sym (nothing_declared (bare_at c m))
run_leaves_heads kind (ask ∷ calls) c m =
    let after = answer kind ask c in
    let value = if_staged after.0 (value_of_call ask) in
    let values = staged_values calls (solo_replies kind after.1 calls) in
    run_leaves_heads kind calls after.1 m
    ∙ ap (option_map (declaring_if (last_value m values))) ((call_leaves kind ask c).heads m)
    ∙ declared_in_turn (value_for m value) (last_value m values) (bare_at c m)
    ∙ ap (λ v. option_map (declaring_if v) (bare_at c m)) (last_of_more m value values)

-- ---- two runs

pub record IsAlikeRun (kind : Kind) (calls : List Call) (c d : Repository) : Type 0 where
  pub replies : solo_replies kind c calls ≡ solo_replies kind d calls
  pub kept : (t : Thing) → Agree t c d → Agree t (solo_copy kind c calls) (solo_copy kind d calls)
  pub reads : reads kind c calls ≡ reads kind d calls

pub run_alike : (kind : Kind) (calls : List Call) (c d : Repository) → Stays c d → Each (λ t. Agree t c d) (reads kind c calls) → IsAlikeRun kind calls c d
run_alike kind [] c d stays agree = record { replies = refl; kept = λ t a. a; reads = refl }
run_alike kind (ask ∷ calls) c d stays agree =
    let after_c = answer kind ask c in
    let after_d = answer kind ask d in
    let rest = reads kind after_c.1 calls in
    let parts = each_parts (λ t. Agree t c d) (read_by kind ask c) rest agree in
    let one = call_alike kind ask c d stays parts.0 in
    let still : Stays after_c.1 after_d.1 = λ m names is. call_leaves_names kind ask d m ∙ stays m names (sym (call_leaves_names kind ask c m) ∙ is) in
    let more = run_alike kind calls after_c.1 after_d.1 still (each_mapped (λ t. Agree t c d) (λ t. Agree t after_c.1 after_d.1) one.kept rest parts.1) in
    record {
      replies = λ i. one.reply i ∷ more.replies i;
      kept = λ t a. more.kept t (one.kept t a);
      reads = λ i. cons_option (one.read i) (more.reads i);
    }

-- ---- what may have been read

-- a report is read where it is not there, and all else where it is
abbrev pub is_in_report : Thing → Bool
is_in_report (thing.Report name) = false
is_in_report _ = true

abbrev pub IsValid : Thing → Repository → Type 0
IsValid t c = is_some (names_at c (report_of t)) ≡ is_in_report t

valid_in : (c : Repository) (ask : Call) (r : Report) → is_some (names_at c (report_of_call ask)) ≡ true → OnEach (λ t. IsValid t c) (read_in ask r)
valid_in c (call.Declare name value) r is = tt
valid_in c ask r is = is

reading_valid : (kind : Kind) (ask : Call) (c : Repository) → OnEach (λ t. IsValid t c) (read_by kind ask c)
reading_valid kind ask c = by (may_make kind ask) (report_at c name) refl
  where
    name : Text
    name = report_of_call ask

    named : (o : Option Report) → report_at c name ≡ o → is_some (names_at c name) ≡ is_some o
    named None is = ap (λ o. is_some (option_map (λ (r : Report). r.names) o)) is
    named (Some r) is = ap (λ o. is_some (option_map (λ (r : Report). r.names) o)) is

    by : (may : Bool) (o : Option Report) → report_at c name ≡ o
        → OnEach (λ t. IsValid t c) (cond may (option_map_or (read_in ask) o (Some (thing.Report name))) None)
    by false o is = tt
    by true None is = named None is
    by true (Some r) is = valid_in c ask r (named (Some r) is)

-- what a run read is valid where it began
pub readings_valid : (kind : Kind) (calls : List Call) (c : Repository) → Each (λ t. IsValid t c) (reads kind c calls)
readings_valid kind [] c = tt
readings_valid kind (ask ∷ calls) c =
    let after = answer kind ask c in
    each_joined (λ t. IsValid t c) (read_by kind ask c) (reads kind after.1 calls) (reading_valid kind ask c)
    (each_mapped (λ t. IsValid t after.1) (λ t. IsValid t c)
    (λ t valid. sym (ap is_some (call_leaves_names kind ask c (report_of t)))
    ∙ valid) (reads kind after.1 calls) (readings_valid kind calls after.1))

-- ---- a place that was staged was read

staged_reading : (P : Thing → Type 0) (c : Repository) (ask : Call) (r : Report) → OnEach P (read_in ask r)
    → OnEach (λ (p : Text × Text). P (thing.Id p.0 p.1)) (place_of_call ask)
staged_reading P c (call.Add name id raw) r h = h
staged_reading P c (call.Remove name id) r h = h
staged_reading P c ask r h = tt

only_staged : {A : Type 0} (Q : A → Type 0) (r : Reply) (o : Option A) → OnEach Q o → OnEach Q (if_staged r o)
only_staged Q reply.Staged o h = h
only_staged Q r o h = tt

call_read : (P : Thing → Type 0) (kind : Kind) (ask : Call) (c : Repository) → OnEach P (read_by kind ask c)
    → OnEach (λ (p : Text × Text). P (thing.Id p.0 p.1)) (if_staged (answer kind ask c).0 (place_of_call ask))
call_read P kind ask c = by (may_make kind ask) (report_at c (report_of_call ask))
  where
    by : (may : Bool) (o : Option Report) → OnEach P (cond may (option_map_or (read_in ask) o (Some (thing.Report (report_of_call ask)))) None)
        → OnEach (λ (p : Text × Text). P (thing.Id p.0 p.1)) (if_staged
        (cond may (option_map_or (answer_in c ask) o (reply.NoReport, c)) (reply.ReadOnly, c)).0 (place_of_call ask))
    by false o h = tt
    by true None h = tt
    by true (Some r) h = only_staged (λ (p : Text × Text). P (thing.Id p.0 p.1)) (answer_in c ask r).0 (place_of_call ask) (staged_reading P c ask r h)

pub staged_were_read : (P : Thing → Type 0) (kind : Kind) (calls : List Call) (c : Repository) → Each P (reads kind c calls)
    → Each (λ (p : Text × Text). P (thing.Id p.0 p.1)) (staged_places calls (solo_replies kind c calls))
staged_were_read P kind [] c h = tt
staged_were_read P kind (ask ∷ calls) c h =
    let after = answer kind ask c in
    let parts = each_parts P (read_by kind ask c) (reads kind after.1 calls) h in
    each_joined (λ (p : Text × Text). P (thing.Id p.0 p.1)) (if_staged after.0 (place_of_call ask)) (staged_places calls (solo_replies kind after.1 calls))
    (call_read P kind ask c parts.0) (staged_were_read P kind calls after.1 parts.1)
