-- When two repositories agree on a thing: what a session that reads it is shown is the same in both.
use Rattle.std.proofs.Common.{◌≡◌, ◌∙◌, ap, sym, refl, Bool, true, false, cond, ◌&&◌, Option, Some, None, is_some}
use Rattle.filing_model.specs.Common.Text.{Text, text_eq}
use Rattle.filing_model.specs.Oim.Facts.{Fact}
use Rattle.filing_model.specs.Oim.Duplicates.{has_dims}
use Rattle.filing_model.specs.Sessions.Queries.{answers_query}
use Rattle.filing_model.specs.Sessions.Repository.{Repository, report_at, fact_at, with_fact_at, declaring_at}
use Rattle.filing_model.specs.Sessions.Things.{Thing, Report, Id, Cell, Range, Policy, report_of}
use Rattle.filing_model.specs.Histories.Touches.{is_within}
use Rattle.filing_model.specs.declared.duplicates.Allowed.{Allowed}
use Rattle.filing_model.proofs.Common.Texts.{text_eq-refl}
use Rattle.filing_laws.proofs.Lists.WithOneFact.{names_at, names_at-with_fact_at, fact_at-with_fact_at}
use Rattle.filing_laws.proofs.Lists.WithOneValue.{value_at, value_at-with_fact_at, value_at-declaring_at, names_at-declaring_at, fact_at-declaring_at}
use Rattle.filing_model.proofs.Common.FilteredEntries.{only}

-- whether a thing shows a fact under an identifier of its report
abbrev pub sees : Thing → Text → Fact → Bool
sees (Report name) id fact = false
sees (Id name i) id fact = text_eq i id
sees (Cell name dims) id fact = has_dims dims fact
sees (Range name query upto) id fact = is_within query.after upto id && answers_query query.concept query.period fact
sees (Policy name) id fact = false

abbrev pub shown : Thing → Text → Option Fact → Option Fact
shown t id fact = only (sees t id) fact

-- what a thing shows of the declared value
abbrev pub shown_value : Thing → Option Allowed → Option Allowed
shown_value (Policy name) value = value
shown_value _ value = None

pub record Agree (t : Thing) (c d : Repository) : Type 0 where
  pub names : names_at c (report_of t) ≡ names_at d (report_of t)
  pub facts : (id : Text) → shown t id (fact_at c (report_of t) id) ≡ shown t id (fact_at d (report_of t) id)
  pub value : shown_value t (value_at c (report_of t)) ≡ shown_value t (value_at d (report_of t))

pub agree_itself : (t : Thing) (c : Repository) → Agree t c c
agree_itself t c = record { names = refl; facts = λ id. refl; value = refl }

pub agree_then : (t : Thing) (c d e : Repository) → Agree t c d → Agree t d e → Agree t c e
agree_then t c d e a b = record {
  names = a.names ∙ b.names;
  facts = λ id. a.facts id ∙ b.facts id;
  value = a.value ∙ b.value;
}

-- a test that passes shows the fact
pub all_shown : (test : Fact → Bool) (o : Option Fact) → ((fact : Fact) → test fact ≡ true) → only test o ≡ o
all_shown test None passes = refl
all_shown test (Some fact) passes = ap (λ b. cond b (Some fact) None) (passes fact)

-- of an identifier they show the fact
pub agree_fact : (name id : Text) (c d : Repository) → Agree (Id name id) c d → fact_at c name id ≡ fact_at d name id
agree_fact name id c d a =
    sym (all_shown (λ fact. text_eq id id) (fact_at c name id) (λ fact. text_eq-refl id))
    ∙ a.facts id
    ∙ all_shown (λ fact. text_eq id id) (fact_at d name id) (λ fact. text_eq-refl id)

-- ---- what one change in both keeps

shown_either : (t : Thing) (q : Text) (b : Bool) (fact x y : Option Fact) → shown t q x ≡ shown t q y → shown t q (cond b fact x) ≡ shown t q (cond b fact y)
shown_either t q true fact x y same = refl
shown_either t q false fact x y same = same

-- one fact put or removed in both keeps what they agree on
pub agree_kept : (t : Thing) (c d : Repository) (name id : Text) (fact : Option Fact) → is_some (report_at c name) ≡ true → is_some (report_at d name) ≡ true
    → Agree t c d → Agree t (with_fact_at c name id fact) (with_fact_at d name id fact)
agree_kept t c d name id fact in_c in_d a = record {
  names = names_at-with_fact_at c name id fact (report_of t) ∙ a.names ∙ sym (names_at-with_fact_at d name id fact (report_of t));
  facts = λ q. ap (shown t q) (fact_at-with_fact_at c name id fact (report_of t) q in_c)
      ∙ shown_either t q (text_eq (report_of t) name && text_eq q id) fact (fact_at c (report_of t) q) (fact_at d (report_of t) q) (a.facts q)
      ∙ sym (ap (shown t q) (fact_at-with_fact_at d name id fact (report_of t) q in_d));
  value = ap (shown_value t) (value_at-with_fact_at c name id fact (report_of t))
      ∙ a.value
      ∙ sym (ap (shown_value t) (value_at-with_fact_at d name id fact (report_of t)));
}

value_either : (t : Thing) (b : Bool) (value x y : Option Allowed) → shown_value t x ≡ shown_value t y → shown_value t (cond b value x) ≡ shown_value t (cond b value y)
value_either t true value x y same = refl
value_either t false value x y same = same

-- so does a value declared in both
pub agree_declared : (t : Thing) (c d : Repository) (name : Text) (value : Allowed) → is_some (report_at c name) ≡ true → is_some (report_at d name) ≡ true
    → Agree t c d → Agree t (declaring_at c name value) (declaring_at d name value)
agree_declared t c d name value in_c in_d a = record {
  names = names_at-declaring_at c name value (report_of t) in_c ∙ a.names ∙ sym (names_at-declaring_at d name value (report_of t) in_d);
  facts = λ q. ap (shown t q) (fact_at-declaring_at c name value (report_of t) q)
      ∙ a.facts q
      ∙ sym (ap (shown t q) (fact_at-declaring_at d name value (report_of t) q));
  value = ap (shown_value t) (value_at-declaring_at c name value (report_of t) in_c)
      ∙ value_either t (text_eq (report_of t) name) (Some value) (value_at c (report_of t)) (value_at d (report_of t)) a.value
      ∙ sym (ap (shown_value t) (value_at-declaring_at d name value (report_of t) in_d));
}
