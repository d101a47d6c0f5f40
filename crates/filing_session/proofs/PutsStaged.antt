-- What additions and removals stage, by what was found.
use Rattle.std.proofs.Common.{◌≡◌, ◌∙◌, ap, sym, refl, Bool, true, false, cond, ◌&&◌, Option, Some, None, is_some, option_map, Result, Ok}
use Rattle.std.proofs.lemmas.Option.{same_Some}
use Rattle.filing_model.specs.Common.Text.{Text}
use Rattle.filing_model.specs.Oim.Facts.{Fact, RawFact, Names, fit_of}
use Rattle.filing_model.specs.Oim.Reports.{Report}
use Rattle.filing_model.specs.Sessions.Repository.{Repository, report_at, fact_in, fact_at, with_fact_at}
use Rattle.filing_model.specs.Sessions.Changes.{Change, with_change}
use Rattle.filing_model.specs.Sessions.Calls as call
use Rattle.filing_model.specs.Sessions.Replies as reply
use Rattle.filing_model.specs.Sessions.Things as thing
use Rattle.filing_model.specs.Sessions.Sessions.{Answer, fitted}
use Rattle.filing_model.specs.declared.faults.FactFault.{FactFault}
use Rattle.filing_model.proofs.Common.Texts.{text_eq-refl}
use Rattle.filing_laws.proofs.Lists.WithOneFact.{fact_at-with_fact_at}
use Rattle.filing_session.specs.Effects.{Effect, staged_by, effect_in, put_effect}

module _ (c : Repository) (change : Change) (name id : Text) where
  abbrev staged_there : Option Fact → Option Fact → Effect
  staged_there fact seen = record { reply = reply.Staged; thing = Some (thing.Id name id); staged = Some (with_fact_at c name id fact, with_change change name id seen) }

  -- the change has what the copy then has
  put_is : (fact : Option Fact) → is_some (report_at c name) ≡ true → put_effect name id fact c change ≡ staged_there fact (fact_at (with_fact_at c name id fact) name id)
  put_is fact there = ap (staged_there fact) (sym
      (fact_at-with_fact_at c name id fact name id there
      ∙ (λ i. cond (text_eq-refl name i && text_eq-refl id i) fact (fact_at c name id))))

  abbrev added_by : RawFact → Bool → Result Fact FactFault → Effect
  added_by raw taken fit = record {
    reply = (cond {A = Answer} taken (reply.Taken, c) (fitted c name id fit)).0;
    thing = Some (thing.Id name id);
    staged = staged_by (call.Add name id raw) (cond taken (reply.Taken, c) (fitted c name id fit)) change;
  }

  pub added_is : (raw : RawFact) (names : Names) (fact : Fact) → Some names ≡ option_map (λ r. r.names) (report_at c name)
      → Some None ≡ option_map (λ r. fact_in r id) (report_at c name) → Ok fact ≡ fit_of names raw
      → put_effect name id (Some fact) c change ≡ effect_in (call.Add name id raw) c change (report_at c name)
  added_is raw names fact named absent fits = by (report_at c name) refl named absent
    where
      by : (o : Option Report) → report_at c name ≡ o → Some names ≡ option_map (λ r. r.names) o → Some None ≡ option_map (λ r. fact_in r id) o
          → put_effect name id (Some fact) c change ≡ effect_in (call.Add name id raw) c change o
      by None is named absent = let apart : Some names ≡ None = named in cc
      by (Some r) is named absent =
          let free : false ≡ is_some (fact_in r id) = ap is_some (same_Some None (fact_in r id) absent) in
          let fitting : Ok fact ≡ fit_of r.names raw = fits ∙ ap (λ n. fit_of n raw) (same_Some names r.names named) in
          put_is (Some fact) (ap is_some is) ∙ (λ i. added_by raw (free i) (fitting i))

  abbrev removed_by : Bool → Effect
  removed_by found = record {
    reply = (cond {A = Answer} found (reply.Staged, with_fact_at c name id None) (reply.Absent, c)).0;
    thing = Some (thing.Id name id);
    staged = staged_by (call.Remove name id) (cond found (reply.Staged, with_fact_at c name id None) (reply.Absent, c)) change;
  }

  pub removed_is : (fact : Fact) → Some (Some fact) ≡ option_map (λ r. fact_in r id) (report_at c name)
      → put_effect name id None c change ≡ effect_in (call.Remove name id) c change (report_at c name)
  removed_is fact found = by (report_at c name) refl found
    where
      by : (o : Option Report) → report_at c name ≡ o → Some (Some fact) ≡ option_map (λ r. fact_in r id) o
          → put_effect name id None c change ≡ effect_in (call.Remove name id) c change o
      by None is found = let apart : Some (Some fact) ≡ None = found in cc
      by (Some r) is found =
          let there : true ≡ is_some (fact_in r id) = ap is_some (same_Some (Some fact) (fact_in r id) found) in
          put_is None (ap is_some is) ∙ (λ i. removed_by (there i))
