use Rattle.std.proofs.Common.{◌≡◌, ◌∙◌, ap, sym, option_map, unwrap_or, Some, None}
use Rattle.std.specs.Arc.{arc_value}
use Rattle.filing_model.specs.Sessions.Repository.{Repository, with_fact_at}
use Rattle.filing_model.specs.Sessions.Changes.{Change, with_change, laid_over}
use Rattle.filing_version.specs.StampedReports.{repository_in}
use Rattle.filing_session.proofs.PendingChanges.{made_of_both, put_laid, put_both, of_either}
use Rattle.filing_session.proofs.staging.Staging.with_fact.Goals as goal
use Rattle.filing_session.proofs.staging.Staging.with_fact.Goals.{in-None, in-Some+in_ok-share-in-Some+in_ok-with_record-in-Some}

pub returns : goal.returns
returns c =
    let inside = c.self.inside in
    let report = c.args.report.now in
    let put = c.args.put in
    let f : Change → Change = λ (d : Change). with_change d report put.0 put.1 in
    let made : c.match-self.pending ≡ option_map f inside.pending =
    elim c.match-self.branch [
      | in-None w ↦
          let is : inside.pending ≡ None = w.in-None.is in
          w.pending-is ∙ ap (option_map f) (sym is)
      | in-Some+in_ok-share-in-Some+in_ok-with_record-in-Some w ↦
          let is : inside.pending ≡ Some w.in-Some.pending = w.in-Some.is in
          w.pending-is
          ∙ ap Some (w.in_ok-with_record-in-Some.ensures ∙ (λ i. with_change w.in-Some.pending report
          (w.in_ok-share-in-Some.ensures i).0 (w.in_ok-share-in-Some.ensures i).1))
          ∙ ap (option_map f) (sym is)
    ] in
    let pending : unwrap_or c.match-self.pending c.in_ok-change.change ≡ f (unwrap_or inside.pending inside.change) =
    (λ i. unwrap_or (made i) (c.in_ok-change.ensures i)) ∙ made_of_both f inside.pending inside.change in
    let version : arc_value c.in_ok-version.version ≡ arc_value inside.version = c.in_ok-version.ensures in
    (λ i. (laid_over (pending i) (repository_in (version i)), c.in_ok-change.ensures i))
    ∙ (λ i. (put_laid (repository_in (arc_value inside.version)) (unwrap_or inside.pending inside.change) report put.0 put.1 i, f inside.change))
    ∙ ap (λ (s : Repository × Change). (with_fact_at s.0 report put.0 put.1, with_change s.1 report put.0 put.1)) c.self.view_is

pub invariant_of-result : goal.invariant_of-result
invariant_of-result c =
    let inside = c.self.inside in
    let report = c.args.report.now in
    let put = c.args.put in
    let f : Change → Change = λ (d : Change). with_change d report put.0 put.1 in
    let made : c.match-self.pending ≡ option_map f inside.pending =
    elim c.match-self.branch [
      | in-None w ↦
          let is : inside.pending ≡ None = w.in-None.is in
          w.pending-is ∙ ap (option_map f) (sym is)
      | in-Some+in_ok-share-in-Some+in_ok-with_record-in-Some w ↦
          let is : inside.pending ≡ Some w.in-Some.pending = w.in-Some.is in
          w.pending-is
          ∙ ap Some (w.in_ok-with_record-in-Some.ensures ∙ (λ i. with_change w.in-Some.pending report
          (w.in_ok-share-in-Some.ensures i).0 (w.in_ok-share-in-Some.ensures i).1))
          ∙ ap (option_map f) (sym is)
    ] in
    let pending : unwrap_or c.match-self.pending c.in_ok-change.change ≡ f (unwrap_or inside.pending inside.change) =
    (λ i. unwrap_or (made i) (c.in_ok-change.ensures i)) ∙ made_of_both f inside.pending inside.change in
    let version : arc_value c.in_ok-version.version ≡ arc_value inside.version = c.in_ok-version.ensures in
    let base : arc_value (unwrap_or c.in_ok-base.base c.in_ok-version.version) ≡ arc_value (unwrap_or inside.base inside.version) =
    sym (of_either arc_value c.in_ok-base.base c.in_ok-version.version) ∙ (λ i. unwrap_or (c.in_ok-base.ensures i) (version i))
    ∙ of_either arc_value inside.base inside.version in
    (λ i. laid_over (pending i) (repository_in (version i)))
    ∙ put_both (repository_in (arc_value inside.version)) (repository_in (arc_value (unwrap_or inside.base inside.version)))
    (unwrap_or inside.pending inside.change) inside.change c.self.invariant report put.0 put.1
    ∙ (λ i. laid_over (sym c.in_ok-change.ensures i) (repository_in (sym base i)))
