use Rattle.std.proofs.Common.{◌≡◌, ◌∙◌, ap, sym, [], ◌∷◌, List, Some, None, option_map, option_and_then}
use Rattle.filing_model.specs.Common.Text.{Text}
use Rattle.filing_model.specs.Common.TextMap.{get}
use Rattle.filing_model.specs.Sessions.Repository.{report_at}
use Rattle.filing_model.specs.Sessions.Changes.{ReportChange, find_map, first_disallowed, least_changed}
use Rattle.filing_laws.specs.Updating.NetChange.{refusal_at}
use Rattle.filing_version.specs.StampedReports.{StampedReportValue, repository_in}
use Rattle.filing_version.proofs.StampedReports.{reported, disallowed_at, found_first, found_later, decides}
use Rattle.filing_version.proofs.version.RepoVersion.first_disallowed.Goals as goal

pub returns-in-Some-least_changed-clause-first : goal.returns-in-Some-least_changed-clause-first
returns-in-Some-least_changed-clause-first c =
    let version = c.args.self.now in
    let repository = repository_in version in
    let part = c.in-Some.part.now in
    let rest : List (Text × ReportChange) = c.next.new.self in
    let dims = c.in-Some-least_changed.dims.now in
    let steps : c.loop-part.part-iterator ≡ part ∷ rest = c.in-Some.ensures.steps in
    let held : get version.reports part.0 ≡ Some c.in-Some-get.stamped.now =
    (λ i. get (sym c.self.view_is i).reports (sym c.name.ensures i)) ∙ sym c.in-Some-get.ensures in
    let there : report_at repository part.0 ≡ Some c.in-Some-get.stamped.now.report =
    reported version part.0 ∙ ap (option_map (λ (r : StampedReportValue). r.report)) held in
    let found : option_and_then (least_changed part.1) (report_at repository part.0) ≡ Some dims =
    ap (option_and_then (least_changed part.1)) there
    ∙ sym (c.in-Some-least_changed.ensures ∙ ap (λ change. least_changed change c.in-Some-get.stamped.now.report) c.value.ensures) in
    ap (λ name. Some (name, dims)) c.name-in-Some-least_changed.ensures
    ∙ found_first repository part rest dims found
    ∙ sym (ap (find_map (disallowed_at repository)) steps)
    ∙ c.loop-part.invariant

pub returns-in-Some-least_changed-clause-decides : goal.returns-in-Some-least_changed-clause-decides
returns-in-Some-least_changed-clause-decides c = λ base obeys is.
    let repository = repository_in c.args.self.now in
    decides repository base c.args.change.now obeys is
    ∙ sym (ap (option_map (refusal_at repository)) (returns-in-Some-least_changed-clause-first c))

pub loop-part-preserved-in_default-least_changed : goal.loop-part-preserved-in_default-least_changed
loop-part-preserved-in_default-least_changed c =
    let version = c.args.self.now in
    let repository = repository_in version in
    let part = c.in-Some.part.now in
    let rest : List (Text × ReportChange) = c.next.new.self in
    let steps : c.loop-part.part-iterator ≡ part ∷ rest = c.in-Some.ensures.steps in
    let held : get version.reports part.0 ≡ Some c.in-Some-get.stamped.now =
    (λ i. get (sym c.self.view_is i).reports (sym c.name.ensures i)) ∙ sym c.in-Some-get.ensures in
    let there : report_at repository part.0 ≡ Some c.in-Some-get.stamped.now.report =
    reported version part.0 ∙ ap (option_map (λ (r : StampedReportValue). r.report)) held in
    let none : option_and_then (least_changed part.1) (report_at repository part.0) ≡ None =
    ap (option_and_then (least_changed part.1)) there
    ∙ sym (c.in_default-least_changed.ensures ∙ ap (λ change. least_changed change c.in-Some-get.stamped.now.report) c.value.ensures) in
    found_later repository part rest none
    ∙ sym (ap (find_map (disallowed_at repository)) steps)
    ∙ c.loop-part.invariant

pub loop-part-preserved : goal.loop-part-preserved
loop-part-preserved c =
    let version = c.args.self.now in
    let repository = repository_in version in
    let part = c.in-Some.part.now in
    let rest : List (Text × ReportChange) = c.next.new.self in
    let steps : c.loop-part.part-iterator ≡ part ∷ rest = c.in-Some.ensures.steps in
    let absent : get version.reports part.0 ≡ None =
    (λ i. get (sym c.self.view_is i).reports (sym c.name.ensures i)) ∙ sym c.in_default.ensures in
    let none : option_and_then (least_changed part.1) (report_at repository part.0) ≡ None =
    ap (option_and_then (least_changed part.1)) (reported version part.0 ∙ ap (option_map (λ (r : StampedReportValue). r.report)) absent) in
    found_later repository part rest none
    ∙ sym (ap (find_map (disallowed_at repository)) steps)
    ∙ c.loop-part.invariant

pub returns-clause-decides : goal.returns-clause-decides
returns-clause-decides c = λ base obeys is.
    let repository = repository_in c.args.self.now in
    let steps : c.loop-part.part-iterator ≡ [] = c.in-None.ensures.steps.0 in
    let none : None ≡ first_disallowed repository c.args.change.now =
    ap (find_map (disallowed_at repository)) (sym steps) ∙ c.loop-part.invariant in
    decides repository base c.args.change.now obeys is ∙ sym (ap (option_map (refusal_at repository)) none)
