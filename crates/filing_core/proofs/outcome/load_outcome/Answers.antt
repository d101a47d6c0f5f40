use Rattle.std.proofs.Common.{◌≡◌, ◌∙◌, ap, sym, Some, None, cond, option_map, option_and_then}
use Rattle.filing_model.specs.Oim.Reports.{Report}
use Rattle.filing_model.specs.Sessions.Repository.{report_at}
use Rattle.filing_model.specs.Sessions.Replies.{Loaded}
use Rattle.filing_model.specs.Histories.Lawful.{load_reply}
use Rattle.filing_model.specs.Histories.Stamps.{Version, version_with}
use Rattle.filing_model.specs.Histories.Versions.{counts}
use Rattle.filing_model.specs.Oim.Duplicates.{least_disallowed}
use Rattle.filing_version.specs.StampedReports.{repository_in, version_in}
use Rattle.filing_core.specs.Outcomes.{Outcome, Makes}
use Rattle.filing_core.proofs.Preparing.{of_outcome}
use Rattle.filing_core.proofs.RefusedReports.{absent, loaded_there, accepted, refused, refusal_at_is_quiet}
use Rattle.filing_core.proofs.outcome.load_outcome.Goals as goal

pub returns-in-None : goal.returns-in-None
returns-in-None c =
    let v = version_in c.args.current.now in
    let before = repository_in c.args.current.now in
    let name = c.args.name.now in
    let report = c.args.report in
    let made : version_in c.in_ok-next.next ≡ version_with name report v =
    c.in_ok-next.ensures ∙ (λ i. version_with (c.in_ok-from_str.ensures.ok i) report v) in
    let none : report_at before name ≡ None = absent (report_at before name) (sym c.has.ensures ∙ c.if-has.false) in
    let there : report_at (repository_in c.in_ok-next.next) name ≡ Some report =
    ap (λ (w : Version). report_at w.repository name) made ∙ loaded_there before name report in
    let least = sym (c.in-None.ensures ∙ ap (option_and_then (λ (r : Report). least_disallowed r.allowed r.facts.entries)) there) in
    let told = accepted before name report none least in
    of_outcome (λ (o : Outcome). o ≡ record { reply = Loaded c.number.result; next = Some c.in_ok-next.next })
    (λ o. Makes o (load_reply before name report) (version_with name report v)) c.reply_with.result
    (λ o is. record {
      told_so = ap (λ (o : Outcome). o.reply) is ∙ ap Loaded (c.number.ensures ∙ ap (λ (w : Version). w.repository.count) made) ∙ sym told;
      next_so = ap (λ (o : Outcome). option_map version_in o.next) is
          ∙ ap Some made
          ∙ ap (λ r. cond (counts r) (Some (version_with name report v)) None) (sym told);
    })
    c.reply_with.ensures

pub returns-in_ok-reply-in-Some : goal.returns-in_ok-reply-in-Some
returns-in_ok-reply-in-Some c =
    let v = version_in c.args.current.now in
    let before = repository_in c.args.current.now in
    let name = c.args.name.now in
    let report = c.args.report in
    let dims = c.in-Some.dims.now in
    let next = repository_in c.in_ok-next.next in
    let made : version_in c.in_ok-next.next ≡ version_with name report v =
    c.in_ok-next.ensures ∙ (λ i. version_with (c.in_ok-from_str.ensures.ok i) report v) in
    let none : report_at before name ≡ None = absent (report_at before name) (sym c.has.ensures ∙ c.if-has.false) in
    let there : report_at next name ≡ Some report = ap (λ (w : Version). report_at w.repository name) made ∙ loaded_there before name report in
    let least = sym (c.in-Some.ensures ∙ ap (option_and_then (λ (r : Report). least_disallowed r.allowed r.facts.entries)) there) in
    let told = refused before next name report dims none there least in
    record {
      told_so = ap (λ o. o.reply) c.reply_alone-in-Some.ensures ∙ c.in_ok-reply-in-Some.ensures ∙ sym told;
      next_so = ap (λ o. option_map version_in o.next) c.reply_alone-in-Some.ensures
          ∙ ap (λ b. cond b (Some (version_with name report v)) None) (sym (refusal_at_is_quiet next (name, dims))
          ∙ ap counts (sym told));
    }
