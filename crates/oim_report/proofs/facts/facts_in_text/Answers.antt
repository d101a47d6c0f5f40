use Rattle.std.proofs.Common.{◌∙◌, ap, sym, subst, codes, option_and_then, Ok}
use Rattle.json.specs.Value.{value_view}
use Rattle.serde_json.specs.Read.{of_json}
use Rattle.filing_model.specs.Reading.ReadReport.{facts_of}
use Rattle.filing_model.specs.Common.TextMap.{from_entries}
use Rattle.filing_model.specs.Common.Try.{Gives}
use Rattle.oim_report.specs.Borrowed.{data_of}
use Rattle.oim_report.specs.Faults.{report_fault}
use Rattle.oim_report.specs.Parts.{facts_view}
use Rattle.oim_report.proofs.FactsInText.{facts_of_object, members_are_in, wrong_shape}
use Rattle.oim_report.proofs.InRange.{get_of, part_in, the_value}
use Rattle.oim_report.proofs.facts.facts_in_text.Goals as goal

pub facts_in_order-requires : goal.facts_in_order-requires
facts_in_order-requires c =
    let inside = part_in (codes "facts") (value_view c.args.value) (value_view c.in-Some.member) c.requires (sym c.in-Some.ensures) in
    members_are_in (value_view c.in-Some.member) _ c.in-Some-read_members_of.ensures inside

pub returns-in_default-clause-facts : goal.returns-in_default-clause-facts
returns-in_default-clause-facts c =
    let j = value_view c.args.value in
    let got = get_of (codes "facts") j (data_of c.args.value) (the_value (of_json j) c.requires) in
    ap (facts_of c.args.names.now) (got ∙ ap (option_and_then of_json) (sym c.in_default.ensures))
    ∙ ap (λ es. Ok (from_entries (facts_view es))) (sym c.new.ensures.items)

pub returns-in-Some-read_members_of-clause-facts : goal.returns-in-Some-read_members_of-clause-facts
returns-in-Some-read_members_of-clause-facts c =
    let j = value_view c.args.value in
    let m = value_view c.in-Some.member in
    let inside = part_in (codes "facts") j m c.requires (sym c.in-Some.ensures) in
    let got = get_of (codes "facts") j (data_of c.args.value) (the_value (of_json j) c.requires)
    ∙ ap (option_and_then of_json) (sym c.in-Some.ensures) ∙ the_value (of_json m) inside in
    subst (λ o. Gives report_fault (λ v. from_entries (facts_view v.items)) c.facts_in_order.result (facts_of c.args.names.now o))
    (sym (got ∙ sym (the_value (of_json m) inside)))
    (facts_of_object c.args.names.now report_fault (λ v. facts_view v.items) c.facts_in_order.result m _ (sym c.in-Some-read_members_of.ensures)
    (members_are_in m _ c.in-Some-read_members_of.ensures inside) c.facts_in_order.ensures.facts)

pub returns-in-None-clause-facts : goal.returns-in-None-clause-facts
returns-in-None-clause-facts c =
    let j = value_view c.args.value in
    let m = value_view c.in-Some.member in
    let inside = part_in (codes "facts") j m c.requires (sym c.in-Some.ensures) in
    let got = get_of (codes "facts") j (data_of c.args.value) (the_value (of_json j) c.requires) in
    ap (facts_of c.args.names.now) (got ∙ ap (option_and_then of_json) (sym c.in-Some.ensures))
    ∙ wrong_shape c.args.names.now m c.in-None.ensures inside
