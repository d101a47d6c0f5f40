-- Each turn appends the first of the facts that the iterator still gives.
use Rattle.std.proofs.Common.{ap, refl, Bool, true, List, ◌++◌}
use Rattle.serde_json.specs.Written.{comma_if}
use Rattle.filing_model.specs.Common.Text.{Text}
use Rattle.filing_model.specs.Oim.Facts.{Fact}
use Rattle.filing_model.specs.Reading.Writing.{fact_text, listed, member_text}
use Rattle.oim_report.specs.Entries.{entry_seen}
use Rattle.oim_report.proofs.Fronts.{on_err, front_underway, underway_all, underway_next}
use Rattle.oim_report.proofs.GivenEntries.{none_left, first_left}
use Rattle.oim_report.proofs.report_text.push_entries.Goals as goal

abbrev texts : Bool → List (Text × Fact) → Text
texts later entries = listed later (λ e. member_text e.0 (fact_text e.1)) entries

pub loop-id-preserved : goal.loop-id-preserved
loop-id-preserved g c = λ given gives.
    let (left, runs, underway) = c.loop-id.invariant given gives in
    let (rest, is, on) = first_left g.I.Iterator.next_gives entry_seen left c.loop-id.id-iterator c.next.new.self _ runs c.in-Some.ensures.steps in
    let with_comma = underway_next (comma_if c.loop-id.later) underway (ap (texts c.loop-id.later) is) c.in_ok-push_comma.ensures.text in
    (rest, on, underway_next (member_text c.in-Some.id.now (fact_text c.in-Some.fact.now)) with_comma refl c.in_ok-push_entry.ensures.text)

pub returns-in_err-push_comma-clause-front : goal.returns-in_err-push_comma-clause-front
returns-in_err-push_comma-clause-front g c = λ given gives.
    let (left, runs, underway) = c.loop-id.invariant given gives in
    let (rest, is, on) = first_left g.I.Iterator.next_gives entry_seen left c.loop-id.id-iterator c.next.new.self _ runs c.in-Some.ensures.steps in
    on_err c.from_residual.result
    (front_underway (member_text c.in-Some.id.now (fact_text c.in-Some.fact.now) ++ texts true rest) underway (ap (texts c.loop-id.later) is) c.in_err-push_comma.ensures.front)

pub returns-in_err-push_entry-clause-front : goal.returns-in_err-push_entry-clause-front
returns-in_err-push_entry-clause-front g c = λ given gives.
    let (left, runs, underway) = c.loop-id.invariant given gives in
    let (rest, is, on) = first_left g.I.Iterator.next_gives entry_seen left c.loop-id.id-iterator c.next.new.self _ runs c.in-Some.ensures.steps in
    let with_comma = underway_next (comma_if c.loop-id.later) underway (ap (texts c.loop-id.later) is) c.in_ok-push_comma.ensures.text in
    on_err c.from_residual-in_err-push_entry.result
    (front_underway {piece = member_text c.in-Some.id.now (fact_text c.in-Some.fact.now)} (texts true rest) with_comma refl c.in_err-push_entry.ensures.front)

pub returns-clause-text : goal.returns-clause-text
returns-clause-text g c = λ given gives.
    let (left, runs, underway) = c.loop-id.invariant given gives in
    let over = none_left g.I.Iterator.next_gives entry_seen left c.loop-id.id-iterator c.next.new.self runs c.in-None.ensures.steps in
    underway_all underway (ap (texts c.loop-id.later) over)
