use Rattle.std.proofs.Common.{List, codes, false, string_bytes, sym, subst}
use Rattle.filing_model.specs.Common.Text.{Text}
use Rattle.filing_model.specs.Oim.Facts.{Fact}
use Rattle.filing_model.specs.Reading.Writing.{fact_text, listed, member_text, report_text}
use Rattle.oim_report.specs.Appended.{IsFrontAppended}
use Rattle.oim_report.proofs.Fronts.{on_err, appended_as, front_before, front_behind, front_pushed}
use Rattle.oim_report.proofs.WrittenPieces.{once_appended, five_pieces}
use Rattle.oim_report.proofs.report_text.push_report_of.Goals as goal

abbrev texts : List (Text × Fact) → Text
texts facts = listed false (λ e. member_text e.0 (fact_text e.1)) facts

pub returns-clause-text : goal.returns-clause-text
unfolding report_text
returns-clause-text g c = λ report of.
    let info = appended_as (string_bytes c.push_str.new.self) c.in_ok-push_str-2.ensures.bytes (sym of.has_info) in
    let facts = c.in_ok-push_entries.ensures.text report.facts.entries of.gives_facts in
    once_appended c.push_str-4.result _ (string_bytes c.push_entries.new.out) (codes "}}") c.push_str-4.ensures.bytes
    (λ last.
    five_pieces (string_bytes c.args.out.now) _ _ _ _ _
    (codes "{\"documentInfo\":") report.info (codes ",\"facts\":{") (texts report.facts.entries) (codes "}}")
    c.in_ok-push_str.ensures.bytes info c.in_ok-push_str-3.ensures.bytes facts last)

pub returns-in_err-push_str-clause-front : goal.returns-in_err-push_str-clause-front
unfolding report_text
returns-in_err-push_str-clause-front g c = λ report of.
    on_err c.from_residual.result
    (front_before _ (front_pushed c.push_str.result (codes "{\"documentInfo\":") c.push_str.ensures.bytes))

pub returns-in_err-push_str-2-clause-front : goal.returns-in_err-push_str-2-clause-front
unfolding report_text
returns-in_err-push_str-2-clause-front g c = λ report of.
    let info = subst (IsFrontAppended (string_bytes c.push_str.new.self) (string_bytes c.push_str-2.new.self)) (sym of.has_info)
    (front_pushed c.push_str-2.result c.args.info.now c.push_str-2.ensures.bytes) in
    on_err c.from_residual-in_err-push_str-2.result
    (front_behind (codes "{\"documentInfo\":") c.in_ok-push_str.ensures.bytes (front_before _ info))

pub returns-in_err-push_str-3-clause-front : goal.returns-in_err-push_str-3-clause-front
unfolding report_text
returns-in_err-push_str-3-clause-front g c = λ report of.
    let info = appended_as (string_bytes c.push_str.new.self) c.in_ok-push_str-2.ensures.bytes (sym of.has_info) in
    let name = front_pushed c.push_str-3.result (codes ",\"facts\":{") c.push_str-3.ensures.bytes in
    on_err c.from_residual-in_err-push_str-3.result
    (front_behind (codes "{\"documentInfo\":") c.in_ok-push_str.ensures.bytes
    (front_behind report.info info (front_before _ name)))

pub returns-in_err-push_entries-clause-front : goal.returns-in_err-push_entries-clause-front
unfolding report_text
returns-in_err-push_entries-clause-front g c = λ report of.
    let info = appended_as (string_bytes c.push_str.new.self) c.in_ok-push_str-2.ensures.bytes (sym of.has_info) in
    let facts = c.in_err-push_entries.ensures.front report.facts.entries of.gives_facts in
    on_err c.from_residual-in_err-push_entries.result
    (front_behind (codes "{\"documentInfo\":") c.in_ok-push_str.ensures.bytes
    (front_behind report.info info
    (front_behind (codes ",\"facts\":{") c.in_ok-push_str-3.ensures.bytes
    (front_before (codes "}}") facts))))

pub returns-clause-front : goal.returns-clause-front
unfolding report_text
returns-clause-front g c = λ report of.
    let info = appended_as (string_bytes c.push_str.new.self) c.in_ok-push_str-2.ensures.bytes (sym of.has_info) in
    let facts = c.in_ok-push_entries.ensures.text report.facts.entries of.gives_facts in
    let close = front_pushed c.push_str-4.result (codes "}}") c.push_str-4.ensures.bytes in
    on_err c.push_str-4.result
    (front_behind (codes "{\"documentInfo\":") c.in_ok-push_str.ensures.bytes
    (front_behind report.info info
    (front_behind (codes ",\"facts\":{") c.in_ok-push_str-3.ensures.bytes
    (front_behind (texts report.facts.entries) facts close))))
