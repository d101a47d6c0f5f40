use Rattle.std.proofs.Common.{List, false, string_bytes}
use Rattle.std.specs.Iterator.{AlwaysYields}
use Rattle.filing_model.specs.Common.Text.{Text}
use Rattle.filing_model.specs.Oim.Facts.{Fact}
use Rattle.filing_model.specs.Reading.Writing.{listed, member_text, fact_text}
use Rattle.oim_report.specs.Entries.{entry_seen}
use Rattle.oim_report.proofs.Fronts.{IsUnderway}
use Rattle.oim_report.proofs.report_text.push_entries.Given as goal

-- of all facts those that the iterator still gives are left
abbrev pub invariant-loop-id : goal.invariant-loop-id
invariant-loop-id g l =
    (given : List (Text × Fact)) → AlwaysYields g.I.Iterator.next_gives entry_seen l.fn.entries given
    → (left : List (Text × Fact)) × AlwaysYields g.I.Iterator.next_gives entry_seen l.id-iterator left
    × IsUnderway (string_bytes l.initial.out) (string_bytes l.out)
    (listed l.later (λ e. member_text e.0 (fact_text e.1)) left) (listed false (λ e. member_text e.0 (fact_text e.1)) given)
