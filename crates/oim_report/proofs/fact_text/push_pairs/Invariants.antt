use Rattle.std.proofs.Common.{false, drop, string_bytes}
use Rattle.filing_model.specs.Reading.Writing.{listed, member_text, nullable_text}
use Rattle.oim_fact.specs.Dims.{dims_view}
use Rattle.oim_report.proofs.Fronts.{IsUnderway}
use Rattle.oim_report.proofs.fact_text.push_pairs.Given as goal

-- of all dimensions those behind the index are left
abbrev pub invariant-loop-name : goal.invariant-loop-name
invariant-loop-name l =
    IsUnderway (string_bytes l.initial.out) (string_bytes l.out)
    (listed l.later (λ d. member_text d.0 (nullable_text d.1)) (dims_view (drop l.name-index l.pairs)))
    (listed false (λ d. member_text d.0 (nullable_text d.1)) (dims_view l.pairs))
