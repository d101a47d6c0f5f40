use Rattle.std.proofs.Common.{◌≡◌, ◌≤◌, ◌+◌, length, option_map}
use Rattle.filing_model.specs.Oim.Tables.{numbered_lines, row_at}
use Rattle.filing_model.specs.Common.Try.{each, with_front}
use Rattle.oim_fact.specs.Texts.{rows_view}
use Rattle.oim_report.specs.Lines.{numbered_from}
use Rattle.oim_report.proofs.TableLines.{size_left}
use Rattle.oim_report.proofs.table.rows.Given as goal

-- what was read, with what is left, whose lines are counted on
abbrev pub invariant-loop-left : goal.invariant-loop-left
invariant-loop-left l = record {
  read : with_front (rows_view l.rows.items) (each row_at (numbered_from l.number (option_map (λ t. t.now) l.left)))
      ≡ each row_at (numbered_lines l.fn.text);
  counted : l.number + size_left (option_map (λ t. t.now) l.left) ≤ length l.fn.text + 2;
}

abbrev pub decreases-loop-left : goal.decreases-loop-left
decreases-loop-left l = size_left (option_map (λ t. t.now) l.left)
