use Rattle.std.proofs.Common.{◌∙◌, ◌++◌, ap, codes, string_bytes, vec_len}
use Rattle.report_inspection.specs.Lines.{count_text, count_disallowed, head_text}
use Rattle.report_inspection.proofs.WrittenLines.{three_pushed}
use Rattle.report_inspection.proofs.lines.push_summary.Goals as goal

pub returns : goal.returns
returns c =
    let i = c.args.inspection.now in
    three_pushed (string_bytes c.args.out.now) (string_bytes c.push_head.new.out) (string_bytes c.push_first_counts.new.out)
    (string_bytes c.push_last_counts.new.out) (head_text (codes "inspected") c.args.file.now) (count_text i.facts ++ count_text (vec_len i.cells))
    (count_text (vec_len i.faults) ++ (count_text (count_disallowed i.cells.items) ++ (count_text (vec_len i.warnings) ++ codes "]\n")))
    c.in_ok-push_head.ensures
    (c.in_ok-push_first_counts.ensures ∙ ap (λ n. string_bytes c.push_head.new.out ++ (count_text i.facts ++ count_text n)) c.len.ensures)
    (c.in_ok-push_last_counts.ensures
    ∙ (λ j. string_bytes c.push_first_counts.new.out
    ++ (count_text (c.len-2.ensures j) ++ (count_text ((c.count_disallowed.ensures ∙ ap count_disallowed c.deref.ensures.value) j)
    ++ (count_text (c.len-3.ensures j) ++ codes "]\n")))))
