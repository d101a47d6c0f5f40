use Rattle.std.proofs.Common.{◌≡◌, ◌∙◌, ◌+◌, ap, Some, option_map, length, nat_lt, true, false, cond, ◌∷◌, rules}
use Rattle.oim_report.specs.Lines.{numbered_from}
use Rattle.oim_report.proofs.TableLines.{numbered_turn, row_turn, empty_turn, counted_turn}
use Rattle.oim_report.proofs.table.rows.Goals as goal
use Rattle.oim_report.proofs.table.rows.Goals.{then-not-is_empty+in_ok-row+in-Ok, else-not-is_empty}

pub loop-left-preserved : goal.loop-left-preserved
loop-left-preserved c =
    let left = option_map (λ t. t.now) c.loop-left.left in
    let later = option_map (λ t. t.now) c.first_line.result.1 in
    let line = c.without_return-line.result.now in
    let left_is : left ≡ Some c.in-Some.rest.now = ap (λ o. option_map (λ t. t.now) o) c.in-Some.is in
    let lines = numbered_from (c.loop-left.number + 1) later in
    let turn : numbered_from c.loop-left.number left ≡ cond (nat_lt 0 (length line)) ((c.loop-left.number, line) ∷ lines) lines =
    numbered_turn c.loop-left.number left _ _ line later left_is c.first_line.ensures.split c.without_return-line.ensures in
    record {
      read = elim c.if-not-is_empty.branch [
        | then-not-is_empty+in_ok-row+in-Ok w ↦
            let some : nat_lt 0 (length line) ≡ true = search rules in
            row_turn c.loop-left.number line _ lines c.loop-left.rows.items c.if-not-is_empty.rows.items
            w.in_ok-row.field-0 _ turn some w.in_ok-row.ensures
            (ap (λ v. v.items) w.rows-is ∙ w.in-Ok.ensures.items) c.loop-left.invariant.read
        | else-not-is_empty w ↦
            let none : nat_lt 0 (length line) ≡ false = search rules in
            empty_turn c.loop-left.number line _ lines c.loop-left.rows.items c.if-not-is_empty.rows.items _ turn none
            (ap (λ v. v.items) w.rows-is) c.loop-left.invariant.read
      ];
      counted = counted_turn c.loop-left.number _ left _ c.first_line.result.1 left_is c.first_line.ensures.shorter c.loop-left.invariant.counted;
    }
