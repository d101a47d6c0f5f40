use Rattle.std.proofs.Common.{◌≡◌, ◌+◌, ◌<◌, ap, arith, sym, subst, ℕ, Bool, MatchBool, [], length, string_bytes}
use Rattle.std.specs.Prelude.{MatchOption}
use Rattle.std.specs.Arc.{arc_value}
use Rattle.line_io.specs.Lines.{lines_of, spoken}
use Rattle.filing_office.specs.Runs.{NamedDeskState}
use Rattle.filing_threads.specs.Batches.{AreBatch}
use Rattle.filing_threads.specs.Lines.{BeginsDeep}
use Rattle.filing_threads.specs.UnderWay.{IsUnderWay, TakesBatch}
use Rattle.filing_threads.proofs.UnderWay.{begins, goes_on, stops, ends_whole, ends_starved, ends_deep}
use Rattle.filing_threads.proofs.script_task.take_lines.Goals as goal
use Rattle.filing_threads.proofs.script_task.take_lines.Goals.{in_default, in-Ok+in_default-read, in-Ok+in-Some+in_ok-take_batch+then-not-branch}
use Rattle.filing_threads.proofs.script_task.take_lines.Goals.{in-Ok+in-Some+in_ok-take_batch+else-not-branch+then-ends_deep}

pub loop-read-init : goal.loop-read-init
loop-read-init g c =
    let journaled = c.args.journaled in
    let table = arc_value c.args.table.now in
    let script = c.args.script.now in
    let start = c.args.named_desk.now.state in (
      c.requires c.new-outcomes.result.items,
      subst (λ os. IsUnderWay journaled table script script start start os (string_bytes c.new-text.result) 0) (sym c.new-outcomes.ensures.items)
          (subst (λ text. IsUnderWay journaled table script script start start [] text 0) (sym c.new-text.ensures.bytes)
          (begins g.row.L.Denot journaled table script start)),
    )

pub loop-read-preserved : goal.loop-read-preserved
loop-read-preserved g c =
    let journaled = c.args.journaled in
    let table = arc_value c.args.table.now in
    let script = c.args.script.now in
    let rest = c.loop-read.rest.now in
    let start = c.args.named_desk.now.state in
    let now = c.loop-read.named_desk.state in
    let kept = c.loop-read.outcomes.items in
    let text = string_bytes c.loop-read.text in
    let batch = c.in-Some.batch in
    let next = c.take_batch.new.named_desk.state in
    let left = c.take_batch.new.outcomes.items in
    let longer = string_bytes c.take_batch.new.text in
    let read : AreBatch journaled table rest c.in-Some.others.now batch =
    subst (λ o. MatchOption o (spoken (lines_of rest) ≡ []) (λ b. AreBatch journaled table rest b.1.now b.0)) c.in-Some.is c.in-Ok.ensures in
    let many : c.loop-read.answered + length batch.told.items ≡ c.loop-read.answered + c.len.result =
    omega (arith, c.len.ensures, batch.told.ok.0) in (
      c.in_ok-take_batch.ensures.learnt,
      subst (λ (n : ℕ). IsUnderWay journaled table script c.in-Some.others.now start next left longer n) many
          (goes_on journaled table script rest start now kept text c.loop-read.answered c.loop-read.invariant.1 c.in-Some.others.now batch next left longer read
          (subst (λ (whole : Bool). TakesBatch batch.told.items batch.steps.items now next kept left text longer whole) c.if-not-branch.false
          c.in_ok-take_batch.ensures.taken)),
    )

pub returns : goal.returns
returns g c =
    let journaled = c.args.journaled in
    let table = arc_value c.args.table.now in
    let answered = c.loop-read.answered in
    let script = c.args.script.now in
    let rest = c.loop-read.rest.now in
    let start = c.args.named_desk.now.state in
    let now = c.loop-read.named_desk.state in
    let kept = c.loop-read.outcomes.items in
    let text = string_bytes c.loop-read.text in
    let way = c.loop-read.invariant.1 in
    let counted = c.match-read.named_desk.state.tally in
    elim c.match-read.branch [
      | in_default w ↦
          ends_starved journaled table script rest start now kept text answered way _ (ap string_bytes w.text-is) w.ending-is
          counted (ap (λ (d : NamedDeskState). d.state.tally) w.named_desk-is)
      | in-Ok+in_default-read w ↦
          let none : spoken (lines_of rest) ≡ [] =
          subst (λ o. MatchOption o (spoken (lines_of rest) ≡ []) (λ b. AreBatch journaled table rest b.1.now b.0)) w.in_default-read.is w.in-Ok.ensures in
          ends_whole journaled table script rest start now kept text answered way none _ (ap string_bytes w.text-is) w.ending-is
          counted (ap (λ (d : NamedDeskState). d.state.tally) w.named_desk-is)
      | in-Ok+in-Some+in_ok-take_batch+then-not-branch w ↦
          let read : AreBatch journaled table rest w.in-Some.others.now w.in-Some.batch =
          subst (λ o. MatchOption o (spoken (lines_of rest) ≡ []) (λ b. AreBatch journaled table rest b.1.now b.0)) w.in-Some.is w.in-Ok.ensures in
          stops journaled table script rest start now kept text answered way w.in-Some.others.now w.in-Some.batch w.take_batch.new.named_desk.state
          w.take_batch.new.outcomes.items (string_bytes w.take_batch.new.text) read
          (subst (λ (whole : Bool). TakesBatch w.in-Some.batch.told.items w.in-Some.batch.steps.items now w.take_batch.new.named_desk.state kept
          w.take_batch.new.outcomes.items text (string_bytes w.take_batch.new.text) whole) w.if-not-branch.true w.in_ok-take_batch.ensures.taken)
          _ (ap string_bytes w.text-is) w.ending-is
          counted (ap (λ (d : NamedDeskState). d.state.tally) w.named_desk-is)
      | in-Ok+in-Some+in_ok-take_batch+else-not-branch+then-ends_deep w ↦
          let batch = w.in-Some.batch in
          let next = w.take_batch.new.named_desk.state in
          let left = w.take_batch.new.outcomes.items in
          let longer = string_bytes w.take_batch.new.text in
          let read : AreBatch journaled table rest w.in-Some.others.now batch =
          subst (λ o. MatchOption o (spoken (lines_of rest) ≡ []) (λ b. AreBatch journaled table rest b.1.now b.0)) w.in-Some.is w.in-Ok.ensures in
          let many : answered + length batch.told.items ≡ answered + w.len.result = omega (arith, w.len.ensures, batch.told.ok.0) in
          let deep : BeginsDeep journaled table (spoken (lines_of w.in-Some.others.now)) =
          subst (λ (b : Bool). MatchBool b (BeginsDeep journaled table (spoken (lines_of w.in-Some.others.now))) (length w.in-Some.others.now < length rest))
          w.if-ends_deep.true read.ends in
          ends_deep journaled table script w.in-Some.others.now start next left longer (answered + w.len.result)
          (subst (λ (n : ℕ). IsUnderWay journaled table script w.in-Some.others.now start next left longer n) many
          (goes_on journaled table script rest start now kept text answered way w.in-Some.others.now batch next left longer read
          (subst (λ (whole : Bool). TakesBatch batch.told.items batch.steps.items now next kept left text longer whole) w.if-not-branch.false
          w.in_ok-take_batch.ensures.taken)))
          deep _ (ap string_bytes w.text-is) w.ending-is
          counted (ap (λ (d : NamedDeskState). d.state.tally) w.named_desk-is)
    ]
