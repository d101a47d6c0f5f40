use Rattle.std.proofs.Common.{◌∙◌, subst, Bool}
use Rattle.std.specs.Arc.{arc_value}
use Rattle.line_io.specs.Lines.{lines_of, spoken}
use Rattle.filing_threads.specs.Batches.{AddsLine, Classifies}
use Rattle.filing_threads.proofs.ClassifiedBatches.{first_line, next_line, none_before, ends_before}
use Rattle.filing_threads.proofs.batch.Batch.read.Goals as goal

pub loop-init : goal.loop-init
loop-init c =
    let table = arc_value c.args.table.now in
    let adds : AddsLine c.args.journaled table c.in-Some.line.now c.new-batch.result c.classify.new.self =
    subst (λ (b : Bool). Classifies c.args.journaled table c.in-Some.line.now c.new-batch.result c.classify.new.self b) c.if-not-branch.false
    c.in_ok-classify.ensures in (
      first_line c.args.journaled table c.args.text.now c.in-Some.line.now c.in-Some.others.now c.new-batch.result c.classify.new.self
          c.new-batch.ensures.told c.new-batch.ensures.steps c.new-batch.ensures.none_deep c.in-Some.ensures.lines c.in-Some.ensures.shorter adds,
      adds.same_end ∙ c.new-batch.ensures.none_deep,
    )

pub returns-then-not-branch : goal.returns-then-not-branch
returns-then-not-branch c =
    let table = arc_value c.args.table.now in
    let deep = subst (λ (b : Bool). Classifies c.args.journaled table c.in-Some.line.now c.new-batch.result c.classify.new.self b) c.if-not-branch.true
    c.in_ok-classify.ensures in
    none_before c.args.journaled table c.args.text.now c.in-Some.line.now (spoken (lines_of c.in-Some.others.now)) c.new-batch.result c.classify.new.self
    c.new-batch.ensures.told c.new-batch.ensures.steps c.in-Some.ensures.lines deep.0 deep.1

pub returns-then-not-branch-2 : goal.returns-then-not-branch-2
returns-then-not-branch-2 c =
    let table = arc_value c.args.table.now in
    let line = c.in-Some-next_line.line.now in
    let others = c.in-Some-next_line.others.now in
    let deep = subst (λ (b : Bool). Classifies c.args.journaled table line c.loop.batch c.classify-in-loop.new.self b) c.if-not-branch-2.true
    c.in_ok-classify-2.ensures in
    ends_before c.args.journaled table c.args.text.now c.loop.rest.now line (spoken (lines_of others)) c.loop.batch c.classify-in-loop.new.self
    c.loop.invariant.0 c.in-Some-next_line.ensures.lines deep.0 deep.1

pub loop-preserved : goal.loop-preserved
loop-preserved c =
    let table = arc_value c.args.table.now in
    let line = c.in-Some-next_line.line.now in
    let others = c.in-Some-next_line.others.now in
    let adds : AddsLine c.args.journaled table line c.loop.batch c.classify-in-loop.new.self =
    subst (λ (b : Bool). Classifies c.args.journaled table line c.loop.batch c.classify-in-loop.new.self b) c.if-not-branch-2.false
    c.in_ok-classify-2.ensures in (
      next_line c.args.journaled table c.args.text.now c.loop.rest.now line others c.loop.batch c.classify-in-loop.new.self c.loop.invariant.0
          c.loop.invariant.1 c.in-Some-next_line.ensures.lines c.in-Some-next_line.ensures.shorter adds,
      adds.same_end ∙ c.loop.invariant.1,
    )
