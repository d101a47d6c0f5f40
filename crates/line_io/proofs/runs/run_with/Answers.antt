use Rattle.std.proofs.Common.{◌<◌, ◌≤◌, length, take, ap, ◌∙◌, arith, length-take}
use Rattle.std.specs.declared.result.Result.TheVariants.{Err}
use Rattle.std.proofs.lemmas.Result.{err_from_is_err_and}
use Rattle.line_io.specs.declared.runs.TheConstants.{PIECE}
use Rattle.line_io.proofs.RunByReads.{few, read_none, read_failed, read_endless, read_ended, read_refused, read_more}
use Rattle.line_io.proofs.runs.run_with.Goals as goal

pub loop-turn-init : goal.loop-turn-init
loop-turn-init g c = read_none g.D.Mode.conduct g.met.D.Mode.keeps_on _ _ _ _ _ _ c.new-progress.ensures.begun c.new-progress.ensures.outbox
    c.new-progress.ensures.lines

pub finish-requires : goal.finish-requires
finish-requires g c =
    let small = few g.D.Mode.conduct g.met.D.Mode.keeps_on c.args.reads c.loop-turn.invariant c.loop-turn.auto._turn-end in
    omega (arith, small, c.ranges.reads.fits)

pub take_piece-requires : goal.take_piece-requires
take_piece-requires g c =
    let small = few g.D.Mode.conduct g.met.D.Mode.keeps_on c.args.reads c.loop-turn.invariant c.loop-turn.auto._turn-end in
    let short = length-take c.in-Ok.count c.read.new.buffer in
    omega (arith, small, short, c.ranges.reads.fits, c.requires.few)

pub returns-in_default-clause-runs : goal.returns-in_default-clause-runs
returns-in_default-clause-runs g c =
    read_failed g.D.Mode.conduct g.met.D.Mode.keeps_on g.R.Source.state _ _ _ c.args.reads c.write_out.result c.loop-turn.invariant
    c.in_default.ensures.bytes c.in_default.ensures.ends c.in_default.ensures.failed c.write_out.ensures.written

pub returns-then-count-eq0-clause-runs : goal.returns-then-count-eq0-clause-runs
returns-then-count-eq0-clause-runs g c =
    let some : 0 < length c.read.new.buffer = omega (arith, c.requires.some) in
    read_ended g.D.Mode.conduct g.met.D.Mode.keeps_on g.R.Source.state _ _ _ c.args.reads c.finish.result c.loop-turn.invariant
    (rw c.if-count-eq0.true at c.in-Ok.ensures.bytes.0) (c.in-Ok.ensures.bytes.1 c.if-count-eq0.true some) c.in-Ok.ensures.reads
    (c.in-Ok.ensures.ends.nothing c.if-count-eq0.true some) (omega (arith, c.in-Ok.ensures.failed)) c.finish.ensures.takes c.finish.ensures.tells

pub returns-in_err-take_piece-clause-runs : goal.returns-in_err-take_piece-clause-runs
returns-in_err-take_piece-clause-runs g c =
    let p = err_from_is_err_and c.from_residual.result c.from_residual.ensures.1 in
    let more : 0 < c.in-Ok.count = omega arith in
    read_refused g.D.Mode.conduct g.met.D.Mode.keeps_on g.R.Source.state _ _ _
    (take c.in-Ok.count c.read.new.buffer) c.args.reads c.in_err-take_piece.field-0.0 c.from_residual.result c.loop-turn.invariant c.in-Ok.ensures.bytes.0
    c.in-Ok.ensures.reads (c.in-Ok.ensures.ends.something more) (omega (arith, c.in-Ok.ensures.failed)) (p.1 ∙ ap Err p.2) c.in_err-take_piece.ensures.takes

pub loop-turn-preserved : goal.loop-turn-preserved
loop-turn-preserved g c =
    let more : 0 < c.in-Ok.count = omega arith in
    let short = length-take c.in-Ok.count c.read.new.buffer in
    let small : length (take c.in-Ok.count c.read.new.buffer) ≤ PIECE = omega (arith, short, c.requires.few) in
    read_more g.D.Mode.conduct g.met.D.Mode.keeps_on (take c.in-Ok.count c.read.new.buffer) c.loop-turn.invariant c.in-Ok.ensures.bytes.0 c.in-Ok.ensures.reads
    (c.in-Ok.ensures.ends.something more) (omega (arith, c.in-Ok.ensures.failed)) small
    c.in_ok-take_piece.ensures.takes c.in_ok-take_piece.ensures.begun c.in_ok-take_piece.ensures.lines c.in_ok-take_piece.ensures.outbox

pub returns-clause-runs : goal.returns-clause-runs
returns-clause-runs g c =
    read_endless g.D.Mode.conduct g.met.D.Mode.keeps_on g.R.Source.state _ _ c.args.reads c.write_out-2.result c.loop-turn.invariant (omega arith)
    c.write_out-2.ensures.written
