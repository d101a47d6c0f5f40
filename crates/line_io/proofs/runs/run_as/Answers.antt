use Rattle.line_io.proofs.RunByReads.{starved_before_reads}
use Rattle.line_io.proofs.runs.run_as.Goals as goal

pub returns-in_default-clause-runs : goal.returns-in_default-clause-runs
returns-in_default-clause-runs g c =
    starved_before_reads g.D.Mode.conduct g.met.D.Mode.keeps_on g.R.Source.state c.args.reads _ _ _ _ _ _ c.write_out.result c.new.ensures
    c.write_out.ensures.written
