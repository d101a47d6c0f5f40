use Rattle.line_io.proofs.FirstByte.{first_is_position}
use Rattle.line_io.specs.Lines.{is_line_feed}
use Rattle.line_io.proofs.runs.line_end.Goals as goal

pub returns : goal.returns
returns c = first_is_position is_line_feed c.args.text.now c.memchr.result c.memchr.ensures
