use Rattle.script_format.proofs.NoArrays.{bad_where_no_array}
use Rattle.script_format.proofs.line_outcome.may_be_array.Goals as goal

pub returns-else-byte-eq91 : goal.returns-else-byte-eq91
returns-else-byte-eq91 c =
    bad_where_no_array c.in-Some.byte.now c.args.line.now c.is_space.result c.in-Some.ensures.value c.if-byte-eq91.false c.is_space.ensures
