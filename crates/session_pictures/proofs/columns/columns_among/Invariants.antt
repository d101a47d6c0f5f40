use Rattle.std.proofs.Common.{◌≡◌, ◌++◌, drop}
use Rattle.std.specs.List.{filter_map}
use Rattle.session_pictures.specs.Columns.{column_of}
use Rattle.session_pictures.proofs.columns.columns_among.Given as goal

-- the columns so far, with those still to come
abbrev pub invariant-loop-number : goal.invariant-loop-number
invariant-loop-number l =
    l.found.items ++ filter_map (column_of l.columns) (drop l.number-index l.numbers) ≡ filter_map (column_of l.columns) l.numbers
