use Rattle.std.proofs.Common.{◌≡◌, take}
use Rattle.oim_fact.specs.Texts.{rows_view}
use Rattle.oim_fact.proofs.names.NamesClone.clone.Given as goal

abbrev pub invariant-loop-prefix : goal.invariant-loop-prefix
invariant-loop-prefix l = rows_view l.prefixes.items ≡ rows_view (take l.prefix-index l.prefix-items)
