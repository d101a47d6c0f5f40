use Rattle.std.proofs.Common.{◌≡◌, ◌++◌, map, option_map}
use Rattle.report_inspection.specs.Warnings.{told}
use Rattle.report_inspection.proofs.warnings.warn_of_names.Given as goal

-- what was told and what is left to tell are the whole
abbrev pub invariant-loop-name : goal.invariant-loop-name
invariant-loop-name l =
    map told l.warnings.items ++ map (λ n. (l.kind, (option_map (λ t. t.now) l.fact, n.now))) l.name-iterator
    ≡ map told l.initial.warnings.items ++ map (λ n. (l.kind, (option_map (λ t. t.now) l.fact, n.now))) l.initial.name-iterator
