use Rattle.std.proofs.Common.{◌≡◌, Bool, true, option_map}
use Rattle.filing_model.specs.Common.Text.{Text}
use Rattle.script_reasons.specs.ToldFacts.{KeepsTo, is_told_of}
use Rattle.script_reasons.proofs.gathered.Gathered.add.Given as goal

-- of each set in which the identifier is, those that are told stay in it
abbrev pub invariant-loop-said : goal.invariant-loop-said
invariant-loop-said l = (of : Text → Bool) → is_told_of of (option_map (λ t. t.now) l.id) ≡ true
    → KeepsTo of l.initial.self.reasons.items l.self.reasons.items
