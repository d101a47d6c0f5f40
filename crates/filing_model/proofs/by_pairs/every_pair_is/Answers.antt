use Rattle.std.proofs.Common.{◌∙◌, sym}
use Rattle.std.specs.Option.{option_map}
use Rattle.filing_model.specs.Oim.Duplicates.{pair_of}
use Rattle.filing_model.specs.Oim.ByPairs.{binds, is_of}
use Rattle.filing_model.proofs.Oim.ByPairs.{turn_passes, turn_fails}
use Rattle.filing_model.proofs.by_pairs.every_pair_is.Goals as goal

pub returns-then-not-is_bound : goal.returns-then-not-is_bound
returns-then-not-is_bound g c =
    sym (c.loop-left.invariant
    ∙ turn_fails (is_of (option_map (λ f. g.F.PairedFact.fact f.now) c.args.one)) g.F.PairedFact.fact
    (λ f h. binds c.args.bond (pair_of f h)) c.loop-left.left.now c.first-item.result c.is_bound.result
    c.in-len1-up.len_at_least c.first-item.is c.is_bound.ensures c.if-not-is_bound.true)

pub loop-left-preserved : goal.loop-left-preserved
loop-left-preserved g c =
    c.loop-left.invariant ∙ turn_passes (is_of (option_map (λ f. g.F.PairedFact.fact f.now) c.args.one))
    g.F.PairedFact.fact (λ f h. binds c.args.bond (pair_of f h)) c.loop-left.left.now c.first-item.result
    c.is_bound.result c.in-len1-up.len_at_least c.first-item.is c.is_bound.ensures c.if-not-is_bound.false
