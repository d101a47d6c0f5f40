use Rattle.std.proofs.Common.{◌∙◌, sym, map}
use Rattle.std.specs.Option.{option_map}
use Rattle.filing_model.specs.Oim.Duplicates.{is_disallowed, disallowed_dims, least_dims}
use Rattle.filing_model.proofs.Oim.ByPairs.{least_turn, least_end}
use Rattle.filing_model.proofs.by_pairs.least_disallowed_fact.Goals as goal

pub loop-fact-preserved : goal.loop-fact-preserved
loop-fact-preserved g c = least_turn g.F.PairedFact.fact
    (is_disallowed c.args.allowed (map g.F.PairedFact.fact c.args.facts.now))
    (option_map (λ f. (g.F.PairedFact.fact f.now).dims) c.loop-fact.least)
    (option_map (λ f. (g.F.PairedFact.fact f.now).dims) c.lesser_disallowed-least.result) c.args.facts.now
    c.loop-fact.fact-index c.fact-item.result
    (least_dims (disallowed_dims c.args.allowed (map g.F.PairedFact.fact c.args.facts.now))) c.loop-fact-test.true
    c.fact-item.is c.lesser_disallowed-least.ensures c.loop-fact.invariant

pub returns : goal.returns
returns g c =
    sym (least_end g.F.PairedFact.fact (is_disallowed c.args.allowed (map g.F.PairedFact.fact c.args.facts.now))
    (option_map (λ f. (g.F.PairedFact.fact f.now).dims) c.loop-fact.least) c.args.facts.now
    c.loop-fact.fact-index c.loop-fact-test.false)
    ∙ c.loop-fact.invariant
