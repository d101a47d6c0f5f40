use Rattle.std.proofs.Common.{◌∙◌, ap, map}
use Rattle.filing_model.specs.Oim.Duplicates.{class_of}
use Rattle.filing_model.proofs.Oim.ByPairs.{all_are_kept}
use Rattle.filing_model.proofs.by_pairs.class_by_pairs.Goals as goal

pub returns : goal.returns
returns g c = c.class_with.ensures ∙ ap class_of (all_are_kept (map g.F.PairedFact.fact c.args.facts.now))
