use Rattle.std.proofs.Common.{subst, ℕ}
use Rattle.filing_model.specs.Oim.Facts.{Fact}
use Rattle.filing_index.specs.Index.{IsIndex}
use Rattle.filing_index.proofs.facts.Facts.ids_of_query.Goals as goal

pub returns : goal.returns
returns c = c.of_query.ensures c.args.self.now
    (subst (λ (hash_of : Fact → ℕ). IsIndex hash_of c.args.self.now c.index.result.now) (λ i fact. c.index_kind_for.ensures fact i) c.index.ensures)
