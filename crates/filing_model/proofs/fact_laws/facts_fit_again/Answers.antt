use Rattle.filing_model.proofs.Oim.FitAgain.{fit_again}
use Rattle.filing_model.proofs.fact_laws.facts_fit_again.Goals as goal

pub returns : goal.returns
returns c = fit_again
