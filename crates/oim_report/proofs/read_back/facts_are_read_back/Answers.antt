use Rattle.filing_model.specs.Reading.Writing.{raw_of}
use Rattle.filing_model.proofs.Oim.FitAgain.{fit_again}
use Rattle.oim_report.proofs.WrittenFacts.{raw_fact_back}
use Rattle.oim_report.proofs.WrittenReports.{IsReadableFact-fitted}
use Rattle.oim_report.proofs.read_back.facts_are_read_back.Goals as goal

pub returns : goal.returns
returns c = λ names fact dims fitted nests.
    let back = raw_fact_back (raw_of fact) (IsReadableFact-fitted names fact dims fitted) nests in
    (back.0, back.1, back.2, fit_again names fitted.0 fact fitted.2)
