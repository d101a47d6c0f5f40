use Rattle.filing_laws.proofs.Histories.PlayedHistories.{played_are_the_lawful}
use Rattle.filing_laws.proofs.played.played_histories_are_the_lawful_ones.Goals as goal

pub returns : goal.returns
returns c = played_are_the_lawful
