-- What a proof unfolds to compute what the program makes of words that are written out.
use Rattle.std.specs.Prelude.{⊤}
use Rattle.clap.proofs.OnLiterals.{clap_on_literals}
use Rattle.filing_args.specs.Words.{check, diff, history, inspect, load, log, program, repair, run, seal, show, threads, verify, words}

unfoldable pub filing_args_on_literals : ⊤
unfolding clap_on_literals program run load check show diff log verify history seal repair inspect threads words
filing_args_on_literals = tt
