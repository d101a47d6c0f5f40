-- The command line is one of which clap says what it makes of each list of words.
use Rattle.std.proofs.Common.{◌≡◌, ◌∙◌, ap, subst, sym, true, refl, List, []}
use Rattle.clap.specs.Words.{App, HasKind, HasMatchesOf, Text, fault_of, is_simple, is_simple_and_free, kind_of, subcommand_of, subcommand_rows_of, takes}
use Rattle.clap.specs.declared.error.Error.{Error}
use Rattle.clap.specs.declared.error.kind.ErrorKind.TheVariants.{OutOfMemory}
use Rattle.clap.specs.declared.parser.matches.ArgMatches.{ArgMatches}
use Rattle.filing_args.proofs.OnLiterals.{filing_args_on_literals}
use Rattle.filing_args.specs.Words.{program}

is_simple_program : is_simple program ≡ true
unfolding filing_args_on_literals
is_simple_program = refl

is_free_program : is_simple_and_free program ≡ true
unfolding filing_args_on_literals
is_free_program = refl

-- what clap says of a command line says the same of the program, where that is the command line
pub program_enters : (a : App) (words : List Text) (m : ArgMatches) → a ≡ program → HasMatchesOf a words m
    → subcommand_rows_of m ≡ subcommand_of program words
program_enters a words m is has = (has (ap is_simple is ∙ is_simple_program)).1 ∙ ap (λ (x : App). subcommand_of x words) is

pub program_takes : (a : App) (words : List Text) → a ≡ program → (is_simple_and_free a ≡ true → fault_of a words ≡ [])
    → fault_of program words ≡ []
program_takes a words is none = ap (λ (x : App). fault_of x words) (sym is) ∙ none (ap is_simple_and_free is ∙ is_free_program)

pub program_passes : (a : App) (words : List Text) (e : Error) → a ≡ program → (takes a words ≡ true → kind_of e ≡ OutOfMemory)
    → takes program words ≡ true → kind_of e ≡ OutOfMemory
program_passes a words e is passes taken = passes (ap (λ (x : App). takes x words) is ∙ taken)

pub program_fails : (a : App) (words : List Text) (e : Error) → a ≡ program → (is_simple_and_free a ≡ true → HasKind (fault_of a words) e)
    → HasKind (fault_of program words) e
program_fails a words e is fails =
    subst (λ (x : App). HasKind (fault_of x words) e) is (fails (ap is_simple_and_free is ∙ is_free_program))
