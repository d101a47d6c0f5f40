-- What the words of the command line ask for.
use Rattle.std.specs.Prelude.{◌≡◌, ◌⊎◌, Bool, true, false, List, [], ◌∷◌, Option, Some, None, ℕ, length, ◌&&◌, ◌||◌, ◌==◌, nat_le, codes, fold, option_map, unwrap_or}
use Rattle.std.specs.List.{list_all}
use Rattle.std.specs.Option.{option_map_or}
use Rattle.std.specs.Str.{bytes_eq}
use Rattle.std.specs.Borrow.{Bor}
use Rattle.clap.specs.Words.{App, Row, Rule, Text, IsAmong, all_of, fault_of, first_of, new_app, new_rule, subcommand_of, takes, with_subcommand}
use Rattle.clap.specs.Walk.{texts}
use Rattle.clap.specs.declared.builder.action.ArgAction.{ArgAction}
use Rattle.clap.specs.declared.builder.action.ArgAction.TheVariants.{Append, Set, SetTrue}
use Rattle.clap.specs.declared.error.kind.ErrorKind.TheVariants.{DisplayHelp, DisplayVersion}
use Rattle.filing_args.specs.declared.invocation.RunWords.{RunWords}
use Rattle.filing_args.specs.declared.invocation.LoadWords.{LoadWords}
use Rattle.filing_args.specs.declared.invocation.CheckWords.{CheckWords}
use Rattle.filing_args.specs.declared.invocation.ShowWords.{ShowWords}
use Rattle.filing_args.specs.declared.invocation.DiffWords.{DiffWords}
use Rattle.filing_args.specs.declared.invocation.LogWords.{LogWords}
use Rattle.filing_args.specs.declared.invocation.VerifyWords.{VerifyWords}
use Rattle.filing_args.specs.declared.invocation.HistoryWords.{HistoryWords}
use Rattle.filing_args.specs.declared.invocation.SealWords.{SealWords}
use Rattle.filing_args.specs.declared.invocation.RepairWords.{RepairWords}
use Rattle.filing_args.specs.declared.invocation.InspectWords.{InspectWords}
use Rattle.filing_args.specs.declared.invocation.ThreadsWords.{ThreadsWords}
use Rattle.filing_args.specs.declared.invocation.Invocation.{Invocation}
use Rattle.filing_args.specs.declared.invocation.Invocation.TheVariants.{Run, Load, Check, Show, Diff, Log, Verify, History, Seal, Repair, Inspect, Threads, Explain, Shown}

-- ---- arguments, each by its identifier, and a flag or an option by its long word

abbrev pub flag_rule : Text → Text → Rule
flag_rule id long = record (new_rule id) { long = Some long; action = Some SetTrue }

-- an option that takes a value
abbrev pub option_rule : Text → Text → Rule
option_rule id long = record (new_rule id) { long = Some long; action = Some Set; value_names = 1 }

-- one that takes a value each time it is given
abbrev pub repeated_rule : Text → Text → Rule
repeated_rule id long = record (option_rule id long) { action = Some Append }

-- one that has to be there
abbrev pub needed_rule : Text → Text → Rule
needed_rule id long = record (option_rule id long) { required = true }

-- a word that may be missing
abbrev pub optional_word_rule : Text → Rule
optional_word_rule id = record (new_rule id) { action = Some Set; value_names = 1 }

-- a word that has to be there, or words of which there has to be one
abbrev pub word_rule : Text → ArgAction → Rule
word_rule id action = record (new_rule id) { action = Some action; value_names = 1; required = true }

-- the files of numeric tables
abbrev pub numeric : Rule
numeric = repeated_rule (codes "numeric") (codes "numeric")

-- the files of a history that is written, of one to go on from, and of a journal
abbrev pub written : Rule
written = option_rule (codes "history") (codes "history")

abbrev pub from : Rule
from = option_rule (codes "from") (codes "from")

abbrev pub journal : Rule
journal = option_rule (codes "journal") (codes "journal")

-- the file of a journal that has to be there
abbrev pub keeping : Rule
keeping = needed_rule (codes "keeping") (codes "journal")

abbrev pub every_reply : Rule
every_reply = flag_rule (codes "every_reply") (codes "every-reply")

abbrev pub explain : Rule
explain = flag_rule (codes "explain") (codes "explain")

abbrev pub strict : Rule
strict = flag_rule (codes "strict") (codes "strict")

-- `NAME=REPORT..`
abbrev pub loaded : Rule
loaded = word_rule (codes "loaded") Append

-- the history that is to be judged, and one of which something is to be shown
abbrev pub judged : Rule
judged = word_rule (codes "judged") Set

abbrev pub viewed : Rule
viewed = word_rule (codes "viewed") Set

-- the name of a report
abbrev pub report : Rule
report = optional_word_rule (codes "report")

-- the number of a version, and the two that are compared
abbrev pub at : Rule
at = option_rule (codes "at") (codes "at")

abbrev pub earlier : Rule
earlier = word_rule (codes "earlier") Set

abbrev pub later : Rule
later = word_rule (codes "later") Set

-- a picture, and the number of its first session
abbrev pub svg : Rule
svg = flag_rule (codes "svg") (codes "svg")

abbrev pub first : Rule
first = option_rule (codes "first") (codes "first")

-- the changes of one fact, which has this identifier
abbrev pub fact : Rule
fact = flag_rule (codes "fact") (codes "fact")

abbrev pub identifier : Rule
identifier = optional_word_rule (codes "identifier")

-- the journal that is read or repaired, the digits of a seal, and the number of the last batch that is kept
abbrev pub stored : Rule
stored = word_rule (codes "stored") Set

abbrev pub sealed : Rule
sealed = option_rule (codes "seal") (codes "seal")

abbrev pub keep : Rule
keep = needed_rule (codes "keep") (codes "keep")

-- the files to inspect, the duplicates that are allowed in them, and lines for people
abbrev pub reports : Rule
reports = word_rule (codes "reports") Append

abbrev pub allowing : Rule
allowing = option_rule (codes "allowing") (codes "as")

abbrev pub plain : Rule
plain = flag_rule (codes "plain") (codes "text")

-- the files of scripts
abbrev pub scripts : Rule
scripts = word_rule (codes "scripts") Append

-- ---- commands

-- the command of this name, which takes these arguments
abbrev pub taking : Text → List Rule → App
taking name rules = let bare = new_app name in record bare { top = record bare.top { rules = rules } }

unfoldable pub run : App
run = taking (codes "run") (numeric ∷ written ∷ from ∷ journal ∷ every_reply ∷ explain ∷ strict ∷ [])

unfoldable pub load : App
load = taking (codes "load") (numeric ∷ loaded ∷ keeping ∷ [])

unfoldable pub check : App
check = taking (codes "check") (numeric ∷ judged ∷ explain ∷ [])

unfoldable pub show : App
show = taking (codes "show") (numeric ∷ viewed ∷ report ∷ at ∷ [])

unfoldable pub diff : App
diff = taking (codes "diff") (numeric ∷ viewed ∷ earlier ∷ later ∷ report ∷ [])

unfoldable pub log : App
log = taking (codes "log") (numeric ∷ viewed ∷ report ∷ identifier ∷ fact ∷ svg ∷ first ∷ [])

unfoldable pub verify : App
verify = taking (codes "verify") (stored ∷ sealed ∷ explain ∷ [])

unfoldable pub history : App
history = taking (codes "history") (stored ∷ [])

unfoldable pub seal : App
seal = taking (codes "seal") (stored ∷ [])

unfoldable pub repair : App
repair = taking (codes "repair") (stored ∷ keep ∷ [])

unfoldable pub inspect : App
inspect = taking (codes "inspect") (numeric ∷ reports ∷ allowing ∷ plain ∷ [])

unfoldable pub threads : App
threads = taking (codes "threads") (numeric ∷ scripts ∷ written ∷ from ∷ journal ∷ explain ∷ strict ∷ [])

unfoldable pub words : App
words = taking (codes "words") []

-- the program, which has a version and wants a command
unfoldable pub program : App
program = let bare = new_app (codes "filing") in
    let wanting = record bare { top = record bare.top { has_version = true; subcommand_required = true } } in
    fold (λ app below. with_subcommand app below.top) wanting
    (run ∷ load ∷ threads ∷ check ∷ show ∷ diff ∷ log ∷ verify ∷ history ∷ seal ∷ repair ∷ inspect ∷ words ∷ [])

-- ---- seals

-- a digit from 0 to 9 or from a to f
abbrev pub is_seal_digit : ℕ → Bool
is_seal_digit byte = (nat_le 48 byte && nat_le byte 57) || (nat_le 97 byte && nat_le byte 102)

-- the word is a seal: it has 64 such digits, and nothing else
abbrev pub is_seal : Text → Bool
is_seal word = (length word == 64) && list_all is_seal_digit word

-- ---- what a command is given, by the rows that were entered under it

-- the text of a word, where there is one
abbrev pub text_of : Option (Bor Text) → Option Text
text_of = option_map (λ s. s.now)

-- the flag was given
abbrev pub is_given : Text → List Row → Bool
is_given id rows = option_map_or (λ text. bytes_eq text (codes "true")) (first_of id rows) false

-- the files of numeric tables, in their order
abbrev pub tables_of : List Row → List Text
tables_of rows = unwrap_or (all_of (codes "numeric") rows) []

pub record HoldsRun (given : RunWords) (rows : List Row) : Type 0 where
  pub numeric : texts given.numeric.items ≡ tables_of rows
  pub history : text_of given.history ≡ first_of (codes "history") rows
  pub from : text_of given.from ≡ first_of (codes "from") rows
  pub journal : text_of given.journal ≡ first_of (codes "journal") rows
  pub every_reply : given.every_reply ≡ is_given (codes "every_reply") rows
  pub explain : given.explain ≡ is_given (codes "explain") rows
  pub strict : given.strict ≡ is_given (codes "strict") rows

pub record HoldsLoad (given : LoadWords) (rows : List Row) : Type 0 where
  pub numeric : texts given.numeric.items ≡ tables_of rows
  pub journal : Some given.journal.now ≡ first_of (codes "keeping") rows
  pub reports : Some (texts given.reports.items) ≡ all_of (codes "loaded") rows

pub record HoldsCheck (given : CheckWords) (rows : List Row) : Type 0 where
  pub numeric : texts given.numeric.items ≡ tables_of rows
  pub history : Some given.history.now ≡ first_of (codes "judged") rows
  pub explain : given.explain ≡ is_given (codes "explain") rows

pub record HoldsShow (given : ShowWords) (rows : List Row) : Type 0 where
  pub numeric : texts given.numeric.items ≡ tables_of rows
  pub version : text_of given.version ≡ first_of (codes "at") rows
  pub history : Some given.history.now ≡ first_of (codes "viewed") rows
  pub report : text_of given.report ≡ first_of (codes "report") rows

pub record HoldsDiff (given : DiffWords) (rows : List Row) : Type 0 where
  pub numeric : texts given.numeric.items ≡ tables_of rows
  pub history : Some given.history.now ≡ first_of (codes "viewed") rows
  pub from : Some given.from.now ≡ first_of (codes "earlier") rows
  pub to : Some given.to.now ≡ first_of (codes "later") rows
  pub report : text_of given.report ≡ first_of (codes "report") rows

pub record HoldsLog (given : LogWords) (rows : List Row) : Type 0 where
  pub numeric : texts given.numeric.items ≡ tables_of rows
  pub history : Some given.history.now ≡ first_of (codes "viewed") rows
  pub report : text_of given.report ≡ first_of (codes "report") rows
  pub identifier : text_of given.identifier ≡ first_of (codes "identifier") rows
  pub fact : given.fact ≡ is_given (codes "fact") rows
  pub svg : given.svg ≡ is_given (codes "svg") rows
  pub first : text_of given.first ≡ first_of (codes "first") rows

pub record HoldsVerify (given : VerifyWords) (rows : List Row) : Type 0 where
  pub journal : Some given.journal.now ≡ first_of (codes "stored") rows
  pub seal : text_of given.seal ≡ first_of (codes "seal") rows
  pub explain : given.explain ≡ is_given (codes "explain") rows

pub record HoldsHistory (given : HistoryWords) (rows : List Row) : Type 0 where
  pub journal : Some given.journal.now ≡ first_of (codes "stored") rows

pub record HoldsSeal (given : SealWords) (rows : List Row) : Type 0 where
  pub journal : Some given.journal.now ≡ first_of (codes "stored") rows

pub record HoldsRepair (given : RepairWords) (rows : List Row) : Type 0 where
  pub journal : Some given.journal.now ≡ first_of (codes "stored") rows
  pub keep : Some given.keep.now ≡ first_of (codes "keep") rows

pub record HoldsInspect (given : InspectWords) (rows : List Row) : Type 0 where
  pub numeric : texts given.numeric.items ≡ tables_of rows
  pub reports : Some (texts given.reports.items) ≡ all_of (codes "reports") rows
  pub allowing : text_of given.allowing ≡ first_of (codes "allowing") rows
  pub text : given.text ≡ is_given (codes "plain") rows

pub record HoldsThreads (given : ThreadsWords) (rows : List Row) : Type 0 where
  pub numeric : texts given.numeric.items ≡ tables_of rows
  pub history : text_of given.history ≡ first_of (codes "history") rows
  pub from : text_of given.from ≡ first_of (codes "from") rows
  pub journal : text_of given.journal ≡ first_of (codes "journal") rows
  pub scripts : Some (texts given.scripts.items) ≡ all_of (codes "scripts") rows
  pub explain : given.explain ≡ is_given (codes "explain") rows
  pub strict : given.strict ≡ is_given (codes "strict") rows

-- the command of this name was entered, with such rows
abbrev pub Enters : Text → (List Row → Type 0) → Option (Text × List Row) → Type 0
Enters name Holds (Some entered) = (entered.0 ≡ name) × Holds entered.1
Enters name Holds None = ⊥

-- the command of the invocation was entered, with what it was given
abbrev pub IsOrdered : Option (Text × List Row) → Invocation → Type 0
IsOrdered entered (Run given) = Enters (codes "run") (HoldsRun given) entered
IsOrdered entered (Load given) = Enters (codes "load") (HoldsLoad given) entered
IsOrdered entered (Check given) = Enters (codes "check") (HoldsCheck given) entered
IsOrdered entered (Show given) = Enters (codes "show") (HoldsShow given) entered
IsOrdered entered (Diff given) = Enters (codes "diff") (HoldsDiff given) entered
IsOrdered entered (Log given) = Enters (codes "log") (HoldsLog given) entered
IsOrdered entered (Verify given) = Enters (codes "verify") (HoldsVerify given) entered
IsOrdered entered (History given) = Enters (codes "history") (HoldsHistory given) entered
IsOrdered entered (Seal given) = Enters (codes "seal") (HoldsSeal given) entered
IsOrdered entered (Repair given) = Enters (codes "repair") (HoldsRepair given) entered
IsOrdered entered (Inspect given) = Enters (codes "inspect") (HoldsInspect given) entered
IsOrdered entered (Threads given) = Enters (codes "threads") (HoldsThreads given) entered
IsOrdered entered Explain = Enters (codes "words") (λ rows. Unit {0}) entered
IsOrdered entered Shown = ⊥

-- The words, the program's name before them, ask for this.
-- What is shown is asked for by words that the program does not take, and that clap answers with help; a command by words of which none is wrong.
abbrev pub Asks : List Text → Invocation → Type 0
Asks words Shown = (takes program words ≡ false)
    × (IsAmong DisplayHelp (fault_of program words) ⊎ IsAmong DisplayVersion (fault_of program words))
Asks words command = (fault_of program words ≡ []) × IsOrdered (subcommand_of program words) command
