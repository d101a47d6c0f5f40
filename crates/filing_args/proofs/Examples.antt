-- What the program makes of words that are written out, of most commands once; `tools/runs` has more.
use Rattle.std.proofs.Common.{◌≡◌, refl, codes, Bool, true, false, List, [], ◌∷◌, Option, Some, None}
use Rattle.clap.specs.Words.{Row, Text, all_of, fault_of, first_of, subcommand_of, takes}
use Rattle.clap.specs.declared.error.kind.ErrorKind.TheVariants.{DisplayVersion}
use Rattle.filing_args.proofs.OnLiterals.{filing_args_on_literals}
use Rattle.filing_args.specs.Words.{Enters, is_given, is_seal, program, tables_of}

-- these words enter the command of this name, with such rows
abbrev AreWordsOf : List Text → Text → (List Row → Type 0) → Type 0
AreWordsOf words name Holds = Enters name Holds (subcommand_of program (codes "filing" ∷ words))

-- of `run`, with these tables, this journal and no other file
abbrev Runs : List Text → List Text → Option Text → Bool → Type 0
Runs words tables journal waits = AreWordsOf words (codes "run") (λ rows. (tables_of rows ≡ tables) × (first_of (codes "history") rows ≡ None)
    × (first_of (codes "from") rows ≡ None) × (first_of (codes "journal") rows ≡ journal) × (is_given (codes "every_reply") rows ≡ waits)
    × (is_given (codes "explain") rows ≡ false) × (is_given (codes "strict") rows ≡ false))

abbrev is_taken : List Text → Bool
is_taken words = takes program (codes "filing" ∷ words)

-- `filing run --numeri t.txt`
cut_name : is_taken (codes "run" ∷ codes "--numeri" ∷ codes "t.txt" ∷ []) ≡ false
unfolding filing_args_on_literals
cut_name = refl

-- `filing run --numeric a --numeric - --numeric a`
tables_in_their_order : Runs (codes "run" ∷ codes "--numeric" ∷ codes "a" ∷ codes "--numeric" ∷ codes "-" ∷ codes "--numeric" ∷ codes "a" ∷ [])
    (codes "a" ∷ codes "-" ∷ codes "a" ∷ []) None false
unfolding filing_args_on_literals
tables_in_their_order = (refl, (refl, refl, refl, refl, refl, refl, refl))

tables_in_their_order_taken : is_taken (codes "run" ∷ codes "--numeric" ∷ codes "a" ∷ codes "--numeric" ∷ codes "-" ∷ codes "--numeric" ∷ codes "a" ∷ []) ≡ true
unfolding filing_args_on_literals
tables_in_their_order_taken = refl

-- `filing run --journal j.jsonl --every-reply`
with_journal : Runs (codes "run" ∷ codes "--journal" ∷ codes "j.jsonl" ∷ codes "--every-reply" ∷ []) [] (Some (codes "j.jsonl")) true
unfolding filing_args_on_literals
with_journal = (refl, (refl, refl, refl, refl, refl, refl, refl))

-- `filing load --journal j.jsonl --numeric t.txt r1=a.json reports`
reports_loaded : AreWordsOf (codes "load" ∷ codes "--journal" ∷ codes "j.jsonl" ∷ codes "--numeric" ∷ codes "t.txt" ∷ codes "r1=a.json" ∷ codes "reports" ∷ [])
    (codes "load") (λ rows. (tables_of rows ≡ codes "t.txt" ∷ []) × (first_of (codes "keeping") rows ≡ Some (codes "j.jsonl"))
    × (all_of (codes "loaded") rows ≡ Some (codes "r1=a.json" ∷ codes "reports" ∷ [])))
unfolding filing_args_on_literals
reports_loaded = (refl, (refl, refl, refl))

-- `filing check h.jsonl --numeric t.txt`
judged_by_table : AreWordsOf (codes "check" ∷ codes "h.jsonl" ∷ codes "--numeric" ∷ codes "t.txt" ∷ [])
    (codes "check") (λ rows. (tables_of rows ≡ codes "t.txt" ∷ []) × (first_of (codes "judged") rows ≡ Some (codes "h.jsonl"))
    × (is_given (codes "explain") rows ≡ false))
unfolding filing_args_on_literals
judged_by_table = (refl, (refl, refl, refl))

-- `filing show --at 7 --numeric t.txt h.jsonl r1`
shown_at_version : AreWordsOf (codes "show" ∷ codes "--at" ∷ codes "7" ∷ codes "--numeric" ∷ codes "t.txt" ∷ codes "h.jsonl" ∷ codes "r1" ∷ [])
    (codes "show") (λ rows. (tables_of rows ≡ codes "t.txt" ∷ []) × (first_of (codes "at") rows ≡ Some (codes "7"))
    × (first_of (codes "viewed") rows ≡ Some (codes "h.jsonl")) × (first_of (codes "report") rows ≡ Some (codes "r1")))
unfolding filing_args_on_literals
shown_at_version = (refl, (refl, refl, refl, refl))

-- `filing diff h.jsonl 3 7 r1`
versions_compared : AreWordsOf (codes "diff" ∷ codes "h.jsonl" ∷ codes "3" ∷ codes "7" ∷ codes "r1" ∷ [])
    (codes "diff") (λ rows. (tables_of rows ≡ []) × (first_of (codes "viewed") rows ≡ Some (codes "h.jsonl"))
    × (first_of (codes "earlier") rows ≡ Some (codes "3")) × (first_of (codes "later") rows ≡ Some (codes "7"))
    × (first_of (codes "report") rows ≡ Some (codes "r1")))
unfolding filing_args_on_literals
versions_compared = (refl, (refl, refl, refl, refl, refl))

-- `filing log h.jsonl --svg --first 201`
sessions_drawn : AreWordsOf (codes "log" ∷ codes "h.jsonl" ∷ codes "--svg" ∷ codes "--first" ∷ codes "201" ∷ [])
    (codes "log") (λ rows. (tables_of rows ≡ []) × (first_of (codes "viewed") rows ≡ Some (codes "h.jsonl"))
    × (is_given (codes "svg") rows ≡ true) × (first_of (codes "first") rows ≡ Some (codes "201")))
unfolding filing_args_on_literals
sessions_drawn = (refl, (refl, refl, refl, refl))

-- `filing log --fact j.jsonl r1 f1`
changes_told : AreWordsOf (codes "log" ∷ codes "--fact" ∷ codes "j.jsonl" ∷ codes "r1" ∷ codes "f1" ∷ [])
    (codes "log") (λ rows. (first_of (codes "viewed") rows ≡ Some (codes "j.jsonl")) × (first_of (codes "report") rows ≡ Some (codes "r1"))
    × (first_of (codes "identifier") rows ≡ Some (codes "f1")) × (is_given (codes "fact") rows ≡ true))
unfolding filing_args_on_literals
changes_told = (refl, (refl, refl, refl, refl))

-- `filing verify --explain --seal 0f j.jsonl`
journal_verified : AreWordsOf (codes "verify" ∷ codes "--explain" ∷ codes "--seal" ∷ codes "0f" ∷ codes "j.jsonl" ∷ [])
    (codes "verify") (λ rows. (first_of (codes "stored") rows ≡ Some (codes "j.jsonl")) × (first_of (codes "seal") rows ≡ Some (codes "0f"))
    × (is_given (codes "explain") rows ≡ true))
unfolding filing_args_on_literals
journal_verified = (refl, (refl, refl, refl))

-- `filing history j.jsonl`
history_written : AreWordsOf (codes "history" ∷ codes "j.jsonl" ∷ []) (codes "history") (λ rows. first_of (codes "stored") rows ≡ Some (codes "j.jsonl"))
unfolding filing_args_on_literals
history_written = (refl, refl)

-- `filing seal j.jsonl`
journal_sealed : AreWordsOf (codes "seal" ∷ codes "j.jsonl" ∷ []) (codes "seal") (λ rows. first_of (codes "stored") rows ≡ Some (codes "j.jsonl"))
unfolding filing_args_on_literals
journal_sealed = (refl, refl)

-- `filing repair j.jsonl --keep 12`, and without a number
journal_repaired : AreWordsOf (codes "repair" ∷ codes "j.jsonl" ∷ codes "--keep" ∷ codes "12" ∷ [])
    (codes "repair") (λ rows. (first_of (codes "stored") rows ≡ Some (codes "j.jsonl")) × (first_of (codes "keep") rows ≡ Some (codes "12")))
unfolding filing_args_on_literals
journal_repaired = (refl, (refl, refl))

repaired_by_number : is_taken (codes "repair" ∷ codes "j.jsonl" ∷ []) ≡ false
unfolding filing_args_on_literals
repaired_by_number = refl

-- 64 digits are a seal; a digit more, or a capital among them, is none
digits_of_a_seal : is_seal (codes "00112233445566778899aabbccddeeff00112233445566778899aabbccddeeff") ≡ true
digits_of_a_seal = refl

longer_than_a_seal : is_seal (codes "00112233445566778899aabbccddeeff00112233445566778899aabbccddeeff0") ≡ false
longer_than_a_seal = refl

capital_in_a_seal : is_seal (codes "00112233445566778899aabbccddeeff00112233445566778899aabbccddeefF") ≡ false
capital_in_a_seal = refl

-- `filing inspect --as none a.json b.json`
reports_inspected : AreWordsOf (codes "inspect" ∷ codes "--as" ∷ codes "none" ∷ codes "a.json" ∷ codes "b.json" ∷ [])
    (codes "inspect") (λ rows. (tables_of rows ≡ []) × (all_of (codes "reports") rows ≡ Some (codes "a.json" ∷ codes "b.json" ∷ []))
    × (first_of (codes "allowing") rows ≡ Some (codes "none")) × (is_given (codes "plain") rows ≡ false))
unfolding filing_args_on_literals
reports_inspected = (refl, (refl, refl, refl, refl))

-- `filing threads --explain --strict a`
threads_explained : AreWordsOf (codes "threads" ∷ codes "--explain" ∷ codes "--strict" ∷ codes "a" ∷ [])
    (codes "threads") (λ rows. (tables_of rows ≡ []) × (first_of (codes "history") rows ≡ None) × (first_of (codes "from") rows ≡ None)
    × (first_of (codes "journal") rows ≡ None) × (all_of (codes "scripts") rows ≡ Some (codes "a" ∷ []))
    × (is_given (codes "explain") rows ≡ true) × (is_given (codes "strict") rows ≡ true))
unfolding filing_args_on_literals
threads_explained = (refl, (refl, refl, refl, refl, refl, refl, refl))

-- `filing --version`
version_shown : fault_of program (codes "filing" ∷ codes "--version" ∷ []) ≡ DisplayVersion ∷ []
unfolding filing_args_on_literals
version_shown = refl
