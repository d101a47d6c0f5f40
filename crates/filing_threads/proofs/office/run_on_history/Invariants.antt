-- The book and the ledgers are those that were just opened.
use Rattle.filing_threads.proofs.office.run_on_history.Given as goal

abbrev pub ghosts-run_at_named_office-L-Ledger : goal.ghosts-run_at_named_office-L-Ledger
ghosts-run_at_named_office-L-Ledger g a = record { name = a.blanks.steps.name; parts = a.blanks.steps.parts }

abbrev pub ghosts-run_at_named_office-L-Naming : goal.ghosts-run_at_named_office-L-Naming
ghosts-run_at_named_office-L-Naming g a = record { book = a.blanks.unopened_log.seen.book }

abbrev pub ghosts-run_at_named_office-M-Ledger : goal.ghosts-run_at_named_office-M-Ledger
ghosts-run_at_named_office-M-Ledger g a = record { name = a.blanks.receipts.name; parts = a.blanks.receipts.parts }
