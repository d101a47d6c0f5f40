use Rattle.conformance.proofs.callers.show_desks.Given as goal

-- the book and the ledgers that were just opened
abbrev pub ghosts-run_office-L-Ledger : goal.ghosts-run_office-L-Ledger
ghosts-run_office-L-Ledger g a = record { name = a.blanks.steps.name; parts = a.blanks.steps.parts }

abbrev pub ghosts-run_office-L-Naming : goal.ghosts-run_office-L-Naming
ghosts-run_office-L-Naming g a = record { book = a.blanks.unopened_log.seen.book }

abbrev pub ghosts-run_office-M-Ledger : goal.ghosts-run_office-M-Ledger
ghosts-run_office-M-Ledger g a = record { name = a.blanks.receipts.name; parts = a.blanks.receipts.parts }
