use Rattle.conformance.proofs.offices.end_at_once.Given as goal

-- the book and the ledgers that were just opened
abbrev pub ghosts-opened_and_finished-L-Ledger : goal.ghosts-opened_and_finished-L-Ledger
ghosts-opened_and_finished-L-Ledger g a = record { name = a.blanks.steps.name; parts = a.blanks.steps.parts }

abbrev pub ghosts-opened_and_finished-L-Naming : goal.ghosts-opened_and_finished-L-Naming
ghosts-opened_and_finished-L-Naming g a = record { book = a.blanks.unopened_log.seen.book }

abbrev pub ghosts-opened_and_finished-M-Ledger : goal.ghosts-opened_and_finished-M-Ledger
ghosts-opened_and_finished-M-Ledger g a = record { name = a.blanks.receipts.name; parts = a.blanks.receipts.parts }
