use Rattle.conformance.proofs.offices.run_crowd.Given as goal

-- the book and the ledgers that were just opened
abbrev pub ghosts-take_steps-L-Ledger : goal.ghosts-take_steps-L-Ledger
ghosts-take_steps-L-Ledger g a = record { name = a.blanks.steps.name; parts = a.blanks.steps.parts }

abbrev pub ghosts-take_steps-L-Naming : goal.ghosts-take_steps-L-Naming
ghosts-take_steps-L-Naming g a = record { book = a.blanks.unopened_log.seen.book }

abbrev pub ghosts-take_steps-M-Ledger : goal.ghosts-take_steps-M-Ledger
ghosts-take_steps-M-Ledger g a = record { name = a.blanks.receipts.name; parts = a.blanks.receipts.parts }
