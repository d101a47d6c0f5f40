use Rattle.conformance.proofs.offices.PlayerAnswers.answer_to.Given as goal

-- the book and the ledgers that were just opened
abbrev pub ghosts-play-L-Ledger : goal.ghosts-play-L-Ledger
ghosts-play-L-Ledger g a = record { name = a.blanks.steps.name; parts = a.blanks.steps.parts }

abbrev pub ghosts-play-L-Naming : goal.ghosts-play-L-Naming
ghosts-play-L-Naming g a = record { book = a.blanks.unopened_log.seen.book }

abbrev pub ghosts-play-M-Ledger : goal.ghosts-play-M-Ledger
ghosts-play-M-Ledger g a = record { name = a.blanks.receipts.name; parts = a.blanks.receipts.parts }
