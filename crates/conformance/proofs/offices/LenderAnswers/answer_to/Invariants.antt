use Rattle.conformance.proofs.offices.LenderAnswers.answer_to.Given as goal

-- the book that was just opened
abbrev pub ghosts-play_lent : goal.ghosts-play_lent
ghosts-play_lent g a = record { book = a.unopened_log.seen.book }
