-- What is written of the replies to several scripts. The project's own.
use Rattle.std.specs.Prelude.{◌≡◌, Bool, true, false, cond, ◌&&◌, List, [], ◌∷◌, ◌++◌, string_bytes, Result, Ok, Err}
use Rattle.std.specs.declared.alloc.AllocError.{AllocError}
use Rattle.filing_model.specs.Common.Text.{Text}
use Rattle.line_io.specs.Devices.{SinkState, Took, TookPart}
use Rattle.filing_threads.specs.declared.fault.ThreadsFault.{ThreadsFault}
use Rattle.filing_threads.specs.declared.fault.ThreadsFault.TheVariants.{Write, NoMemory, NoPlace}
use Rattle.filing_threads.specs.declared.replies.Ending.{Ending}
use Rattle.filing_threads.specs.declared.replies.Ending.TheVariants.{Whole, StepStarved, LineStarved, TooDeep}
use Rattle.filing_threads.specs.declared.replies.Replies.{Replies}

-- nothing is written after replies that end so
abbrev pub is_last : Ending → Bool
is_last Whole = false
is_last StepStarved = false
is_last LineStarved = true
is_last (TooDeep number) = false

-- memory was wanted for none of its lines
abbrev pub is_fed : Ending → Bool
is_fed Whole = true
is_fed StepStarved = false
is_fed LineStarved = false
is_fed (TooDeep number) = true

-- the replies of one script after another: up to one for which memory was wanted while a line was classified,
-- or for its replies
abbrev pub texts_of : List (Result Replies AllocError) → Text
texts_of [] = []
texts_of (Ok replies ∷ others) = string_bytes replies.text ++ cond (is_last replies.ending) [] (texts_of others)
texts_of (Err e ∷ others) = []

-- nor for those of any script: each line has its reply, but for those from one on that nests too deep for a journal
abbrev pub all_fed : List (Result Replies AllocError) → Bool
all_fed [] = true
all_fed (Ok replies ∷ others) = is_fed replies.ending && all_fed others
all_fed (Err e ∷ others) = false

-- all is written where memory was not wanted; a write failed after a front of it;
-- or memory was wanted, and all that there is is written
abbrev pub Writes : List (Result Replies AllocError) → Result (Unit {0}) ThreadsFault → SinkState → SinkState → Type 0
Writes replies (Ok x) sink sink' = Took sink sink' (texts_of replies) 0 × (all_fed replies ≡ true)
Writes replies (Err Write) sink sink' = TookPart sink sink' (texts_of replies)
Writes replies (Err NoMemory) sink sink' = Took sink sink' (texts_of replies) 0 × (all_fed replies ≡ false)
Writes replies (Err NoPlace) sink sink' = ⊥
