-- Which line of several scripts nests too deep for a journal. The project's own.
use Rattle.std.specs.Prelude.{◌≡◌, ℕ, ◌+◌, List, [], ◌∷◌, Option, Some, None, Result, Ok, Err}
use Rattle.std.specs.Option.{option_map_or}
use Rattle.std.specs.declared.alloc.AllocError.{AllocError}
use Rattle.filing_threads.specs.declared.fault.DeepLine.{DeepLine}
use Rattle.filing_threads.specs.declared.replies.Ending.{Ending}
use Rattle.filing_threads.specs.declared.replies.Ending.TheVariants.{Whole, StepStarved, LineStarved, TooDeep}
use Rattle.filing_threads.specs.declared.replies.Replies.{Replies}

abbrev pub deep_ending : ℕ → Ending → Option DeepLine
deep_ending script Whole = None
deep_ending script StepStarved = None
deep_ending script LineStarved = None
deep_ending script (TooDeep number) = Some (record { script = script; line = number })

-- the line of a script before which its run ended
abbrev pub deep_line : ℕ → Result Replies AllocError → Option DeepLine
deep_line script (Ok replies) = deep_ending script replies.ending
deep_line script (Err e) = None

-- the first of these lines, of scripts that are counted from this place on
abbrev pub deep_from : ℕ → List (Result Replies AllocError) → Option DeepLine
deep_from place [] = None
deep_from place (replies ∷ others) = option_map_or Some (deep_line place replies) (deep_from (place + 1) others)
