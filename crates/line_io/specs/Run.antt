-- What a run of a machine over the lines of a source leaves, by its result. All of it is the project's own.
use Rattle.std.specs.Prelude.{◌≡◌, ℕ, ◌+◌, ◌≤◌, ◌⊎◌, Bool, List, [], ◌∷◌, ◌++◌, length, if◌then◌else◌}
use Rattle.std.specs.declared.result.Result.{Result}
use Rattle.std.specs.declared.result.Result.TheVariants.{Ok, Err}
use Rattle.std.specs.Io.KnownBytes.{IsAtEnd}
use Rattle.line_io.specs.Text.{Text}
use Rattle.line_io.specs.Devices.{SourceState, SinkState, Gave, LastRead, Took, TookPart}
use Rattle.line_io.specs.Lines.{whole_lines, lines_of, lines_read, spoken, lines_text}
use Rattle.line_io.specs.declared.fault.ScriptFault.{ScriptFault}
use Rattle.line_io.specs.declared.fault.ScriptFault.TheVariants.{Read, Write, Endless, NoMemory}

-- the machine answers these lines with these replies, one after another, and is then `after`
abbrev pub Answers : {M : Type 0} → (M → Text → Text → M → Type 0) → M → List Text → List Text → M → Type 0
Answers replies before [] [] after = after ≡ before
Answers replies before [] (text ∷ texts) after = ⊥
Answers replies before (line ∷ lines) [] after = ⊥
Answers {M} replies before (line ∷ lines) (text ∷ texts) after =
    (next : M) × (replies before line text next × Answers replies next lines texts after)

-- the replies to the lines, where a function gives the reply to a line and the state after it
abbrev pub replies_by : {S : Type 0} → (S → Text → Text × S) → S → List Text → List Text
replies_by step state [] = []
replies_by step state (line ∷ lines) = (step state line).0 ∷ replies_by step (step state line).1 lines

-- the state after the lines
abbrev pub state_after : {S : Type 0} → (S → Text → Text × S) → S → List Text → S
state_after step state [] = state
state_after step state (line ∷ lines) = state_after step (step state line).1 lines

module _ {M : Type 0} (replies : M → Text → Text → M → Type 0) (before after : M)
    (source source' : SourceState) (sink sink' : SinkState) where
  -- the source was read to its end, every line has its reply, and nothing else is written
  pub record IsAnswered : Type 0 where
    pub given : Text
    pub texts : List Text
    pub gave : Gave source source' given 1 0
    pub at_end : IsAtEnd source'.rest
    pub answers : Answers replies before (spoken (lines_of given)) texts after
    pub took : Took sink sink' (lines_text texts) 0

  -- a read failed: every whole line before it has its reply, and nothing else is written
  pub record IsUnread : Type 0 where
    pub given : Text
    pub texts : List Text
    pub gave : Gave source source' given 0 1
    pub answers : Answers replies before (spoken (whole_lines given)) texts after
    pub took : Took sink sink' (lines_text texts) 0

  -- as many reads were made as the bound allows, none met the end or failed, every whole line has its reply, and nothing else is written
  pub record IsEndless (reads : ℕ) : Type 0 where
    pub given : Text
    pub texts : List Text
    pub gave : Gave source source' given 0 0
    pub all_reads : source'.reads ≡ source.reads + reads
    pub answers : Answers replies before (spoken (whole_lines given)) texts after
    pub took : Took sink sink' (lines_text texts) 0

  -- a write failed: some of the first lines were answered, and a front of their replies is written. The machine may have gone on from what it had reached
  pub record IsUnwritten : Type 0 where
    pub given : Text
    pub ended : Bool
    pub gave : Gave source source' given (if ended then 1 else 0) 0
    pub lines : List Text
    pub later : List Text
    pub front : lines ++ later ≡ lines_read ended given
    pub texts : List Text
    pub reached : M
    pub answers : Answers replies before (spoken lines) texts reached
    pub took : TookPart sink sink' (lines_text texts)

module _ {M S : Type 0} (replies : M → Text → Text → M → Type 0) (state : S → SourceState) (before after : M)
    (source source' : S) (sink sink' : SinkState) where
  -- memory was refused at a line: every line before it has its reply, and nothing else is written. The machine may have gone on from what it had reached
  pub record IsStarved (number : ℕ) : Type 0 where
    pub given : Text
    pub ended : Bool
    pub gave : Gave (state source) (state source') given (if ended then 1 else 0) 0
    -- what the last read gave, and what the reads before it had given
    pub earlier : Text
    pub last : Text
    pub pieces : given ≡ earlier ++ last
    pub lines : List Text
    pub later : List Text
    pub front : lines ++ later ≡ lines_read ended given
    pub counted : number ≡ length lines + 1
    -- nothing was read yet, or the line was begun
    pub begun : ((source' ≡ source) × (given ≡ []))
        ⊎ ((number ≤ length (lines_of given)) × LastRead state source source' earlier last ended)
    -- it is none of the lines that had ended before the last read: all of those are answered
    pub answered_before : length (whole_lines earlier) ≤ length lines
    pub texts : List Text
    pub reached : M
    pub answers : Answers replies before (spoken lines) texts reached
    pub took : Took sink sink' (lines_text texts) 0

-- what holds of each result of a run over a source that tells this state
abbrev pub Runs : {X M S : Type 0} → (M → Text → Text → M → Type 0) → (S → SourceState) → ℕ → Result X ScriptFault
    → M → M → S → S → SinkState → SinkState → Type 0
Runs replies state reads (Ok x) before after source source' sink sink' =
    IsAnswered replies before after (state source) (state source') sink sink'
Runs replies state reads (Err Read) before after source source' sink sink' =
    IsUnread replies before after (state source) (state source') sink sink'
Runs replies state reads (Err Endless) before after source source' sink sink' =
    IsEndless replies before after (state source) (state source') sink sink' reads
Runs replies state reads (Err Write) before after source source' sink sink' =
    IsUnwritten replies before after (state source) (state source') sink sink'
Runs replies state reads (Err (NoMemory number)) before after source source' sink sink' =
    IsStarved replies state before after source source' sink sink' number
