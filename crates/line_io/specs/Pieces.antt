-- What a run has done and has in hand between two reads: private to the crate.
use Rattle.std.specs.Prelude.{◌≡◌, ℕ, ◌+◌, ◌<◌, ◌⊎◌, List, [], ◌∷◌, ◌++◌, length, if◌then◌else◌}
use Rattle.std.specs.declared.result.Result.{Result}
use Rattle.std.specs.declared.result.Result.TheVariants.{Ok, Err}
use Rattle.std.specs.List.{before_first, after_first, position_or_len}
use Rattle.line_io.specs.Text.{Text}
use Rattle.line_io.specs.Devices.{SinkState, Took, TookPart}
use Rattle.line_io.specs.Lines.{is_line_feed, line_begun, spoken, lines_text}
use Rattle.line_io.specs.Run.{Answers}
use Rattle.line_io.specs.Conduct.{Conduct}
use Rattle.line_io.specs.KeptRun.{AnswersKept, WentOn}
use Rattle.line_io.specs.declared.fault.ScriptFault.{ScriptFault}
use Rattle.line_io.specs.declared.fault.ScriptFault.TheVariants.{Read, Write, Endless, NoMemory}

-- the lines that a line feed ends in a piece, where the first of them was begun before it
unfoldable pub whole_from : Text → Text → List Text
whole_from begun [] = []
whole_from begun (byte ∷ bytes) =
    if is_line_feed byte then begun ∷ whole_from [] bytes else whole_from (begun ++ byte ∷ []) bytes

-- the line begun after the piece
unfoldable pub rest_from : Text → Text → Text
rest_from begun [] = begun
rest_from begun (byte ∷ bytes) = if is_line_feed byte then rest_from [] bytes else rest_from (begun ++ byte ∷ []) bytes

-- how many lines there are after the piece, the line begun among them
abbrev pub count_from : Text → Text → ℕ
count_from begun piece = length (whole_from begun piece) + length (line_begun (rest_from begun piece))

-- the text is cut at its first line feed
pub record IsCut (text line others : Text) : Type 0 where
  pub within : position_or_len is_line_feed text < length text
  pub line_is : line ≡ before_first is_line_feed text
  pub others_are : others ≡ after_first is_line_feed text

-- keeping failed, and nothing is written
pub record KeepsNot {M : Type 0} (C : Conduct M) (machine machine' : M) (sink sink' : SinkState) : Type 0 where
  pub keeps : C.keeps machine machine'
  pub has_failed : C.has_failed machine'
  pub same_sink : sink' ≡ sink

module _ {M : Type 0} (C : Conduct M) (machine machine' : M) (sink sink' : SinkState) (text : Text) where
  -- the machine kept what it did and might tell, and the text is written
  pub record Tells : Type 0 where
    pub keeps : C.keeps machine machine'
    pub tells : C.may_tell machine'
    pub took : Took sink sink' text 0

  -- the machine kept what it did and might tell, and a write of the text failed
  pub record TellsPart : Type 0 where
    pub keeps : C.keeps machine machine'
    pub tells : C.may_tell machine'
    pub took : TookPart sink sink' text

  -- a write failed, or keeping did
  abbrev pub Untold : Type 0
  Untold = TellsPart ⊎ KeepsNot C machine machine' sink sink'

-- a text waits after what waited; or both are written
abbrev pub HoldsOrTells : {M : Type 0} → Conduct M → M → M → SinkState → SinkState → Text → Text → Text → Type 0
HoldsOrTells C machine machine' sink sink' waiting waiting' text =
    ((machine' ≡ machine) × ((sink' ≡ sink) × (waiting' ≡ waiting ++ text)))
    ⊎ ((waiting' ≡ []) × Tells C machine machine' sink sink' (waiting ++ text))

-- what waited and the text are what was written and what waits now
pub record Sent (sink sink' : SinkState) (waiting waiting' text : Text) : Type 0 where
  pub written : Text
  pub took : Took sink sink' written 0
  pub parts : written ++ waiting' ≡ waiting ++ text

-- where a run stands between two lines: its machine, its sink, and the replies that wait
pub record Standing (M : Type 0) : Type 0 where
  pub machine : M
  pub sink : SinkState
  pub waiting : Text

abbrev pub standing : {M : Type 0} → M → SinkState → Text → Standing M
standing machine sink waiting = record { machine = machine; sink = sink; waiting = waiting }

module _ {M : Type 0} (C : Conduct M) (before after : Standing M) (lines : List Text) where
  -- the lines are answered, and their replies wait
  pub record Waits : Type 0 where
    pub texts : List Text
    pub answers : Answers C.replies before.machine (spoken lines) texts after.machine
    pub same_sink : after.sink ≡ before.sink
    pub waiting : after.waiting ≡ before.waiting ++ lines_text texts

  -- the replies to the first lines are written after all that waited, when the machine might tell; the others are answered, and their replies wait
  pub record WasTold : Type 0 where
    pub told : List Text
    pub since : List Text
    pub parts : told ++ since ≡ lines
    pub texts : List Text
    pub kept : M
    pub answers : AnswersKept C before.machine (spoken told) texts kept
    pub tells : C.may_tell kept
    pub took : Took before.sink after.sink (before.waiting ++ lines_text texts) 0
    pub texts_since : List Text
    pub answers_since : Answers C.replies kept (spoken since) texts_since after.machine
    pub waiting : after.waiting ≡ lines_text texts_since

  -- the lines are answered
  abbrev pub HasAnswered : Type 0
  HasAnswered = Waits ⊎ WasTold

  -- the lines are answered, and their replies are sent
  pub record HasSent : Type 0 where
    pub texts : List Text
    pub answers : AnswersKept C before.machine (spoken lines) texts after.machine
    pub sent : Sent before.sink after.sink before.waiting after.waiting (lines_text texts)

module _ {M : Type 0} (C : Conduct M) (before after : Standing M) (lines : List Text) where
  -- a write failed: the first lines are answered, and a front of what waited and their replies is written, as the machine might tell
  pub record HasFailed : Type 0 where
    pub done : List Text
    pub later : List Text
    pub front : done ++ later ≡ lines
    pub texts : List Text
    pub reached : M
    pub answers : AnswersKept C before.machine (spoken done) texts reached
    pub went_on : WentOn C later reached after.machine
    pub tells : C.may_tell after.machine
    pub took : TookPart before.sink after.sink (before.waiting ++ lines_text texts)

  -- keeping failed: the first lines are answered, and nothing is written after that
  pub record HasNotKept : Type 0 where
    pub done : List Text
    pub later : List Text
    pub front : done ++ later ≡ lines
    pub reached : M
    pub waiting : Text
    pub answered : HasAnswered C before (standing reached after.sink waiting) done
    pub went_on : WentOn C later reached after.machine
    pub has_failed : C.has_failed after.machine

  -- a write failed, or keeping did
  abbrev pub HasBroken : Type 0
  HasBroken = HasFailed ⊎ HasNotKept

  -- memory was refused at a line, one of `count`, of which the first has the number `first`: the lines before it are answered
  pub record HasStarved (count first number : ℕ) : Type 0 where
    pub done : List Text
    pub later : List Text
    pub front : done ++ later ≡ lines
    pub counted : number ≡ first + length done
    pub begun : length done < count
    pub reached : M
    pub answered : HasAnswered C before (standing reached after.sink after.waiting) done
    pub went_on : WentOn C later reached after.machine

  -- the same, once the machine kept what it did and their replies are written
  pub record HasStopped (count first number : ℕ) : Type 0 where
    pub done : List Text
    pub later : List Text
    pub front : done ++ later ≡ lines
    pub counted : number ≡ first + length done
    pub begun : length done < count
    pub reached : M
    pub sent : HasSent C before (standing reached after.sink after.waiting) done
    pub went_on : WentOn C later reached after.machine
    pub tells : C.may_tell after.machine

-- what holds of each result of taking some lines
abbrev pub Takes : {X M : Type 0} → Conduct M → Result X ScriptFault → Standing M → Standing M → List Text → ℕ → ℕ
    → Type 0
Takes C (Ok x) before after lines count first = HasAnswered C before after lines
Takes C (Err Write) before after lines count first = HasBroken C before after lines
Takes C (Err (NoMemory number)) before after lines count first = HasStarved C before after lines count first number
Takes C (Err Read) before after lines count first = ⊥
Takes C (Err Endless) before after lines count first = ⊥

-- what holds once their replies are written, too
abbrev pub TakesOut : {X M : Type 0} → Conduct M → Result X ScriptFault → Standing M → Standing M → List Text → ℕ → ℕ
    → Type 0
TakesOut C (Ok x) before after lines count first = HasAnswered C before after lines
TakesOut C (Err Write) before after lines count first = HasBroken C before after lines
TakesOut C (Err (NoMemory number)) before after lines count first = HasStopped C before after lines count first number
TakesOut C (Err Read) before after lines count first = ⊥
TakesOut C (Err Endless) before after lines count first = ⊥

-- after an outcome the machine keeps what it did, and the replies that wait are written; what fails of this takes the place
-- of the outcome. After a write or a keeping that failed nothing more is done
abbrev pub WritesOut : {X M : Type 0} → Conduct M → Result X ScriptFault → Result X ScriptFault → M → M → SinkState
    → SinkState → Text → Type 0
WritesOut C (Err Write) result machine machine' sink sink' waiting =
    (result ≡ Err Write) × ((machine' ≡ machine) × (sink' ≡ sink))
WritesOut C outcome result machine machine' sink sink' waiting =
    ((result ≡ outcome) × Tells C machine machine' sink sink' waiting)
    ⊎ ((result ≡ Err Write) × Untold C machine machine' sink sink' waiting)
