-- What sources and sinks of bytes tell of themselves, and what a call of one does to it. All of it is the project's own.
use Rattle.std.specs.Prelude.{◌≡◌, ℕ, ◌+◌, ◌<◌, Bool, true, [], ◌++◌, length, if◌then◌else◌}
use Rattle.std.specs.declared.option.Option.{Option}
use Rattle.std.specs.Io.KnownBytes.{Consumes, Appends}
use Rattle.line_io.specs.Text.{Text}

-- a source: the bytes still to come, where they are known, and how many of its reads there were, met the end, and failed
pub record SourceState : Type 0 where
  pub rest : Option Text
  pub reads : ℕ
  pub ends : ℕ
  pub failed : ℕ

-- a sink: the bytes written so far, where they are known, and how many of its writes failed
pub record SinkState : Type 0 where
  pub written : Option Text
  pub failed : ℕ

-- a count of the calls that move nothing of a buffer that is not empty, at a call that moves `moved` of `length` bytes
pub record CountsNothing (old new moved length : ℕ) : Type 0 where
  pub nothing : moved ≡ 0 → 0 < length → new ≡ old + 1
  pub something : 0 < moved → new ≡ old
  pub empty : length ≡ 0 → new ≡ old

-- over some calls the source gave these bytes, and so many of the calls met the end and failed
pub record Gave (old new : SourceState) (given : Text) (ends failed : ℕ) : Type 0 where
  pub bytes : Consumes old.rest new.rest given
  pub ended : new.ends ≡ old.ends + ends
  pub failures : new.failed ≡ old.failed + failed

module _ {S : Type 0} (state : S → SourceState) (old new : S) (earlier last : Text) (ended : Bool) where
  -- the reads up to the last one gave `earlier`, and the source was then `between`; one more gave `last`, or met the end and gave nothing
  pub record LastRead : Type 0 where
    pub between : S
    pub before : Gave (state old) (state between) earlier 0 0
    pub gave : Gave (state between) (state new) last (if ended then 1 else 0) 0
    pub one : (state new).reads ≡ (state between).reads + 1
    pub end_is_empty : ended ≡ true → last ≡ []

-- over some calls the sink took these bytes, and so many of the calls failed
pub record Took (old new : SinkState) (text : Text) (failed : ℕ) : Type 0 where
  pub bytes : Appends old.written new.written text
  pub failures : new.failed ≡ old.failed + failed

-- the last call failed before all of the text was taken, and a front of it was taken
pub record TookPart (old new : SinkState) (text : Text) : Type 0 where
  pub part : Text
  pub left : Text
  pub parts : text ≡ part ++ left
  pub some_left : 0 < length left
  pub took : Took old new part 1

-- a source of which nothing was read
abbrev pub new_source : Option Text → SourceState
new_source rest = record { rest = rest; reads = 0; ends = 0; failed = 0 }

-- a sink to which nothing was written
abbrev pub new_sink : Option Text → SinkState
new_sink written = record { written = written; failed = 0 }
