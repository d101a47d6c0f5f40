-- What is done between a source and a sink, as between a reader and a writer.
use Rattle.std.proofs.Common.{◌≡◌, sym, subst, List, ℕ, Option, Result, OnOk}
use Rattle.line_io.specs.Devices.{SourceState, SinkState, new_source, new_sink}
use Rattle.filing.specs.Mistakes.{NotesMistakes}
use Rattle.filing.specs.Runs.{Over, OverWriter}
use Rattle.filing.specs.declared.reasons.explainer.Explainer.{Explainer}

pub over : {S T : Type 0} (source_state : S → SourceState) (sink_state : T → SinkState) (rest rest' written written' : Option (List ℕ))
    (done : S → S → SinkState → SinkState → Type 0) (source source' : S) (sink sink' : T) → source_state source ≡ new_source rest
    → rest' ≡ (source_state source').rest → sink_state sink ≡ new_sink written → written' ≡ (sink_state sink').written
    → done source source' (sink_state sink) (sink_state sink') → Over source_state sink_state rest rest' written written' done
over source_state sink_state rest rest' written written' done source source' sink sink' begins ends begun ended does = record {
  source = source;
  source' = source';
  sink = sink;
  sink' = sink';
  begins = begins;
  ends = ends;
  begun = begun;
  ended = ended;
  does = does;
}

pub over_writer : {T : Type 0} (state : T → SinkState) (written written' : Option (List ℕ)) (done : SinkState → SinkState → Type 0) (sink sink' : T)
    → state sink ≡ new_sink written → written' ≡ (state sink').written → done (state sink) (state sink') → OverWriter state written written' done
over_writer state written written' done sink sink' begins ends does =
    record { sink = sink; sink' = sink'; begins = begins; ends = ends; does = does }

-- what is noted of the replies that a writer has
pub noted_over : {T E : Type 0} (r : Result T E) (before after : Explainer) (first last written written' : Option (List ℕ))
    → first ≡ written → written' ≡ last → OnOk r (NotesMistakes first last before after) → OnOk r (NotesMistakes written written' before after)
noted_over r before after first last written written' begins ends noted =
    subst (λ w. OnOk r (NotesMistakes written w before after)) (sym ends) (subst (λ w. OnOk r (NotesMistakes w last before after)) begins noted)
