-- Runs of a machine that has nothing to keep.
use Rattle.std.proofs.Common.{◌≡◌, ℕ, List, [], ◌∷◌, inl, inr, sym, subst}
use Rattle.std.specs.declared.result.Result.{Result}
use Rattle.std.specs.declared.result.Result.TheVariants.{Ok, Err}
use Rattle.line_io.specs.Text.{Text}
use Rattle.line_io.specs.Conduct.{plain}
use Rattle.line_io.specs.Devices.{SourceState, SinkState}
use Rattle.line_io.specs.Lines.{lines_of, whole_lines, spoken}
use Rattle.line_io.specs.Run.{Answers, Runs}
use Rattle.line_io.specs.KeptRun.{RepliesKept, RunsKept}
use Rattle.line_io.specs.declared.fault.ScriptFault.{ScriptFault}
use Rattle.line_io.specs.declared.fault.ScriptFault.TheVariants.{Read, Write, Endless, NoMemory}

module _ {M : Type 0} (R : M → Text → Text → M → Type 0) where
  -- it answers as it does
  pub plain_answers : (m n : M) (lines texts : List Text) → Answers (RepliesKept (plain R)) m lines texts n → Answers R m lines texts n
  plain_answers m n [] [] p = p
  plain_answers m n [] (text ∷ texts) p = absurd p
  plain_answers m n (line ∷ lines) [] p = absurd p
  plain_answers m n (line ∷ lines) (text ∷ texts) p =
      (p.0, (subst (λ k. R k line text p.0) p.1.0.keeps p.1.0.replies, plain_answers p.0 n lines texts p.1.1))

  -- and is left as it was by what it keeps
  plain_answers_to : (m n after : M) (lines texts : List Text) → Answers (RepliesKept (plain R)) m lines texts n → after ≡ n
      → Answers R m lines texts after
  plain_answers_to m n after lines texts p is = subst (Answers R m lines texts) (sym is) (plain_answers m n lines texts p)

  -- what holds of a run of a machine holds of one that has nothing to keep
  pub plain_runs : {X S : Type 0} (state : S → SourceState) (reads : ℕ) (result : Result X ScriptFault) (before after : M)
      (source source' : S) (sink sink' : SinkState) → RunsKept (plain R) state reads result before after source source' sink sink'
      → Runs R state reads result before after source source' sink sink'
  plain_runs state reads (Ok x) before after source source' sink sink' p = record {
    given = p.run.given;
    texts = p.run.texts;
    gave = p.run.gave;
    at_end = p.run.at_end;
    answers = plain_answers_to before p.reached after (spoken (lines_of p.run.given)) p.run.texts p.run.answers p.keeps;
    took = p.run.took;
  }
  plain_runs state reads (Err Read) before after source source' sink sink' p = record {
    given = p.run.given;
    texts = p.run.texts;
    gave = p.run.gave;
    answers = plain_answers_to before p.reached after (spoken (whole_lines p.run.given)) p.run.texts p.run.answers p.keeps;
    took = p.run.took;
  }
  plain_runs state reads (Err Endless) before after source source' sink sink' p = record {
    given = p.run.given;
    texts = p.run.texts;
    gave = p.run.gave;
    all_reads = p.run.all_reads;
    answers = plain_answers_to before p.reached after (spoken (whole_lines p.run.given)) p.run.texts p.run.answers p.keeps;
    took = p.run.took;
  }
  plain_runs state reads (Err Write) before after source source' sink sink' (inl p) = record {
    given = p.run.given;
    ended = p.run.ended;
    gave = p.run.gave;
    lines = p.run.lines;
    later = p.run.later;
    front = p.run.front;
    texts = p.run.texts;
    reached = p.run.reached;
    answers = plain_answers before p.run.reached (spoken p.run.lines) p.run.texts p.run.answers;
    took = p.run.took;
  }
  plain_runs state reads (Err Write) before after source source' sink sink' (inr p) = absurd p.has_failed
  plain_runs state reads (Err (NoMemory number)) before after source source' sink sink' p = record {
    given = p.run.given;
    ended = p.run.ended;
    gave = p.run.gave;
    earlier = p.run.earlier;
    last = p.run.last;
    pieces = p.run.pieces;
    lines = p.run.lines;
    later = p.run.later;
    front = p.run.front;
    counted = p.run.counted;
    begun = p.run.begun;
    answered_before = p.run.answered_before;
    texts = p.run.texts;
    reached = p.run.reached;
    answers = plain_answers before p.run.reached (spoken p.run.lines) p.run.texts p.run.answers;
    took = p.run.took;
  }
