-- Runs of a machine that carries a state which contracts do not see.
use Rattle.std.proofs.Common.{refl, subst, sym, ℕ, List, [], ◌∷◌}
use Rattle.std.specs.declared.result.Result.TheVariants.{Err}
use Rattle.filing_model.specs.Common.Text.{Text}
use Rattle.line_io.specs.Devices.{SourceState, SinkState}
use Rattle.line_io.specs.Lines.{whole_lines, spoken}
use Rattle.line_io.specs.Run.{Answers, Runs}
use Rattle.line_io.specs.declared.fault.ScriptFault.{ScriptFault}
use Rattle.line_io.specs.declared.fault.ScriptFault.TheVariants.{Read, Write, Endless, NoMemory}

-- each reply of the machine is one of the state, which it carries on
module _ {M S : Type 0} (R : M → Text → Text → M → Type 0) (Q : S → Text → Text → S → Type 0) (Holds : M → S → Type 0)
    (goes : (m n : M) (line text : Text) (s : S) → R m line text n → Holds m s → (t : S) × (Q s line text t × Holds n t)) where
  pub answers_carried : (lines texts : List Text) (m n : M) (s : S) → Answers R m lines texts n → Holds m s → (t : S) × (Answers Q s lines texts t × Holds n t)
  answers_carried [] [] m n s p holds = (s, (refl, subst (λ k. Holds k s) (sym p) holds))
  answers_carried [] (text ∷ texts) m n s p holds = absurd p
  answers_carried (line ∷ lines) [] m n s p holds = absurd p
  answers_carried (line ∷ lines) (text ∷ texts) m n s p holds =
      let here = goes m p.0 line text s p.1.0 holds in
      let rest = answers_carried lines texts p.0 n here.0 p.1.1 here.1.1 in
      (rest.0, ((here.0, (here.1.0, rest.1.0)), rest.1.1))

  module _ {T : Type 0} (state : T → SourceState) (reads : ℕ) (m n : M) (source source' : T) (sink sink' : SinkState) (s : S) (holds : Holds m s) where
    pub stops_carried : (fault : ScriptFault) → Runs {X = Unit {0}} R state reads (Err fault) m n source source' sink sink'
        → (t : S) × Runs {X = Unit {0}} Q state reads (Err fault) s t source source' sink sink'
    stops_carried Read p =
        let a = answers_carried (spoken (whole_lines p.given)) p.texts m n s p.answers holds in
        (a.0, record { given = p.given; texts = p.texts; gave = p.gave; answers = a.1.0; took = p.took })
    stops_carried Endless p =
        let a = answers_carried (spoken (whole_lines p.given)) p.texts m n s p.answers holds in
        (a.0, record { given = p.given; texts = p.texts; gave = p.gave; all_reads = p.all_reads; answers = a.1.0; took = p.took })
    stops_carried Write p =
        let a = answers_carried (spoken p.lines) p.texts m p.reached s p.answers holds in (
          s,
          record {
            given = p.given;
            ended = p.ended;
            gave = p.gave;
            lines = p.lines;
            later = p.later;
            front = p.front;
            texts = p.texts;
            reached = a.0;
            answers = a.1.0;
            took = p.took;
          },
        )
    stops_carried (NoMemory number) p =
        let a = answers_carried (spoken p.lines) p.texts m p.reached s p.answers holds in (
          s,
          record {
            given = p.given;
            ended = p.ended;
            gave = p.gave;
            earlier = p.earlier;
            last = p.last;
            pieces = p.pieces;
            lines = p.lines;
            later = p.later;
            front = p.front;
            counted = p.counted;
            begun = p.begun;
            answered_before = p.answered_before;
            texts = p.texts;
            reached = a.0;
            answers = a.1.0;
            took = p.took;
          },
        )
