-- Replies that wait, written out at the end of a piece or of a run.
use Rattle.std.proofs.Common.{◌≡◌, ℕ, List, [], ◌∷◌, ◌++◌, length, refl, sym, subst, inl, inr, arith, append-nil}
use Rattle.std.specs.declared.result.Result.{Result}
use Rattle.std.specs.declared.result.Result.TheVariants.{Ok, Err}
use Rattle.line_io.specs.declared.fault.ScriptFault.{ScriptFault}
use Rattle.line_io.specs.declared.fault.ScriptFault.TheVariants.{Read, Write, Endless, NoMemory}
use Rattle.line_io.specs.Text.{Text}
use Rattle.line_io.specs.Devices.{SinkState, Took, TookPart}
use Rattle.line_io.specs.Lines.{line_begun, spoken, lines_text}
use Rattle.line_io.specs.Conduct.{Conduct, KeepsOn}
use Rattle.line_io.specs.KeptRun.{WentOn}
use Rattle.line_io.specs.Pieces.{Standing, standing, Tells, Untold, KeepsNot, WasTold, HasAnswered, HasSent, HasNotKept, HasBroken, HasStarved}
use Rattle.line_io.specs.Pieces.{HasStopped, Takes, TakesOut, WritesOut}
use Rattle.line_io.proofs.DeviceSteps.{took_more}
use Rattle.line_io.proofs.KeptAnswers.{kept_after, went_after}
use Rattle.line_io.proofs.TakenLines.{sent_of, sent_out, part_out, answered_none}

module _ {M : Type 0} (C : Conduct M) (on : KeepsOn C) where
  -- what waits is written at the end
  told_out : (b : Standing M) (n a : M) (s1 s2 : SinkState) (w1 : Text) (lines : List Text)
      → HasSent C b (standing n s1 w1) lines → Tells C n a s1 s2 w1 → WasTold C b (standing a s2 []) lines
  unfolding spoken lines_text
  told_out b n a s1 s2 w1 lines p q = record {
    told = lines;
    since = [];
    parts = append-nil lines;
    texts = p.texts;
    kept = a;
    answers = kept_after C on p.answers q.keeps;
    tells = q.tells;
    took = subst (λ text. Took b.sink s2 text 0) p.sent.parts (took_more p.sent.took q.took);
    texts_since = [];
    answers_since = refl;
    waiting = refl;
  }

  pub answered_out : (b : Standing M) (n a : M) (s1 s2 : SinkState) (w1 : Text) (lines : List Text)
      → HasAnswered C b (standing n s1 w1) lines → Tells C n a s1 s2 w1 → HasAnswered C b (standing a s2 []) lines
  answered_out b n a s1 s2 w1 lines p q = inr (told_out b n a s1 s2 w1 lines (sent_of C on b (standing n s1 w1) lines p) q)

  pub not_kept_out : (b : Standing M) (n a : M) (s1 s2 : SinkState) (w1 w2 : Text) (lines : List Text)
      → HasAnswered C b (standing n s1 w1) lines → KeepsNot C n a s1 s2 → HasNotKept C b (standing a s2 w2) lines
  not_kept_out b n a s1 s2 w1 w2 lines p q = record {
    done = lines;
    later = [];
    front = append-nil lines;
    reached = n;
    waiting = w1;
    answered = subst (λ s. HasAnswered C b (standing n s w1) lines) (sym q.same_sink) p;
    went_on = inl q.keeps;
    has_failed = q.has_failed;
  }

  answered_untold : (b : Standing M) (n a : M) (s1 s2 : SinkState) (w1 w2 : Text) (lines : List Text)
      → HasAnswered C b (standing n s1 w1) lines → Untold C n a s1 s2 w1 → HasBroken C b (standing a s2 w2) lines
  answered_untold b n a s1 s2 w1 w2 lines p (inl q) =
      let sent : HasSent C b (standing n s1 w1) lines = sent_of C on b (standing n s1 w1) lines p in
      inl (record {
        done = lines;
        later = [];
        front = append-nil lines;
        texts = sent.texts;
        reached = n;
        answers = sent.answers;
        went_on = inl q.keeps;
        tells = q.tells;
        took = part_out sent.sent q.took;
      })
  answered_untold b n a s1 s2 w1 w2 lines p (inr q) = inr (not_kept_out b n a s1 s2 w1 w2 lines p q)

  stopped_out : (b : Standing M) (n a : M) (s1 s2 : SinkState) (w1 : Text) (lines : List Text) (count first number : ℕ)
      → HasStarved C b (standing n s1 w1) lines count first number → Tells C n a s1 s2 w1
      → HasStopped C b (standing a s2 []) lines count first number
  stopped_out b n a s1 s2 w1 lines count first number p q =
      let sent : HasSent C b (standing p.reached s1 w1) p.done = sent_of C on b (standing p.reached s1 w1) p.done p.answered in record {
        done = p.done;
        later = p.later;
        front = p.front;
        counted = p.counted;
        begun = p.begun;
        reached = p.reached;
        sent = record { texts = sent.texts; answers = sent.answers; sent = sent_out sent.sent q.took };
        went_on = went_after C on p.later p.reached n a p.went_on q.keeps;
        tells = q.tells;
      }

  starved_untold : (b : Standing M) (n a : M) (s1 s2 : SinkState) (w1 w2 : Text) (lines : List Text) (count first number : ℕ)
      → HasStarved C b (standing n s1 w1) lines count first number → Untold C n a s1 s2 w1 → HasBroken C b (standing a s2 w2) lines
  starved_untold b n a s1 s2 w1 w2 lines count first number p (inl q) =
      let sent : HasSent C b (standing p.reached s1 w1) p.done = sent_of C on b (standing p.reached s1 w1) p.done p.answered in
      inl (record {
        done = p.done;
        later = p.later;
        front = p.front;
        texts = sent.texts;
        reached = p.reached;
        answers = sent.answers;
        went_on = went_after C on p.later p.reached n a p.went_on q.keeps;
        tells = q.tells;
        took = part_out sent.sent q.took;
      })
  starved_untold b n a s1 s2 w1 w2 lines count first number p (inr q) = inr (record {
    done = p.done;
    later = p.later;
    front = p.front;
    reached = p.reached;
    waiting = w1;
    answered = subst (λ s. HasAnswered C b (standing p.reached s w1) p.done) (sym q.same_sink) p.answered;
    went_on = went_after C on p.later p.reached n a p.went_on q.keeps;
    has_failed = q.has_failed;
  })

  -- nothing more is done
  broken_kept : (b : Standing M) (n a : M) (s1 s2 : SinkState) (w1 w2 : Text) (lines : List Text)
      → HasBroken C b (standing n s1 w1) lines → a ≡ n → s2 ≡ s1 → HasBroken C b (standing a s2 w2) lines
  broken_kept b n a s1 s2 w1 w2 lines (inl p) same_machine same_sink = inl (record {
    done = p.done;
    later = p.later;
    front = p.front;
    texts = p.texts;
    reached = p.reached;
    answers = p.answers;
    went_on = subst (WentOn C p.later p.reached) (sym same_machine) p.went_on;
    tells = subst C.may_tell (sym same_machine) p.tells;
    took = subst (λ t. TookPart b.sink t (b.waiting ++ lines_text p.texts)) (sym same_sink) p.took;
  })
  broken_kept b n a s1 s2 w1 w2 lines (inr p) same_machine same_sink = inr (record {
    done = p.done;
    later = p.later;
    front = p.front;
    reached = p.reached;
    waiting = p.waiting;
    answered = subst (λ s. HasAnswered C b (standing p.reached s p.waiting) p.done) (sym same_sink) p.answered;
    went_on = subst (WentOn C p.later p.reached) (sym same_machine) p.went_on;
    has_failed = subst C.has_failed (sym same_machine) p.has_failed;
  })

  pub takes_out : {X : Type 0} (b : Standing M) (n a : M) (s1 s2 : SinkState) (w1 : Text) (lines : List Text) (count first : ℕ)
      (outcome result : Result X ScriptFault)
      → Takes C outcome b (standing n s1 w1) lines count first → WritesOut C outcome result n a s1 s2 w1
      → TakesOut C result b (standing a s2 []) lines count first
  takes_out b n a s1 s2 w1 lines count first (Ok x) result p q = elim q [
    | inl h ↦ subst (λ r. TakesOut C r b (standing a s2 []) lines count first) (sym h.0) (answered_out b n a s1 s2 w1 lines p h.1)
    | inr h ↦ subst (λ r. TakesOut C r b (standing a s2 []) lines count first) (sym h.0) (answered_untold b n a s1 s2 w1 [] lines p h.1)
  ]
  takes_out b n a s1 s2 w1 lines count first (Err Write) result p q =
      subst (λ r. TakesOut C r b (standing a s2 []) lines count first) (sym q.0) (broken_kept b n a s1 s2 w1 [] lines p q.1.0 q.1.1)
  takes_out b n a s1 s2 w1 lines count first (Err (NoMemory number)) result p q = elim q [
    | inl h ↦ subst (λ r. TakesOut C r b (standing a s2 []) lines count first) (sym h.0)
        (stopped_out b n a s1 s2 w1 lines count first number p h.1)
    | inr h ↦ subst (λ r. TakesOut C r b (standing a s2 []) lines count first) (sym h.0)
        (starved_untold b n a s1 s2 w1 [] lines count first number p h.1)
  ]
  takes_out b n a s1 s2 w1 lines count first (Err Read) result p q = absurd p
  takes_out b n a s1 s2 w1 lines count first (Err Endless) result p q = absurd p

  -- nothing follows the line begun
  finished_empty : (b : Standing M) (begun : Text) (first : ℕ) → length begun ≡ 0
      → Takes {X = Unit {0}} C (Ok tt) b b (line_begun begun) (length (line_begun begun)) first
  finished_empty b [] first none = answered_none C on b
  finished_empty b (byte ∷ begun) first none = absurd (omega arith)

  pub finished_out : (n a : M) (s s2 : SinkState) (w begun : Text) (first : ℕ) (result : Result (Unit {0}) ScriptFault)
      → length begun ≡ 0 → WritesOut C (Ok tt) result n a s s2 w
      → TakesOut C result (standing n s w) (standing a s2 []) (line_begun begun) (length (line_begun begun)) first
  finished_out n a s s2 w begun first result none p =
      let there = finished_empty (standing n s w) begun first none in
      takes_out (standing n s w) n a s s2 w (line_begun begun) (length (line_begun begun)) first (Ok tt) result there p
