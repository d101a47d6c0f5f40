-- Lines that are taken one after another, and their replies.
use Rattle.std.proofs.Common.{◌≡◌, ℕ, ◌+◌, ◌<◌, ◌≤◌, true, false, not, cond, List, [], ◌∷◌, ◌++◌, length, refl}
use Rattle.std.proofs.Common.{sym, ◌∙◌, ap, subst, inl, inr, IfErr, OnErr, arith, append_assoc, length-append}
use Rattle.std.proofs.Common.{length-drop, ◌-◌, append-nil}
use Rattle.std.specs.declared.result.Result.{Result}
use Rattle.std.specs.declared.result.Result.TheVariants.{Ok, Err}
use Rattle.std.proofs.lemmas.List.Elements.{filter-append}
use Rattle.line_io.specs.declared.fault.ScriptFault.{ScriptFault}
use Rattle.line_io.specs.declared.fault.ScriptFault.TheVariants.{Read, Write, Endless, NoMemory}
use Rattle.line_io.specs.Text.{Text}
use Rattle.line_io.specs.Devices.{SinkState, Took, TookPart}
use Rattle.line_io.specs.Lines.{is_line_feed, line_begun, is_blank, spoken, lines_text}
use Rattle.line_io.specs.Conduct.{Conduct, KeepsOn}
use Rattle.line_io.specs.Run.{Answers}
use Rattle.line_io.specs.KeptRun.{AnswersKept}
use Rattle.std.specs.List.{before_first, after_first, position_or_len}
use Rattle.line_io.proofs.CutLines.{whole_at, rest_at, whole_none, rest_none}
use Rattle.line_io.specs.Pieces.{whole_from, rest_from, count_from, IsCut, Sent, Standing, standing}
use Rattle.line_io.specs.Pieces.{Tells, Untold, HoldsOrTells, Waits, WasTold, HasAnswered, HasSent, HasFailed, HasNotKept, HasBroken, HasStarved}
use Rattle.line_io.specs.Pieces.{HasStopped, Takes}
use Rattle.line_io.proofs.DeviceSteps.{took_none, took_more, part_after}
use Rattle.line_io.proofs.KeptAnswers.{Answers-append, AnswersKept-append, kept_answers, kept_after, went_longer}

pub spoken-append : (xs ys : List Text) → spoken (xs ++ ys) ≡ spoken xs ++ spoken ys
unfolding spoken
spoken-append xs ys = filter-append (λ line. not (is_blank line)) xs ys

pub lines_text-append : (xs ys : List Text) → lines_text (xs ++ ys) ≡ lines_text xs ++ lines_text ys
unfolding lines_text
lines_text-append [] ys = refl
lines_text-append (x ∷ xs) ys = ap (λ m. (x ++ (10 ∷ [])) ++ m) (lines_text-append xs ys) ∙ sym (append_assoc (x ++ (10 ∷ [])) (lines_text xs) (lines_text ys))

-- what is written at once does not wait
sent_now : {a b : SinkState} {waiting text : Text} → Took a b (waiting ++ text) 0 → Sent a b waiting [] text
sent_now {waiting = waiting} {text = text} p = record { written = waiting ++ text; took = p; parts = append-nil (waiting ++ text) }

-- more follows what waits now
joined : (written w1 y w x : Text) → written ++ w1 ≡ w ++ x → written ++ (w1 ++ y) ≡ w ++ (x ++ y)
joined written w1 y w x parts = sym (append_assoc written w1 y) ∙ (ap (λ m. m ++ y) parts ∙ append_assoc w x y)

-- replies sent one after another
sent_more : {a b c : SinkState} {w w1 w2 x y : Text} → Sent a b w w1 x → Sent b c w1 w2 y → Sent a c w w2 (x ++ y)
sent_more {w = w} {w1} {w2} {x} {y} p q = record {
  written = p.written ++ q.written;
  took = took_more p.took q.took;
  parts = append_assoc p.written q.written w2 ∙ (ap (λ m. p.written ++ m) q.parts ∙ joined p.written w1 y w x p.parts);
}

part_sent : {a b c : SinkState} {w w1 x : Text} (y : Text) → Sent a b w w1 x → TookPart b c (w1 ++ y) → TookPart a c (w ++ (x ++ y))
part_sent {a} {c = c} {w} {w1} {x} y p q = subst (TookPart a c) (joined p.written w1 y w x p.parts) (part_after p.took q)

pub sent_out : {a b c : SinkState} {w w1 x : Text} → Sent a b w w1 x → Took b c w1 0 → Sent a c w [] x
sent_out {a} {b} {c} p q = sent_now (subst (λ m. Took a c m 0) p.parts (took_more p.took q))

pub part_out : {a b c : SinkState} {w w1 x : Text} → Sent a b w w1 x → TookPart b c w1 → TookPart a c (w ++ x)
part_out {a} {b} {c} p q = subst (TookPart a c) p.parts (part_after p.took q)

spoken_blank : (line : Text) → is_blank line ≡ true → spoken (line ∷ []) ≡ []
unfolding spoken
spoken_blank line h = ap (λ b. cond (not b) (line ∷ []) []) h

spoken_one : (line : Text) → is_blank line ≡ false → spoken (line ∷ []) ≡ line ∷ []
unfolding spoken
spoken_one line h = ap (λ b. cond (not b) (line ∷ []) []) h

lines_text_one : (text : Text) → lines_text (text ∷ []) ≡ text ++ (10 ∷ [])
unfolding lines_text
lines_text_one text = append-nil (text ++ (10 ∷ []))

line_begun_one : (begun : Text) → 0 < length begun → length (line_begun begun) ≡ 1
line_begun_one [] some = absurd (omega arith)
line_begun_one (byte ∷ begun) some = refl

pub line_begun_is : (begun : Text) → 0 < length begun → line_begun begun ≡ (begun ++ []) ∷ []
line_begun_is [] some = absurd (omega arith)
line_begun_is (byte ∷ begun) some = ap (λ bytes. (byte ∷ bytes) ∷ []) (sym (append-nil begun))

-- some lines of a piece are taken, and the rest of the piece follows a line begun
pub record IsTaken {M : Type 0} (C : Conduct M) (b a : Standing M) (begun begun' : Text) (lines lines' : ℕ) (piece rest : Text) : Type 0 where
  pub taken : List Text
  pub whole : whole_from begun piece ≡ taken ++ whole_from begun' rest
  pub after : rest_from begun piece ≡ rest_from begun' rest
  pub counted : lines' ≡ lines + length taken
  pub room : length taken + length rest ≤ length piece
  pub answered : HasAnswered C b a taken

module _ {M : Type 0} (C : Conduct M) (on : KeepsOn C) where
  -- no line
  pub answered_none : (b : Standing M) → HasAnswered C b b []
  unfolding spoken lines_text
  answered_none b = inl (record { texts = []; answers = refl; same_sink = refl; waiting = sym (append-nil b.waiting) })

  pub answered_blank : (b : Standing M) (line : Text) → is_blank line ≡ true → HasAnswered C b b (line ∷ [])
  unfolding lines_text
  answered_blank b line h = inl (record {
    texts = [];
    answers = subst (λ lines. Answers C.replies b.machine lines [] b.machine) (sym (spoken_blank line h)) refl;
    same_sink = refl;
    waiting = sym (append-nil b.waiting);
  })

  one : (m a : M) (line reply : Text) → is_blank line ≡ false → C.replies m line reply a
      → Answers C.replies m (spoken (line ∷ [])) (reply ∷ []) a
  one m a line reply h r = subst (λ lines. Answers C.replies m lines (reply ∷ []) a) (sym (spoken_one line h)) (a, (r, refl))

  one_kept : (m a : M) (line reply : Text) → is_blank line ≡ false → C.replies m line reply a
      → AnswersKept C m (spoken (line ∷ [])) (reply ∷ []) a
  one_kept m a line reply h r = kept_answers C on m a (spoken (line ∷ [])) (reply ∷ []) (one m a line reply h r)

  -- a reply that waits
  one_waits : (m a : M) (s : SinkState) (w line reply : Text) → is_blank line ≡ false → C.replies m line reply a
      → HasAnswered C (standing m s w) (standing a s (w ++ (reply ++ (10 ∷ [])))) (line ∷ [])
  one_waits m a s w line reply h r = inl (record {
    texts = reply ∷ [];
    answers = one m a line reply h r;
    same_sink = refl;
    waiting = ap (λ text. w ++ text) (sym (lines_text_one reply));
  })

  told_one : (m n a : M) (s s' : SinkState) (w w' line reply : Text) → is_blank line ≡ false → C.replies m line reply n
      → w' ≡ [] → Tells C n a s s' (w ++ (reply ++ (10 ∷ []))) → WasTold C (standing m s w) (standing a s' w') (line ∷ [])
  unfolding spoken lines_text
  told_one m n a s s' w w' line reply h r none p = record {
    told = line ∷ [];
    since = [];
    parts = refl;
    texts = reply ∷ [];
    kept = a;
    answers = kept_after C on (one_kept m n line reply h r) p.keeps;
    tells = p.tells;
    took = subst (λ text. Took s s' (w ++ text) 0) (sym (lines_text_one reply)) p.took;
    texts_since = [];
    answers_since = refl;
    waiting = none;
  }

  pub answered_one : (m n a : M) (s s' : SinkState) (w w' line reply : Text) → is_blank line ≡ false → C.replies m line reply n
      → HoldsOrTells C n a s s' w w' (reply ++ (10 ∷ [])) → HasAnswered C (standing m s w) (standing a s' w') (line ∷ [])
  answered_one m n a s s' w w' line reply h r (inl held) =
      subst (λ n1. HasAnswered C (standing m s w) (standing n1 s' w') (line ∷ [])) (sym held.0)
      (subst (λ s1. HasAnswered C (standing m s w) (standing n s1 w') (line ∷ [])) (sym held.1.0)
      (subst (λ w1. HasAnswered C (standing m s w) (standing n s w1) (line ∷ [])) (sym held.1.1) (one_waits m n s w line reply h r)))
  answered_one m n a s s' w w' line reply h r (inr told) = inr (told_one m n a s s' w w' line reply h r told.0 told.1)

  pub broken_one : (m n a : M) (s s' : SinkState) (w w' line reply : Text) → is_blank line ≡ false → C.replies m line reply n
      → Untold C n a s s' (w ++ (reply ++ (10 ∷ []))) → HasBroken C (standing m s w) (standing a s' w') (line ∷ [])
  broken_one m n a s s' w w' line reply h r (inl p) = inl (record {
    done = line ∷ [];
    later = [];
    front = refl;
    texts = reply ∷ [];
    reached = n;
    answers = one_kept m n line reply h r;
    went_on = inl p.keeps;
    tells = p.tells;
    took = subst (λ text. TookPart s s' (w ++ text)) (sym (lines_text_one reply)) p.took;
  })
  broken_one m n a s s' w w' line reply h r (inr p) = inr (record {
    done = line ∷ [];
    later = [];
    front = refl;
    reached = n;
    waiting = w ++ (reply ++ (10 ∷ []));
    answered = subst (λ s1. HasAnswered C (standing m s w) (standing n s1 (w ++ (reply ++ (10 ∷ [])))) (line ∷ [])) (sym p.same_sink)
        (one_waits m n s w line reply h r);
    went_on = inl p.keeps;
    has_failed = p.has_failed;
  })

  -- memory is refused at a line that the machine was asked for
  pub starved_one : (m a : M) (s : SinkState) (w line : Text) (first : ℕ) → is_blank line ≡ false → C.starves m line a
      → HasStarved C (standing m s w) (standing a s w) (line ∷ []) 1 first first
  starved_one m a s w line first h starved = record {
    done = [];
    later = line ∷ [];
    front = refl;
    counted = omega arith;
    begun = omega arith;
    reached = m;
    answered = answered_none (standing m s w);
    went_on = inr (record {
      line = line;
      others = [];
      next = refl;
      not_blank = h;
      asked = m;
      keeps = on.nothing m;
      left = a;
      starves = starved;
      keeps_left = on.nothing a;
    });
  }

  -- memory is refused before the machine is asked
  pub starved_first : (b : Standing M) (lines : List Text) (count first : ℕ) → 0 < count → HasStarved C b b lines count first first
  starved_first b lines count first some = record {
    done = [];
    later = lines;
    front = refl;
    counted = omega arith;
    begun = some;
    reached = b.machine;
    answered = answered_none b;
    went_on = inl (on.nothing b.machine);
  }

  -- what is answered is sent
  pub sent_of : (b a : Standing M) (lines : List Text) → HasAnswered C b a lines → HasSent C b a lines
  sent_of b a lines (inl p) = record {
    texts = p.texts;
    answers = kept_answers C on b.machine a.machine (spoken lines) p.texts p.answers;
    sent = record { written = []; took = subst (λ s. Took b.sink s [] 0) (sym p.same_sink) (took_none b.sink); parts = p.waiting };
  }
  sent_of b a lines (inr p) = record {
    texts = p.texts ++ p.texts_since;
    answers = subst (λ ls. AnswersKept C b.machine ls (p.texts ++ p.texts_since) a.machine)
        (sym (spoken-append p.told p.since) ∙ ap spoken p.parts)
        (AnswersKept-append C on b.machine p.kept a.machine (spoken p.told) (spoken p.since) p.texts p.texts_since p.answers
        (kept_answers C on p.kept a.machine (spoken p.since) p.texts_since p.answers_since));
    sent = record {
      written = b.waiting ++ lines_text p.texts;
      took = p.took;
      parts = ap (λ m. (b.waiting ++ lines_text p.texts) ++ m) p.waiting
          ∙ (append_assoc b.waiting (lines_text p.texts) (lines_text p.texts_since)
          ∙ ap (λ m. b.waiting ++ m) (sym (lines_text-append p.texts p.texts_since)));
    };
  }

  pub sent_join : (b n a : Standing M) (lines more : List Text) → HasSent C b n lines → HasSent C n a more → HasSent C b a (lines ++ more)
  sent_join b n a lines more p q = record {
    texts = p.texts ++ q.texts;
    answers = subst (λ ls. AnswersKept C b.machine ls (p.texts ++ q.texts) a.machine) (sym (spoken-append lines more))
        (AnswersKept-append C on b.machine n.machine a.machine (spoken lines) (spoken more) p.texts q.texts p.answers q.answers);
    sent = subst (Sent b.sink a.sink b.waiting a.waiting) (sym (lines_text-append p.texts q.texts)) (sent_more p.sent q.sent);
  }

  -- lines that are answered after some that are
  more_waits : (b n a : Standing M) (lines more : List Text) → Waits C b n lines → Waits C n a more → Waits C b a (lines ++ more)
  more_waits b n a lines more p q = record {
    texts = p.texts ++ q.texts;
    answers = subst (λ ls. Answers C.replies b.machine ls (p.texts ++ q.texts) a.machine) (sym (spoken-append lines more))
        (Answers-append C.replies b.machine n.machine a.machine (spoken lines) (spoken more) p.texts q.texts p.answers q.answers);
    same_sink = q.same_sink ∙ p.same_sink;
    waiting = q.waiting ∙ (ap (λ m. m ++ lines_text q.texts) p.waiting
        ∙ (append_assoc b.waiting (lines_text p.texts) (lines_text q.texts)
        ∙ ap (λ m. b.waiting ++ m) (sym (lines_text-append p.texts q.texts))));
  }

  told_then_waits : (b n a : Standing M) (lines more : List Text) → WasTold C b n lines → Waits C n a more → WasTold C b a (lines ++ more)
  told_then_waits b n a lines more p q = record {
    told = p.told;
    since = p.since ++ more;
    parts = sym (append_assoc p.told p.since more) ∙ ap (λ m. m ++ more) p.parts;
    texts = p.texts;
    kept = p.kept;
    answers = p.answers;
    tells = p.tells;
    took = subst (λ s. Took b.sink s (b.waiting ++ lines_text p.texts) 0) (sym q.same_sink) p.took;
    texts_since = p.texts_since ++ q.texts;
    answers_since = subst (λ ls. Answers C.replies p.kept ls (p.texts_since ++ q.texts) a.machine) (sym (spoken-append p.since more))
        (Answers-append C.replies p.kept n.machine a.machine (spoken p.since) (spoken more) p.texts_since q.texts p.answers_since q.answers);
    waiting = q.waiting ∙ (ap (λ m. m ++ lines_text q.texts) p.waiting ∙ sym (lines_text-append p.texts_since q.texts));
  }

  sent_then_told : (b n a : Standing M) (lines more : List Text) → HasSent C b n lines → WasTold C n a more → WasTold C b a (lines ++ more)
  sent_then_told b n a lines more p q =
      let whole : p.sent.written ++ (n.waiting ++ lines_text q.texts) ≡ b.waiting ++ lines_text (p.texts ++ q.texts) =
      joined p.sent.written n.waiting (lines_text q.texts) b.waiting (lines_text p.texts) p.sent.parts
      ∙ ap (λ m. b.waiting ++ m) (sym (lines_text-append p.texts q.texts)) in
      record {
        told = lines ++ q.told;
        since = q.since;
        parts = append_assoc lines q.told q.since ∙ ap (λ m. lines ++ m) q.parts;
        texts = p.texts ++ q.texts;
        kept = q.kept;
        answers = subst (λ ls. AnswersKept C b.machine ls (p.texts ++ q.texts) q.kept) (sym (spoken-append lines q.told))
            (AnswersKept-append C on b.machine n.machine q.kept (spoken lines) (spoken q.told) p.texts q.texts p.answers q.answers);
        tells = q.tells;
        took = subst (λ text. Took b.sink a.sink text 0) whole (took_more p.sent.took q.took);
        texts_since = q.texts_since;
        answers_since = q.answers_since;
        waiting = q.waiting;
      }

  pub answered_more : (b n a : Standing M) (lines more : List Text) → HasAnswered C b n lines → HasAnswered C n a more
      → HasAnswered C b a (lines ++ more)
  answered_more b n a lines more (inl p) (inl q) = inl (more_waits b n a lines more p q)
  answered_more b n a lines more (inr p) (inl q) = inr (told_then_waits b n a lines more p q)
  answered_more b n a lines more p (inr q) = inr (sent_then_told b n a lines more (sent_of b n lines p) q)

  -- the first lines of all of them, after some that are answered
  done_more : (lines more done later others all : List Text) → done ++ later ≡ more → lines ++ (more ++ others) ≡ all
      → (lines ++ done) ++ (later ++ others) ≡ all
  done_more lines more done later others all front is = append_assoc lines done (later ++ others)
      ∙ (ap (λ m. lines ++ m) (sym (append_assoc done later others) ∙ ap (λ m. m ++ others) front) ∙ is)

  failed_more : (b n a : Standing M) (lines more others all : List Text)
      → HasSent C b n lines → HasFailed C n a more → lines ++ (more ++ others) ≡ all → HasFailed C b a all
  failed_more b n a lines more others all p q is = record {
    done = lines ++ q.done;
    later = q.later ++ others;
    front = done_more lines more q.done q.later others all q.front is;
    texts = p.texts ++ q.texts;
    reached = q.reached;
    answers = subst (λ ls. AnswersKept C b.machine ls (p.texts ++ q.texts) q.reached) (sym (spoken-append lines q.done))
        (AnswersKept-append C on b.machine n.machine q.reached (spoken lines) (spoken q.done) p.texts q.texts p.answers q.answers);
    went_on = went_longer C q.later others q.reached a.machine q.went_on;
    tells = q.tells;
    took = subst (λ text. TookPart b.sink a.sink (b.waiting ++ text)) (sym (lines_text-append p.texts q.texts))
        (part_sent (lines_text q.texts) p.sent q.took);
  }

  not_kept_more : (b n a : Standing M) (lines more others all : List Text)
      → HasAnswered C b n lines → HasNotKept C n a more → lines ++ (more ++ others) ≡ all → HasNotKept C b a all
  not_kept_more b n a lines more others all p q is = record {
    done = lines ++ q.done;
    later = q.later ++ others;
    front = done_more lines more q.done q.later others all q.front is;
    reached = q.reached;
    waiting = q.waiting;
    answered = answered_more b n (standing q.reached a.sink q.waiting) lines q.done p q.answered;
    went_on = went_longer C q.later others q.reached a.machine q.went_on;
    has_failed = q.has_failed;
  }

  pub broken_more : (b n a : Standing M) (lines more others all : List Text)
      → HasAnswered C b n lines → HasBroken C n a more → lines ++ (more ++ others) ≡ all → HasBroken C b a all
  broken_more b n a lines more others all p (inl q) is = inl (failed_more b n a lines more others all (sent_of b n lines p) q is)
  broken_more b n a lines more others all p (inr q) is = inr (not_kept_more b n a lines more others all p q is)

  pub starved_more : (b n a : Standing M) (lines more : List Text) (less next number : ℕ) (others all : List Text) (count first : ℕ)
      → HasAnswered C b n lines → HasStarved C n a more less next number → lines ++ (more ++ others) ≡ all
      → next ≡ first + length lines → length lines + less ≤ count → HasStarved C b a all count first number
  starved_more b n a lines more less next number others all count first p q is start room =
      let long = length-append lines q.done in record {
        done = lines ++ q.done;
        later = q.later ++ others;
        front = done_more lines more q.done q.later others all q.front is;
        counted = omega (arith, long, q.counted);
        begun = omega (arith, long, q.begun);
        reached = q.reached;
        answered = answered_more b n (standing q.reached a.sink a.waiting) lines q.done p q.answered;
        went_on = went_longer C q.later others q.reached a.machine q.went_on;
      }

  pub stopped_more : (b n a : Standing M) (lines more : List Text) (less next number count first : ℕ)
      → HasAnswered C b n lines → HasStopped C n a more less next number
      → next ≡ first + length lines → count ≡ length lines + less → HasStopped C b a (lines ++ more) count first number
  stopped_more b n a lines more less next number count first p q start size =
      let long = length-append lines q.done in record {
        done = lines ++ q.done;
        later = q.later;
        front = append_assoc lines q.done q.later ∙ ap (λ m. lines ++ m) q.front;
        counted = omega (arith, long, q.counted);
        begun = omega (arith, long, q.begun);
        reached = q.reached;
        sent = sent_join b n (standing q.reached a.sink a.waiting) lines q.done (sent_of b n lines p) q.sent;
        went_on = q.went_on;
        tells = q.tells;
      }

  pub taken_none : (b : Standing M) (begun : Text) (lines : ℕ) (piece : Text) → IsTaken C b b begun begun lines lines piece piece
  taken_none b begun lines piece = record {
    taken = [];
    whole = refl;
    after = refl;
    counted = omega arith;
    room = omega arith;
    answered = answered_none b;
  }

  -- the piece, once the next line is cut off
  next_whole : {b a : Standing M} {begun begun' : Text} {lines lines' : ℕ} {piece rest : Text} (line others : Text)
      → (p : IsTaken C b a begun begun' lines lines' piece rest) → IsCut rest line others
      → p.taken ++ (((begun' ++ line) ∷ []) ++ whole_from [] others) ≡ whole_from begun piece
  next_whole {begun' = begun'} {rest = rest} line others p cut =
      let first : whole_from begun' rest ≡ (begun' ++ before_first is_line_feed rest) ∷ whole_from [] (after_first is_line_feed rest) =
      whole_at begun' rest cut.within in
      let same : (begun' ++ line) ∷ whole_from [] others ≡ whole_from begun' rest =
      ap (λ l. (begun' ++ l) ∷ whole_from [] others) cut.line_is
      ∙ (ap (λ o. (begun' ++ before_first is_line_feed rest) ∷ whole_from [] o) cut.others_are ∙ sym first) in
      ap (λ ls. p.taken ++ ls) same ∙ sym p.whole

  pub taken_more : {b a c : Standing M} {begun begun' : Text} {lines lines' : ℕ} {piece rest line others : Text}
      (begun2 : Text) (lines2 : ℕ)
      → IsTaken C b a begun begun' lines lines' piece rest → IsCut rest line others
      → HasAnswered C a c ((begun' ++ line) ∷ []) → begun2 ≡ [] → lines2 ≡ lines' + 1
      → IsTaken C b c begun begun2 lines lines2 piece others
  taken_more {b} {a} {c} {begun' = begun'} {rest = rest} {line = line} {others = others} begun2 lines2 p cut q none more =
      let one : List Text = (begun' ++ line) ∷ [] in
      let long : length (p.taken ++ one) ≡ length p.taken + 1 = length-append p.taken one in
      let short : length others ≡ length rest - (position_or_len is_line_feed rest + 1) =
      ap length cut.others_are ∙ length-drop (position_or_len is_line_feed rest + 1) rest in
      let there : position_or_len is_line_feed rest < length rest = cut.within in
      record {
        taken = p.taken ++ one;
        whole = sym (ap (λ b. (p.taken ++ one) ++ whole_from b others) none
            ∙ (append_assoc p.taken one (whole_from [] others) ∙ next_whole line others p cut));
        after = p.after ∙ (rest_at begun' rest cut.within ∙ (ap (rest_from []) (sym cut.others_are) ∙ ap (λ b. rest_from b others) (sym none)));
        counted = omega (arith, p.counted, long);
        room = omega (arith, p.room, long, short);
        answered = answered_more b a c p.taken one p.answered q;
      }

  -- memory or a write is refused at the next line
  pub taken_err : {b a : Standing M} {begun begun' : Text} {lines lines' : ℕ} {piece rest line others : Text} (c : Standing M)
      (fault : ScriptFault) (result : Result (Unit {0}) ScriptFault)
      → IsTaken C b a begun begun' lines lines' piece rest → IsCut rest line others → result ≡ Err fault
      → Takes {X = Unit {0}} C (Err fault) a c ((begun' ++ line) ∷ []) 1 (lines' + 1)
      → Takes C result b c (whole_from begun piece) (count_from begun piece) (lines + 1)
  taken_err {b} {a} {begun = begun} {begun' = begun'} {lines = lines} {piece = piece} {line = line} {others = others} c Write result p cut is q =
      subst (λ r. Takes C r b c (whole_from begun piece) (count_from begun piece) (lines + 1)) (sym is)
      (broken_more b a c p.taken ((begun' ++ line) ∷ []) (whole_from [] others) (whole_from begun piece) p.answered q (next_whole line others p cut))
  taken_err {b} {a} {begun = begun} {begun' = begun'} {lines = lines} {lines' = lines'} {piece = piece} {line = line} {others = others} c
      (NoMemory number) result p cut is q =
      let one : List Text = (begun' ++ line) ∷ [] in
      let more : List Text = whole_from [] others in
      let whole : p.taken ++ (one ++ more) ≡ whole_from begun piece = next_whole line others p cut in
      let long : length (p.taken ++ (one ++ more)) ≡ length p.taken + length (one ++ more) = length-append p.taken (one ++ more) in
      let longer : length (one ++ more) ≡ length one + length more = length-append one more in
      let same : length (p.taken ++ (one ++ more)) ≡ length (whole_from begun piece) = ap length whole in
      subst (λ r. Takes C r b c (whole_from begun piece) (count_from begun piece) (lines + 1)) (sym is)
      (starved_more b a c p.taken one 1 (lines' + 1) number more (whole_from begun piece) (count_from begun piece) (lines + 1) p.answered q whole
      (omega (arith, p.counted)) (omega (arith, long, longer, same)))
  taken_err c Read result p cut is q = absurd q
  taken_err c Endless result p cut is q = absurd q

  starved_end : (b a : Standing M) (lines whole : List Text) (count first number : ℕ) → HasAnswered C b a lines → whole ≡ lines
      → number ≡ first + length lines → length lines < count → HasStarved C b a whole count first number
  starved_end b a lines whole count first number p is counted begun = record {
    done = lines;
    later = [];
    front = append-nil lines ∙ sym is;
    counted = counted;
    begun = begun;
    reached = a.machine;
    answered = p;
    went_on = inl (on.nothing a.machine);
  }

  -- the rest of the piece has no line feed
  pub taken_end : {b : Standing M} {a : M} {s : SinkState} {w begun begun' : Text} {lines lines' : ℕ} {piece rest : Text}
      (result : Result (Unit {0}) ScriptFault) (w2 : Text)
      → IsTaken C b (standing a s w) begun begun' lines lines' piece rest → position_or_len is_line_feed rest ≡ length rest → w2 ≡ w
      → IfErr result (λ fault. fault ≡ NoMemory (lines' + 1)) → OnErr result (0 < length rest)
      → Takes C result b (standing a s w2) (whole_from begun piece) (count_from begun piece) (lines + 1)
  taken_end {b} {a} {s} {w} {begun = begun} {begun' = begun'} {piece = piece} {rest = rest} (Ok x) w2 p none same fault some =
      let whole : whole_from begun piece ≡ p.taken ++ [] = p.whole ∙ ap (λ ls. p.taken ++ ls) (whole_none begun' rest none) in
      let there : HasAnswered C b (standing a s w) (p.taken ++ []) =
      answered_more b (standing a s w) (standing a s w) p.taken [] p.answered (answered_none (standing a s w)) in
      subst (λ w3. HasAnswered C b (standing a s w3) (whole_from begun piece)) (sym same)
      (subst (HasAnswered C b (standing a s w)) (sym whole) there)
  taken_end {b} {a} {s} {w} {begun = begun} {begun' = begun'} {lines = lines} {lines' = lines'} {piece = piece} {rest = rest}
      (Err e) w2 p none same fault some =
      let tail : rest_from begun piece ≡ begun' ++ rest = p.after ∙ rest_none begun' rest none in
      let whole : whole_from begun piece ≡ p.taken =
      p.whole ∙ (ap (λ ls. p.taken ++ ls) (whole_none begun' rest none) ∙ append-nil p.taken) in
      let long : length (begun' ++ rest) ≡ length begun' + length rest = length-append begun' rest in
      let longer : length (rest_from begun piece) ≡ length (begun' ++ rest) = ap length tail in
      let one : length (line_begun (rest_from begun piece)) ≡ 1 =
      line_begun_one (rest_from begun piece) (omega (arith, long, longer, some)) in
      let same_length : length (whole_from begun piece) ≡ length p.taken = ap length whole in
      let there : HasStarved C b (standing a s w) (whole_from begun piece) (count_from begun piece) (lines + 1) (lines' + 1) =
      starved_end b (standing a s w) p.taken (whole_from begun piece) (count_from begun piece) (lines + 1) (lines' + 1) p.answered whole
      (omega (arith, p.counted)) (omega (arith, one, same_length)) in
      subst (λ f. Takes {X = Unit {0}} C (Err f) b (standing a s w2) (whole_from begun piece) (count_from begun piece) (lines + 1))
      (sym fault)
      (subst (λ w3. HasStarved C b (standing a s w3) (whole_from begun piece) (count_from begun piece) (lines + 1) (lines' + 1))
      (sym same) there)

  taken_whole : {b a : Standing M} {begun begun' : Text} {lines lines' : ℕ} {piece rest : Text}
      → (p : IsTaken C b a begun begun' lines lines' piece rest) → position_or_len is_line_feed rest ≡ length rest → whole_from begun piece ≡ p.taken
  taken_whole {begun' = begun'} {rest = rest} p none = p.whole ∙ (ap (λ ls. p.taken ++ ls) (whole_none begun' rest none) ∙ append-nil p.taken)

  pub taken_count : {b a : Standing M} {begun begun' : Text} {lines lines' : ℕ} {piece rest : Text}
      → IsTaken C b a begun begun' lines lines' piece rest → position_or_len is_line_feed rest ≡ length rest
      → lines' ≡ lines + length (whole_from begun piece)
  taken_count {begun = begun} {piece = piece} p none =
      let same_length : length (whole_from begun piece) ≡ length p.taken = ap length (taken_whole p none) in omega (arith, p.counted)

  pub taken_rest : {b a : Standing M} {begun begun' : Text} {lines lines' : ℕ} {piece rest : Text}
      → IsTaken C b a begun begun' lines lines' piece rest → position_or_len is_line_feed rest ≡ length rest → begun' ++ rest ≡ rest_from begun piece
  taken_rest {begun' = begun'} {rest = rest} p none = sym (p.after ∙ rest_none begun' rest none)

  -- nothing follows the line begun, where it is not empty
  pub finished_some : {X : Type 0} (b a : Standing M) (begun : Text) (first : ℕ) (result : Result X ScriptFault) → 0 < length begun
      → Takes C result b a ((begun ++ []) ∷ []) 1 first
      → Takes C result b a (line_begun begun) (length (line_begun begun)) first
  finished_some b a begun first result some p =
      subst (λ lines. Takes C result b a lines (length lines) first) (sym (line_begun_is begun some)) p
