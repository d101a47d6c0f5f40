-- A run, read by read.
use Rattle.std.proofs.Common.{◌≡◌, ℕ, suc, ◌+◌, ◌*◌, ◌≤◌, Bool, true, false, cond, List, [], ◌∷◌, ◌++◌, length, OnOk, refl, sym, ◌∙◌, ap, subst}
use Rattle.std.proofs.Common.{inl, inr, arith, length-append, append_assoc, append-nil}
use Rattle.std.specs.declared.result.Result.{Result}
use Rattle.std.specs.declared.result.Result.TheVariants.{Ok, Err}
use Rattle.std.specs.Io.KnownBytes.{Consumes, Keeps, IsAtEnd}
use Rattle.line_io.specs.declared.fault.ScriptFault.{ScriptFault}
use Rattle.line_io.specs.declared.fault.ScriptFault.TheVariants.{Read, Write, Endless, NoMemory}
use Rattle.line_io.specs.declared.runs.TheConstants.{PIECE}
use Rattle.line_io.specs.Text.{Text}
use Rattle.line_io.specs.Devices.{SourceState, SinkState, Gave, LastRead, Took}
use Rattle.line_io.specs.Lines.{whole_lines, lines_of, lines_read, line_begun, spoken, lines_text, is_line_feed}
use Rattle.line_io.specs.Conduct.{Conduct, KeepsOn}
use Rattle.line_io.specs.Run.{IsStarved}
use Rattle.line_io.specs.KeptRun.{WentOn, IsUnwrittenKept, IsUnkept, IsStarvedKept, RunsKept}
use Rattle.line_io.specs.Pieces.{whole_from, rest_from, count_from, Standing, standing, Tells, Untold, HasAnswered, HasSent, HasFailed, HasNotKept}
use Rattle.line_io.specs.Pieces.{TakesOut, WritesOut}
use Rattle.line_io.proofs.DeviceSteps.{took_none, consumes_none, consumes_more, consumes_kept}
use Rattle.line_io.proofs.CutLines.{whole_from-append, rest_from-append, whole_lines_lem, lines_of_lem}
use Rattle.line_io.proofs.SentReplies.{part_of_some}
use Rattle.line_io.proofs.KeptAnswers.{kept_none, went_before}
use Rattle.line_io.proofs.TakenLines.{sent_of, answered_none, answered_more, broken_more, stopped_more}
use Rattle.line_io.proofs.WrittenOut.{answered_out, not_kept_out}

-- no more lines than bytes
few_lines : (begun text : Text) → length (whole_from begun text) ≤ length text
unfolding whole_from
few_lines begun [] = omega arith
few_lines begun (byte ∷ bytes) =
    elim (is_line_feed byte) as (λ b. length (cond b (begun ∷ whole_from [] bytes) (whole_from (begun ++ byte ∷ []) bytes)) ≤ suc (length bytes)) [
      | true ↦ let rest = few_lines [] bytes in omega arith
      | false ↦ let rest = few_lines (begun ++ byte ∷ []) bytes in omega arith
    ]

pub length_lines_of : (text : Text) → length (lines_of text) ≡ count_from [] text
length_lines_of text = ap length (lines_of_lem text) ∙ length-append (whole_from [] text) (line_begun (rest_from [] text))

gave_nothing : (source : SourceState) → Gave source source [] 0 0
gave_nothing source = record { bytes = consumes_none source.rest; ended = omega arith; failures = omega arith }

module _ {M : Type 0} (R : M → Text → Text → M → Type 0) where
  -- memory is refused before the first read
  pub starved_at_once : {S : Type 0} (state : S → SourceState) (m : M) (source : S) (s : SinkState) → IsStarved R state m m source source s s 1
  unfolding whole_lines spoken lines_text
  starved_at_once state m source s = record {
    given = [];
    ended = false;
    gave = gave_nothing (state source);
    earlier = [];
    last = [];
    pieces = refl;
    lines = [];
    later = [];
    front = refl;
    counted = refl;
    begun = inl (refl, refl);
    answered_before = omega arith;
    texts = [];
    reached = m;
    answers = refl;
    took = took_none s;
  }

-- what is read so far is answered
pub record IsRead {M : Type 0} (C : Conduct M) (m m' : M) (source source' : SourceState) (s s' : SinkState) (turn : ℕ)
    (begun waiting : Text) (lines : ℕ) : Type 0 where
  pub given : Text
  pub gave : Gave source source' given 0 0
  pub counted : source'.reads ≡ source.reads + turn
  pub room : length given ≤ turn * PIECE
  pub answered : HasAnswered C (standing m s []) (standing m' s' []) (whole_from [] given)
  pub begun_is : begun ≡ rest_from [] given
  pub lines_are : lines ≡ length (whole_from [] given)
  pub none_wait : waiting ≡ []

module _ {M : Type 0} (C : Conduct M) (on : KeepsOn C) where
  -- some lines after some lines
  takes_more : (b n a : Standing M) (lines more : List Text) (less count first next : ℕ) (result : Result (Unit {0}) ScriptFault)
      → HasAnswered C b n lines → TakesOut C result n a more less next → next ≡ first + length lines → count ≡ length lines + less
      → TakesOut C result b a (lines ++ more) count first
  takes_more b n a lines more less count first next (Ok x) p q start size = answered_more C on b n a lines more p q
  takes_more b n a lines more less count first next (Err Write) p q start size =
      broken_more C on b n a lines more [] (lines ++ more) p q (ap (λ ls. lines ++ ls) (append-nil more))
  takes_more b n a lines more less count first next (Err (NoMemory number)) p q start size =
      stopped_more C on b n a lines more less next number count first p q start size
  takes_more b n a lines more less count first next (Err Read) p q start size = absurd q
  takes_more b n a lines more less count first next (Err Endless) p q start size = absurd q

  took_all : (m a : M) (s s' : SinkState) (lines : List Text) (p : HasSent C (standing m s []) (standing a s' []) lines)
      → Took s s' (lines_text p.texts) 0
  took_all m a s s' lines p = subst (λ text. Took s s' text 0) (sym (append-nil p.sent.written) ∙ p.sent.parts) p.sent.took

  -- keeping failed, after lines of which some were told
  unkept_told : (m a reached : M) (source source' : SourceState) (s s2 : SinkState) (given waiting : Text) (ended unread : Bool) (done later : List Text)
      → Gave source source' given (cond ended 1 0) (cond unread 1 0) → done ++ later ≡ lines_read ended given
      → HasAnswered C (standing m s []) (standing reached s2 waiting) done → WentOn C later reached a → C.has_failed a
      → IsUnkept C m a source source' s s2
  unfolding spoken lines_text
  unkept_told m a reached source source' s s2 given waiting ended unread done later gave front (inl p) went failed = record {
    given = given;
    ended = ended;
    unread = unread;
    gave = gave;
    told = [];
    since = done;
    later = later;
    front = front;
    texts = [];
    kept = m;
    answers = kept_none C on m;
    tells = inr (refl, refl);
    took = subst (λ t. Took s t [] 0) (sym p.same_sink) (took_none s);
    dropped = p.texts;
    reached = reached;
    answers_since = p.answers;
    went_on = went;
    has_failed = failed;
  }
  unkept_told m a reached source source' s s2 given waiting ended unread done later gave front (inr p) went failed = record {
    given = given;
    ended = ended;
    unread = unread;
    gave = gave;
    told = p.told;
    since = p.since;
    later = later;
    front = sym (append_assoc p.told p.since later) ∙ (ap (λ ls. ls ++ later) p.parts ∙ front);
    texts = p.texts;
    kept = p.kept;
    answers = p.answers;
    tells = inl p.tells;
    took = p.took;
    dropped = p.texts_since;
    reached = reached;
    answers_since = p.answers_since;
    went_on = went;
    has_failed = failed;
  }

  unkept : (m a : M) (source source' : SourceState) (s s2 : SinkState) (given : Text) (ended unread : Bool)
      → Gave source source' given (cond ended 1 0) (cond unread 1 0)
      → HasNotKept C (standing m s []) (standing a s2 []) (lines_read ended given) → IsUnkept C m a source source' s s2
  unkept m a source source' s s2 given ended unread gave p =
      unkept_told m a p.reached source source' s s2 given p.waiting ended unread p.done p.later gave p.front p.answered p.went_on p.has_failed

  unwritten : (m a : M) (source source' : SourceState) (s s2 : SinkState) (given : Text) (ended : Bool)
      → Gave source source' given (cond ended 1 0) 0 → HasFailed C (standing m s []) (standing a s2 []) (lines_read ended given)
      → IsUnwrittenKept C m a source source' s s2
  unwritten m a source source' s s2 given ended gave p = record {
    run = record {
      given = given;
      ended = ended;
      gave = gave;
      lines = p.done;
      later = p.later;
      front = p.front;
      texts = p.texts;
      reached = p.answers.reached;
      answers = p.answers.answers;
      took = p.took;
    };
    went_on = went_before C on p.later p.answers.reached p.reached a p.answers.keeps p.went_on;
    tells = p.tells;
  }

  -- keeping fails where nothing waits
  untold_nothing : (m n a : M) (source source' : SourceState) (s s' s2 : SinkState) (given waiting : Text) (unread : Bool) → waiting ≡ []
      → Gave source source' given 0 (cond unread 1 0) → HasAnswered C (standing m s []) (standing n s' []) (whole_lines given)
      → Untold C n a s' s2 waiting → IsUnkept C m a source source' s s2
  untold_nothing m n a source source' s s' s2 given waiting unread none gave p (inl q) =
      let some = part_of_some q.took in let long = ap length none in absurd (omega (arith, some, long))
  untold_nothing m n a source source' s s' s2 given waiting unread none gave p (inr q) =
      unkept m a source source' s s2 given false unread gave (not_kept_out C on (standing m s []) n a s' s2 [] [] (whole_lines given) p q)

  -- the result of a run that ends at a fault, which came with the lines after those of the earlier reads
  fault_runs : {S : Type 0} (state : S → SourceState) (source source' : S) (earlier last : Text) (n b : Standing M) (more : List Text) (less : ℕ)
      (m a : M) (s s2 : SinkState) (ended : Bool) (reads : ℕ) (given : Text) (fault : ScriptFault)
      → Gave (state source) (state source') given (cond ended 1 0) 0 → given ≡ earlier ++ last
      → LastRead state source source' earlier last ended
      → TakesOut {X = Unit {0}} C (Err fault) n b more less (length (whole_lines earlier) + 1)
      → TakesOut {X = Unit {0}} C (Err fault) (standing m s []) (standing a s2 []) (lines_read ended given) (length (lines_of given)) 1
      → RunsKept {X = Unit {0}} C state reads (Err fault) m a source source' s s2
  fault_runs state source source' earlier last n b more less m a s s2 ended reads given Write gave pieces read q p = elim p [
    | inl f ↦ inl (unwritten m a (state source) (state source') s s2 given ended gave f)
    | inr f ↦ inr (unkept m a (state source) (state source') s s2 given ended false gave f)
  ]
  fault_runs state source source' earlier last n b more less m a s s2 ended reads given (NoMemory number) gave pieces read q p = record {
    run = record {
      given = given;
      ended = ended;
      gave = gave;
      earlier = earlier;
      last = last;
      pieces = pieces;
      lines = p.done;
      later = p.later;
      front = p.front;
      counted = omega (arith, p.counted);
      begun = inr (omega (arith, p.counted, p.begun), read);
      answered_before = omega (arith, p.counted, q.counted);
      texts = p.sent.texts;
      reached = p.sent.answers.reached;
      answers = p.sent.answers.answers;
      took = took_all m p.reached s s2 p.done p.sent;
    };
    went_on = went_before C on p.later p.sent.answers.reached p.reached a p.sent.answers.keeps p.went_on;
    tells = p.tells;
  }
  fault_runs state source source' earlier last n b more less m a s s2 ended reads given Read gave pieces read q p = absurd p
  fault_runs state source source' earlier last n b more less m a s s2 ended reads given Endless gave pieces read q p = absurd p

  -- memory is refused before the first read
  starved_kept : {S : Type 0} (state : S → SourceState) (m a : M) (source : S) (s s2 : SinkState) → Tells C m a s s2 []
      → IsStarvedKept C state m a source source s s2 1
  unfolding whole_lines spoken lines_text
  starved_kept state m a source s s2 p = record {
    run = record {
      given = [];
      ended = false;
      gave = gave_nothing (state source);
      earlier = [];
      last = [];
      pieces = refl;
      lines = [];
      later = [];
      front = refl;
      counted = refl;
      begun = inl (refl, refl);
      answered_before = omega arith;
      texts = [];
      reached = m;
      answers = refl;
      took = p.took;
    };
    went_on = inl p.keeps;
    tells = p.tells;
  }

  none_answered : (b : Standing M) → HasAnswered C b b (whole_lines [])
  unfolding whole_lines
  none_answered b = answered_none C on b

  pub starved_before_reads : {S : Type 0} (state : S → SourceState) (reads : ℕ) (m a : M) (source : S) (s s2 : SinkState) (waiting : Text)
      (result : Result (Unit {0}) ScriptFault)
      → waiting ≡ [] → WritesOut C (Err (NoMemory 1)) result m a s s2 waiting → RunsKept C state reads result m a source source s s2
  starved_before_reads state reads m a source s s2 waiting result none p = elim p [
    | inl h ↦ subst (λ r. RunsKept C state reads r m a source source s s2) (sym h.0)
        (starved_kept state m a source s s2 (subst (Tells C m a s s2) none h.1))
    | inr h ↦ subst (λ r. RunsKept C state reads r m a source source s s2) (sym h.0)
        (inr (untold_nothing m m a (state source) (state source) s s s2 [] waiting false none (gave_nothing (state source))
        (none_answered (standing m s [])) h.1))
  ]

  pub read_none : (m : M) (source : SourceState) (s : SinkState) (begun waiting : Text) (lines : ℕ) → begun ≡ [] → waiting ≡ [] → lines ≡ 0
      → IsRead C m m source source s s 0 begun waiting lines
  unfolding whole_from rest_from
  read_none m source s begun waiting lines none empty zeros = record {
    given = [];
    gave = gave_nothing source;
    counted = omega arith;
    room = omega arith;
    answered = answered_none C on (standing m s []);
    begun_is = none;
    lines_are = zeros;
    none_wait = empty;
  }

  -- there are few lines
  pub few : {m m' : M} {source source' : SourceState} {s s' : SinkState} {turn : ℕ} {begun waiting : Text} {lines : ℕ} (reads : ℕ)
      → IsRead C m m' source source' s s' turn begun waiting lines → turn ≤ reads → lines ≤ reads * PIECE
  few {turn = turn} reads p h = let less = few_lines [] p.given in omega (arith, p.room, p.lines_are)

  -- the source after one more read
  gave_more : {source source1 source2 : SourceState} {given : Text} (piece : Text) (ends failed : ℕ) → Gave source source1 given 0 0
      → Consumes source1.rest source2.rest piece → source2.ends ≡ source1.ends + ends → source2.failed ≡ source1.failed + failed
      → Gave source source2 (given ++ piece) ends failed
  gave_more {source} {source1} {source2} {given} piece ends failed p bytes ended failures = record {
    bytes = consumes_more source.rest source1.rest source2.rest given piece p.bytes bytes;
    ended = omega (arith, p.ended);
    failures = omega (arith, p.failures);
  }

  -- so many lines of what is read are answered
  answered_so_far : {m m' : M} {source source' : SourceState} {s s' : SinkState} {turn : ℕ} {begun waiting : Text} {lines : ℕ}
      (p : IsRead C m m' source source' s s' turn begun waiting lines) → lines ≡ length (whole_lines p.given)
  answered_so_far p = p.lines_are ∙ ap length (sym (whole_lines_lem p.given))

  answered_lines : (m m' : M) (s s' : SinkState) (given : Text) → HasAnswered C (standing m s []) (standing m' s' []) (whole_from [] given)
      → HasAnswered C (standing m s []) (standing m' s' []) (whole_lines given)
  answered_lines m m' s s' given p = subst (HasAnswered C (standing m s []) (standing m' s' [])) (sym (whole_lines_lem given)) p

  -- all that is read was answered, and is kept at last
  sent_at_last : (m m' a : M) (s s' s2 : SinkState) (given waiting : Text) → waiting ≡ []
      → HasAnswered C (standing m s []) (standing m' s' []) (whole_from [] given) → Tells C m' a s' s2 waiting
      → HasSent C (standing m s []) (standing a s2 []) (whole_lines given)
  sent_at_last m m' a s s' s2 given waiting none p q =
      sent_of C on (standing m s []) (standing a s2 []) (whole_lines given)
      (answered_out C on (standing m s []) m' a s' s2 [] (whole_lines given) (answered_lines m m' s s' given p)
      (subst (Tells C m' a s' s2) none q))

  pub read_failed : {S : Type 0} (state : S → SourceState) {m m' : M} {source source1 : S} {s s' : SinkState} {turn : ℕ} {begun waiting : Text} {lines : ℕ}
      (source2 : S) (a : M) (s2 : SinkState) (reads : ℕ) (result : Result (Unit {0}) ScriptFault)
      → IsRead C m m' (state source) (state source1) s s' turn begun waiting lines → Keeps (state source1).rest (state source2).rest
      → (state source2).ends ≡ (state source1).ends → (state source2).failed ≡ (state source1).failed + 1
      → WritesOut C (Err Read) result m' a s' s2 waiting → RunsKept C state reads result m a source source2 s s2
  read_failed state {m} {m'} {source} {source1} {s} {s'} {waiting = waiting} source2 a s2 reads result p kept ended failed q =
      let gave : Gave (state source) (state source2) p.given 0 1 = record {
        bytes = consumes_kept (state source).rest (state source1).rest (state source2).rest p.given p.gave.bytes kept;
        ended = omega (arith, p.gave.ended);
        failures = omega (arith, p.gave.failures);
      } in
      elim q [
        | inl h ↦
            let sent : HasSent C (standing m s []) (standing a s2 []) (whole_lines p.given) =
            sent_at_last m m' a s s' s2 p.given waiting p.none_wait p.answered h.1 in
            subst (λ r. RunsKept C state reads r m a source source2 s s2) (sym h.0) (record {
              reached = sent.answers.reached;
              run = record {
                given = p.given;
                texts = sent.texts;
                gave = gave;
                answers = sent.answers.answers;
                took = took_all m a s s2 (whole_lines p.given) sent;
              };
              keeps = sent.answers.keeps;
              tells = h.1.tells;
            })
        | inr h ↦ subst (λ r. RunsKept C state reads r m a source source2 s s2) (sym h.0)
            (inr (untold_nothing m m' a (state source) (state source2) s s' s2 p.given waiting true p.none_wait gave
            (answered_lines m m' s s' p.given p.answered) h.1))
      ]

  pub read_endless : {S : Type 0} (state : S → SourceState) {m m' : M} {source source' : S} {s s' : SinkState} {turn : ℕ} {begun waiting : Text} {lines : ℕ}
      (a : M) (s2 : SinkState) (reads : ℕ) (result : Result (Unit {0}) ScriptFault)
      → IsRead C m m' (state source) (state source') s s' turn begun waiting lines → turn ≡ reads
      → WritesOut C (Err Endless) result m' a s' s2 waiting → RunsKept C state reads result m a source source' s s2
  read_endless state {m} {m'} {source} {source'} {s} {s'} {waiting = waiting} a s2 reads result p all q = elim q [
    | inl h ↦
        let sent : HasSent C (standing m s []) (standing a s2 []) (whole_lines p.given) =
        sent_at_last m m' a s s' s2 p.given waiting p.none_wait p.answered h.1 in
        subst (λ r. RunsKept C state reads r m a source source' s s2) (sym h.0) (record {
          reached = sent.answers.reached;
          run = record {
            given = p.given;
            texts = sent.texts;
            gave = p.gave;
            all_reads = p.counted ∙ ap (λ n. (state source).reads + n) all;
            answers = sent.answers.answers;
            took = took_all m a s s2 (whole_lines p.given) sent;
          };
          keeps = sent.answers.keeps;
          tells = h.1.tells;
        })
    | inr h ↦ subst (λ r. RunsKept C state reads r m a source source' s s2) (sym h.0)
        (inr (untold_nothing m m' a (state source) (state source') s s' s2 p.given waiting false p.none_wait p.gave
        (answered_lines m m' s s' p.given p.answered) h.1))
  ]

  ended_kept : {S : Type 0} (state : S → SourceState) (m a : M) (source source2 : S) (s s2 : SinkState) (given : Text) (reads : ℕ)
      → Gave (state source) (state source2) given 1 0 → IsAtEnd (state source2).rest
      → HasAnswered C (standing m s []) (standing a s2 []) (lines_of given) → C.may_tell a
      → RunsKept {X = Unit {0}} C state reads (Ok tt) m a source source2 s s2
  ended_kept state m a source source2 s s2 given reads gave end p tells =
      let sent : HasSent C (standing m s []) (standing a s2 []) (lines_of given) =
      sent_of C on (standing m s []) (standing a s2 []) (lines_of given) p in record {
        reached = sent.answers.reached;
        run = record {
          given = given;
          texts = sent.texts;
          gave = gave;
          at_end = end;
          answers = sent.answers.answers;
          took = took_all m a s s2 (lines_of given) sent;
        };
        keeps = sent.answers.keeps;
        tells = tells;
      }

  -- the end was met, and the line begun was taken
  pub read_ended : {S : Type 0} (state : S → SourceState) {m m' : M} {source source1 : S} {s s' : SinkState} {turn : ℕ} {begun waiting : Text} {lines : ℕ}
      (source2 : S) (a : M) (s2 : SinkState) (reads : ℕ) (result : Result (Unit {0}) ScriptFault)
      → IsRead C m m' (state source) (state source1) s s' turn begun waiting lines → Consumes (state source1).rest (state source2).rest []
      → IsAtEnd (state source2).rest → (state source2).reads ≡ (state source1).reads + 1
      → (state source2).ends ≡ (state source1).ends + 1 → (state source2).failed ≡ (state source1).failed
      → TakesOut C result (standing m' s' waiting) (standing a s2 []) (line_begun begun) (length (line_begun begun)) (lines + 1)
      → OnOk result (C.may_tell a)
      → RunsKept C state reads result m a source source2 s s2
  read_ended state {m} {m'} {source} {source1} {s} {s'} {begun = begun} {waiting = waiting} {lines = lines}
      source2 a s2 reads result p none end one ended failed q tells =
      let gave : Gave (state source) (state source2) p.given 1 0 =
      subst (λ given. Gave (state source) (state source2) given 1 0) (append-nil p.given) (gave_more [] 1 0 p.gave none ended (omega arith)) in
      let start : Standing M = standing m s [] in
      let after : Standing M = standing a s2 [] in
      let here : TakesOut C result (standing m' s' []) after (line_begun begun) (length (line_begun begun)) (lines + 1) =
      subst (λ w. TakesOut C result (standing m' s' w) after (line_begun begun) (length (line_begun begun)) (lines + 1)) p.none_wait q in
      let all : whole_from [] p.given ++ line_begun begun ≡ lines_of p.given =
      ap (λ b. whole_from [] p.given ++ line_begun b) p.begun_is ∙ sym (lines_of_lem p.given) in
      let size : length (lines_of p.given) ≡ length (whole_from [] p.given) + length (line_begun begun) =
      sym (ap length all) ∙ length-append (whole_from [] p.given) (line_begun begun) in
      let taken : TakesOut C result start after (whole_from [] p.given ++ line_begun begun) (length (lines_of p.given)) 1 =
      takes_more start (standing m' s' []) after (whole_from [] p.given) (line_begun begun) (length (line_begun begun)) (length (lines_of p.given)) 1
      (lines + 1) result p.answered here (omega (arith, p.lines_are)) size in
      let whole : TakesOut C result start after (lines_of p.given) (length (lines_of p.given)) 1 =
      subst (λ ls. TakesOut C result start after ls (length (lines_of p.given)) 1) all taken in
      let read : LastRead state source source2 p.given [] true = record {
        between = source1;
        before = p.gave;
        gave = record { bytes = none; ended = ended; failures = omega arith };
        one = one;
        end_is_empty = λ e. refl;
      } in
      elim result as (λ r. TakesOut C r (standing m' s' []) after (line_begun begun) (length (line_begun begun)) (lines + 1)
      → TakesOut C r start after (lines_of p.given) (length (lines_of p.given)) 1 → OnOk r (C.may_tell a)
      → RunsKept C state reads r m a source source2 s s2) [
        | Ok x ↦ λ h t may. ended_kept state m a source source2 s s2 p.given reads gave end t may
        | Err fault ↦ λ h t may. fault_runs state source source2 p.given [] (standing m' s' []) after (line_begun begun) (length (line_begun begun))
            m a s s2 true reads p.given fault gave (sym (append-nil p.given)) read
            (subst (λ n. TakesOut {X = Unit {0}} C (Err fault) (standing m' s' []) after (line_begun begun) (length (line_begun begun)) (n + 1))
            (answered_so_far p) h) t
      ] here whole tells

  -- memory, keeping or a write was refused in a piece
  pub read_refused : {S : Type 0} (state : S → SourceState) {m m' : M} {source source1 : S} {s s' : SinkState} {turn : ℕ} {begun waiting : Text} {lines : ℕ}
      (source2 : S) (a : M) (s2 : SinkState) (piece : Text) (reads : ℕ) (fault : ScriptFault)
      (result : Result (Unit {0}) ScriptFault)
      → IsRead C m m' (state source) (state source1) s s' turn begun waiting lines → Consumes (state source1).rest (state source2).rest piece
      → (state source2).reads ≡ (state source1).reads + 1 → (state source2).ends ≡ (state source1).ends
      → (state source2).failed ≡ (state source1).failed
      → result ≡ Err fault → TakesOut {X = Unit {0}} C (Err fault) (standing m' s' waiting) (standing a s2 []) (whole_from begun piece)
      (count_from begun piece)
      (lines + 1)
      → RunsKept C state reads result m a source source2 s s2
  read_refused state {m} {m'} {source} {source1} {s} {s'} {begun = begun} {waiting = waiting} {lines = lines}
      source2 a s2 piece reads fault result p bytes one ended failed is q =
      let given : Text = p.given ++ piece in
      let gave : Gave (state source) (state source2) given 0 0 = gave_more piece 0 0 p.gave bytes (omega arith) (omega arith) in
      let begins : rest_from [] p.given ≡ begun = sym p.begun_is in
      let start : Standing M = standing m s [] in
      let after : Standing M = standing a s2 [] in
      let count : ℕ = count_from begun piece in
      let here : TakesOut {X = Unit {0}} C (Err fault) (standing m' s' []) after (whole_from begun piece) count (lines + 1) =
      subst (λ w. TakesOut {X = Unit {0}} C (Err fault) (standing m' s' w) after (whole_from begun piece) count (lines + 1))
      p.none_wait q in
      let all : whole_from [] p.given ++ whole_from begun piece ≡ whole_lines given =
      ap (λ b. whole_from [] p.given ++ whole_from b piece) p.begun_is ∙ (sym (whole_from-append [] p.given piece) ∙ sym (whole_lines_lem given)) in
      let rest : rest_from [] given ≡ rest_from begun piece = rest_from-append [] p.given piece ∙ ap (λ b. rest_from b piece) begins in
      let size : length (whole_from [] given) ≡ length (whole_from [] p.given) + length (whole_from begun piece) =
      ap length (sym (whole_lines_lem given) ∙ sym all) ∙ length-append (whole_from [] p.given) (whole_from begun piece) in
      let long : length (lines_of given) ≡ length (whole_from [] p.given) + count_from begun piece =
      length_lines_of given ∙ (ap (λ n. n + length (line_begun (rest_from [] given))) size
      ∙ (ap (λ r. (length (whole_from [] p.given) + length (whole_from begun piece)) + length (line_begun r)) rest ∙ omega arith)) in
      let taken : TakesOut {X = Unit {0}} C (Err fault) start after (whole_from [] p.given ++ whole_from begun piece)
      (length (lines_of given)) 1 =
      takes_more start (standing m' s' []) after (whole_from [] p.given) (whole_from begun piece) count (length (lines_of given)) 1
      (lines + 1) (Err fault) p.answered here (omega (arith, p.lines_are)) long in
      let whole : TakesOut {X = Unit {0}} C (Err fault) start after (whole_lines given) (length (lines_of given)) 1 =
      subst (λ ls. TakesOut {X = Unit {0}} C (Err fault) start after ls (length (lines_of given)) 1) all taken in
      let read : LastRead state source source2 p.given piece false = record {
        between = source1;
        before = p.gave;
        gave = record { bytes = bytes; ended = omega arith; failures = omega arith };
        one = one;
        end_is_empty = λ e. cc;
      } in
      subst (λ r. RunsKept C state reads r m a source source2 s s2) (sym is)
      (fault_runs state source source2 p.given piece (standing m' s' []) after (whole_from begun piece) count m a s s2 false reads given fault gave refl read
      (subst (λ n. TakesOut {X = Unit {0}} C (Err fault) (standing m' s' []) after (whole_from begun piece) count (n + 1))
      (answered_so_far p) here) whole)

  -- a piece was read and answered
  pub read_more : {m m' a : M} {source source1 source2 : SourceState} {s s' s2 : SinkState} {turn : ℕ} {begun waiting begun2 waiting2 : Text} {lines lines2 : ℕ}
      (piece : Text)
      → IsRead C m m' source source1 s s' turn begun waiting lines → Consumes source1.rest source2.rest piece
      → source2.reads ≡ source1.reads + 1 → source2.ends ≡ source1.ends → source2.failed ≡ source1.failed
      → length piece ≤ PIECE
      → HasAnswered C (standing m' s' waiting) (standing a s2 []) (whole_from begun piece) → begun2 ≡ rest_from begun piece
      → lines2 ≡ lines + length (whole_from begun piece) → waiting2 ≡ []
      → IsRead C m a source source2 s s2 (turn + 1) begun2 waiting2 lines2
  read_more {m} {m'} {a} {s = s} {s'} {s2} {begun = begun} {waiting = waiting} {lines = lines} piece p bytes counted ended failed small q begins number empty =
      let here : HasAnswered C (standing m' s' []) (standing a s2 []) (whole_from begun piece) =
      subst (λ w. HasAnswered C (standing m' s' w) (standing a s2 []) (whole_from begun piece)) p.none_wait q in
      let all : whole_from [] p.given ++ whole_from begun piece ≡ whole_from [] (p.given ++ piece) =
      ap (λ b. whole_from [] p.given ++ whole_from b piece) p.begun_is ∙ sym (whole_from-append [] p.given piece) in
      let long : length (p.given ++ piece) ≡ length p.given + length piece = length-append p.given piece in
      let size : length (whole_from [] (p.given ++ piece)) ≡ length (whole_from [] p.given) + length (whole_from begun piece) =
      sym (ap length all) ∙ length-append (whole_from [] p.given) (whole_from begun piece) in
      record {
        given = p.given ++ piece;
        gave = gave_more piece 0 0 p.gave bytes (omega arith) (omega arith);
        counted = omega (arith, p.counted);
        room = omega (arith, p.room, long);
        answered = subst (HasAnswered C (standing m s []) (standing a s2 [])) all
            (answered_more C on (standing m s []) (standing m' s' []) (standing a s2 []) (whole_from [] p.given) (whole_from begun piece) p.answered here);
        begun_is = begins ∙ (ap (λ b. rest_from b piece) p.begun_is ∙ sym (rest_from-append [] p.given piece));
        lines_are = omega (arith, p.lines_are, size);
        none_wait = empty;
      }
