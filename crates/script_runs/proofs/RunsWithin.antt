-- Runs of a machine that has another within, which it answers by.
use Rattle.std.proofs.Common.{◌≡◌, ap, ℕ, ◌⊎◌, inl, inr, List, [], ◌∷◌}
use Rattle.std.specs.declared.result.Result.{Result}
use Rattle.std.specs.declared.result.Result.TheVariants.{Ok, Err}
use Rattle.filing_model.specs.Common.Text.{Text}
use Rattle.line_io.specs.Conduct.{Conduct}
use Rattle.line_io.specs.Devices.{SourceState, SinkState}
use Rattle.line_io.specs.KeptRun.{AnswersKept, RepliesKept, RunsAndKeeps, RunsKept, WentOn}
use Rattle.line_io.specs.Run.{Answers, Runs}
use Rattle.line_io.specs.declared.fault.ScriptFault.{ScriptFault}
use Rattle.line_io.specs.declared.fault.ScriptFault.TheVariants.{Read, Write, Endless, NoMemory}

module _ {M N : Type 0} (within : M → N) (R : M → Text → Text → M → Type 0) (Q : N → Text → Text → N → Type 0)
    (goes : (m n : M) (line text : Text) → R m line text n → Q (within m) line text (within n)) where
  pub answers_within : (lines texts : List Text) (m n : M) → Answers R m lines texts n → Answers Q (within m) lines texts (within n)
  answers_within [] [] m n p = ap within p
  answers_within [] (text ∷ texts) m n p = absurd p
  answers_within (line ∷ lines) [] m n p = absurd p
  answers_within (line ∷ lines) (text ∷ texts) m n p = (within p.0, (goes m p.0 line text p.1.0, answers_within lines texts p.0 n p.1.1))

  pub runs_within : {X S : Type 0} (state : S → SourceState) (reads : ℕ) (result : Result X ScriptFault) (m n : M) (source source' : S) (sink sink' : SinkState)
      → Runs R state reads result m n source source' sink sink' → Runs Q state reads result (within m) (within n) source source' sink sink'
  runs_within state reads (Ok x) m n source source' sink sink' p =
      record { given = p.given; texts = p.texts; gave = p.gave; at_end = p.at_end; answers = answers_within _ p.texts m n p.answers; took = p.took }
  runs_within state reads (Err Read) m n source source' sink sink' p =
      record { given = p.given; texts = p.texts; gave = p.gave; answers = answers_within _ p.texts m n p.answers; took = p.took }
  runs_within state reads (Err Endless) m n source source' sink sink' p =
      record { given = p.given; texts = p.texts; gave = p.gave; all_reads = p.all_reads; answers = answers_within _ p.texts m n p.answers; took = p.took }
  runs_within state reads (Err Write) m n source source' sink sink' p = record {
    given = p.given;
    ended = p.ended;
    gave = p.gave;
    lines = p.lines;
    later = p.later;
    front = p.front;
    texts = p.texts;
    reached = within p.reached;
    answers = answers_within _ p.texts m p.reached p.answers;
    took = p.took;
  }
  runs_within state reads (Err (NoMemory number)) m n source source' sink sink' p = record {
    given = p.given;
    ended = p.ended;
    gave = p.gave;
    earlier = p.earlier;
    last = p.last;
    pieces = p.pieces;
    lines = p.lines;
    later = p.later;
    front = p.front;
    counted = p.counted;
    begun = p.begun;
    answered_before = p.answered_before;
    texts = p.texts;
    reached = within p.reached;
    answers = answers_within _ p.texts m p.reached p.answers;
    took = p.took;
  }

-- the machine within conducts itself so
pub record IsWithin {M N : Type 0} (within : M → N) (C : Conduct M) (D : Conduct N) : Type 0 where
  pub replies : (m n : M) (line text : Text) → C.replies m line text n → D.replies (within m) line text (within n)
  pub starves : (m n : M) (line : Text) → C.starves m line n → D.starves (within m) line (within n)
  pub keeps : (m n : M) → C.keeps m n → D.keeps (within m) (within n)
  pub may_tell : (m : M) → C.may_tell m → D.may_tell (within m)
  pub has_failed : (m : M) → C.has_failed m → D.has_failed (within m)

module _ {M N : Type 0} (within : M → N) (C : Conduct M) (D : Conduct N) (is : IsWithin within C D) where
  replies_kept : (m n : M) (line text : Text) → RepliesKept C m line text n → RepliesKept D (within m) line text (within n)
  replies_kept m n line text k = record { kept = within k.kept; keeps = is.keeps m k.kept k.keeps; replies = is.replies k.kept n line text k.replies }

  answers_kept : (m n : M) (lines texts : List Text) → AnswersKept C m lines texts n → AnswersKept D (within m) lines texts (within n)
  answers_kept m n lines texts a = record {
    reached = within a.reached;
    answers = answers_within within (RepliesKept C) (RepliesKept D) replies_kept lines texts m a.reached a.answers;
    keeps = is.keeps a.reached n a.keeps;
  }

  went_on : (later : List Text) (reached after : M) → WentOn C later reached after → WentOn D later (within reached) (within after)
  went_on later reached after (inl keeps) = inl (is.keeps reached after keeps)
  went_on later reached after (inr s) = inr (record {
    line = s.line;
    others = s.others;
    next = s.next;
    not_blank = s.not_blank;
    asked = within s.asked;
    keeps = is.keeps reached s.asked s.keeps;
    left = within s.left;
    starves = is.starves s.asked s.left s.line s.starves;
    keeps_left = is.keeps s.left after s.keeps_left;
  })

  told_before : (before : M) (texts : List Text) (kept : M) → C.may_tell kept ⊎ ((kept ≡ before) × (texts ≡ [])) → D.may_tell (within kept)
      ⊎ ((within kept ≡ within before) × (texts ≡ []))
  told_before before texts kept (inl tells) = inl (is.may_tell kept tells)
  told_before before texts kept (inr none) = inr (ap within none.0, none.1)

  module _ {X S : Type 0} (state : S → SourceState) (reads : ℕ) (before after : M) (source source' : S) (sink sink' : SinkState) where
    runs_and_keeps : (result : Result X ScriptFault) → RunsAndKeeps C state before after source source' sink sink' reads result
        → RunsAndKeeps D state (within before) (within after) source source' sink sink' reads result
    runs_and_keeps result p = record {
      reached = within p.reached;
      run = runs_within within (RepliesKept C) (RepliesKept D) replies_kept state reads result before p.reached source source' sink sink' p.run;
      keeps = is.keeps p.reached after p.keeps;
      tells = is.may_tell after p.tells;
    }

    pub kept_within : (result : Result X ScriptFault) → RunsKept C state reads result before after source source' sink sink'
        → RunsKept D state reads result (within before) (within after) source source' sink sink'
    unfolding runs_within
    kept_within (Ok x) p = runs_and_keeps (Ok x) p
    kept_within (Err Read) p = runs_and_keeps (Err Read) p
    kept_within (Err Endless) p = runs_and_keeps (Err Endless) p
    kept_within (Err Write) (inl p) = inl (record {
      run = runs_within within (RepliesKept C) (RepliesKept D) replies_kept {X = X} state reads (Err Write) before after source source' sink sink' p.run;
      went_on = went_on p.run.later p.run.reached after p.went_on;
      tells = is.may_tell after p.tells;
    })
    kept_within (Err Write) (inr p) = inr (record {
      given = p.given;
      ended = p.ended;
      unread = p.unread;
      gave = p.gave;
      told = p.told;
      since = p.since;
      later = p.later;
      front = p.front;
      texts = p.texts;
      kept = within p.kept;
      answers = answers_kept before p.kept _ p.texts p.answers;
      tells = told_before before p.texts p.kept p.tells;
      took = p.took;
      dropped = p.dropped;
      reached = within p.reached;
      answers_since = answers_within within C.replies D.replies is.replies _ p.dropped p.kept p.reached p.answers_since;
      went_on = went_on p.later p.reached after p.went_on;
      has_failed = is.has_failed after p.has_failed;
    })
    kept_within (Err (NoMemory number)) p = record {
      run = runs_within within (RepliesKept C) (RepliesKept D) replies_kept {X = X} state reads
          (Err (NoMemory number)) before after source source' sink sink' p.run;
      went_on = went_on p.run.later p.run.reached after p.went_on;
      tells = is.may_tell after p.tells;
    }
