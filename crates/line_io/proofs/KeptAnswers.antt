-- Answers of a machine that may keep what it did in between.
use Rattle.std.proofs.Common.{List, [], ◌∷◌, ◌++◌, inl, inr, refl, ap, subst}
use Rattle.line_io.specs.Text.{Text}
use Rattle.line_io.specs.Conduct.{Conduct, KeepsOn}
use Rattle.line_io.specs.Run.{Answers}
use Rattle.line_io.specs.KeptRun.{RepliesKept, AnswersKept, WentOn}

pub Answers-append : {M : Type 0} (R : M → Text → Text → M → Type 0) (before middle after : M) (lines more texts others : List Text)
    → Answers R before lines texts middle → Answers R middle more others after → Answers R before (lines ++ more) (texts ++ others) after
Answers-append R before middle after [] more [] others p q = subst (λ m. Answers R m more others after) p q
Answers-append R before middle after [] more (text ∷ texts) others p q = absurd p
Answers-append R before middle after (line ∷ lines) more [] others p q = absurd p
Answers-append R before middle after (line ∷ lines) more (text ∷ texts) others p q =
    (p.0, (p.1.0, Answers-append R p.0 middle after lines more texts others p.1.1 q))

module _ {M : Type 0} (C : Conduct M) (on : KeepsOn C) where
  pub kept_none : (m : M) → AnswersKept C m [] [] m
  kept_none m = record { reached = m; answers = refl; keeps = on.nothing m }

  -- nothing is kept in between
  answers_kept : (a b : M) (lines texts : List Text) → Answers C.replies a lines texts b → Answers (RepliesKept C) a lines texts b
  answers_kept a b [] [] p = p
  answers_kept a b [] (text ∷ texts) p = absurd p
  answers_kept a b (line ∷ lines) [] p = absurd p
  answers_kept a b (line ∷ lines) (text ∷ texts) p = (
    p.0,
    (record { kept = a; keeps = on.nothing a; replies = p.1.0 }, answers_kept p.0 b lines texts p.1.1),
  )

  pub kept_answers : (a b : M) (lines texts : List Text) → Answers C.replies a lines texts b → AnswersKept C a lines texts b
  kept_answers a b lines texts p = record { reached = b; answers = answers_kept a b lines texts p; keeps = on.nothing b }

  -- before the answers
  kept_before : (a b c : M) (lines texts : List Text) → C.keeps a b → AnswersKept C b lines texts c → AnswersKept C a lines texts c
  kept_before a b c [] [] k p = record {
    reached = a;
    answers = refl;
    keeps = on.twice a b c k (subst (λ m. C.keeps m c) p.answers p.keeps);
  }
  kept_before a b c [] (text ∷ texts) k p = absurd p.answers
  kept_before a b c (line ∷ lines) [] k p = absurd p.answers
  kept_before a b c (line ∷ lines) (text ∷ texts) k p =
      let first = p.answers.1.0 in record {
        reached = p.reached;
        answers = (
          p.answers.0,
          (record { kept = first.kept; keeps = on.twice a b first.kept k first.keeps; replies = first.replies }, p.answers.1.1),
        );
        keeps = p.keeps;
      }

  -- after them
  pub kept_after : {a b c : M} {lines texts : List Text} → AnswersKept C a lines texts b → C.keeps b c → AnswersKept C a lines texts c
  kept_after {a} {b} {c} p k = record { reached = p.reached; answers = p.answers; keeps = on.twice p.reached b c p.keeps k }

  pub AnswersKept-append : (a b c : M) (lines more texts others : List Text) → AnswersKept C a lines texts b → AnswersKept C b more others c
      → AnswersKept C a (lines ++ more) (texts ++ others) c
  AnswersKept-append a b c lines more texts others p q =
      let rest : AnswersKept C p.reached more others c = kept_before p.reached b c more others p.keeps q in record {
        reached = rest.reached;
        answers = Answers-append (RepliesKept C) a p.reached rest.reached lines more texts others p.answers rest.answers;
        keeps = rest.keeps;
      }

  -- the same, where it went on by a line more at most
  pub went_after : (later : List Text) (reached a b : M) → WentOn C later reached a → C.keeps a b → WentOn C later reached b
  went_after later reached a b (inl p) k = inl (on.twice reached a b p k)
  went_after later reached a b (inr p) k = inr (record {
    line = p.line;
    others = p.others;
    next = p.next;
    not_blank = p.not_blank;
    asked = p.asked;
    keeps = p.keeps;
    left = p.left;
    starves = p.starves;
    keeps_left = on.twice p.left a b p.keeps_left k;
  })

  pub went_before : (later : List Text) (first reached a : M) → C.keeps first reached → WentOn C later reached a → WentOn C later first a
  went_before later first reached a k (inl p) = inl (on.twice first reached a k p)
  went_before later first reached a k (inr p) = inr (record {
    line = p.line;
    others = p.others;
    next = p.next;
    not_blank = p.not_blank;
    asked = p.asked;
    keeps = on.twice first reached p.asked k p.keeps;
    left = p.left;
    starves = p.starves;
    keeps_left = p.keeps_left;
  })

-- and more lines follow
pub went_longer : {M : Type 0} (C : Conduct M) (later more : List Text) (reached a : M) → WentOn C later reached a → WentOn C (later ++ more) reached a
went_longer C later more reached a (inl p) = inl p
went_longer C later more reached a (inr p) = inr (record {
  line = p.line;
  others = p.others ++ more;
  next = ap (λ m. m ++ more) p.next;
  not_blank = p.not_blank;
  asked = p.asked;
  keeps = p.keeps;
  left = p.left;
  starves = p.starves;
  keeps_left = p.keeps_left;
})
