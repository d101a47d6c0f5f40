-- Replies that wait, and what is written of them once a machine may tell them.
use Rattle.std.proofs.Common.{◌≡◌, ◌<◌, [], ◌++◌, inl, inr, length, ◌∙◌, ap, subst, arith, append_assoc, length-append}
use Rattle.std.specs.declared.result.Result.{Result}
use Rattle.std.specs.declared.result.Result.TheVariants.{Ok, Err}
use Rattle.std.specs.Result.{MatchResult}
use Rattle.line_io.specs.Text.{Text}
use Rattle.line_io.specs.Conduct.{Conduct}
use Rattle.line_io.specs.Devices.{SinkState, Took, TookPart}
use Rattle.line_io.specs.Pieces.{Tells, Untold, HoldsOrTells}
use Rattle.line_io.proofs.DeviceSteps.{took_more, part_after}

-- a front of a front
pub part_longer : {a b : SinkState} {x : Text} (y : Text) → TookPart a b x → TookPart a b (x ++ y)
part_longer y p = record {
  part = p.part;
  left = p.left ++ y;
  parts = ap (λ m. m ++ y) p.parts ∙ append_assoc p.part p.left y;
  some_left = let long = length-append p.left y in omega (arith, p.some_left, long);
  took = p.took;
}

-- no write of nothing fails
pub part_of_some : {a b : SinkState} {x : Text} → TookPart a b x → 0 < length x
part_of_some p = let long = length-append p.part p.left in let whole = ap length p.parts in omega (arith, long, whole, p.some_left)

module _ {M : Type 0} (C : Conduct M) {m n : M} where
  -- what waited is not written, nor is what would have followed
  pub untold_longer : {a b : SinkState} {flushed : Text} (waiting text : Text) → flushed ≡ waiting → Untold C m n a b flushed
      → Untold C m n a b (waiting ++ text)
  untold_longer {a} {b} waiting text is p = subst (λ w. Untold C m n a b (w ++ text)) is (elim p [
    | inl q ↦ inl (record { keeps = q.keeps; tells = q.tells; took = part_longer text q.took })
    | inr q ↦ inr (record { keeps = q.keeps; has_failed = q.has_failed; same_sink = q.same_sink })
  ])

  -- a reply that is written after all that waited
  pub told_after : {X E : Type 0} {a b c : SinkState} (d : SinkState) {flushed reply : Text} (waiting waiting' end : Text) (r : Result X E)
      → flushed ≡ waiting → Tells C m n a b flushed → Took b c reply 0 → waiting' ≡ []
      → MatchResult r (λ _. Took c d end 0) (λ _. TookPart c d end)
      → MatchResult r (λ _. HoldsOrTells C m n a d waiting waiting' (reply ++ end)) (λ _. Untold C m n a d (waiting ++ (reply ++ end)))
  told_after {a = a} d {reply = reply} waiting waiting' end (Ok x) is p q none last =
      let told : Tells C m n a d (waiting ++ (reply ++ end)) = record {
        keeps = p.keeps;
        tells = p.tells;
        took = subst (λ w. Took a d (w ++ (reply ++ end)) 0) is (took_more p.took (took_more q last));
      } in
      inr (none, told)
  told_after {a = a} d {reply = reply} waiting waiting' end (Err e) is p q none last = inl (record {
    keeps = p.keeps;
    tells = p.tells;
    took = subst (λ w. TookPart a d (w ++ (reply ++ end))) is (part_after p.took (part_after q last));
  })

  -- the reply itself fails
  pub failed_reply : {a b c : SinkState} {flushed reply : Text} (waiting end : Text) → flushed ≡ waiting → Tells C m n a b flushed
      → TookPart b c reply → Untold C m n a c (waiting ++ (reply ++ end))
  failed_reply {a} {c = c} {reply = reply} waiting end is p q = inl (record {
    keeps = p.keeps;
    tells = p.tells;
    took = subst (λ w. TookPart a c (w ++ (reply ++ end))) is (part_after p.took (part_longer end q));
  })
