use Rattle.std.proofs.Common.{◌≡◌, ◌∙◌, ◌+◌, ◌==◌, ◌∷◌, [], ap, sym, arith, drop, cond, true, false}
use Rattle.std.proofs.lemmas.List.{drop_all, drop_more}
use Rattle.oim_report.specs.Parts.{fact_view, facts_view}
use Rattle.report_inspection.specs.Crowds.{is_in}
use Rattle.report_inspection.proofs.CrowdedFacts.{told, told_all, told_new, told_seen}
use Rattle.report_inspection.proofs.crowds.repeated_hashes.Goals as goal
use Rattle.report_inspection.proofs.crowds.repeated_hashes.Goals.{then-not-branch+in_ok-insert-2, else-not-branch}

pub loop-fact-preserved : goal.loop-fact-preserved
loop-fact-preserved c = λ hash.
    let l = c.loop-fact in
    let i = l.fact-index in
    let xs = c.args.facts.now in
    let x = c.fact-item.result in
    let rest = facts_view (drop (i + 1) xs) in
    let here : drop i xs ≡ x ∷ drop (i + 1) xs =
    drop_more xs i x (omega arith) ∙ ap (λ y. y ∷ drop (i + 1) xs) (sym c.fact-item.is) in
    let turned = ap (λ ys. told l.repeated.keys l.seen.keys hash (facts_view ys)) (sym here) ∙ l.invariant hash in
    elim c.if-not-branch.branch [
      | then-not-branch+in_ok-insert-2 w ↦
          let was : is_in l.seen.keys c.hash_of-hash.result ≡ true = grind arith in
          let same : c.insert.new.self.keys ≡ l.seen.keys = grind arith in
          ap (λ r. told r.keys c.insert.new.self.keys hash rest) w.repeated-is
          ∙ told_seen (fact_view x) rest l.repeated.keys _ l.seen.keys c.insert.new.self.keys
          (λ h. w.in_ok-insert-2.ensures.updates.0 h ∙ ap (λ k. cond (k == h) true (is_in l.repeated.keys h)) c.hash_of-hash.ensures)
          (ap (is_in l.seen.keys) (sym c.hash_of-hash.ensures) ∙ was) same hash
          ∙ turned
      | else-not-branch w ↦
          let was : is_in l.seen.keys c.hash_of-hash.result ≡ false = grind arith in
          ap (λ r. told r.keys c.insert.new.self.keys hash rest) w.repeated-is
          ∙ told_new (fact_view x) rest l.repeated.keys l.seen.keys c.insert.new.self.keys
          (λ h. c.in_ok-insert.ensures.updates.0 h ∙ ap (λ k. cond (k == h) true (is_in l.seen.keys h)) c.hash_of-hash.ensures)
          (ap (is_in l.seen.keys) (sym c.hash_of-hash.ensures) ∙ was) hash
          ∙ turned
    ]

pub returns : goal.returns
returns c = λ hash.
    let l = c.loop-fact in
    let none : drop l.fact-index c.args.facts.now ≡ [] = drop_all l.fact-index c.args.facts.now (omega arith) in
    sym (told_all l.repeated.keys l.seen.keys hash)
    ∙ ap (λ ys. told l.repeated.keys l.seen.keys hash (facts_view ys)) (sym none)
    ∙ l.invariant hash
