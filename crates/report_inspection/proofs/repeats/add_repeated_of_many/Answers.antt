use Rattle.std.proofs.Common.{◌≡◌, ◌∙◌, ◌+◌, ◌∷◌, ap, sym, subst, arith, drop, true, false}
use Rattle.std.proofs.lemmas.List.{drop_more}
use Rattle.json.specs.Strict.{keys}
use Rattle.json.specs.Value.{members_view}
use Rattle.report_inspection.specs.MemberNames.{has_name, is_among, is_repeated}
use Rattle.report_inspection.proofs.AddedNames.{told, told_new, told_seen}
use Rattle.report_inspection.proofs.repeats.add_repeated_of_many.Goals as goal
use Rattle.report_inspection.proofs.repeats.add_repeated_of_many.Goals.{then-not-branch+in_ok-insert-2, else-not-branch}

pub loop-member-preserved : goal.loop-member-preserved
loop-member-preserved c = λ name.
    let l = c.loop-member in
    let i = l.member-index in
    let xs = c.deref-member-items.result.now in
    let x = c.member-item.result in
    let here : drop i xs ≡ x ∷ drop (i + 1) xs =
    drop_more xs i x (omega arith) ∙ ap (λ y. y ∷ drop (i + 1) xs) (sym c.member-item.is) in
    let of_all : drop i c.args.members.now.items ≡ x ∷ drop (i + 1) c.args.members.now.items =
    subst (λ ys. drop i ys ≡ x ∷ drop (i + 1) ys) c.deref-member-items.ensures.value here in
    let rest = keys (members_view (drop (i + 1) c.args.members.now.items)) in
    let turned =
    ap (λ ys. told l.repeated l.seen name (is_among (keys (members_view ys)) name) (is_repeated (keys (members_view ys)) name)) (sym of_all)
    ∙ l.invariant name in
    elim c.if-not-branch.branch [
      | then-not-branch+in_ok-insert-2 w ↦
          let is : has_name l.seen x.0.now ≡ true = grind arith in
          let same : c.insert.new.self.keys ≡ l.seen.keys = grind arith in
          ap (λ r. told r c.insert.new.self name (is_among rest name) (is_repeated rest name)) w.repeated-is
          ∙ told_seen x.0 l.repeated _ l.seen c.insert.new.self w.in_ok-insert-2.ensures.updates is same name (is_among rest name) (is_repeated rest name)
          ∙ turned
      | else-not-branch w ↦
          let is : has_name l.seen x.0.now ≡ false = grind arith in
          ap (λ r. told r c.insert.new.self name (is_among rest name) (is_repeated rest name)) w.repeated-is
          ∙ told_new x.0 l.repeated l.seen c.insert.new.self c.in_ok-insert.ensures.updates is name (is_among rest name) (is_repeated rest name)
          ∙ turned
    ]
