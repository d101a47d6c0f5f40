use Rattle.std.proofs.Common.{◌≡◌, ◌∙◌, ◌+◌, ◌∷◌, ◌||◌, ap, sym, subst, arith, drop, not, true, false}
use Rattle.std.proofs.lemmas.List.{drop_more}
use Rattle.json.specs.Strict.{keys}
use Rattle.json.specs.Value.{members_view}
use Rattle.report_inspection.specs.MemberNames.{has_name, is_among, is_unknown, knows}
use Rattle.report_inspection.proofs.AddedNames.{known_turn, unknown_turn}
use Rattle.report_inspection.proofs.known_names.add_unknown.Goals as goal
use Rattle.report_inspection.proofs.known_names.add_unknown.Goals.{then-not-knows+in_ok-insert, else-not-knows}

pub loop-member-preserved : goal.loop-member-preserved
loop-member-preserved c = λ name.
    let l = c.loop-member in
    let i = l.member-index in
    let xs = c.deref-member-items.result.now in
    let x = c.member-item.result in
    let here : drop i xs ≡ x ∷ drop (i + 1) xs =
    drop_more xs i x (omega arith) ∙ ap (λ y. y ∷ drop (i + 1) xs) (sym c.member-item.is) in
    let of_all : drop i c.args.members.now.items ≡ x ∷ drop (i + 1) c.args.members.now.items =
    subst (λ ys. drop i ys ≡ x ∷ drop (i + 1) ys) c.deref-member-items.ensures.value here in
    let rest = keys (members_view (drop (i + 1) c.args.members.now.items)) in
    let turned =
    ap (λ ys. has_name l.unknown name || is_unknown c.args.kind (keys (members_view ys)) name) (sym of_all) ∙ l.invariant name in
    elim c.if-not-knows.branch [
      | then-not-knows+in_ok-insert w ↦
          let is : not (knows c.args.kind x.0.now) ≡ true = grind arith in
          ap (λ u. has_name u name || is_unknown c.args.kind rest name) w.unknown-is
          ∙ unknown_turn (knows c.args.kind) x.0 l.unknown _ w.in_ok-insert.ensures.updates is name (is_among rest name)
          ∙ turned
      | else-not-knows w ↦
          let is : not (knows c.args.kind x.0.now) ≡ false = grind arith in
          ap (λ u. has_name u name || is_unknown c.args.kind rest name) w.unknown-is
          ∙ known_turn (knows c.args.kind) x.0 l.unknown is name (is_among rest name)
          ∙ turned
    ]
