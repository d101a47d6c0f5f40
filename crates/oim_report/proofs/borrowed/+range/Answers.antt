use Rattle.std.proofs.Common.{◌≡◌, ◌∙◌, ◌+◌, ◌∷◌, ap, sym, subst, arith, drop, is_some, true}
use Rattle.std.proofs.lemmas.List.{drop_more}
use Rattle.json.specs.Value.{value_view, members_view}
use Rattle.serde_json.specs.Data.{no_members}
use Rattle.serde_json.specs.Read.{of_json, of_members}
use Rattle.oim_report.proofs.InRange.{member_in}
use Rattle.oim_report.proofs.borrowed.+range.Goals as goal

pub are_members_in_range-loop-member-preserved : goal.are_members_in_range-loop-member-preserved
are_members_in_range-loop-member-preserved t c =
    let i = c.loop-member.member-index in
    let xs = c.deref-member-items.result.now in
    let x = c.member-item.result in
    let here : drop i xs ≡ x ∷ drop (i + 1) xs =
    drop_more xs i x (omega arith) ∙ ap (λ y. y ∷ drop (i + 1) xs) (sym c.member-item.is) in
    let of_all : drop i c.args.members.now.items ≡ x ∷ drop (i + 1) c.args.members.now.items =
    subst (λ ys. drop i ys ≡ x ∷ drop (i + 1) ys) c.deref-member-items.ensures.value here in
    let inside : is_some (of_json (value_view x.1)) ≡ true = grind arith in
    c.loop-member.invariant
    ∙ ap (λ ys. is_some (of_members (members_view ys) no_members)) of_all
    ∙ member_in x.0.now (value_view x.1) (members_view (drop (i + 1) c.args.members.now.items)) no_members inside
