use Rattle.std.proofs.Common.{◌≡◌, ◌∙◌, ◌+◌, ◌∷◌, [], ap, sym, subst, arith, drop, option_map, Some, string_bytes, rules}
use Rattle.std.proofs.lemmas.List.{drop_all, drop_more}
use Rattle.json.specs.Value as read
use Rattle.json.specs.Value.{value_view}
use Rattle.serde_json.specs.Data.{put}
use Rattle.serde_json.specs.Read.{of_json, of_items, of_members}
use Rattle.serde_json.specs.View.{view, members_view}
use Rattle.serde_json.proofs.Views.{members_view-insert_entry}
use Rattle.oim_report.proofs.CopiedValues.{all_copied, before, item_copied, member_copied}
use Rattle.oim_report.proofs.borrowed.+copies.Goals as goal

pub copy_of_items-loop-item-preserved : goal.copy_of_items-loop-item-preserved
copy_of_items-loop-item-preserved t c =
    let l = c.loop-item in
    let i = l.item-index in
    let xs = c.deref-item-items.result.now in
    let x = c.item-item.result in
    let here : drop i xs ≡ x ∷ drop (i + 1) xs =
    drop_more xs i x (omega arith) ∙ ap (λ y. y ∷ drop (i + 1) xs) (sym c.item-item.is) in
    let of_all : drop i c.args.items.now.items ≡ x ∷ drop (i + 1) c.args.items.now.items =
    subst (λ ys. drop i ys ≡ x ∷ drop (i + 1) ys) c.deref-item-items.ensures.value here in
    let is : Some (view c.in-Some.copy) ≡ of_json (value_view x) = ap (option_map view) (sym c.in-Some.is) ∙ c.in_ok-copy.ensures in
    l.invariant
    ∙ ap (λ ys. option_map (before l.copies.items) (of_items (read.items_view ys))) of_all
    ∙ item_copied (value_view x) (read.items_view (drop (i + 1) c.args.items.now.items)) _ _ c.in-Some.copy is c.in_ok-push-in-Some.ensures.items

pub copy_of_items-returns : goal.copy_of_items-returns
copy_of_items-returns t c =
    let l = c.loop-item in
    let none_left : drop l.item-index c.args.items.now.items ≡ [] =
    subst (λ ys. drop l.item-index ys ≡ []) c.deref-item-items.ensures.value (drop_all l.item-index c.deref-item-items.result.now (omega arith)) in
    sym (l.invariant
    ∙ ap (λ ys. option_map (before l.copies.items) (of_items (read.items_view ys))) none_left
    ∙ ap (λ ds. Some ds) (all_copied l.copies.items))

pub copy_of_members-loop-member-preserved : goal.copy_of_members-loop-member-preserved
copy_of_members-loop-member-preserved t c =
    let l = c.loop-member in
    let i = l.member-index in
    let xs = c.deref-member-items.result.now in
    let x = c.member-item.result in
    let here : drop i xs ≡ x ∷ drop (i + 1) xs =
    drop_more xs i x (omega arith) ∙ ap (λ y. y ∷ drop (i + 1) xs) (sym c.member-item.is) in
    let of_all : drop i c.args.members.now.items ≡ x ∷ drop (i + 1) c.args.members.now.items =
    subst (λ ys. drop i ys ≡ x ∷ drop (i + 1) ys) c.deref-member-items.ensures.value here in
    let is : Some (view c.in-Some.copy) ≡ of_json (value_view x.1) = ap (option_map view) (sym c.in-Some.is) ∙ c.in_ok-copy.ensures in
    let named : string_bytes c.in_ok-name.name ≡ x.0.now = search rules in
    let put_in : members_view c.insert.new.self.entries ≡ put x.0.now (view c.in-Some.copy) (members_view l.copies.entries) =
    ap members_view c.in_ok-insert-in-Some.ensures.entries
    ∙ members_view-insert_entry l.copies.entries c.in_ok-name.name c.in-Some.copy
    ∙ ap (λ k. put k (view c.in-Some.copy) (members_view l.copies.entries)) named in
    let rest = read.members_view (drop (i + 1) c.args.members.now.items) in
    l.invariant
    ∙ ap (λ ys. of_members (read.members_view ys) (members_view l.copies.entries)) of_all
    ∙ member_copied x.0.now (value_view x.1) rest (members_view l.copies.entries) (view c.in-Some.copy) is
    ∙ ap (of_members rest) (sym put_in)
