use Rattle.std.proofs.Common.{◌≡◌, ◌∙◌, ◌+◌, ◌∷◌, ap, sym, subst, arith, drop}
use Rattle.std.proofs.lemmas.List.{drop_more}
use Rattle.json.specs.Value.{value_view, members_view}
use Rattle.serde_json.specs.Read.{of_members}
use Rattle.oim_report.specs.Borrowed.{are_in_range, members_at}
use Rattle.oim_report.proofs.OrderedMembers.{in_range-insert, member_turn, members_at-insert}
use Rattle.report_inspection.specs.Found.{places_behind}
use Rattle.report_inspection.specs.KeptFacts.{kept_after, members_seen}
use Rattle.report_inspection.proofs.KeptPlaces.{put_seen}
use Rattle.report_inspection.proofs.TakenFacts.{put_behind}
use Rattle.report_inspection.proofs.facts.sort_members.Goals as goal

pub loop-member-preserved : goal.loop-member-preserved
loop-member-preserved c =
    let l = c.loop-member in
    let i = l.member-index in
    let xs = c.deref-member-items.result.now in
    let x = c.member-item.result in
    let here : drop i xs ≡ x ∷ drop (i + 1) xs =
    drop_more xs i x (omega arith) ∙ ap (λ y. y ∷ drop (i + 1) xs) (sym c.member-item.is) in
    let of_all : drop i c.args.members.now.items ≡ x ∷ drop (i + 1) c.args.members.now.items =
    subst (λ ys. drop i ys ≡ x ∷ drop (i + 1) ys) c.deref-member-items.ensures.value here in
    let rest = members_view (drop (i + 1) c.args.members.now.items) in
    let turn = member_turn x.0.now (value_view x.1) rest (members_at (places_behind l.places.entries)) _
    (ap (λ ys. of_members (members_view ys) (members_at (places_behind l.places.entries))) (sym of_all) ∙ l.invariant.members) c.requires in
    record {
      members =
          ap (of_members rest) (ap (λ es. members_at (places_behind es)) c.in_ok-insert.ensures.entries
          ∙ ap members_at (put_behind l.places.entries x.0 _) ∙ members_at-insert (places_behind l.places.entries) x.0 x.1)
          ∙ turn.1;
      range =
          ap (λ es. are_in_range (places_behind es)) c.in_ok-insert.ensures.entries
          ∙ ap are_in_range (put_behind l.places.entries x.0 _)
          ∙ in_range-insert (places_behind l.places.entries) x.0 x.1 turn.0 l.invariant.range;
      read =
          ap (λ es. kept_after (members_seen es) rest) c.in_ok-insert.ensures.entries
          ∙ ap (λ es. kept_after es rest) (put_seen l.places.entries x.0 _)
          ∙ ap (λ ys. kept_after (members_seen l.places.entries) (members_view ys)) (sym of_all)
          ∙ l.invariant.read;
    }
