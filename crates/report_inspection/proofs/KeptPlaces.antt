-- Members as they were read, put into their places behind references.
use Rattle.std.proofs.Common.{◌≡◌, ◌∙◌, ap, refl, List, [], ◌∷◌, Bor, Ordering, Less, Equal, Greater}
use Rattle.std.specs.BTreeMap.{insert_entry}
use Rattle.std.specs.Ordering.{match_ordering}
use Rattle.std.specs.declared.alloc.Global.{Global}
use Rattle.json.specs.Value.{value_view}
use Rattle.json.specs.declared.value.Value.{Value as TextValue}
use Rattle.filing_model.specs.Common.Text.{Text, text_cmp}
use Rattle.oim_report.proofs.OrderedMembers.{name_cmp}
use Rattle.report_inspection.specs.Found.{PlaceRef}
use Rattle.report_inspection.specs.KeptFacts.{members_seen}

pub put_seen : (ps : List PlaceRef) (k : Bor Text) (v : Bor (TextValue Global))
    → members_seen (insert_entry name_cmp ps k v) ≡ insert_entry text_cmp (members_seen ps) k.now (value_view v.now)
put_seen [] k v = refl
put_seen (p ∷ ps) k v =
    by_order (name_cmp k p.0)
    ∙ ap (λ qs. match_ordering (name_cmp k p.0) ((k.now, value_view v.now) ∷ members_seen (p ∷ ps)) ((p.0.now, value_view v.now) ∷ members_seen ps)
    ((p.0.now, value_view p.1.now) ∷ qs)) (put_seen ps k v)
  where
    by_order : (o : Ordering)
        → members_seen (match_ordering o ((k, v) ∷ p ∷ ps) ((p.0, v) ∷ ps) (p ∷ insert_entry name_cmp ps k v))
        ≡ match_ordering o ((k.now, value_view v.now) ∷ members_seen (p ∷ ps)) ((p.0.now, value_view v.now) ∷ members_seen ps)
        ((p.0.now, value_view p.1.now) ∷ members_seen (insert_entry name_cmp ps k v))
    by_order Less = refl
    by_order Equal = refl
    by_order Greater = refl
