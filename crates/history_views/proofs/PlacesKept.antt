-- The places of a history after one entry more.
use Rattle.std.proofs.Common.{◌≡◌, ◌⊎◌, inl, inr, ◌∙◌, ap, sym, refl, subst, Bool, true, false, cond, ◌&&◌, ◌∷◌, Option, Some, None, unwrap_or}
use Rattle.std.proofs.lemmas.Bool.{or_from}
use Rattle.std.specs.List.{list_any}
use Rattle.filing_model.specs.Common.Text.{Text, text_eq}
use Rattle.filing_model.specs.Common.TextMap.{TextMap, empty, get, insert}
use Rattle.filing_model.specs.Oim.Facts.{RawFact}
use Rattle.filing_model.specs.Oim.Reports.{Report}
use Rattle.filing_model.specs.Sessions.Calls as call
use Rattle.filing_model.specs.Histories.History.{Step, Load, Ask, Entry, History}
use Rattle.filing_model.proofs.Common.Texts.{text_same}
use Rattle.filing_model.proofs.Common.TextMaps.{get-insert}
use Rattle.version_differences.specs.Places.{Ids, Places, ids_at, with_name, with_place}
use Rattle.history_views.specs.Placed.{loads_name, stages_at, HasPlaces}

-- what is no place behind a step is none of the step, and was none before it
pub record IsPlaced (step : Step) (places places' : Places) : Type 0 where
  pub names : (q : Text) → get places' q ≡ None → (loads_name q step ≡ false) × (get places q ≡ None)
  pub ids : (q id : Text) → get (ids_at places' q) id ≡ None → (stages_at q id step ≡ false) × (get (ids_at places q) id ≡ None)

pub places_after : (step : Step) (places places' : Places) (h : History) (e : Entry) → IsPlaced step places places' → e.step ≡ step
    → HasPlaces places h → HasPlaces places' (e ∷ h)
places_after step places places' h e placed is has = record {
  names = λ q none.
      let both = placed.names q none in
      or_from (loads_name q e.step) (list_any (λ e. loads_name q e.step) h) (ap (loads_name q) is ∙ both.0) (has.names q both.1);
  ids = λ q id none.
      let both = placed.ids q id none in
      or_from (stages_at q id e.step) (list_any (λ e. stages_at q id e.step) h) (ap (stages_at q id) is ∙ both.0) (has.ids q id both.1);
}

-- ---- one name more

not_inserted : {X : Type 0} (b : Bool) (x : X) (o : Option X) → cond b (Some x) o ≡ None → (b ≡ false) × (o ≡ None)
not_inserted true x o none = cc
not_inserted false x o none = (refl, none)

missing : {X : Type 0} (m : TextMap X) (key q : Text) (x : X) → get (insert m key x) q ≡ None → (text_eq q key ≡ false) × (get m q ≡ None)
missing m key q x none = not_inserted (text_eq q key) x (get m q) (sym (get-insert m key x q) ∙ none)

-- what stands under a name where identifiers were put under one
ids_of_insert : (places : Places) (name q : Text) (ids : Ids) → ids_at (insert places name ids) q ≡ cond (text_eq q name) ids (ids_at places q)
ids_of_insert places name q ids = ap (λ o. unwrap_or o empty) (get-insert places name ids q) ∙ by (text_eq q name)
  where
    by : (b : Bool) → unwrap_or (cond b (Some ids) (get places q)) empty ≡ cond b ids (ids_at places q)
    by true = refl
    by false = refl

same_ids : (places : Places) (name q : Text) → ids_at (with_name places name) q ≡ ids_at places q
same_ids places name q = ids_of_insert places name q (ids_at places name) ∙ by (text_eq q name) refl
  where
    by : (b : Bool) → text_eq q name ≡ b → cond b (ids_at places name) (ids_at places q) ≡ ids_at places q
    by true same = ap (ids_at places) (sym (text_same q name same))
    by false other = refl

pub name_placed : (places : Places) (name : Text) (r : Report) → IsPlaced (Load name r) places (with_name places name)
name_placed places name r = record {
  names = λ q none. missing places name q (ids_at places name) none;
  ids = λ q id none. (refl, sym (ap (λ (ids : Ids). get ids id) (same_ids places name q)) ∙ none);
}

-- ---- one identifier more

id_placed : (places : Places) (name id q i : Text) → get (ids_at (with_place places name id) q) i ≡ None → ((text_eq q name && text_eq i id) ≡ false)
    × (get (ids_at places q) i ≡ None)
id_placed places name id q i none =
    by (text_eq q name) refl (sym (ap (λ (ids : Ids). get ids i) (ids_of_insert places name q (insert (ids_at places name) id tt))) ∙ none)
  where
    by : (b : Bool) → text_eq q name ≡ b → get (cond b (insert (ids_at places name) id tt) (ids_at places q)) i ≡ None → ((b && text_eq i id) ≡ false)
        × (get (ids_at places q) i ≡ None)
    by true same gone =
        let both = missing (ids_at places name) id i tt gone in
        (both.0, ap (λ n. get (ids_at places n) i) (text_same q name same) ∙ both.1)
    by false other gone = (refl, gone)

module _ (places : Places) (name id : Text) where
  pub addition_placed : (raw : RawFact) → IsPlaced (Ask (call.Add name id raw)) places (with_place places name id)
  addition_placed raw = record {
    names = λ q none. (refl, (missing places name q (insert (ids_at places name) id tt) none).1);
    ids = λ q i none. id_placed places name id q i none;
  }

  pub removal_placed : IsPlaced (Ask (call.Remove name id)) places (with_place places name id)
  removal_placed = record {
    names = λ q none. (refl, (missing places name q (insert (ids_at places name) id tt) none).1);
    ids = λ q i none. id_placed places name id q i none;
  }

-- ---- what is added of a step

module _ (places places' : Places) (h : History) (e : Entry) (has : HasPlaces places h) where
  pub name_added : (name given : Text) (r : Report) → e.step ≡ Load name r → given ≡ name → places' ≡ with_name places given → HasPlaces places' (e ∷ h)
  name_added name given r is same added =
      places_after (Load name r) places places' h e (subst (IsPlaced (Load name r) places) (sym (added ∙ ap (with_name places) same))
      (name_placed places name r)) is has

  abbrev AddedTo : Text → Text → Text → Text → Type 0
  AddedTo name id given_name given_id = (given_name ≡ name) × (given_id ≡ id) × (places' ≡ with_place places given_name given_id)

  placed_there : (name id given_name given_id : Text) → AddedTo name id given_name given_id → places' ≡ with_place places name id
  placed_there name id given_name given_id (same_name, same_id, added) = added ∙ (λ i. with_place places (same_name i) (same_id i))

  addition_added : (name id given_name given_id : Text) (raw : RawFact) → e.step ≡ Ask (call.Add name id raw) → AddedTo name id given_name given_id
      → HasPlaces places' (e ∷ h)
  addition_added name id given_name given_id raw is added =
      places_after (Ask (call.Add name id raw)) places places' h e
      (subst (IsPlaced (Ask (call.Add name id raw)) places) (sym (placed_there name id given_name given_id added)) (addition_placed places name id raw)) is has

  removal_added : (name id given_name given_id : Text) → e.step ≡ Ask (call.Remove name id) → AddedTo name id given_name given_id → HasPlaces places' (e ∷ h)
  removal_added name id given_name given_id is added =
      places_after (Ask (call.Remove name id)) places places' h e
      (subst (IsPlaced (Ask (call.Remove name id)) places) (sym (placed_there name id given_name given_id added)) (removal_placed places name id)) is has

  -- of an addition or a removal
  pub place_added : (name id given_name given_id : Text) → ((raw : RawFact) × (e.step ≡ Ask (call.Add name id raw))) ⊎ (e.step ≡ Ask (call.Remove name id))
      → AddedTo name id given_name given_id → HasPlaces places' (e ∷ h)
  place_added name id given_name given_id (inl (raw, is)) added = addition_added name id given_name given_id raw is added
  place_added name id given_name given_id (inr is) added = removal_added name id given_name given_id is added
