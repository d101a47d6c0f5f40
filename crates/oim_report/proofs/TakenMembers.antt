-- A member that is taken out of an object.
use Rattle.std.proofs.Common.{◌≡◌, ◌∙◌, ap, sym, refl, false, cond, List, [], ◌∷◌, Some, Less, Equal, Greater, is_eq, true≢false, string_bytes}
use Rattle.std.specs.Ordering.{match_ordering}
use Rattle.std.specs.Map.{remove_entry}
use Rattle.std.specs.BTreeMap.{is_at}
use Rattle.serde_json.specs.Data.{Data, Members}
use Rattle.serde_json.specs.Find.{get_member}
use Rattle.serde_json.specs.View.{view, members_view}
use Rattle.filing_model.specs.Common.Text.{Text, text_cmp, text_eq}
use Rattle.filing_model.proofs.Common.Texts.{text_cmp-Equal}
use Rattle.oim_report.proofs.EachMember.{Entry}

-- a member of another name is passed over
passed_over : (other name : Text) (d : Data) (ms : Members) → text_eq other name ≡ false
    → get_member other ms ≡ match_ordering (text_cmp other name) (get_member other ms) (Some d) (get_member other ms)
passed_over other name d ms h =
    elim (text_cmp other name) as (λ o. is_eq o ≡ false
    → get_member other ms ≡ match_ordering o (get_member other ms) (Some d) (get_member other ms)) [
      | Less ↦ λ _. refl
      | Equal ↦ λ tie. absurd (true≢false tie)
      | Greater ↦ λ _. refl
    ] h

-- the members of other names stay
pub others_stay : (other name : Text) → text_eq other name ≡ false → (es : List Entry)
    → get_member other (members_view (remove_entry (is_at (λ k. text_cmp name (string_bytes k))) es)) ≡ get_member other (members_view es)
others_stay other name h [] = refl
others_stay other name h (e ∷ es) =
    let rest = others_stay other name h es in
    let removed = remove_entry (is_at (λ k. text_cmp name (string_bytes k))) es in
    elim (text_cmp name (string_bytes e.0))
    as (λ o. text_cmp name (string_bytes e.0) ≡ o
    → get_member other (members_view (cond (is_eq o) es (e ∷ removed)))
    ≡ get_member other (members_view (e ∷ es))) [
      | Less ↦ λ _. ap (λ m. match_ordering (text_cmp other (string_bytes e.0)) m (Some (view e.1)) m) rest
      | Equal ↦
          λ tie. passed_over other (string_bytes e.0) (view e.1) (members_view es)
          (ap (λ k. text_eq other k) (sym (text_cmp-Equal name (string_bytes e.0) tie)) ∙ h)
      | Greater ↦ λ _. ap (λ m. match_ordering (text_cmp other (string_bytes e.0)) m (Some (view e.1)) m) rest
    ] refl
