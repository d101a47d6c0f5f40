-- Items and members that are looked at one by one: whether each number in them is whole.
use Rattle.std.proofs.Common.{◌≡◌, sym, subst, List, []}
use Rattle.serde_json.specs.View.{items_view, members_view}
use Rattle.serde_json.specs.Written.{items_have_float, members_have_float}
use Rattle.serde_json.specs.declared.value.Value.{Value}
use Rattle.filing_model.specs.Reading.JsonText.{AreWritable, AreMembersWritable}
use Rattle.oim_report.proofs.EachMember.{Entry}

-- what is known of all, of what is left
pub record OfItems (left all : List Value) : Type 0 where
  pub float : items_have_float (items_view all) ≡ items_have_float (items_view left)
  pub writable : AreWritable (items_view left) → AreWritable (items_view all)

pub record OfMembers (left all : List Entry) : Type 0 where
  pub float : members_have_float (members_view all) ≡ members_have_float (members_view left)
  pub writable : AreMembersWritable (members_view left) → AreMembersWritable (members_view all)

pub all_writable : (left all : List Entry) → left ≡ [] → OfMembers left all → AreMembersWritable (members_view all)
all_writable left all left_is h = h.writable (subst (λ es. AreMembersWritable (members_view es)) (sym left_is) tt)
