-- Each member of an object is found in it by its name.
use Rattle.std.proofs.Common.{◌≡◌, ◌∷◌, true, List, Option, Some, Less, Equal, Greater, String, string_bytes, is_some, ap, refl, subst}
use Rattle.std.specs.Cmp.{Equal-is}
use Rattle.std.specs.Ordering.{match_ordering}
use Rattle.std.specs.declared.alloc.Global.{Global}
use Rattle.std.specs.declared.cmp.Ordering.{Ordering}
use Rattle.serde_json.specs.Data.{Data, Members, no_members, member}
use Rattle.serde_json.specs.Find.{get_member}
use Rattle.serde_json.specs.View.{members_view}
use Rattle.serde_json.specs.declared.value.Value.{Value}
use Rattle.filing_model.specs.Common.Text.{Text, text_cmp}
use Rattle.filing_model.proofs.Common.Texts.{text_eq-refl}

abbrev pub Entry : Type 0
Entry = String Global × Value

-- each of the first is found by its name in the second
abbrev pub AreFound : Members → Members → Type 0
AreFound no_members all = Unit {0}
AreFound (member k d ms) all = (is_some (get_member k all) ≡ true) × AreFound ms all

-- the same value stands at both ends, or another one between
either : (o : Ordering) (found : Option Data) (d : Data) → is_some found ≡ true → is_some (match_ordering o found (Some d) found) ≡ true
either Less found d h = h
either Equal found d h = refl
either Greater found d h = h

further : (ms all : Members) (k : Text) (d : Data) → AreFound ms all → AreFound ms (member k d all)
further no_members all k d h = tt
further (member l e ms) all k d h = (either (text_cmp l k) (get_member l all) d h.0, further ms all k d h.1)

at_head : (o : Ordering) (found : Option Data) (d : Data) → o ≡ Equal → is_some (match_ordering o found (Some d) found) ≡ true
at_head o found d e = ap (λ p. is_some (match_ordering p found (Some d) found)) e

same_text : (k : Text) → text_cmp k k ≡ Equal
same_text k = (Equal-is (text_cmp k k)).0 (text_eq-refl k)

pub all_found : (ms : Members) → AreFound ms ms
all_found no_members = tt
all_found (member k d ms) = (at_head (text_cmp k k) (get_member k ms) d (same_text k), further ms ms k d (all_found ms))

-- the next of those that are left is found, and those behind it are
pub next_found : (left rest : List Entry) (k : String Global) (v : Value) (all : Members) → left ≡ (k, v) ∷ rest
    → AreFound (members_view left) all → (is_some (get_member (string_bytes k) all) ≡ true) × AreFound (members_view rest) all
next_found left rest k v all e h = subst (λ (ms : List Entry). AreFound (members_view ms) all) e h
