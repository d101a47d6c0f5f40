-- Finite maps from texts as functions: what a look-up finds after an insertion, and that maps which answer alike are equal.
use Rattle.std.proofs.Common.{◌≡◌, ◌∙◌, ap, sym, refl, T, List, [], ◌∷◌, Some, cond, not, Bool, true, false, None}
use Rattle.std.specs.Cmp.Lexicographic.{nat_list_cmp_total}
use Rattle.std.specs.FinMap.{slice_cmp-IsAntisymmetric, nat_cmp-IsAntisymmetric}
use Rattle.std.specs.FinMap.Entries.{find, put, is_sorted, find-put, same_entries, find-where_key}
use Rattle.filing_model.specs.Common.Text.{Text, text_cmp, text_eq}
use Rattle.filing_model.specs.Common.TextMap.{TextMap, get, insert, from_entries, remove}
use Rattle.filing_model.proofs.Common.Texts.{text_cmp-Equal, text_eq-sym}
use mathlib.Core.HLevel.{Σ_prop_path}
use lib.Dec.{T_prop}

-- maps with the same entries are equal
pub same_list : {X : Type 0} (m n : TextMap X) → m.entries ≡ n.entries → m ≡ n
same_list {X} m n e =
    let pairs : ◌≡◌ {A = (es : List (Text × X)) × T (is_sorted text_cmp es)} (m.entries, m.sorted) (n.entries, n.sorted) = Σ_prop_path (λ es. T_prop _) e in
    λ i. record { entries = (pairs i).0; sorted = (pairs i).1 }

-- maps that answer alike are equal
pub same_map : {X : Type 0} (m n : TextMap X) → ((key : Text) → get m key ≡ get n key) → m ≡ n
same_map m n alike = same_list m n (same_entries text_cmp nat_list_cmp_total (slice_cmp-IsAntisymmetric nat_cmp-IsAntisymmetric) m.entries n.entries m.sorted n.sorted alike)

pub get-insert : {X : Type 0} (m : TextMap X) (key : Text) (x : X) (q : Text) → get (insert m key x) q ≡ cond (text_eq q key) (Some x) (get m q)
get-insert m key x q = find-put text_cmp nat_list_cmp_total q key x m.entries

other_way : {A : Type 0} (b : Bool) (x y : A) → cond (not b) x y ≡ cond b y x
other_way true x y = refl
other_way false x y = refl

pub get-remove : {X : Type 0} (m : TextMap X) (key : Text) (q : Text) → get (remove m key) q ≡ cond (text_eq q key) None (get m q)
get-remove m key q =
    find-where_key text_cmp (λ k. not (text_eq key k)) q (λ x same. ap (λ k. not (text_eq key k)) (sym (text_cmp-Equal q x same))) m.entries
    ∙ other_way (text_eq key q) (get m q) None
    ∙ ap (λ b. cond b None (get m q)) (text_eq-sym key q)

-- the first value of a key counts, in whatever order the entries stand
pub get-from_entries : {X : Type 0} (es : List (Text × X)) (q : Text) → get (from_entries es) q ≡ find text_cmp q es
get-from_entries [] q = refl
get-from_entries (e ∷ es) q = get-insert (from_entries es) e.0 e.1 q ∙ ap (λ o. cond (text_eq q e.0) (Some e.1) o) (get-from_entries es q)

pub from_entries-entries : {X : Type 0} (m : TextMap X) → from_entries m.entries ≡ m
from_entries-entries m = same_map _ _ (get-from_entries m.entries)

pub from_entries-put : {X : Type 0} (key : Text) (x : X) (es : List (Text × X)) → from_entries (put text_cmp key x es) ≡ insert (from_entries es) key x
from_entries-put key x es = same_map _ _ (λ q.
    get-from_entries (put text_cmp key x es) q
    ∙ find-put text_cmp nat_list_cmp_total q key x es
    ∙ ap (λ o. cond (text_eq q key) (Some x) o) (sym (get-from_entries es q))
    ∙ sym (get-insert (from_entries es) key x q))
