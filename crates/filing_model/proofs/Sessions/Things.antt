-- A thing is fixed by its rank and its parts, and by what a hasher is fed of it.
use Rattle.std.proofs.Common.{◌≡◌, ◌∙◌, ◌↔◌, refl, ap, sym, ℕ, zero, suc, ◌==◌, false, eq-eqb, List, [], ◌∷◌, ◌++◌}
use Rattle.std.proofs.Common.{Option, Some, None, Equal, is_eq, true≢false, Decides, unwrap_or, flat_map}
use Rattle.std.proofs.Common.{append_assoc, append-nil}
use Rattle.std.specs.Cmp.{IsTotalOrder, Equal-is, tied_itself, on_total, then_total, nat_cmp_total}
use Rattle.std.specs.Cmp.Lexicographic.{slice_cmp, nat_list_cmp_total, options_total, lists_total}
use Rattle.std.specs.FinMap.{nat_cmp-IsAntisymmetric, slice_cmp-IsAntisymmetric}
use Rattle.std.specs.Option.{option_cmp}
use Rattle.std.specs.Ordering.{nat_cmp}
use Rattle.std.specs.Hash as fed
use Rattle.std.specs.Hash.{HashWrites, le_bytes, same_Alike}
use Rattle.filing_model.specs.Common.Text.{Text, text_cmp}
use Rattle.filing_model.specs.Oim.Dimensions.{Dims}
use Rattle.filing_model.specs.Sessions.Calls.{PeriodFilter, Any, Without, Exactly}
use Rattle.filing_model.specs.Sessions.Things.{Thing, Report, Id, Cell, Range, Policy, rank_of, asked_parts, dim_parts, parts_of, thing_cmp, thing_eq, asked_hash, thing_hash}
use Rattle.filing_model.specs.Laws.ThingLaws.{AreKeys}
use Rattle.filing_model.proofs.Common.Tests.{both_are_equal}
use Rattle.filing_model.proofs.Oim.DimensionSets.{nullable_Equal}

-- ---- the thing of a rank and parts

abbrev text_in : Option Text → Text
text_in part = unwrap_or part []

abbrev asked_from : Option Text → Option Text → PeriodFilter
asked_from (Some period) also = Exactly period
asked_from None (Some text) = Without
asked_from None None = Any

abbrev dims_from : List (Option Text) → Dims
dims_from [] = []
dims_from (name ∷ []) = []
dims_from (name ∷ value ∷ parts) = (text_in name, value) ∷ dims_from parts

abbrev thing_from : ℕ → List (Option Text) → Thing
thing_from zero (name ∷ parts) = Report (text_in name)
thing_from (suc zero) (name ∷ id ∷ parts) = Id (text_in name) (text_in id)
thing_from (suc (suc zero)) (name ∷ parts) = Cell (text_in name) (dims_from parts)
thing_from (suc (suc (suc zero))) (name ∷ concept ∷ asked ∷ also ∷ after ∷ upto ∷ parts) =
    Range (text_in name) (record { concept = text_in concept; period = asked_from asked also; after = after }) upto
thing_from rank (name ∷ parts) = Policy (text_in name)
thing_from rank [] = Policy []

dims_again : (dims : Dims) → dims_from (dim_parts dims) ≡ dims
dims_again [] = refl
dims_again (d ∷ ds) = ap (λ es. d ∷ es) (dims_again ds)

range_again : (name concept : Text) (asked : PeriodFilter) (after upto : Option Text)
    → thing_from 3 (Some name ∷ Some concept ∷ (asked_parts asked ++ after ∷ upto ∷ [])) ≡ Range name (record { concept = concept; period = asked; after = after }) upto
range_again name concept Any after upto = refl
range_again name concept Without after upto = refl
range_again name concept (Exactly period) after upto = refl

thing_again : (t : Thing) → thing_from (rank_of t) (parts_of t) ≡ t
thing_again (Report name) = refl
thing_again (Id name id) = refl
thing_again (Cell name dims) = ap (Cell name) (dims_again dims)
thing_again (Range name query upto) = range_again name query.concept query.period query.after upto
thing_again (Policy name) = refl

pub same_parts : (t u : Thing) → rank_of t ≡ rank_of u → parts_of t ≡ parts_of u → t ≡ u
same_parts t u ranks parts = sym (thing_again t) ∙ (λ i. thing_from (ranks i) (parts i)) ∙ thing_again u

-- ---- their order

pub thing_cmp-total : IsTotalOrder thing_cmp
thing_cmp-total = then_total (on_total rank_of nat_cmp_total) (on_total parts_of (lists_total (options_total nat_list_cmp_total)))

pub thing_cmp-Equal : (t u : Thing) → thing_cmp t u ≡ Equal → t ≡ u
thing_cmp-Equal t u h =
    let parts = both_are_equal (nat_cmp (rank_of t) (rank_of u)) (slice_cmp (option_cmp text_cmp) (parts_of t) (parts_of u)) h in
    same_parts t u (nat_cmp-IsAntisymmetric (rank_of t) (rank_of u) parts.0) (slice_cmp-IsAntisymmetric nullable_Equal (parts_of t) (parts_of u) parts.1)

pub thing_cmp-itself : (t : Thing) → thing_cmp t t ≡ Equal
thing_cmp-itself = tied_itself thing_cmp-total

pub thing_ties : (t u : Thing) → (thing_cmp t u ≡ Equal) ↔ (t ≡ u)
thing_ties t u = (thing_cmp-Equal t u, λ e. ap (thing_cmp t) (sym e) ∙ thing_cmp-itself t)

pub thing_decides : (t u : Thing) → Decides (thing_eq t u) (t ≡ u)
thing_decides t u = (λ h. thing_cmp-Equal t u ((Equal-is (thing_cmp t u)).0 h), λ e. ap is_eq ((thing_ties t u).1 e))

-- ---- what a hasher is fed

abbrev first : HashWrites → List ℕ
first [] = []
first (w ∷ ws) = w

abbrev rest : HashWrites → HashWrites
rest [] = []
rest (w ∷ ws) = ws

abbrev leading : List ℕ → ℕ
leading [] = 0
leading (b ∷ bs) = b

abbrev leading_byte : HashWrites → ℕ
leading_byte ws = leading (first ws)

other_byte : {P : Type 0} (m n : ℕ) → m ≡ n → (m == n) ≡ false → P
other_byte m n e differ = absurd (true≢false (sym (eq-eqb m n e) ∙ differ))

option_fed : (o p : Option Text) (us vs : HashWrites) → fed.option fed.str o ++ us ≡ fed.option fed.str p ++ vs → (o ≡ p) × (us ≡ vs)
unfolding le_bytes
option_fed None None us vs e = (refl, ap rest e)
option_fed None (Some y) us vs e = other_byte 0 1 (ap leading_byte e) refl
option_fed (Some x) None us vs e = other_byte 1 0 (ap leading_byte e) refl
option_fed (Some x) (Some y) us vs e = (ap (λ ws. Some (first (rest ws))) e, ap (λ ws. rest (rest (rest ws))) e)

asked_fed : (p q : PeriodFilter) (us vs : HashWrites) → asked_hash p ++ us ≡ asked_hash q ++ vs → (p ≡ q) × (us ≡ vs)
asked_fed Any Any us vs e = (refl, ap rest e)
asked_fed Without Without us vs e = (refl, ap rest e)
asked_fed (Exactly period) (Exactly other) us vs e = (ap (λ ws. Exactly (first (rest ws))) e, ap (λ ws. rest (rest (rest ws))) e)
asked_fed Any Without us vs e = other_byte 0 1 (ap leading_byte e) refl
asked_fed Any (Exactly other) us vs e = other_byte 0 2 (ap leading_byte e) refl
asked_fed Without Any us vs e = other_byte 1 0 (ap leading_byte e) refl
asked_fed Without (Exactly other) us vs e = other_byte 1 2 (ap leading_byte e) refl
asked_fed (Exactly period) Any us vs e = other_byte 2 0 (ap leading_byte e) refl
asked_fed (Exactly period) Without us vs e = other_byte 2 1 (ap leading_byte e) refl

dims_fed : (ds es : Dims) → flat_map (λ d. fed.str d.0 ++ fed.option fed.str d.1) ds ≡ flat_map (λ d. fed.str d.0 ++ fed.option fed.str d.1) es → ds ≡ es
dims_fed [] [] e = refl
dims_fed [] (d ∷ es) e = other_byte 0 255 (ap (λ ws. leading_byte (rest ws)) e) refl
dims_fed (d ∷ ds) [] e = other_byte 255 0 (ap (λ ws. leading_byte (rest ws)) e) refl
dims_fed (d ∷ ds) (c ∷ es) e =
    let parts = option_fed d.1 c.1 _ _ (ap (λ ws. rest (rest ws)) e) in
    λ i. (ap first e i, parts.0 i) ∷ dims_fed ds es parts.1 i

fed_same : (t u : Thing) → thing_hash t ≡ thing_hash u → t ≡ u
fed_same (Report m) (Report n) e = ap (λ ws. Report (first (rest ws))) e
fed_same (Id m i) (Id n j) e = ap (λ ws. Id (first (rest ws)) (first (rest (rest (rest ws))))) e
fed_same (Cell m x) (Cell n y) e = λ k. Cell (first (rest (e k))) (dims_fed x y (ap (λ ws. rest (rest (rest (rest ws)))) e) k)
fed_same (Range m s x) (Range n t y) e =
    let period = asked_fed s.period t.period (fed.option fed.str s.after ++ fed.option fed.str x) (fed.option fed.str t.after ++ fed.option fed.str y)
    (sym (append_assoc (asked_hash s.period) _ _) ∙ ap (λ ws. rest (rest (rest (rest (rest ws))))) e ∙ append_assoc (asked_hash t.period) _ _) in
    let after = option_fed s.after t.after (fed.option fed.str x) (fed.option fed.str y) period.1 in
    let upto = option_fed x y [] [] (append-nil _ ∙ after.1 ∙ sym (append-nil _)) in
    λ i. Range (first (rest (e i))) (record { concept = first (rest (rest (rest (e i)))); period = period.0 i; after = after.0 i }) (upto.0 i)
fed_same (Policy m) (Policy n) e = ap (λ ws. Policy (first (rest ws))) e
fed_same t u e = other_byte (rank_of t) (rank_of u) (ap leading_byte e) refl

pub things_are_keys : AreKeys
things_are_keys = record { total = thing_cmp-total; ties = thing_ties; decides = thing_decides; fed_alike = same_Alike thing_hash thing_decides; fed_apart = fed_same }
