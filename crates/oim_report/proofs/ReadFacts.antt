-- What is read of a JSON value can be written and read again.
use Rattle.std.proofs.Common.{◌≡◌, ◌^◌, pos, negsuc, true, false, cond, List, codes, Option, Some, None, Ordering, Less, Equal, Greater, Result, Ok, Err, IfOk, refl, subst}
use Rattle.std.specs.Prelude.{⊤, nat_lt}
use Rattle.std.specs.Option.{option_and_then, ok_or}
use Rattle.std.specs.Ordering.{nat_cmp, match_ordering}
use Rattle.std.specs.Cmp.Lexicographic.{slice_cmp}
use Rattle.std.proofs.lemmas.Bool.{or_parts, ltb-true}
use Rattle.serde_json.specs.Data.{Num, unsigned, negative, float, Data, null, boolean, number, string, array, object, Items, no_items, item, Members, no_members, member}
use Rattle.serde_json.specs.Find.{get, get_member, as_i64}
use Rattle.serde_json.specs.Written.{has_float, items_have_float, members_have_float, compact_text}
use Rattle.filing_model.specs.Common.Text.{Text}
use Rattle.filing_model.specs.Common.Try.{◌>>=◌, map_err}
use Rattle.filing_model.specs.Reading.JsonText.{as_nullable, IsWhole, IsWritable, AreWritable, AreMembersWritable}
use Rattle.filing_model.specs.Oim.Dimensions.{Dims, AreDims, dims_of}
use Rattle.filing_model.specs.Oim.Facts.{RawFact}
use Rattle.filing_model.specs.Reading.Fitted.{AreLinks}
use Rattle.filing_model.specs.Reading.ReadFact.{named_dims, decimals_of, links_of, raw_fact_of}
use Rattle.filing_model.specs.declared.faults.DimFault.{DimFault}
use Rattle.filing_model.specs.declared.faults.Trouble.{Trouble}
use Rattle.filing_model.specs.declared.faults.Trouble.TheVariants as trouble
use Rattle.filing_model.proofs.Oim.DimensionSets.{AreDims-from_Ok}
use Rattle.oim_report.specs.JsonValues.{IsJsonNumber, IsJsonValue, AreJsonValues, AreJsonMembers}
use Rattle.oim_report.specs.ReadableFact.{AreWholeDecimals, IsReadableFact}

-- ---- a value without floats is writable

whole_number : (n : Num) → IsJsonNumber n → has_float (number n) ≡ false → IsWhole n
whole_number (unsigned n) h whole = h
whole_number (negative (pos n)) h whole = h
whole_number (negative (negsuc n)) h whole = h
whole_number (float x) h whole = cc

mutual
  writable : (d : Data) → IsJsonValue d → has_float d ≡ false → IsWritable d
  writable null h whole = tt
  writable (boolean b) h whole = tt
  writable (number n) h whole = whole_number n h whole
  writable (string text) h whole = h
  writable (array ds) h whole = are_writable ds h whole
  writable (object ms) h whole = (h.0, members_writable ms h.1 whole)

  are_writable : (ds : Items) → AreJsonValues ds → items_have_float ds ≡ false → AreWritable ds
  are_writable no_items h whole = tt
  are_writable (item d ds) h whole =
      let parts = or_parts (has_float d) (items_have_float ds) whole in
      (writable d h.0 parts.0, are_writable ds h.1 parts.1)

  members_writable : (ms : Members) → AreJsonMembers ms → members_have_float ms ≡ false → AreMembersWritable ms
  members_writable no_members h whole = tt
  members_writable (member name d ms) h whole =
      let parts = or_parts (has_float d) (members_have_float ms) whole in
      (h.0, writable d h.1 parts.0, members_writable ms h.2 parts.1)

-- ---- what is found in a value is one

abbrev IfFound : Option Data → Type 0
IfFound None = ⊤
IfFound (Some d) = IsJsonValue d

found_here : (o : Ordering) (e : Data) (rest : Option Data) → IsJsonValue e → IfFound rest → IfFound (match_ordering o rest (Some e) rest)
found_here Less e rest h later = later
found_here Equal e rest h later = h
found_here Greater e rest h later = later

member_found : (k : Text) (ms : Members) → AreJsonMembers ms → IfFound (get_member k ms)
member_found k no_members h = tt
member_found k (member l e ms) h = found_here (slice_cmp nat_cmp k l) e (get_member k ms) h.1 (member_found k ms h.2)

found : (k : Text) (d : Data) → IsJsonValue d → IfFound (get k d)
found k null h = tt
found k (boolean b) h = tt
found k (number n) h = tt
found k (string text) h = tt
found k (array ds) h = tt
found k (object ms) h = member_found k ms h.1

-- ---- the parts of a raw fact

integer_whole : (n : Num) → IsJsonNumber n → IfOk (ok_or (as_i64 n) trouble.NotWhole >>= λ z. Ok (Some z)) AreWholeDecimals
integer_whole (unsigned n) h =
    elim (nat_lt n (2 ^ 63)) as (λ b. nat_lt n (2 ^ 63) ≡ b
    → IfOk {E = Trouble} (ok_or (cond b (Some (pos n)) None) trouble.NotWhole >>= λ z. Ok (Some z))
    AreWholeDecimals) [
      | true ↦ λ below. ltb-true n _ below
      | false ↦ λ _. tt
    ] refl
integer_whole (negative (pos n)) h = absurd h
integer_whole (negative (negsuc n)) h = h
integer_whole (float x) h = tt

decimals_whole : (o : Option Data) → IfFound o → IfOk (decimals_of o) AreWholeDecimals
decimals_whole None h = tt
decimals_whole (Some null) h = tt
decimals_whole (Some (number n)) h = integer_whole n h
decimals_whole (Some (boolean b)) h = tt
decimals_whole (Some (string text)) h = tt
decimals_whole (Some (array ds)) h = tt
decimals_whole (Some (object ms)) h = tt

links_kept : (o : Option Data) → IfFound o → IfOk (links_of o) AreLinks
links_kept None h = tt
links_kept (Some (object ms)) h =
    elim (has_float (object ms)) as (λ b. has_float (object ms) ≡ b
    → IfOk {E = Trouble} (cond b (Err trouble.NotWhole) (Ok (Some (compact_text (object ms))))) AreLinks) [
      | true ↦ λ _. tt
      | false ↦ λ whole. (ms, writable (object ms) h whole, refl)
    ] refl
links_kept (Some null) h = tt
links_kept (Some (boolean b)) h = tt
links_kept (Some (number n)) h = tt
links_kept (Some (string text)) h = tt
links_kept (Some (array ds)) h = tt

-- what holds of each step's value holds of the last
then_ok : {A B E : Type 0} (P : A → Type 0) (Q : B → Type 0) (r : Result A E) (f : A → Result B E) → IfOk r P
    → ((x : A) → P x → IfOk (f x) Q) → IfOk (r >>= f) Q
then_ok P Q (Ok x) f h each = each x h
then_ok P Q (Err e) f h each = tt

any_ok : {A E : Type 0} (r : Result A E) → IfOk r (λ _. ⊤)
any_ok (Ok x) = tt
any_ok (Err e) = tt

are_dims : (named : List (Text × Option Text)) (r : Result Dims DimFault) → dims_of named ≡ r → IfOk (map_err trouble.Dims r) AreDims
are_dims named (Ok dims) h = AreDims-from_Ok named dims h
are_dims named (Err fault) h = tt

made : (d : Data) → IsJsonValue d → IfOk (raw_fact_of d) IsReadableFact
made d h =
    then_ok (λ _. ⊤) IsReadableFact (named_dims d) _ (any_ok _) (λ named _.
    then_ok (λ _. ⊤) IsReadableFact (ok_or (option_and_then as_nullable (get (codes "value") d)) trouble.WrongShape) _ (any_ok _) (λ value _.
    then_ok AreWholeDecimals IsReadableFact (decimals_of (get (codes "decimals") d)) _
    (decimals_whole _ (found (codes "decimals") d h)) (λ decimals whole.
    then_ok AreLinks IsReadableFact (links_of (get (codes "links") d)) _ (links_kept _ (found (codes "links") d h)) (λ links are.
    then_ok AreDims IsReadableFact (map_err trouble.Dims (dims_of named)) _ (are_dims named (dims_of named) refl) (λ dims set.
    record { dims = set; decimals = whole; links = are })))))

pub readable : (d : Data) (raw : RawFact) → IsJsonValue d → raw_fact_of d ≡ Ok raw → IsReadableFact raw
readable d raw h is = subst (λ r. IfOk r IsReadableFact) is (made d h)
