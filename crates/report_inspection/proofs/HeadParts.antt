-- What a report says of itself, check by check.
use Rattle.std.proofs.Common.{◌≡◌, ◌∙◌, ap, sym, subst, refl, ℕ, ◌≤◌, max, Bool, true, false, cond, true≢false, List, [], ◌++◌, Option, None, Some, is_some, option_and_then, unwrap_or, Ok, Err, arith, Ordering, Less, Equal, Greater}
use Rattle.std.proofs.Math.Nat.{le-max_left, le-max_right}
use Rattle.std.proofs.lemmas.Bool.{le-leb}
use Rattle.std.proofs.lemmas.List.{append-nil}
use Rattle.std.specs.Option.{option_map_or}
use Rattle.std.specs.Ordering.{match_ordering}
use Rattle.serde_json.specs.Data.{Data, null, boolean, number, string, array, object, Members, no_members, member, depth, members_depth}
use Rattle.serde_json.specs.Find.{as_object, get, get_member}
use Rattle.serde_json.specs.Read.{max_depth}
use Rattle.serde_json.specs.Written.{has_float, compact_text}
use Rattle.filing_model.specs.Common.Text.{Text, text_cmp}
use Rattle.filing_model.specs.Oim.Facts.{Table}
use Rattle.filing_model.specs.Reading.JsonText.{an_object}
use Rattle.filing_model.specs.Reading.ReadReport.{NotJson, NotWhole, WrongDocumentType, WrongShape, whole_text_of}
use Rattle.filing_model.specs.declared.duplicates.Allowed.TheVariants.{All}
use Rattle.oim_report.specs.Readings.{declared_names, document_info_at, has_document_type}
use Rattle.report_inspection.specs.EachFault.{allowed_declared, fault_in, info_faults, value_in}
use Rattle.report_inspection.specs.Heads.{IsHead}
use Rattle.report_inspection.specs.Inspections.{AddsFaults, AreFaults, TellsFault}
use Rattle.report_inspection.specs.declared.fault.Fault.{Fault}
use Rattle.report_inspection.specs.declared.info.Head.{Head}
use Rattle.report_inspection.proofs.ToldFaults.{none_yet, of_reading, of_value, then_more}

-- ---- the document type

typed : (d : Data) → is_some (as_object d) ≡ true → document_info_at (Some d) ≡ cond (has_document_type d) (Ok d) (Err WrongDocumentType)
typed (object ms) h = refl
typed null h = absurd (true≢false (sym h))
typed (boolean b) h = absurd (true≢false (sym h))
typed (number n) h = absurd (true≢false (sym h))
typed (string s) h = absurd (true≢false (sym h))
typed (array ds) h = absurd (true≢false (sym h))

-- ---- whole numbers

abbrev text_if : Bool → Text → Option Text
text_if float text = cond float None (Some text)

whole_if : (d : Data) (float : Bool) → depth d ≤ max_depth → has_float d ≡ float → whole_text_of d ≡ cond float (Err NotWhole) (Ok (compact_text d))
whole_if d float shallow is =
    ap (λ b. cond b (cond (has_float d) (Err NotWhole) (Ok (compact_text d))) (Err NotJson)) (le-leb (depth d) max_depth shallow)
    ∙ ap (λ b. cond b (Err NotWhole) (Ok (compact_text d))) is

pub whole : (d : Data) (o : Option Text) (before after : List Fault) → depth d ≤ max_depth → o ≡ text_if (has_float d) (compact_text d)
    → is_some o ≡ true → after ≡ before → AddsFaults (fault_in (whole_text_of d)) before after
whole d o before after shallow o_is some same =
    subst (λ fs. AddsFaults (fault_in (whole_text_of d)) before fs) (sym same) (pick (has_float d) refl (sym (ap is_some o_is) ∙ some))
  where
    pick : (float : Bool) → has_float d ≡ float → is_some (text_if float (compact_text d)) ≡ true → AddsFaults (fault_in (whole_text_of d)) before before
    pick true is h = absurd (true≢false (sym h))
    pick false is h = of_value (whole_text_of d) (compact_text d) before (whole_if d false shallow is)

pub not_whole : (d : Data) (o : Option Text) (before after : List Fault) → depth d ≤ max_depth → o ≡ text_if (has_float d) (compact_text d)
    → is_some o ≡ false → TellsFault (Some NotWhole) before after → AddsFaults (fault_in (whole_text_of d)) before after
not_whole d o before after shallow o_is none told = pick (has_float d) refl (sym (ap is_some o_is) ∙ none)
  where
    pick : (float : Bool) → has_float d ≡ float → is_some (text_if float (compact_text d)) ≡ false → AddsFaults (fault_in (whole_text_of d)) before after
    pick true is h = of_reading (whole_text_of d) (Some NotWhole) before after (whole_if d true shallow is) told
    pick false is h = absurd (true≢false h)

-- ---- the whole

is_itself : (d : Data) → is_some (as_object d) ≡ true → an_object d ≡ Some d
is_itself d h = ap (λ b. cond b (Some d) None) h

-- of an object, once each check was made
pub head_of_object : (table : Table) (d : Data) (head : Head) (a b c e : List Fault) → is_some (as_object d) ≡ true
    → AddsFaults (fault_in (document_info_at (Some d))) a b → AddsFaults (fault_in (allowed_declared d)) b c
    → AddsFaults (fault_in (declared_names table d)) c e → AddsFaults (fault_in (whole_text_of d)) e head.faults.items
    → a ≡ [] → head.names ≡ value_in (declared_names table d) → head.allowed ≡ unwrap_or (value_in (allowed_declared d)) All
    → IsHead table (Some d) head
head_of_object table d head a b c e is type features names numbers begun names_are allowed_is = record {
  faults =
      subst (λ o. AreFaults (fault_in (document_info_at (Some d)) ++ option_map_or (info_faults table) o []) head.faults.items) (sym (is_itself d is))
      (then_more _ _ a b head.faults.items type
      (then_more _ _ b c head.faults.items features (then_more _ _ c e head.faults.items names numbers)) []
      (subst (AreFaults []) (sym begun) none_yet));
  names = names_are ∙ ap (option_and_then (λ info. value_in (declared_names table info))) (sym (is_itself d is));
  allowed = allowed_is ∙ ap (λ o. unwrap_or (option_and_then (λ info. value_in (allowed_declared info)) o) All) (sym (is_itself d is));
}

no_object : (o : Option Data) → option_and_then an_object o ≡ None → document_info_at o ≡ Err WrongShape
no_object None h = refl
no_object (Some (object ms)) h = absurd (cc)
no_object (Some null) h = refl
no_object (Some (boolean b)) h = refl
no_object (Some (number n)) h = refl
no_object (Some (string s)) h = refl
no_object (Some (array ds)) h = refl

-- of what is no object
pub no_head : (table : Table) (o : Option Data) (head : Head) (a : List Fault) → option_and_then an_object o ≡ None
    → TellsFault (Some WrongShape) a head.faults.items → a ≡ [] → head.names ≡ None → head.allowed ≡ All → IsHead table o head
no_head table o head a none told begun names_are allowed_is = record {
  faults =
      subst (λ x. AreFaults (fault_in (document_info_at o) ++ option_map_or (info_faults table) x []) head.faults.items) (sym none)
      (subst (λ fs. AreFaults fs head.faults.items) (sym (append-nil (fault_in (document_info_at o))))
      (of_reading (document_info_at o) (Some WrongShape) a head.faults.items (no_object o none) told [] (subst (AreFaults []) (sym begun) none_yet)));
  names = names_are ∙ ap (option_and_then (λ info. value_in (declared_names table info))) (sym none);
  allowed = allowed_is ∙ ap (λ x. unwrap_or (option_and_then (λ info. value_in (allowed_declared info)) x) All) (sym none);
}

-- ---- what stands in a value nests no deeper

depth_at : (o : Ordering) (d x : Data) (n : ℕ) (later : Option Data) → match_ordering o later (Some d) later ≡ Some x
    → (later ≡ Some x → depth x ≤ n) → depth x ≤ max (depth d) n
depth_at Less d x n later h rest = let within = rest h in let most = le-max_right (depth d) n in omega (arith, within, most)
depth_at Equal d x n later h rest =
    let same : d ≡ x = cc in
    let most = le-max_left (depth d) n in
    subst (λ y. depth y ≤ max (depth d) n) same most
depth_at Greater d x n later h rest = let within = rest h in let most = le-max_right (depth d) n in omega (arith, within, most)

member_depth : (name : Text) (ms : Members) (x : Data) → get_member name ms ≡ Some x → depth x ≤ members_depth ms
member_depth name no_members x h = absurd (cc)
member_depth name (member key d ms) x h =
    depth_at (text_cmp name key) d x (members_depth ms) (get_member name ms) h (member_depth name ms x)

pub part_depth : (name : Text) (d x : Data) → get name d ≡ Some x → depth d ≤ max_depth → depth x ≤ max_depth
part_depth name (object ms) x h shallow = let part = member_depth name ms x h in omega (arith, part, shallow)
part_depth name null x h shallow = absurd (cc)
part_depth name (boolean b) x h shallow = absurd (cc)
part_depth name (number n) x h shallow = absurd (cc)
part_depth name (string s) x h shallow = absurd (cc)
part_depth name (array ds) x h shallow = absurd (cc)
