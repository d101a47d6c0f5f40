-- Texts that are appended one behind another.
use Rattle.std.proofs.Common.{◌≡◌, ◌∙◌, ap, sym, subst, refl, ℕ, ◌+◌, suc, Bool, true, false, cond, not, List, [], ◌∷◌, ◌++◌, map, Option, None, Some, option_map, option_and_then, string_bytes}
use Rattle.std.proofs.lemmas.Grind.{flat_map-append}
use Rattle.std.proofs.lemmas.List.{append_assoc}
use Rattle.std.specs.List.{flat_map}
use Rattle.std.specs.Option.{option_map_or}
use Rattle.filing_model.specs.Common.Text.{Text}
use Rattle.filing_model.specs.Reading.ReadReport.{ReportFault}
use Rattle.report_inspection.specs.Inspections.{reading_fault}
use Rattle.report_inspection.specs.Lines.{fault_id, fault_lines, fault_word, more_reason, reason_line, reasons_of}
use Rattle.report_inspection.specs.declared.fault.Fault.{Fault}

pub two_pushed : (o x y a b : Text) → x ≡ o ++ a → y ≡ x ++ b → y ≡ o ++ (a ++ b)
two_pushed o x y a b p q = q ∙ ap (λ t. t ++ b) p ∙ append_assoc o a b

pub three_pushed : (o x y z a b c : Text) → x ≡ o ++ a → y ≡ x ++ b → z ≡ y ++ c → z ≡ o ++ ((a ++ b) ++ c)
three_pushed o x y z a b c p q r = two_pushed o y z (a ++ b) c (two_pushed o x y a b p q) r

pub four_pushed : (o x y z w a b c d : Text) → x ≡ o ++ a → y ≡ x ++ b → z ≡ y ++ c → w ≡ z ++ d → w ≡ o ++ (a ++ (b ++ (c ++ d)))
four_pushed o x y z w a b c d p q r s =
    two_pushed o x w a (b ++ (c ++ d)) p (two_pushed x y w b (c ++ d) q (two_pushed y z w c d r s))

-- the reasons of a fault, and how many more there are
pub fault_pushed : (file : Text) (f : Fault) (o y z word : Text) (id : Option Text) (fault : Option ReportFault) → reading_fault f ≡ fault
    → Some word ≡ option_map fault_word fault → id ≡ option_and_then fault_id fault
    → y ≡ o ++ flat_map (reason_line file id word) (map string_bytes f.reasons.items)
    → z ≡ y ++ flat_map (reason_line file id word) (more_reason f.more) → z ≡ o ++ fault_lines file f
fault_pushed file f o y z word id None is word_is id_is p q = absurd (cc)
fault_pushed file f o y z word id (Some x) is word_is id_is p q =
    let same : word ≡ fault_word x = cc in
    two_pushed o y z _ _ p q
    ∙ ap (λ t. o ++ t)
    (sym (flat_map-append (reason_line file id word) (map string_bytes f.reasons.items) (more_reason f.more))
    ∙ (λ i. flat_map (reason_line file (id_is i) (same i)) (reasons_of f))
    ∙ sym (ap (λ o. option_map_or (λ fault. flat_map (reason_line file (fault_id fault) (fault_word fault)) (reasons_of f)) o []) is))
