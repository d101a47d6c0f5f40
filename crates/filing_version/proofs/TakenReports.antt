-- A report that is taken out of the reports of a version, and another one in its place.
use Rattle.std.proofs.Common.{◌≡◌, ◌∙◌, ap, sym, subst, ℕ, [], ◌∷◌, Option, Some, String, Global}
use Rattle.std.specs.Prelude.{string_bytes, Result, Ok, IfOk, IfSome}
use Rattle.filing_model.specs.Common.Text.{Text}
use Rattle.filing_model.specs.Common.TextMap.{TextMap, get, insert, remove}
use Rattle.filing_model.specs.Sessions.Changes.{ReportChange, changed, changed_at}
use Rattle.text_map.proofs.TakenEntries.{insert-remove}
use Rattle.filing_version.specs.StampedReports.{StampedReportValue, StampedReports, mapped, stamped_report_of, changed_stamped_report, stamped_reports_after}
use Rattle.filing_version.specs.StampedReports.{KeepsItsStamps, IsStampedUpTo, version_of, version_in}
use Rattle.filing_version.proofs.StampedReports.{stamped_one, keeps_its_stamps, another_report, another_up_to, changed_there}

module _ (reports left : TextMap StampedReportValue)
    (name : Text) {o : Option (String Global × StampedReportValue)} {bytes : String Global} {old : StampedReportValue} (is : o ≡ Some (bytes, old))
    (taken : IfSome o (λ t. (string_bytes t.0 ≡ name) × (get reports name ≡ Some t.1) × (left ≡ remove reports name))) where
  so : (string_bytes bytes ≡ name) × (get reports name ≡ Some old) × (left ≡ remove reports name)
  so = subst (λ o. IfSome o (λ t. (string_bytes t.0 ≡ name) × (get reports name ≡ Some t.1) × (left ≡ remove reports name))) is taken

  -- it was held under the name
  pub was_held : get reports name ≡ Some old
  was_held = so.1

  module _ (part : Text × ReportChange) {change : ReportChange} {E : Type 0} {entry : Result (Text × StampedReportValue) E} {next : TextMap StampedReportValue}
      (named : name ≡ part.0) (same : change ≡ part.1) (under : IfOk entry (λ e. e.0 ≡ string_bytes bytes))
      (put : (made : Text × StampedReportValue) × (entry ≡ Ok made) × (next ≡ insert left made.0 made.1)) where
    abbrev new : StampedReportValue
    new = put.0.1

    held : get reports part.0 ≡ Some old
    held = ap (get reports) (sym named) ∙ so.1

    in_place : next ≡ insert reports part.0 new
    in_place =
        put.2
        ∙ (λ i. insert (so.2 i) ((subst (λ r. IfOk r (λ e. e.0 ≡ string_bytes bytes)) put.1 under ∙ so.0) i) new)
        ∙ insert-remove reports name new
        ∙ ap (λ t. insert reports t new) named

    -- with its change, stamped with a number
    pub stamped_in_place : (number : ℕ) → IfOk entry (λ e. stamped_report_of e.1 ≡ changed_stamped_report number change (stamped_report_of old))
        → mapped stamped_report_of next ≡ stamped_reports_after number (part ∷ []) (mapped stamped_report_of reports)
    stamped_in_place number made = stamped_one number reports next part old new held
        (subst (λ r. IfOk r (λ e. stamped_report_of e.1 ≡ changed_stamped_report number change (stamped_report_of old))) put.1 made
        ∙ ap (λ c. changed_stamped_report number c (stamped_report_of old)) same)
        in_place

    -- with its change and the stamps that it had
    module _ (number : ℕ) (made : IfOk entry (λ e. stamped_report_of e.1 ≡ record (stamped_report_of old) { report = changed change old.report })) where
      abbrev before : StampedReports
      before = record { number = number; reports = reports }

      so_made : stamped_report_of new ≡ record (stamped_report_of old) { report = changed part.1 old.report }
      so_made =
          subst (λ r. IfOk r (λ e. stamped_report_of e.1 ≡ record (stamped_report_of old) { report = changed change old.report })) put.1 made
          ∙ ap (λ (c : ReportChange). record (stamped_report_of old) { report = changed c old.report }) same

      keeps : KeepsItsStamps reports part.0 old new
      keeps = keeps_its_stamps reports part.0 old new (changed part.1 old.report) held so_made

      pub version_in_place : version_of number (mapped stamped_report_of next)
          ≡ record (version_of number (mapped stamped_report_of reports))
          { repository = changed_at (version_of number (mapped stamped_report_of reports)).repository part }
      version_in_place =
          ap (λ m. version_of number (mapped stamped_report_of m)) in_place
          ∙ another_report before part.0 old new keeps
          ∙ ap (λ r. record (version_in before) { repository = r }) (changed_there before part.0 old new held part.1 so_made)

      pub up_to_in_place : IsStampedUpTo number (mapped stamped_report_of reports) → IsStampedUpTo number (mapped stamped_report_of next)
      up_to_in_place h = subst (λ m. IsStampedUpTo number (mapped stamped_report_of m)) (sym in_place) (another_up_to before part.0 old new keeps h)
