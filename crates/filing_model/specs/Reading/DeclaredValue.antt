-- Setting the declared value of a report: the feature `xbrl:allowedDuplicates` (Open Information Model 1.0) of its
-- `documentInfo`. That it may be set is the project's own.
use Rattle.std.specs.Prelude.{if◌then◌else◌, codes, Option, None, option_and_then, unwrap_or}
use Rattle.std.specs.Option.{option_map_or}
use Rattle.serde_json.specs.Data.{Data, string, object, Members, no_members, put}
use Rattle.serde_json.specs.Find.{get_member, as_object}
use Rattle.serde_json.specs.Read.{read}
use Rattle.serde_json.specs.Written.{has_float, compact_text}
use Rattle.filing_model.specs.Common.Text.{Text}
use Rattle.filing_model.specs.Oim.Reports.{Report}
use Rattle.filing_model.specs.Reading.ReadReport.{allowed_word}
use Rattle.filing_model.specs.declared.duplicates.Allowed.{Allowed}

-- the members of an object with whole numbers alone
abbrev pub whole_members : Data → Option Members
whole_members d = if has_float d then None else as_object d

-- the features among these members. There are none where `features` is missing; where it is no object, as in no report,
-- it counts as missing
abbrev pub features_in : Members → Members
features_in members = unwrap_or (option_and_then as_object (get_member (codes "features") members)) no_members

-- the features with this declared value. The others are kept
abbrev pub with_value : Members → Allowed → Members
with_value features allowed = put (codes "xbrl:allowedDuplicates") (string (allowed_word allowed)) features

-- the members of `documentInfo` with this declared value. The others are kept
abbrev pub declaring : Members → Allowed → Members
declaring members allowed = put (codes "features") (object (with_value (features_in members) allowed)) members

-- the info with this declared value, as compact text with the members in byte order of their names. A text that is no
-- object with whole numbers alone is no report's info, and stays as it is
unfoldable pub with_allowed : Text → Allowed → Text
with_allowed info allowed =
    option_map_or (λ members. compact_text (object (declaring members allowed)))
    (option_and_then whole_members (read info)) info

-- the report with this declared value, which its info says
abbrev pub report_declaring : Report → Allowed → Report
report_declaring report allowed = record report { info = with_allowed report.info allowed; allowed = allowed }
