-- The prefixes of a report (xBRL-JSON 1.0, the `namespaces` object). That a URI has one prefix alone is the project's own, so that names within a report compare as texts.
use Rattle.std.specs.Prelude.{if◌then◌else◌, List, map, Result, Ok, Err}
use Rattle.filing_model.specs.Common.Text.{Text, has_repeats}
use Rattle.filing_model.specs.Common.TextMap.{TextMap, from_entries}
use Rattle.filing_model.specs.declared.faults.NamesFault.{NamesFault}
use Rattle.filing_model.specs.declared.faults.NamesFault.TheVariants.{NameTwice, AliasTwice}

-- the map of prefixes with their URIs, or the first fault: a prefix twice, then a URI twice
abbrev pub prefixes_of : List (Text × Text) → Result (TextMap Text) NamesFault
prefixes_of bound =
    if has_repeats (map (λ p. p.0) bound) then Err NameTwice
    else if has_repeats (map (λ p. p.1) bound) then Err AliasTwice
    else Ok (from_entries bound)
