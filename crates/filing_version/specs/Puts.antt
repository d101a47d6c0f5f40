-- What a change puts and removes, put by put. The project's own.
use Rattle.std.specs.Prelude.{List, [], map, Option, Some, None, option_map}
use Rattle.std.specs.List.{flat_map}
use Rattle.std.specs.Borrow.{Bor}
use Rattle.std.specs.Arc.{arc_value}
use Rattle.filing_model.specs.Common.Text.{Text}
use Rattle.filing_model.specs.Oim.Facts.{Fact}
use Rattle.filing_model.specs.Sessions.Changes.{ReportChange, Change}
use Rattle.oim_fact.specs.SharedFacts.{FactRef}

-- a report, an identifier, and the fact that is put there, or none where it is removed
abbrev pub PlainPut : Type 0
PlainPut = Text × Text × Option Fact

-- those under a report's name, in the order of the facts
abbrev pub puts_under : Text → List (Text × Option Fact) → List PlainPut
puts_under report facts = map (λ e. (report, e.0, e.1)) facts

-- those of one report, in byte order of identifiers
abbrev pub puts_in : Text × ReportChange → List PlainPut
puts_in e = puts_under e.0 e.1.facts.entries

-- those of a change, in byte order of reports, then of identifiers
abbrev pub puts_of : Change → List PlainPut
puts_of change = flat_map puts_in change.entries

-- ---- as code hands them out

-- the fact behind a reference, if there is one
abbrev pub fact_seen : Option FactRef → Option Fact
fact_seen fact = option_map (λ f. arc_value f.now) fact

abbrev pub put_seen : Bor Text × Bor Text × Option FactRef → PlainPut
put_seen put = (put.0.now, put.1.now, fact_seen put.2)

-- those left of a report that has begun, if one has
abbrev pub puts_left : Option (List PlainPut) → List PlainPut
puts_left None = []
puts_left (Some puts) = puts
