-- What a line of the code means.
use Rattle.std.specs.Prelude.{Bool, true, false, option_map}
use Rattle.serde_json.specs.Data.{Data}
use Rattle.oim_fact.specs.PeriodFilterRef.{period_filter_of}
use Rattle.script_format.specs.ScriptLines as model
use Rattle.script_format.specs.declared.line.Asking.{Asking}
use Rattle.script_format.specs.declared.line.Asking.TheVariants as asking
use Rattle.script_format.specs.declared.line.Line.{Line}
use Rattle.script_format.specs.declared.line.Line.TheVariants.{Load, Open, Ask, Commit, Close, Export}

-- with what its parts that are objects stand for
abbrev pub asking_view : {P : Type 0} → (P → Data) → Asking P → model.Asking
asking_view part (asking.Get report id) = model.Get report.now id.now
asking_view part (asking.Cell report dims) = model.Cell report.now (part dims.now)
asking_view part (asking.Page report concept period after limit) = model.Page report.now (record {
  concept = concept.now;
  period = period_filter_of period;
  after = option_map (λ t. t.now) after;
}) limit
asking_view part (asking.Add report id fact) = model.Add report.now id.now (part fact.now)
asking_view part (asking.Remove report id) = model.Remove report.now id.now
asking_view part (asking.Declared report) = model.Declared report.now
asking_view part (asking.Declare report allowed) = model.Declare report.now allowed

-- no part of it is an object
abbrev pub is_plain : {P : Type 0} → Asking P → Bool
is_plain (asking.Get report id) = true
is_plain (asking.Cell report dims) = false
is_plain (asking.Page report concept period after limit) = true
is_plain (asking.Add report id fact) = false
is_plain (asking.Remove report id) = true
is_plain (asking.Declared report) = true
is_plain (asking.Declare report allowed) = true

abbrev pub line_view : {P : Type 0} → (P → Data) → Line P → model.Line
line_view part (Load name report) = model.Load name.now (part report.now)
line_view part (Open session kind) = model.Open session.now kind
line_view part (Ask session asking) = model.Ask session.now (asking_view part asking)
line_view part (Commit session) = model.Commit session.now
line_view part (Close session) = model.Close session.now
line_view part (Export name) = model.Export name.now
