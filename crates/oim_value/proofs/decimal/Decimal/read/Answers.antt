use Rattle.std.proofs.Common.{◌≡◌, rules}
use Rattle.filing_model.specs.Oim.Numerals.{number_of}
use Rattle.oim_value.proofs.Readings.{read_as_spelled}
use Rattle.oim_value.proofs.decimal.Decimal.read.Goals as goal

pub returns-in_err-units-clause-spelled : goal.returns-in_err-units-clause-spelled
returns-in_err-units-clause-spelled c =
    let e : c.from_residual.result ≡ number_of c.args.text.now = search rules in
    read_as_spelled c.args.text.now c.from_residual.result e

pub returns-clause-spelled : goal.returns-clause-spelled
returns-clause-spelled c = read_as_spelled c.args.text.now _ (search rules)
