use Rattle.std.proofs.Common.{◌≡◌, to_z, of_z, ◌∙◌, arith}
use mir.Syntax.{w128}
use Rattle.std.proofs.lemmas.Int.{ints}
use Rattle.std.proofs.lemmas.Result.{err_from_is_err_and}
use Rattle.oim_value.proofs.Sizes.{body_is, read_number, read_fault}
use Rattle.oim_value.proofs.decimal.units_of.Goals as goal

pub returns-in_err-size-clause-value : goal.returns-in_err-size-clause-value
returns-in_err-size-clause-value c =
    let body = body_is c.args.text.now c.without_front.result.now c.without_end-body.result.now c.without_front.ensures c.without_end-body.ensures in
    let p = err_from_is_err_and c.from_residual.result c.from_residual.ensures.1 in
    rw (p.1, p.2) (read_fault c.args.text.now c.without_end-body.result.now c.without_sign.result.now
    c.in_err-size.field-0.0 body c.without_sign.ensures c.in_err-size.ensures.value)

pub returns-clause-value : goal.returns-clause-value
returns-clause-value c =
    let body = body_is c.args.text.now c.without_front.result.now c.without_end-body.result.now c.without_front.ensures c.without_end-body.ensures in
    let same : to_z w128 (of_z w128 c.with_sign.result) ≡ c.with_sign.result = omega (arith, ints) in
    read_number c.args.text.now c.without_end-body.result.now c.without_sign.result.now c.is_negative.result
    c.in_ok-size.size _ body c.without_sign.ensures c.is_negative.ensures c.in_ok-size.ensures.value
    (same ∙ c.with_sign.ensures.value)
