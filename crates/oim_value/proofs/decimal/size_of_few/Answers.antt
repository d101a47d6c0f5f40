use Rattle.std.proofs.Common.{◌≡◌, ◌*◌, ◌<◌, true, cond, Ok, Err, ap, sym, subst, ◌∙◌, arith}
use Rattle.filing_model.specs.Oim.Numerals.{scaled, are_few}
use Rattle.filing_model.specs.declared.faults.NumberFault.TheVariants.{TooLarge}
use Rattle.oim_value.specs.Numbers.{number_limit}
use Rattle.oim_value.proofs.Sizes.{few_behind, scaled_by_running, scaled_is_small}
use Rattle.oim_value.proofs.decimal.size_of_few.Goals as goal

pub with_digits-number-requires-clause-few : goal.with_digits-number-requires-clause-few
with_digits-number-requires-clause-few c =
    few_behind c.args.whole.now c.args.fraction.now c.with_digits.result c.with_digits.ensures.value c.requires
    (sym c.are_few.ensures ∙ c.if-not-are_few.false)

pub overflow_mul-result : goal.overflow_mul-result
overflow_mul-result c =
    let whole = c.args.whole.now in
    let fraction = c.args.fraction.now in
    let is =
    scaled_by_running whole fraction c.with_digits.result c.with_digits-number.result c.pow.result
    c.with_digits.ensures.value c.with_digits-number.ensures.value c.pow.ensures in
    let below : c.with_digits-number.result * c.pow.result < number_limit =
    subst (λ n. n < number_limit) (sym is)
    (scaled_is_small whole fraction c.requires (sym c.are_few.ensures ∙ c.if-not-are_few.false)) in
    omega arith

pub returns-clause-value : goal.returns-clause-value
returns-clause-value c =
    let whole = c.args.whole.now in
    let fraction = c.args.fraction.now in
    let few : are_few whole fraction ≡ true = sym c.are_few.ensures ∙ c.if-not-are_few.false in
    ap (λ n. Ok n) (scaled_by_running whole fraction c.with_digits.result c.with_digits-number.result c.pow.result
    c.with_digits.ensures.value c.with_digits-number.ensures.value c.pow.ensures)
    ∙ ap (λ b. cond b (Ok (scaled whole fraction)) (Err TooLarge)) (sym few)

pub returns-clause-small : goal.returns-clause-small
returns-clause-small c =
    let whole = c.args.whole.now in
    let fraction = c.args.fraction.now in
    let is =
    scaled_by_running whole fraction c.with_digits.result c.with_digits-number.result c.pow.result
    c.with_digits.ensures.value c.with_digits-number.ensures.value c.pow.ensures in
    subst (λ n. n < number_limit) (sym is) (scaled_is_small whole fraction c.requires (sym c.are_few.ensures ∙ c.if-not-are_few.false))
