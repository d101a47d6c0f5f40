use Rattle.std.proofs.Common.{◌∙◌, ap, sym, subst, ◌≤◌, length, option_map}
use Rattle.std.specs.Prelude.{IfSome}
use Rattle.filing_office.proofs.Learning.{learnt, on_ok}
use Rattle.filing_office.proofs.named_desk.learn_one.Goals as goal

pub returns-in-Some-clause-learnt : goal.returns-in-Some-clause-learnt
returns-in-Some-clause-learnt g c =
    let n = length c.learn.new.self in
    on_ok c.learn.result (learnt c.learn.result c.args.reviewer.now c.learn.new.self c.in-Some.receipt.now c.learn.ensures.longer)
    (λ le. subst (λ r. IfSome r (λ v. length v ≤ n)) (ap (λ o. option_map (λ r. r.now) o) (sym c.in-Some.is) ∙ c.receipt.ensures) le)
