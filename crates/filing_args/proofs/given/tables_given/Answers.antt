use Rattle.std.proofs.Common.{◌∙◌, ap, codes, Bor, List, Some, None, ℕ}
use Rattle.std.proofs.lemmas.Result.{IfOk-weaker}
use Rattle.clap.specs.Walk.{texts}
use Rattle.clap.specs.Words.{found_of, rows_of}
use Rattle.clap.proofs.WalkLemmas.{raw_values-rows}
use Rattle.filing_args.proofs.Entered.{tables_read}
use Rattle.filing_args.proofs.given.tables_given.Goals as goal

pub returns-in-Some : goal.returns-in-Some
returns-in-Some c =
    let found = found_of c.args.command.now in
    IfOk-weaker c.to_vec.result _ _ (λ v same. tables_read (rows_of found) (Some (texts v.items))
    (ap (λ (l : List (Bor (List ℕ))). Some (texts l)) (same (λ x y h. h)) ∙ c.in-Some.ensures ∙ raw_values-rows found (codes "numeric")))
    c.to_vec.ensures.items_if_clones_equal

pub returns-in-None : goal.returns-in-None
returns-in-None c =
    let found = found_of c.args.command.now in
    ap texts c.new.ensures.items ∙ tables_read (rows_of found) None (c.in-None.ensures ∙ raw_values-rows found (codes "numeric"))
