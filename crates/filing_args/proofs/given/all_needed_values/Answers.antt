use Rattle.std.proofs.Common.{◌∙◌, ap, Bor, List, Some, ℕ}
use Rattle.clap.specs.Walk.{texts}
use Rattle.clap.specs.Words.{found_of}
use Rattle.clap.proofs.WalkLemmas.{raw_values-rows}
use Rattle.filing_args.proofs.given.all_needed_values.Goals as goal

pub returns-in_ok-to_vec-in-Some : goal.returns-in_ok-to_vec-in-Some
returns-in_ok-to_vec-in-Some c =
    ap (λ (l : List (Bor (List ℕ))). Some (texts l)) (c.in_ok-to_vec-in-Some.ensures.items_if_clones_equal (λ x y h. h))
    ∙ c.in-Some.ensures ∙ raw_values-rows (found_of c.args.command.now) c.args.id.now
