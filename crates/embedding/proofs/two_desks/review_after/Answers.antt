use Rattle.std.proofs.Common.{List, Result, Ok, Err, OnOk}
use mathlib.Core.List.{IsPrefix}
use Rattle.filing_publish.proofs.Beginnings.{prefix_trans}
use Rattle.embedding.proofs.two_desks.review_after.Goals as goal

still_begins : {T E X : Type 0} (r : Result T E) (xs ys zs : List X) → IsPrefix xs ys → OnOk r (IsPrefix ys zs)
    → OnOk r (IsPrefix xs zs)
still_begins (Ok x) xs ys zs begins goes_on = prefix_trans xs ys zs begins goes_on
still_begins (Err e) xs ys zs begins goes_on = goes_on

pub returns-clause-not_older : goal.returns-clause-not_older
returns-clause-not_older g c = still_begins c.open.result c.args.receipt.now c.learn.new.self c.open.new.self
    c.in_ok-learn.ensures.longer.two_begins c.open.ensures.goes_on
