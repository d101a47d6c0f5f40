use Rattle.std.proofs.Common.{rules, ◌≡◌, Ok}
use Rattle.std.proofs.lemmas.Result.{IfOk-weaker}
use Rattle.filing_version.proofs.version.with_entry.Goals as goal

pub returns-in-Ok : goal.returns-in-Ok
returns-in-Ok c =
    let is : c.args.entry ≡ Ok c.in-Ok.entry = search rules in
    IfOk-weaker c.put_back.result _ _ (λ next same. (c.in-Ok.entry, is, same)) c.put_back.ensures
