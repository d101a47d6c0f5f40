use Rattle.std.proofs.Common.{option_map, string_bytes}
use Rattle.history_views.proofs.PlacedRuns.{difference_at_end}
use Rattle.history_views.proofs.differing.difference_of_history.Goals as goal

pub returns-in-Ok-found_text-clause-found : goal.returns-in-Ok-found_text-clause-found
returns-in-Ok-found_text-clause-found g c = λ lawful.
    difference_at_end _ _ _ _ c.in-Ok.sought c.in_ok-verdict.field-0.view c.args.from c.args.to _ (option_map (option_map string_bytes) c.in-Ok-found_text.text)
    c.in-Ok.ensures.from c.in-Ok.ensures.to c.in-Ok-found_text.ensures (c.in_ok-verdict.ensures.followed lawful)
