use Rattle.std.proofs.Common.{◌≡◌, ◌∙◌, ap, sym, subst, arith, ◌<◌, Some, length, option_map}
use Rattle.std.proofs.lemmas.List.{length-map}
use Rattle.std.proofs.lemmas.Option.{slice_get-map, slice_get_within, slice_get_read, get_or_from_slice_get, same_Some}
use Rattle.std.specs.Prelude.{slice_get}
use Rattle.filing_office.specs.Rans.{IsResultOf}
use Rattle.filing_office.proofs.desk_task.run_tasks.Goals as goal

pub returns : goal.returns
returns g c =
    let all = c.in_ok-all.all.items in
    let lefts = c.in_ok-map_vec.field-0.items in
    let at_desks = c.args.at_desks.items in
    let many : length all ≡ length at_desks = sym (length-map all (λ p. p.at_desk)) ∙ ap length c.in_ok-all.ensures in
    record {
      all_back = omega (arith, c.in_ok-map_vec.ensures.len, c.in_ok-map_vec.field-0.ok.0, c.in_ok-all.all.ok.0, many);
      each = λ place x l at_x at_l.
          let below : place < length all = omega (arith, slice_get_within at_desks place x at_x, many) in
          let given = (c.in_ok-map_vec.ensures.each place l below).1 in
          let here : slice_get all place ≡ Some given.job = slice_get_read all (length all) place given.job (omega arith) below given.job_read in
          let its : given.job.at_desk ≡ x =
          same_Some _ _ (ap (λ o. option_map (λ p. p.at_desk) o) (sym here) ∙ sym (slice_get-map (λ p. p.at_desk) all place) ∙ ap (λ xs. slice_get xs place) c.in_ok-all.ensures ∙ at_x) in
          subst (λ y. IsResultOf g.E.DeskTask.leaves y l) its
          (subst (λ z. IsResultOf g.E.DeskTask.leaves given.job.at_desk z) (get_or_from_slice_get lefts place l l at_l) given.call.met);
    }
