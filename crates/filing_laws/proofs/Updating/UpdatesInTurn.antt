-- The repository of a lawful history is the empty one with each accepted load and each committed net change laid over it, in order.
use Rattle.std.proofs.Common.{◌≡◌, ◌∙◌, ap, sym, refl, ℕ, ◌+◌, List, [], ◌∷◌, ◌++◌, Option, false, true≢false}
use Rattle.std.specs.Option.{option_map_or}
use Rattle.filing_model.specs.Sessions.Repository.{Repository, nothing}
use Rattle.filing_model.specs.Sessions.Replies as reply
use Rattle.filing_model.specs.Sessions.Replies.{Reply}
use Rattle.filing_model.specs.Histories.History.{Step, Entry, History, repository}
use Rattle.filing_model.specs.Histories.Touches.{net_change_of}
use Rattle.filing_model.specs.Histories.Lawful.{IsLawful}
use Rattle.filing_model.specs.Histories.Versions.{counts}
use Rattle.filing_laws.specs.Updating.Updates.{Update, Changing, after_update, after_updates, loading_in, update_in, updates_of, EachRepositoryIsThatOfItsUpdates}
use Rattle.filing_laws.proofs.Touching.EntryCases.{EntryCase, Quiet, Accepted, Passed, entry_case, quiet_repository}
use Rattle.filing_laws.proofs.Updating.NetChanges.{each_commit_lays_its_net_change}
use Rattle.filing_laws.proofs.Stamping.VersionChain.{repository_obeys_always}

after_more : (c : Repository) (us vs : List Update) → after_updates c (us ++ vs) ≡ after_updates (after_updates c us) vs
after_more c [] vs = refl
after_more c (u ∷ us) vs = after_more (after_update c u) us vs

quiet_update : (r : Reply) (session : Option ℕ) (step : Step) (older : History) → counts r ≡ false → update_in r session step older ≡ []
quiet_update (reply.Loaded n) session step older quiet = absurd (true≢false quiet)
quiet_update (reply.Committed n) session step older quiet = absurd (true≢false quiet)
quiet_update _ session step older quiet = refl

-- an entry's update leaves what the entry leaves
entry_made : (older : History) (e : Entry) → IsLawful (e ∷ older) → EntryCase older e → repository (e ∷ older) ≡ after_updates (repository older) (update_in e.reply e.session e.step older)
entry_made older e lawful (Quiet quiet) = quiet_repository older e quiet ∙ sym (ap (after_updates (repository older)) (quiet_update e.reply e.session e.step older quiet))
entry_made older e lawful (Accepted load) =
    load.result
    ∙ sym (ap (after_updates (repository older)) (ap (λ r. update_in r e.session e.step older) load.reply ∙ ap loading_in load.step))
entry_made older e lawful (Passed passed) =
    each_commit_lays_its_net_change older e passed.s ((repository older).count + 1) lawful passed.of_it passed.reply
    ∙ sym (ap (after_updates (repository older)) (ap (λ r. update_in r e.session e.step older) passed.reply ∙ ap (λ o. option_map_or (λ s. Changing (net_change_of s older) ∷ []) o []) passed.of_it))

made : (h : History) → IsLawful h → repository h ≡ after_updates nothing (updates_of h)
made [] lawful = refl
made (e ∷ older) lawful =
    entry_made older e lawful (entry_case older e lawful.1)
    ∙ ap (λ c. after_updates c (update_in e.reply e.session e.step older)) (made older lawful.0)
    ∙ sym (after_more nothing (updates_of older) (update_in e.reply e.session e.step older))

pub each_repository_is_that_of_its_updates : EachRepositoryIsThatOfItsUpdates
each_repository_is_that_of_its_updates h lawful = record { made = made h lawful; obeys = repository_obeys_always h lawful }
