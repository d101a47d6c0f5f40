use Rattle.std.proofs.Common.{◌≡◌, ◌∙◌, ap, inr, reverse, rules, subst, sym}
use Rattle.filing_model.specs.Histories.Lawful.{IsLawful}
use Rattle.filing.proofs.ThreadRuns.{none_run, threads_ended, threads_stopped}
use Rattle.filing.proofs.runs.threads.run_from.Goals as goal

pub run_threads_on_history-ended-requires-clause-lawful : goal.run_threads_on_history-ended-requires-clause-lawful
run_threads_on_history-ended-requires-clause-lawful g c = λ κs outlives.
    let b = rw c.in-Ok.is at c.begin_from-from.ensures in
    let items : c.deref.result.now ≡ c.in-Ok.found.1.entries.items = search rules in
    subst IsLawful (sym (ap reverse items ∙ b.1.1.1)) b.1.1.0.kept.lawful

pub unreachable-unreachable : goal.unreachable-unreachable
unreachable-unreachable g c =
    let b = rw c.in-Ok.is at c.begin_from-from.ensures in
    let items : c.deref.result.now ≡ c.in-Ok.found.1.entries.items = search rules in
    none_run _ _ _ _ _ (ap reverse items ∙ b.1.1.1) _ _ _ c.in_default.is (rw c.in-Ok-ended.is at c.run_threads_on_history-ended.ensures)

pub returns-in-Some : goal.returns-in-Some
returns-in-Some g c =
    let b = rw c.in-Ok.is at c.begin_from-from.ensures in
    let items : c.deref.result.now ≡ c.in-Ok.found.1.entries.items = search rules in
    (b.0, (b.1.0, threads_ended _ _ _ _ _ (ap reverse items ∙ b.1.1.1) _ _ _ _ c.in-Some.is (rw c.in-Ok-ended.is at c.run_threads_on_history-ended.ensures)))

pub returns-in-Err-ended : goal.returns-in-Err-ended
returns-in-Err-ended g c =
    let b = rw c.in-Ok.is at c.begin_from-from.ensures in
    let items : c.deref.result.now ≡ c.in-Ok.found.1.entries.items = search rules in
    inr (
      b.0,
      (
        b.1.0,
        (
          c.in-Err-ended.fault,
          (
            c.from.ensures,
            (
              _,
              threads_stopped _ _ _ _ _ (ap reverse items ∙ b.1.1.1) _ _ _ _
                  (rw c.in-Err-ended.is at c.run_threads_on_history-ended.ensures),
            ),
          ),
        ),
      ),
    )
