use Rattle.std.proofs.Common.{◌∙◌, ap, sym}
use Rattle.std.proofs.lemmas.Result.{on_ok_weaker}
use Rattle.filing_model.specs.Histories.History.{Entry}
use Rattle.history_views.specs.Versions.{version_kept}
use Rattle.history_views.proofs.PlacedRuns.{looked_for, met_before}
use Rattle.history_views.proofs.PlacesCover.{known_so_far}
use Rattle.history_views.proofs.placed.PlacedVersions.look_at.Goals as goal

pub returns-then-are_met-clause-seeks : goal.returns-then-are_met-clause-seeks
returns-then-are_met-clause-seeks c = λ h is seeks.
    let self = c.args.self.now in
    met_before self.places self.from.number self.to.number (version_kept self.from.found) (version_kept self.to.found) c.args.entry.now h
    (sym c.are_met.ensures ∙ c.if-are_met.true) seeks

pub returns-clause-seeks : goal.returns-clause-seeks
returns-clause-seeks c = λ h is seeks.
    let self = c.args.self.now in
    let entry = c.args.entry.now in
    let from = c.look_at.new.self in
    let to = c.look_at-2.new.self in
    let so_far =
    known_so_far self.places (version_kept self.from.found) (version_kept self.to.found) h (sym c.are_met.ensures ∙ c.if-are_met.false) seeks.2 in
    let has = c.in_ok-add_step.ensures h entry (sym (ap (λ (e : Entry). e.step) c.entry.view_is)) so_far in
    on_ok_weaker c.look_at-2.result
    (looked_for c.add_step.new.places from.number to.number (version_kept from.found) (version_kept to.found) entry h is.kept.lawful has
    (c.in_ok-look_at.ensures.seeks h entry is seeks.0))
    (c.look_at-2.ensures.seeks h entry is seeks.1)
