use Rattle.std.proofs.Common.{◌≡◌, sym, subst, List}
use Rattle.std.specs.List.{AllByRecursion}
use Rattle.filing_stamps.specs.Stamps.{Stamp}
use Rattle.filing_stamps.specs.Layers.{AreWith}
use Rattle.filing_stamps.proofs.ChangedParts.{changes_have}
use Rattle.filing_stamps.proofs.SortedStamps.{if_ok}
use Rattle.filing_stamps.proofs.GreatestStamps.{stamped_with}
use Rattle.filing_stamps.proofs.stamps.Stamps.after.Goals as goal

pub with_commit_stamps-requires : goal.with_commit_stamps-requires
with_commit_stamps-requires c =
    subst (λ (ss : List Stamp). AllByRecursion (λ (s : Stamp). s.number ≡ c.args.number) ss) (sym c.in_ok-added.ensures)
    (changes_have c.args.number c.args.fact_changes.now)

pub returns-then-has_room : goal.returns-then-has_room
returns-then-has_room c =
    if_ok (λ s is. stamped_with c.args.fact_changes.now c.args.number c.args.self.now s c.requires
    (subst (λ (ls : List Stamp). AreWith ls c.args.self.now s) c.in_ok-added.ensures is)) c.with_commit_stamps.result c.with_commit_stamps.ensures

pub returns-else-has_room : goal.returns-else-has_room
returns-else-has_room c =
    if_ok (λ s is. stamped_with c.args.fact_changes.now c.args.number c.args.self.now s c.requires
    (subst (λ (ls : List Stamp). AreWith ls c.args.self.now s) c.in_ok-added.ensures is)) c.with_layer.result c.with_layer.ensures
