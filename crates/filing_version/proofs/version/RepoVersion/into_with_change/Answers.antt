use Rattle.std.proofs.Common.{◌≡◌, subst, [], ◌∷◌, List}
use Rattle.filing_model.specs.Common.Text.{Text}
use Rattle.filing_model.specs.Sessions.Changes.{ReportChange}
use Rattle.filing_version.specs.StampedReports.{version_in}
use Rattle.filing_version.proofs.LaidInTurn.{LaysTheOthers, lays_next, lays_all}
use Rattle.filing_version.proofs.version.RepoVersion.into_with_change.Goals as goal

pub loop-part-preserved : goal.loop-part-preserved
loop-part-preserved c =
    let first = version_in c.args.self in
    let all = c.args.change.now.entries in
    let so_far = version_in c.loop-part.version in
    let rest : List (Text × ReportChange) = c.next.new.self in
    let steps : c.loop-part.part-iterator ≡ c.in-Some.part.now ∷ rest = c.in-Some.ensures.steps in
    lays_next first so_far (version_in c.in_ok-version.version) all c.in-Some.part.now rest c.in_ok-version.ensures
    (subst (λ parts. LaysTheOthers first all parts so_far) steps c.loop-part.invariant)

pub returns : goal.returns
returns c =
    let first = version_in c.args.self in
    let change = c.args.change.now in
    let so_far = version_in c.loop-part.version in
    let none : c.loop-part.part-iterator ≡ [] = c.in-None.ensures.steps.0 in
    lays_all first so_far change (subst (λ parts. LaysTheOthers first change.entries parts so_far) none c.loop-part.invariant)
