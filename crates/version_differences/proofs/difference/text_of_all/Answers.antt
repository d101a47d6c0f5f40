use Rattle.std.proofs.Common.{◌≡◌, ◌++◌, ◌∙◌, sym, subst, map}
use Rattle.std.specs.List.{flat_map}
use Rattle.filing_laws.proofs.Lists.EachElement.{Each}
use Rattle.filing_version.specs.StampedReports.{repository_in}
use Rattle.version_differences.specs.Differences.{lines_at}
use Rattle.version_differences.specs.LineText.{lines_text}
use Rattle.version_differences.specs.Places.{ids_at}
use Rattle.version_differences.proofs.Covered.{all_written, each_named, next_written}
use Rattle.version_differences.proofs.difference.text_of_all.Goals as goal

pub loop-entry-init : goal.loop-entry-init
loop-entry-init c =
    let places = c.args.places.now in
    let f = lines_at (repository_in c.args.from.now) (repository_in c.args.to.now) in
    let is = c.into_iter-entry-iterator.ensures.into_iter_gives ∙ c.iter-entry-items.ensures in (
      subst (Each (λ e. ids_at places e.0 ≡ e.1)) (sym is) (each_named places),
      λ cover. λ i. c.new-out.ensures.bytes i ++ lines_text (flat_map f (map (λ e. e.0) (is i))),
    )

pub loop-entry-preserved : goal.loop-entry-preserved
loop-entry-preserved c =
    next_written c.args.places.now (repository_in c.args.from.now) (repository_in c.args.to.now) _ _ c.loop-entry.entry-iterator c.next.new.self
    c.in-Some.entry.now _ _ c.in-Some.ensures.steps c.name.ensures c.value.ensures c.in_ok-push_report_lines.ensures c.loop-entry.invariant

pub returns : goal.returns
returns c = λ cover.
    all_written c.args.places.now (repository_in c.args.from.now) (repository_in c.args.to.now) _ c.loop-entry.entry-iterator c.in-None.ensures.steps.0 cover
    (c.loop-entry.invariant.1 cover)
