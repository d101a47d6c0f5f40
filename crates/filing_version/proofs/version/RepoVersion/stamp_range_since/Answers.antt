use Rattle.std.proofs.Common.{◌∙◌, option_map}
use Rattle.filing_facts.specs.FactChanges.{Range}
use Rattle.oim_fact.specs.PeriodFilterRef.{period_filter_of}
use Rattle.filing_version.proofs.version.RepoVersion.stamp_range_since.Goals as goal

pub returns-in-Some : goal.returns-in-Some
returns-in-Some c = c.of_range_since.ensures ∙ c.in-Some.ensures
    (Range (record {
      concept = c.args.concept.now;
      period = period_filter_of c.args.period;
      after = option_map (λ t. t.now) c.args.after;
    }) (option_map (λ t. t.now) c.args.upto))

pub returns-in-None : goal.returns-in-None
returns-in-None c = c.in-None.ensures
    (Range (record {
      concept = c.args.concept.now;
      period = period_filter_of c.args.period;
      after = option_map (λ t. t.now) c.args.after;
    }) (option_map (λ t. t.now) c.args.upto))
