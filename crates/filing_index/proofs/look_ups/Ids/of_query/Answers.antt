use Rattle.std.proofs.Common.{◌∙◌, ap, map}
use Rattle.std.specs.Option.{option_map}
use Rattle.filing_model.specs.Sessions.Queries.{answers_query}
use Rattle.oim_fact.specs.PeriodFilterRef.{period_filter_of}
use Rattle.filing_index.proofs.FoundEntries.{found_ids}
use Rattle.filing_index.proofs.look_ups.Ids.of_query.Goals as goal

pub returns : goal.returns
returns c = λ facts index.
    ap (map (λ e. e.0)) (c.of-facts.ensures facts index)
    ∙ found_ids (answers_query c.args.concept.now (period_filter_of c.args.period)) (option_map (λ t. t.now) c.args.after) facts
