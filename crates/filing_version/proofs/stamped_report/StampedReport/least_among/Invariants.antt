use Rattle.std.proofs.Common.{◌≡◌, map, filter, filter_map, option_map, fold}
use Rattle.filing_model.specs.Sessions.Changes.{least_among}
use Rattle.filing_model.specs.Oim.Duplicates.{facts_of, is_disallowed, lesser_dims}
use Rattle.filing_index.specs.Cells.{WasLookedAt}
use Rattle.filing_version.proofs.stamped_report.StampedReport.least_among.Given as goal

-- the least so far, of which the cell of the fact before is part, and the facts still to come
abbrev pub invariant-loop-put : goal.invariant-loop-put
invariant-loop-put l =
    WasLookedAt (is_disallowed l.self.report.allowed (facts_of l.self.report.facts.entries)) (option_map (λ d. d.now) l.before)
    (option_map (λ d. d.now) l.least)
    × (fold lesser_dims (option_map (λ d. d.now) l.least)
    (filter (is_disallowed l.self.report.allowed (facts_of l.self.report.facts.entries)) (map (λ f. f.dims) (filter_map (λ e. e.1) l.put-iterator)))
    ≡ least_among (filter_map (λ e. e.1) l.puts.entries) l.self.report)
