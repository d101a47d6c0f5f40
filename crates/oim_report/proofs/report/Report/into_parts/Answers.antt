use Rattle.std.proofs.Common.{◌∙◌, sym, ap, string_bytes}
use Rattle.filing_model.proofs.Common.MapsOfLists.{from_entries-sorted}
use Rattle.oim_report.specs.Parts.{facts_view, parts_of}
use Rattle.oim_report.proofs.report.Report.into_parts.Goals as goal

pub returns-clause-parts : goal.returns-clause-parts
returns-clause-parts c =
    (λ i. record {
      info = string_bytes c.self.inside.info;
      names = c.self.inside.names;
      allowed = c.self.inside.allowed;
      facts = sym (from_entries-sorted (facts_view c.self.inside.facts.items) c.self.invariant.rise) i;
    })
    ∙ ap parts_of c.self.view_is
