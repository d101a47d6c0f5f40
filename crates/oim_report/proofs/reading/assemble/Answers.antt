use Rattle.std.proofs.Common.{sym, subst}
use Rattle.filing_model.proofs.Common.MapsOfLists.{from_entries-sorted}
use Rattle.oim_report.specs.Parts.{IsInfo, facts_view}
use Rattle.oim_report.specs.Readable.{AreFitted, IsReadable}
use Rattle.oim_report.proofs.reading.assemble.Goals as goal

pub returns-clause-readable : goal.returns-clause-readable
returns-clause-readable c =
    let entries = facts_view c.args.facts.items in
    subst IsReadable (sym c.of.ensures) (record {
      facts =
          subst (AreFitted c.declared.inside.names) (sym (from_entries-sorted entries c.requires.rise))
          (subst (λ d. AreFitted d.names entries) (sym c.declared.view_is) c.requires.fitted);
      info = subst (λ d. IsInfo d.info d.names.prefixes d.allowed) (sym c.declared.view_is) c.requires.info;
    })
