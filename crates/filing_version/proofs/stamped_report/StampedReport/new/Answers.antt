use Rattle.filing_version.proofs.stamped_report.StampedReport.new.Goals as goal

pub returns : goal.returns
returns c =
    (λ i. record {
      report = record (c.into_parts-header.ensures.header i) { facts = c.into_parts-header.ensures.facts i };
      loaded = c.args.number;
      declared = 0;
      stamp = c.new.ensures i;
    })
