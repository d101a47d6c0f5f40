use Rattle.std.proofs.Common.{string_bytes, ap, ◌∙◌}
use Rattle.filing_model.specs.Histories.Stamps.{Version, version_with}
use Rattle.filing_version.specs.StampedReports.{repository_in}
use Rattle.embedding.proofs.lone_session.version_of.Goals as goal

pub returns : goal.returns
returns c = ap repository_in c.in_ok-new.ensures.ok
    ∙ ap (λ (v : Version). v.repository)
    (c.in_ok-version.ensures ∙ ap (version_with (string_bytes c.args.name) c.args.report) c.empty.ensures)
