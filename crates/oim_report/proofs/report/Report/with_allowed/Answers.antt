use Rattle.std.proofs.Common.{◌∙◌, ap, sym, subst, string_bytes}
use Rattle.filing_model.specs.Reading.DeclaredValue.{with_allowed}
use Rattle.oim_report.specs.Parts.{IsInfo}
use Rattle.oim_report.proofs.SetInfos.{info_set}
use Rattle.oim_report.proofs.report.Report.with_allowed.Goals as goal

pub invariant_of-result : goal.invariant_of-result
invariant_of-result c = record {
  rise = c.self.invariant.rise;
  info =
      subst (λ text. IsInfo text c.self.inside.names.prefixes c.args.allowed)
      (sym (c.in_ok-info.ensures ∙ ap (λ text. with_allowed text c.args.allowed) c.deref.ensures))
      (info_set (string_bytes c.self.inside.info) c.self.inside.names.prefixes c.self.inside.allowed c.args.allowed c.self.invariant.info);
}
