use Rattle.std.proofs.Common.{◌∙◌, ap, sym, subst}
use Rattle.std.proofs.lemmas.Result.{on_ok_weaker}
use Rattle.history_views.specs.Versions.{IsSought, Seeks, version_kept}
use Rattle.history_views.specs.declared.sought.SoughtVersion.{SoughtVersion}
use Rattle.history_views.proofs.NumberedVersions.{named_after, named_before, named_so_far}
use Rattle.history_views.proofs.named.NamedVersion.look_at.Goals as goal

pub returns-then-is_met-clause-seeks : goal.returns-then-is_met-clause-seeks
returns-then-is_met-clause-seeks c = λ h is seeks.
    let self = c.args.self.now in
    named_before self.names self.version.number (version_kept self.version.found) c.args.entry.now h (sym c.is_met.ensures ∙ c.if-is_met.true) seeks

pub returns-clause-seeks : goal.returns-clause-seeks
returns-clause-seeks c = λ h is seeks.
    let self = c.args.self.now in
    let found = version_kept self.version.found in
    let none = sym c.is_met.ensures ∙ c.if-is_met.false in
    let names = c.in_ok-add_name.ensures.names h is.kept.lawful (named_so_far self.names found h none seeks.1) in
    let same = c.in_ok-add_name.ensures.version in
    let number = c.look_at.ensures.number ∙ ap (λ (v : SoughtVersion). v.number) same in
    on_ok_weaker c.look_at.result
    (named_after c.add_name.new.self.names c.look_at.new.self.number found (version_kept c.look_at.new.self.found) c.args.entry.now h none
    (subst (λ n. IsSought n found h) (sym number) seeks.0) names)
    (c.look_at.ensures.seeks h c.args.entry.now is (subst (λ (v : SoughtVersion). Seeks v h) (sym same) seeks.0))
