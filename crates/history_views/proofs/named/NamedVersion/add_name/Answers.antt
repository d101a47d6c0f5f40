use Rattle.std.proofs.Common.{◌∙◌, ap, refl, subst, Some}
use Rattle.history_views.proofs.NamesKept.{IsWith, names_after}
use Rattle.history_views.proofs.named.NamedVersion.add_name.Goals as goal

pub returns-in_default-clause-names : goal.returns-in_default-clause-names
returns-in_default-clause-names c = λ h lawful has.
    let names = c.args.self.now.names in
    names_after names names h c.args.entry.now lawful.1 (subst (λ o. IsWith o names names) c.in_default.ensures refl) has

pub returns-clause-names : goal.returns-clause-names
returns-clause-names c = λ h lawful has.
    let names = c.args.self.now.names in
    names_after names c.in_ok-self.field-0 h c.args.entry.now lawful.1
    (subst (λ o. IsWith o names c.in_ok-self.field-0) (ap Some c.in_ok-name.ensures.ok ∙ c.in-Some.ensures) (_, c.in_ok-self.ensures)) has
