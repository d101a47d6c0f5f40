use Rattle.std.proofs.Common.{◌≡◌, ap, sym, subst}
use mathlib.Core.List.{IsPrefix}
use Rattle.filing_publish.specs.Lists.{Listed}
use Rattle.filing_publish.proofs.Showing.{shows}
use Rattle.filing_publish.proofs.publisher.show.Goals as goal

pub show_as-requires : goal.show_as-requires
show_as-requires g c =
    let shown = c.open-open.result.0 in
    let on : IsPrefix shown.shown.value.versions c.args.edition.versions =
    subst (λ (e : Listed). IsPrefix e.versions c.args.edition.versions) (sym (ap (λ p. p.value) c.open-open.ensures.values.0)) c.requires.1 in
    shows g.J.Naming.book shown.place.id shown.place.me.0.client shown.shown.value c.args.edition c.requires.0 on
