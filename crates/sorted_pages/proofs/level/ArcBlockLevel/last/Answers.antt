use Rattle.std.proofs.Common.{◌∙◌, ap, sym, ◌++◌, ◌∷◌, [], append_assoc}
use Rattle.std.specs.List.{flat_map}
use Rattle.sorted_pages.proofs.Flats.{flat_map-push}
use Rattle.sorted_pages.proofs.level.ArcBlockLevel.last.Goals as goal

pub returns : goal.returns
returns g c = (
  flat_map g.T.Level.entries c.last.ensures.0 ++ c.last-2.ensures.0,
  ap (flat_map g.T.Level.entries) (sym c.deref-block.ensures ∙ c.last.ensures.1)
      ∙ flat_map-push g.T.Level.entries c.last.ensures.0 c.last.result.now
      ∙ ap (λ es. flat_map g.T.Level.entries c.last.ensures.0 ++ es) c.last-2.ensures.1
      ∙ sym (append_assoc (flat_map g.T.Level.entries c.last.ensures.0) c.last-2.ensures.0 (c.last-2.result.now ∷ [])),
)
