use Rattle.std.proofs.Common.{◌∙◌, ap, sym, ◌++◌}
use Rattle.std.specs.List.{flat_map}
use Rattle.sorted_pages.proofs.level.ArcBlockLevel.first.Goals as goal

pub returns : goal.returns
returns g c = (
  c.first-2.ensures.0 ++ flat_map g.T.Level.entries c.first.ensures.0,
  ap (flat_map g.T.Level.entries) (sym c.deref-block.ensures ∙ c.first.ensures.1)
      ∙ ap (λ es. es ++ flat_map g.T.Level.entries c.first.ensures.0) c.first-2.ensures.1,
)
