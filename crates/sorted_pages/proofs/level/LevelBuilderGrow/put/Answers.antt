use Rattle.std.proofs.Common.{◌∙◌, ap, sym, ◌++◌}
use Rattle.std.specs.Arc.{arc_value}
use Rattle.sorted_pages.specs.Pages.{items_of}
use Rattle.sorted_pages.proofs.Tiers.{cuts_one}
use Rattle.sorted_pages.proofs.level.LevelBuilderGrow.put.Goals as goal

pub returns-in_ok-put : goal.returns-in_ok-put
returns-in_ok-put g c =
    cuts_one g.T.Level.entries (g.U.Grow.all c.args.self.now.above) (g.U.Grow.all c.put.new.self) (arc_value c.in-Some.block)
    c.args.self.now.rest c.push.new.self c.args.item c.in_ok-put.ensures
    (ap (λ block. items_of block ++ c.push.new.self) (sym c.in-Some.is) ∙ c.in_ok-block.ensures)
