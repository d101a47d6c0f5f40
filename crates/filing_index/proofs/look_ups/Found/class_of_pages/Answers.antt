use Rattle.std.proofs.Common.{◌≡◌, ◌∙◌, ap, sym, subst, List, map, IfSome}
use Rattle.filing_model.specs.Common.Text.{Text}
use Rattle.filing_model.specs.Oim.Facts.{Fact}
use Rattle.filing_model.specs.Oim.Duplicates.{class_of, has_dims}
use Rattle.filing_index.specs.Found.{passing}
use Rattle.filing_index.specs.Wanted.{is_wanted}
use Rattle.filing_index.proofs.ToldClasses.{class_of_found}
use Rattle.filing_index.proofs.look_ups.Found.class_of_pages.Goals as goal

pub returns-then-spans_pages : goal.returns-then-spans_pages
returns-then-spans_pages c =
    let found : passing (has_dims c.in-Cell.dims.now) c.self.inside.entries ≡ c.args.self.now =
    ap (λ w. passing (is_wanted w) c.self.inside.entries) (sym c.in-Cell.is) ∙ c.self.view_is in
    subst (λ (es : List (Text × Fact)). IfSome c.class.result (λ class. class ≡ class_of (map (λ e. e.1) es))) found
    (class_of_found c.in-Cell.dims.now c.total.result c.self.inside.entries c.class.result c.class.ensures c.total.ensures)
