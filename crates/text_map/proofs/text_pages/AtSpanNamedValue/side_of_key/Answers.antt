use Rattle.std.proofs.Common.{◌∙◌, ap, sym, subst}
use Rattle.std.specs.Cmp.Lexicographic.{nat_list_cmp_total}
use Rattle.std.specs.Ordering.{nat_cmp, ordering_reverse}
use Rattle.sorted_pages.specs.Keys.{TellsSide, told_apart}
use Rattle.sorted_pages.specs.ToldSides.{tells_sides}
use Rattle.filing_model.specs.Common.Text.{text_cmp}
use Rattle.text_map.specs.Heads.{name_key}
use Rattle.text_map.specs.NameKeys.{name_keys_rise}
use Rattle.text_map.proofs.text_pages.AtSpanNamedValue.side_of_key.Goals as goal

pub returns : goal.returns
returns g c =
    let name = c.args.self.now.0 in
    subst (TellsSide (λ n. name_key n.0) (λ n. text_cmp n.0 name) c.args.key)
    (sym (c.order_of_keys.ensures ∙ ap (λ own. told_apart (nat_cmp c.args.key own)) c.key.ensures))
    (tells_sides (λ n. name_key n.0) (λ n. text_cmp n.0 name) (name_key name) (λ n less. name_keys_rise n.0 name less)
    (λ n less. nat_list_cmp_total.antisymm n.0 name ∙ ap ordering_reverse (name_keys_rise name n.0 less)) c.args.key)
