use Rattle.std.proofs.Common.{◌≡◌, ◌∙◌, sym, map, length, arith}
use Rattle.std.specs.Option.{option_map}
use Rattle.filing_model.specs.Oim.Duplicates.{pair_of}
use Rattle.filing_model.specs.Oim.ByPairs.{is_of, cell_with}
use Rattle.filing_model.proofs.Oim.ByPairs.{count_kept, class_of_none, class_of_one, class_of_many}
use Rattle.filing_model.proofs.by_pairs.class_with.Goals as goal

pub returns-in-0 : goal.returns-in-0
returns-in-0 g c =
    let one = option_map (λ f. g.F.PairedFact.fact f.now) c.args.one in
    let cell = cell_with one (map g.F.PairedFact.fact c.args.facts.now) in
    let n : c.count_with.result ≡ length cell = c.count_with.ensures ∙ count_kept (is_of one) g.F.PairedFact.fact c.args.facts.now in
    sym (class_of_none pair_of cell (sym n ∙ c.in-0.is))

pub returns-in-1 : goal.returns-in-1
returns-in-1 g c =
    let one = option_map (λ f. g.F.PairedFact.fact f.now) c.args.one in
    let cell = cell_with one (map g.F.PairedFact.fact c.args.facts.now) in
    let n : c.count_with.result ≡ length cell = c.count_with.ensures ∙ count_kept (is_of one) g.F.PairedFact.fact c.args.facts.now in
    sym (class_of_one pair_of cell (sym n ∙ c.in-1.is))

pub returns-in_default : goal.returns-in_default
returns-in_default g c =
    let one = option_map (λ f. g.F.PairedFact.fact f.now) c.args.one in
    let cell = cell_with one (map g.F.PairedFact.fact c.args.facts.now) in
    let n : c.count_with.result ≡ length cell = c.count_with.ensures ∙ count_kept (is_of one) g.F.PairedFact.fact c.args.facts.now in
    c.class_of_more_with.ensures ∙ sym (class_of_many pair_of cell (λ e. omega arith) (λ e. omega arith))
