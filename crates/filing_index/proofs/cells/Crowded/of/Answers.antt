use Rattle.std.proofs.Common.{◌≡◌, ◌∙◌, ap, sym, [], ◌∷◌, List, Option, None, Some, Bor, option_map}
use Rattle.std.specs.Option.{MatchOption}
use Rattle.filing_index.specs.Index.{IndexEntry}
use Rattle.filing_index.specs.Cells.{crowded, crowded_from}
use Rattle.filing_index.proofs.KeptElements.{filter-true}
use Rattle.filing_index.proofs.cells.Crowded.of.Goals as goal

-- with the first of the entries taken
first_taken : (es rest : List IndexEntry) (first : Option (Bor IndexEntry)) → MatchOption first ((es ≡ []) × (rest ≡ [])) (λ x. es ≡ x.now ∷ rest)
    → crowded_from (option_map (λ e. e.now) first) rest ≡ crowded es
first_taken es rest None h = sym (ap crowded h.0)
first_taken es rest (Some x) h = sym (ap crowded h)

pub returns-clause-facts : goal.returns-clause-facts
returns-clause-facts c =
    first_taken c.range-ahead.result c.next-here.new.self c.next-here.result c.next-here.ensures.steps
    ∙ ap crowded (c.range-ahead.ensures.entries ∙ filter-true c.args.index.now)
