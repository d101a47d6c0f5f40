-- A hasher that is fed one dimension more.
use Rattle.std.proofs.Common.{◌≡◌, ◌∙◌, ap, sym, arith, ℕ, suc, ◌+◌, ◌<◌, List, [], ◌∷◌, ◌++◌, length, get_or, take, Option, option_map}
use Rattle.std.proofs.Common.{String, Global, string_bytes}
use Rattle.std.proofs.Math.Seq.{take-suc}
use Rattle.std.proofs.lemmas.List.{append-nil, append_assoc}
use Rattle.std.proofs.lemmas.List.Sums.{fold-append}
use Rattle.std.specs.Hash.{HashWrites}
use Rattle.std.specs.Hash.DefaultHasher.{write}
use Rattle.std.specs.declared.hash.DefaultHasher.{DefaultHasher}
use Rattle.oim_fact.specs.Dims.{dims_view}
use Rattle.filing_facts.specs.Hashes.{fed_with, fed_dims, fed_text, fed_value}

abbrev Held : Type 0
Held = String Global × Option (String Global)

abbrev of_one : Held → HashWrites
of_one pair = fed_text (string_bytes pair.0) ++ fed_value (option_map string_bytes pair.1)

fed_at_end : (pairs : List Held) (pair : Held) → fed_dims (dims_view (pairs ++ pair ∷ [])) ≡ fed_dims (dims_view pairs) ++ of_one pair
unfolding fed_dims
fed_at_end [] pair = append-nil (of_one pair)
fed_at_end (first ∷ pairs) pair =
    ap (λ writes. of_one first ++ writes) (fed_at_end pairs pair) ∙ sym (append_assoc (of_one first) (fed_dims (dims_view pairs)) (of_one pair))

pub fed_one_more : (state : DefaultHasher) (pairs : List Held) (at : ℕ) (pair : Held) (named done : DefaultHasher) → at < length pairs
    → pair ≡ get_or pairs at pair
    → named ≡ fed_with (fed_with state (fed_dims (dims_view (take at pairs)))) (fed_text (string_bytes pair.0))
    → done ≡ fed_with named (fed_value (option_map string_bytes pair.1)) → done ≡ fed_with state (fed_dims (dims_view (take (at + 1) pairs)))
fed_one_more state pairs at pair named done in_range is name value =
    let front : HashWrites = fed_dims (dims_view (take at pairs)) in
    let next : at + 1 ≡ suc at = omega arith in
    value ∙ ap (λ s. fed_with s (fed_value (option_map string_bytes pair.1))) name
    ∙ sym (fold-append write (fed_with state front) (fed_text (string_bytes pair.0)) (fed_value (option_map string_bytes pair.1)))
    ∙ sym (fold-append write state front (of_one pair))
    ∙ ap (fed_with state) (sym (fed_at_end (take at pairs) pair))
    ∙ ap (λ ps. fed_with state (fed_dims (dims_view ps)))
    (sym (ap (λ k. take k pairs) next ∙ take-suc pairs at pair in_range ∙ ap (λ p. take at pairs ++ p ∷ []) (sym is)))
