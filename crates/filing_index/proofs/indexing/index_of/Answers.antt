-- The stable sort by hashes keeps the order of identifiers within a hash, and so the entries rise.
use Rattle.std.proofs.Common.{rules, ◌≡◌, ◌∙◌, ap, sym, subst, map, List, IsPermutation}
use Rattle.std.specs.List.Sorted.{IsStableBy}
use Rattle.std.proofs.lemmas.Fn.{always_returns_same}
use Rattle.std.proofs.lemmas.Result.{IfOk-weaker}
use Rattle.filing_model.specs.Common.TextMap.{TextMap}
use Rattle.filing_model.specs.Oim.Facts.{Fact}
use Rattle.filing_index.specs.Index.{IndexEntry, IsIndex}
use Rattle.filing_index.specs.IndexKinds.{hash_in}
use Rattle.filing_index.specs.ChangedIndexes.{hashed}
use Rattle.filing_index.proofs.IndexesOfLists.{index_of, has_lesser_hash, has_lesser_hash-ranks, sorted_hashes_rise, sorted_stably}
use Rattle.filing_index.proofs.indexing.index_of.Goals as goal

pub of_sorted-requires : goal.of_sorted-requires
of_sorted-requires c =
    sorted_hashes_rise (hash_in c.args.kind) c.args.facts.now c.sort_by.new.self.items c.requires
    (subst (λ (es : List IndexEntry). IsPermutation es c.sort_by.new.self.items) c.in_ok-entries.ensures c.sort_by.ensures.permutation)
    (sorted_stably (hash_in c.args.kind) c.args.facts.now c.sort_by.new.self.items c.requires
    (c.in_ok-sort_by.ensures.sorted has_lesser_hash has_lesser_hash-ranks (always_returns_same _ _ _ (λ a r f' k. search rules)))
    (subst (λ (es : List IndexEntry). IsStableBy has_lesser_hash es c.sort_by.new.self.items) c.in_ok-entries.ensures
    (c.sort_by.ensures.stable has_lesser_hash has_lesser_hash-ranks (always_returns_same _ _ _ (λ a r f' k. search rules)))))

pub returns : goal.returns
returns c =
    IfOk-weaker c.of_sorted.result (λ p. p ≡ c.sort_by.new.self.items)
    (λ index. (all : TextMap Fact) → all.entries ≡ c.args.facts.now → IsIndex (hash_in c.args.kind) all index)
    (λ p same all is.
    subst (IsIndex (hash_in c.args.kind) all) (sym same)
    (index_of (hash_in c.args.kind) all c.sort_by.new.self.items
    (subst (λ (es : List IndexEntry). IsPermutation es c.sort_by.new.self.items)
    (c.in_ok-entries.ensures ∙ ap (map (hashed (hash_in c.args.kind))) (sym is)) c.sort_by.ensures.permutation)))
    c.of_sorted.ensures
