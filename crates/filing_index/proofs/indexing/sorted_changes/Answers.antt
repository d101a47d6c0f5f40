-- The sort keeps the edits, whose keys differ since the identifiers of the fact changes do.
use Rattle.std.proofs.Common.{rules, ◌∙◌, ap, subst, List, IsPermutation}
use Rattle.std.proofs.lemmas.Fn.{always_returns_same}
use Rattle.sorted_pages.specs.declared.apply.Edit.{Edit}
use Rattle.filing_index.specs.Index.{IndexEntry}
use Rattle.filing_index.specs.IndexKinds.{hash_in}
use Rattle.filing_index.specs.ChangedIndexes.{hashed_changes}
use Rattle.filing_index.proofs.ChangedFacts.{is_change_before, is_change_before-ranks, sorted_changes_rise}
use Rattle.filing_index.proofs.indexing.sorted_changes.Goals as goal

pub returns-clause-changes : goal.returns-clause-changes
returns-clause-changes c =
    subst (λ (cs : List (Edit IndexEntry)). IsPermutation cs c.sort_unstable_by.new.self.items) c.in_ok-changes.ensures
    c.sort_unstable_by.ensures.permutation

pub returns-clause-rising : goal.returns-clause-rising
returns-clause-rising c =
    sorted_changes_rise (hash_in c.args.kind) c.requires.1.0 c.requires.0 c.sort_unstable_by.new.self.items
    (subst (λ (cs : List (Edit IndexEntry)). IsPermutation cs c.sort_unstable_by.new.self.items)
    (c.in_ok-changes.ensures ∙ ap (hashed_changes (hash_in c.args.kind)) c.requires.1.1) c.sort_unstable_by.ensures.permutation)
    (c.sort_unstable_by.ensures.sorted is_change_before is_change_before-ranks (always_returns_same _ _ _ (λ a r f' k. search rules)))
