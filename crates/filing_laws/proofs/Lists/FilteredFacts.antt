-- The facts of a report that pass a test are one list, whichever report they are seen in.
use Rattle.std.proofs.Common.{◌≡◌, ◌∙◌, sym, Bool, T, List, filter}
use Rattle.std.specs.Cmp.Lexicographic.{nat_list_cmp_total}
use Rattle.std.specs.FinMap.Entries.{is_sorted, same_entries}
use Rattle.filing_model.specs.Common.Text.{Text, text_cmp}
use Rattle.filing_model.specs.Common.TextMap.{TextMap, get}
use Rattle.filing_model.specs.Oim.Facts.{Fact}
use Rattle.filing_model.proofs.Common.Texts.{text_cmp-Equal}
use Rattle.filing_model.proofs.Common.FilteredEntries as filtered
use Rattle.filing_model.proofs.Common.FilteredEntries.{only}

-- a test of a fact with its identifier
module _ (test : Text → Fact → Bool) where
  abbrev pub those : List (Text × Fact) → List (Text × Fact)
  those es = filter (λ e. test e.0 e.1) es

  pub sorted-filter : (es : List (Text × Fact)) → T (is_sorted text_cmp es) → T (is_sorted text_cmp (those es))
  sorted-filter = filtered.sorted-filter text_cmp test

  -- maps that show the same facts that pass have the same entries that pass
  pub those_same : (m n : TextMap Fact) → ((id : Text) → only (test id) (get m id) ≡ only (test id) (get n id)) → those m.entries ≡ those n.entries
  those_same m n alike =
      same_entries text_cmp nat_list_cmp_total text_cmp-Equal (those m.entries) (those n.entries) (sorted-filter m.entries m.sorted) (sorted-filter n.entries n.sorted)
      (λ q. filtered.find-filter text_cmp test text_cmp-Equal q m.entries m.sorted ∙ alike q ∙ sym (filtered.find-filter text_cmp test text_cmp-Equal q n.entries n.sorted))
