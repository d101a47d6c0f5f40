-- What changes make of a plain sorted list, in the words of std.
use Rattle.std.specs.Prelude.{Bool, not, cond, List, [], ◌∷◌}
use Rattle.std.specs.Ordering.{eq_by_cmp}
use Rattle.std.specs.declared.cmp.Ordering.{Ordering}
use Rattle.std.specs.FinMap.Entries.{put, where_key}
use Rattle.sorted_pages.specs.declared.apply.Edit.{Edit}
use Rattle.sorted_pages.specs.declared.apply.Edit.TheVariants.{Put, Remove}
use Rattle.sorted_pages.specs.Sorted.{keyed, entries}

-- the entry that a change puts, or ties with what it removes
abbrev pub entry_of : {E : Type 0} → Edit E → E
entry_of (Put entry) = entry
entry_of (Remove entry) = entry

-- the list after one change: an entry that ties is replaced, or goes
abbrev pub with_change : {E : Type 0} → (E → E → Ordering) → Edit E → List E → List E
with_change R (Put entry) es = entries (put R entry entry (keyed es))
with_change R (Remove entry) es = entries (where_key R (λ k. not (eq_by_cmp R entry k)) (keyed es))

-- the list after one change, if it was made
abbrev pub with_change_if : {E : Type 0} → Bool → (E → E → Ordering) → Edit E → List E → List E
with_change_if is_made R c es = cond is_made (with_change R c es) es

-- the list after the changes, one after another
abbrev pub with_changes : {E : Type 0} → (E → E → Ordering) → List (Edit E) → List E → List E
with_changes R [] es = es
with_changes R (c ∷ cs) es = with_changes R cs (with_change R c es)

-- the entry that a change puts, in a list
abbrev pub entries_put : {E : Type 0} → Edit E → List E
entries_put (Put entry) = entry ∷ []
entries_put (Remove entry) = []

-- the entries without the first, where that ties with this one
abbrev pub without_tied : {E : Type 0} → (E → E → Ordering) → E → List E → List E
without_tied R entry [] = []
without_tied R entry (e ∷ es) = cond (eq_by_cmp R entry e) es (e ∷ es)
