-- Indexes of the facts of one report: sorted lists in which facts that one look-up finds stand together.
-- The project's own.
use Rattle.std.specs.Prelude.{◌≡◌, ℕ, cond, ◌==◌, List, Option, Some, None, option_and_then}
use Rattle.std.specs.FinMap.Entries.{find}
use Rattle.std.specs.Ordering.{on, then_cmp, nat_cmp}
use Rattle.std.specs.declared.cmp.Ordering.{Ordering}
use Rattle.filing_model.specs.Common.Text.{Text, text_cmp}
use Rattle.filing_model.specs.Common.TextMap.{TextMap, get}
use Rattle.filing_model.specs.Oim.Facts.{Fact}

-- a fact under its hash and its identifier. Facts that one look-up finds have one hash; others may have it too
abbrev pub IndexEntry : Type 0
IndexEntry = (ℕ × Text) × Fact

-- by hash, then by identifier
abbrev pub key_cmp : ℕ × Text → ℕ × Text → Ordering
key_cmp = then_cmp (on (λ k. k.0) nat_cmp) (on (λ k. k.1) text_cmp)

abbrev pub hashed_cmp : IndexEntry → IndexEntry → Ordering
hashed_cmp = on (λ e. e.0) key_cmp

-- the fact, where it has this hash
abbrev pub if_hashed : (Fact → ℕ) → ℕ → Fact → Option Fact
if_hashed hash_of hash fact = cond (hash_of fact == hash) (Some fact) None

-- each fact stands there under its hash, and nothing else does
abbrev pub IsIndex : (Fact → ℕ) → TextMap Fact → List IndexEntry → Type 0
IsIndex hash_of facts entries =
    (hash : ℕ) (id : Text) → find key_cmp (hash, id) entries ≡ option_and_then (if_hashed hash_of hash) (get facts id)
