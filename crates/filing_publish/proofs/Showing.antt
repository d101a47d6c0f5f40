-- What is published goes on from what was seen.
use Rattle.std.proofs.Common.{◌≡◌, ℕ, ◌≢◌, List, [], ◌∷◌, ◌++◌, refl, sym, subst, ⊎_elim}
use mathlib.Core.Option.{some}
use mathlib.Core.List.{IsPrefix}
use lib.ListN.{get_elem?}
use Rattle.left_right.specs.Register.{Admits, TurnsAt}
use Rattle.atomic_table.proofs.Lists.{at_set, at_snoc}
use Rattle.logbook.specs.Pages.{Book}
use Rattle.filing_model.specs.Sessions.Repository.{Repository}
use Rattle.filing_publish.specs.Lists.{Listed}
use Rattle.filing_publish.specs.Rules.{IsPublished, Sees}
use Rattle.filing_publish.proofs.Beginnings.{prefix_self, prefix_trans}

abbrev Versions : Type 0
Versions = List Repository

module _ (book : Book) where
  -- a reader that comes has seen nothing
  pub admits : Admits (IsPublished book) []
  admits x seen h = record {
    of_book = h.of_book;
    begun = λ seat versions at.
        ⊎_elim (h.begun seat versions) (λ (is : [] ≡ versions). subst (λ (vs : Versions). IsPrefix vs x.versions) is (x.versions, refl))
        (at_snoc seen [] versions seat at);
  }

  -- the list that is published goes on from the one before it, and this place has seen it
  pub shows : (seat : ℕ) (before : Versions) (old new : Listed) → new.book ≡ book → IsPrefix old.versions new.versions → TurnsAt (IsPublished book) seat before old new (Sees book)
  shows seat before old new of_book on seen h at = (
    new.versions,
    record {
      of_book = of_book;
      begun = λ j versions there.
          ⊎_elim (λ (t : (j ≡ seat) × (new.versions ≡ versions)). subst (λ (vs : Versions). IsPrefix vs new.versions) t.1 (prefix_self new.versions))
          (λ (t : (j ≢ seat) × (get_elem? seen j ≡ some versions)). prefix_trans versions old.versions new.versions (h.begun j versions t.1) on)
          (at_set seen seat j new.versions versions there);
    },
    record { of_book = of_book; seen = refl; goes_on = prefix_trans before old.versions new.versions (h.begun seat before at) on },
  )

  -- entering shows what is published
  pub looks : (seat : ℕ) (before : Versions) (e : Listed) → TurnsAt (IsPublished book) seat before e e (Sees book)
  looks seat before e seen h at = shows seat before e e h.of_book (prefix_self e.versions) seen h at

  -- the writer's own place, before any reader's
  pub begins : (e : Listed) → e.book ≡ book → IsPublished book e ([] ∷ [])
  begins e of_book = record {
    of_book = of_book;
    begun = λ seat versions at.
        ⊎_elim (λ (none : get_elem? [] seat ≡ some versions). absurd cc) (λ (is : [] ≡ versions). subst (λ (vs : Versions). IsPrefix vs e.versions) is (e.versions, refl))
        (at_snoc [] [] versions seat at);
  }
