-- Worked examples: sessions call by call, what each is told, has read and has staged.
use Rattle.std.proofs.Common.{◌≡◌, refl, List, [], ◌∷◌, Some, None, true, false}
use Rattle.std.specs.Prelude.{codes}
use Rattle.filing_model.specs.Common.Text.{Text}
use Rattle.filing_model.specs.Common.TextMap.{empty, insert}
use Rattle.filing_model.specs.Sessions.Repository.{Repository}
use Rattle.filing_model.specs.Sessions.Changes.{change_at}
use Rattle.filing_model.specs.Sessions.Calls.{Call, Get, Cell, Page, Add, Remove, Declared, Declare, Without}
use Rattle.filing_model.specs.Sessions.Replies as reply
use Rattle.filing_model.specs.Sessions.Things as thing
use Rattle.filing_model.specs.declared.duplicates.Allowed.TheVariants.{Never, All}
use Rattle.filing_model.specs.declared.duplicates.Class.TheVariants.{Single, Complete}
use Rattle.filing_model.specs.declared.kind.Kind.TheVariants.{Review, Amend}
use Rattle.filing_model.proofs.Examples.Setting.{holding, raw, fact, of_concept, query, two}
use Rattle.filing_session.specs.States.{SessionState, opened, after_calls, replies_to}
use Rattle.filing_session.specs.Runs.{pruned}

-- ---- one report of three facts in one cell

abbrev name : Text
name = codes "r1"

abbrev base : Repository
base = record {
  count = 4;
  reports = insert empty name (holding All ((codes "a", fact (codes "x")) ∷ (codes "b", fact (codes "x")) ∷ (codes "c", fact (codes "x")) ∷ []));
}

abbrev amended : List Call → SessionState
amended calls = after_calls calls (opened Amend base)

abbrev reviewed : List Call → SessionState
reviewed calls = after_calls calls (opened Review base)

-- ---- pages

abbrev own_page_calls : List Call
own_page_calls = Remove name (codes "a") ∷ Add name (codes "d") (raw (codes "y")) ∷ Page name (query Without None) two ∷ []

-- a page is of the session's own copy, and so is the identifier at which its range ends
pub own_page : replies_to own_page_calls (opened Amend base) ≡ reply.Staged ∷ reply.Staged ∷ reply.Page (codes "b" ∷ codes "c" ∷ []) true ∷ []
own_page = refl

pub own_page_is_read : (amended own_page_calls).reads ≡
    thing.Id name (codes "a") ∷ thing.Id name (codes "d") ∷ thing.Range name (query Without None) (Some (codes "d")) ∷ []
own_page_is_read = refl

abbrev last_page_calls : List Call
last_page_calls = Remove name (codes "a") ∷ Page name (query Without None) two ∷ []

-- there is no more where what is left was removed, and the range has no end
pub last_page : replies_to last_page_calls (opened Amend base) ≡ reply.Staged ∷ reply.Page (codes "b" ∷ codes "c" ∷ []) false ∷ []
last_page = refl

pub last_page_is_read : (amended last_page_calls).reads ≡ thing.Id name (codes "a") ∷ thing.Range name (query Without None) None ∷ []
last_page_is_read = refl

-- ---- cells

abbrev cell_calls : List Call
cell_calls =
    Cell name (of_concept (codes "ex:Name")) ∷ Remove name (codes "a") ∷ Remove name (codes "b") ∷ Cell name (of_concept (codes "ex:Name")) ∷ []

pub cells : replies_to cell_calls (opened Amend base) ≡
    reply.Cell Complete (codes "a" ∷ codes "b" ∷ codes "c" ∷ []) ∷ reply.Staged ∷ reply.Staged ∷ reply.Cell Single (codes "c" ∷ []) ∷ []
cells = refl

-- what is read again is not entered again
pub cells_are_read : (amended cell_calls).reads ≡
    thing.Cell name (of_concept (codes "ex:Name")) ∷ thing.Id name (codes "a") ∷ thing.Id name (codes "b") ∷ []
cells_are_read = refl

-- ---- reviews

abbrev review_calls : List Call
review_calls =
    Add name (codes "a") (raw (codes "y")) ∷ Remove (codes "r2") (codes "a") ∷ Declare name Never ∷ Get (codes "r2") (codes "a") ∷ Get name (codes "a") ∷ []

-- a review may change nothing, which it is told before all else
pub review : replies_to review_calls (opened Review base) ≡
    reply.ReadOnly ∷ reply.ReadOnly ∷ reply.ReadOnly ∷ reply.NoReport ∷ reply.Found (fact (codes "x")) ∷ []
review = refl

-- and that is not read; an absent report is
pub review_reads : (reviewed review_calls).reads ≡ thing.Report (codes "r2") ∷ thing.Id name (codes "a") ∷ []
review_reads = refl

-- ---- what is staged

abbrev again_calls : List Call
again_calls = Remove name (codes "a") ∷ Add name (codes "a") (raw (codes "x")) ∷ []

-- a fact that is removed and added again is put
pub added_again : change_at (amended again_calls).change name (codes "a") ≡ Some (Some (fact (codes "x")))
added_again = refl

pub removed_nothing : (amended (Remove name (codes "z") ∷ [])).change ≡ empty
removed_nothing = refl

-- one that is added and removed leaves nothing of the change
pub added_and_removed : pruned base (amended (Add name (codes "z") (raw (codes "x")) ∷ Remove name (codes "z") ∷ [])).change ≡ empty
added_and_removed = refl

-- ---- declared values

abbrev value_calls : List Call
value_calls = Declare name Never ∷ Declared name ∷ []

-- the staged value is told, and only who asks reads it
pub values : replies_to value_calls (opened Amend base) ≡ reply.Staged ∷ reply.Declared Never ∷ []
values = refl

pub value_is_read : (amended value_calls).reads ≡ thing.Policy name ∷ []
value_is_read = refl
