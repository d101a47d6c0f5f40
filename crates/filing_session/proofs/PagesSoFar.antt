-- The page whose first identifiers were taken.
use Rattle.std.proofs.Common.{◌≡◌, ℕ, List, ◌++◌}
use Rattle.filing_model.specs.Common.Text.{Text}
use Rattle.filing_model.specs.Sessions.Queries.{page_ids, first_cut}

-- those taken and the page of those still to come are the page of all, and what is cut of those is what is cut of all
pub record IsPageSoFar (limit : ℕ) (all taken : List Text) (left : ℕ) (ids : List Text) : Type 0 where
  pub page : taken ++ page_ids left ids ≡ page_ids limit all
  pub cut : first_cut left ids ≡ first_cut limit all
