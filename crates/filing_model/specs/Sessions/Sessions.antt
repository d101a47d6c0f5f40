-- One session alone on a plain repository: there is no overlay, no version and no read set. The project's own.
use Rattle.std.specs.Prelude.{ℕ, ◌+◌, Bool, true, false, cond, not, List, [], ◌∷◌, ◌++◌, Option, Some, None, is_some, option_map, unwrap_or}
use Rattle.std.specs.List.{list_all, find}
use Rattle.std.specs.Option.{option_map_or}
use Rattle.std.specs.declared.result.Result.{Result}
use Rattle.std.specs.declared.result.Result.TheVariants.{Ok, Err}
use Rattle.filing_model.specs.Common.Text.{Text}
use Rattle.filing_model.specs.Oim.Dimensions.{Dims}
use Rattle.filing_model.specs.Oim.Facts.{Fact, RawFact, fit_of}
use Rattle.filing_model.specs.Oim.Reports.{Report}
use Rattle.filing_model.specs.Sessions.Repository.{Repository, report_at, fact_in, with_fact_at, declaring_at}
use Rattle.filing_model.specs.Oim.Duplicates.{class_of, obeys, least_disallowed}
use Rattle.filing_model.specs.Sessions.Queries.{cell_facts, cell_ids, ids_for, page_ids, page_has_more}
use Rattle.filing_model.specs.Sessions.Calls.{PageQuery, Limit, Call, Get, Cell, Page, Add, Remove, Declared, Declare, report_of_call}
use Rattle.filing_model.specs.Sessions.Replies as reply
use Rattle.filing_model.specs.Sessions.Replies.{Reply}
use Rattle.filing_model.specs.declared.faults.FactFault.{FactFault}
use Rattle.filing_model.specs.declared.duplicates.Class.TheVariants.{Empty}
use Rattle.filing_model.specs.declared.kind.Kind.{Kind}
use Rattle.filing_model.specs.declared.kind.Kind.TheVariants.{Review, Amend}

-- ---- one call

-- the reply to a call, and the session's copy of the repository afterwards
abbrev pub Answer : Type 0
Answer = Reply × Repository

abbrev pub got : Text → Report → Reply
got id r = option_map_or reply.Found (fact_in r id) reply.Absent

abbrev pub cell_found : Dims → Report → Reply
cell_found dims r = reply.Cell (class_of (cell_facts dims r.facts)) (cell_ids dims r.facts)

abbrev pub page_of : ℕ → List Text → Reply
page_of limit ids = reply.Page (page_ids limit ids) (page_has_more limit ids)

abbrev pub page_found : PageQuery → Limit → Report → Reply
page_found query limit r = page_of limit.number (ids_for query r.facts)

-- an addition takes an identifier that is not there
abbrev pub fitted : Repository → Text → Text → Result Fact FactFault → Answer
fitted c name id (Ok fact) = (reply.Staged, with_fact_at c name id (Some fact))
fitted c name id (Err fault) = (reply.BadFact fault, c)

abbrev pub added : Repository → Text → Text → RawFact → Report → Answer
added c name id raw r = cond (is_some (fact_in r id)) (reply.Taken, c) (fitted c name id (fit_of r.names raw))

-- a removal takes one that is there
abbrev pub removed : Repository → Text → Text → Report → Answer
removed c name id r = cond (is_some (fact_in r id)) (reply.Staged, with_fact_at c name id None) (reply.Absent, c)

-- a review may not change anything
abbrev pub may_make : Kind → Call → Bool
may_make Review (Add name id raw) = false
may_make Review (Remove name id) = false
may_make Review (Declare name value) = false
may_make kind call = true

-- in the report that the call names. What is declared may be declared again
abbrev pub answer_in : Repository → Call → Report → Answer
answer_in c (Get name id) r = (got id r, c)
answer_in c (Cell name dims) r = (cell_found dims r, c)
answer_in c (Page name query limit) r = (page_found query limit r, c)
answer_in c (Add name id raw) r = added c name id raw r
answer_in c (Remove name id) r = removed c name id r
answer_in c (Declared name) r = (reply.Declared r.allowed, c)
answer_in c (Declare name value) r = (reply.Staged, declaring_at c name value)

abbrev pub answer : Kind → Call → Repository → Answer
answer kind call c = cond (may_make kind call)
    (option_map_or (answer_in c call) (report_at c (report_of_call call)) (reply.NoReport, c))
    (reply.ReadOnly, c)

-- ---- all calls of a session, one after another

abbrev pub solo_replies : Kind → Repository → List Call → List Reply
solo_replies kind c [] = []
solo_replies kind c (call ∷ calls) = (answer kind call c).0 ∷ solo_replies kind (answer kind call c).1 calls

abbrev pub solo_copy : Kind → Repository → List Call → Repository
solo_copy kind c [] = c
solo_copy kind c (call ∷ calls) = solo_copy kind (answer kind call c).1 calls

-- ---- the end of a session

abbrev pub report_obeys : Report → Bool
report_obeys r = obeys r.allowed r.facts.entries

abbrev pub repository_obeys : Repository → Bool
repository_obeys c = list_all (λ e. report_obeys e.1) c.reports.entries

-- the least cell of the report that it does not allow. Where it obeys there is none
abbrev pub disallowed_cell : Text → Report → Reply
disallowed_cell name r = option_map_or
    (λ dims. reply.Disallowed name (class_of (cell_facts dims r.facts)) (cell_ids dims r.facts))
    (least_disallowed r.allowed r.facts.entries) (reply.Disallowed name Empty [])

-- the refusal of a repository that disobeys: by its least report that does. One that obeys has none
abbrev pub refusal_of : Repository → Option Reply
refusal_of c = option_map (λ e. disallowed_cell e.0 e.1) (find (λ e. not (report_obeys e.1)) c.reports.entries)

-- the reply to the commit of an amendment that began at `base` and made `copy` of it, and what is left
abbrev pub commit_reply : Repository → Repository → Reply
commit_reply base copy = unwrap_or (refusal_of copy) (reply.Committed (base.count + 1))

abbrev pub commit_result : Repository → Repository → Repository
commit_result base copy = option_map_or (λ refusal. base) (refusal_of copy) (record copy { count = base.count + 1 })

-- how a session ended, or that it did not
pub data Ending : Type 0 where
  Committing : Ending
  Closing : Ending
  Unended : Ending

-- a run of a session from its opening on: all its replies, and the repository that it leaves
pub record SoloRun : Type 0 where
  pub replies : List Reply
  pub result : Repository

abbrev pub end_replies : Kind → Repository → Repository → Ending → List Reply
end_replies Amend base copy Committing = commit_reply base copy ∷ []
end_replies Review base copy Committing = reply.Closed ∷ []
end_replies kind base copy Closing = reply.Closed ∷ []
end_replies kind base copy Unended = []

-- only the commit of an amendment changes anything
abbrev pub end_result : Kind → Repository → Repository → Ending → Repository
end_result Amend base copy Committing = commit_result base copy
end_result Review base copy Committing = base
end_result kind base copy Closing = base
end_result kind base copy Unended = base

abbrev pub solo : Kind → Repository → List Call → Ending → SoloRun
solo kind base calls ending = record {
  replies = reply.Opened ∷ solo_replies kind base calls ++ end_replies kind base (solo_copy kind base calls) ending;
  result = end_result kind base (solo_copy kind base calls) ending;
}
