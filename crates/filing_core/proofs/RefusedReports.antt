-- A load is refused for a name that is taken, or for the least disallowed cell of its report.
use Rattle.std.proofs.Common.{◌≡◌, ◌∙◌, ◌+◌, ap, sym, refl, cond, true, false, true≢false, Bool, [], Some, None, Option, is_some}
use Rattle.std.specs.Option.{option_map_or}
use Rattle.filing_model.specs.Common.Text.{Text}
use Rattle.filing_model.specs.Common.TextMap.{get}
use Rattle.filing_model.specs.Oim.Dimensions.{Dims}
use Rattle.filing_model.specs.Oim.Reports.{Report}
use Rattle.filing_model.specs.Sessions.Repository.{Repository, report_at, with_report}
use Rattle.filing_model.specs.Sessions.Replies as reply
use Rattle.filing_model.specs.Sessions.Replies.{Reply}
use Rattle.filing_model.specs.Oim.Duplicates.{class_of, least_disallowed}
use Rattle.filing_model.specs.Sessions.Queries.{cell_facts, cell_ids}
use Rattle.filing_model.specs.declared.duplicates.Class.TheVariants.{Empty}
use Rattle.filing_model.specs.Sessions.Sessions.{report_obeys, disallowed_cell}
use Rattle.filing_model.proofs.Common.TextMaps.{get-insert}
use Rattle.filing_model.proofs.Common.Texts.{text_eq-refl}
use Rattle.filing_model.proofs.Oim.DisallowedCells.{obeys_where_no_cell_is_disallowed}
use Rattle.filing_laws.specs.Updating.NetChange.{refusal_at}
use Rattle.filing_model.specs.Histories.Lawful.{load_reply}
use Rattle.filing_model.specs.Histories.Versions.{counts}

pub absent : (o : Option Report) → is_some o ≡ false → o ≡ None
absent None none = refl
absent (Some r) there = absurd (true≢false there)

-- the report that was loaded is there
pub loaded_there : (c : Repository) (name : Text) (r : Report) → report_at (with_report c name r) name ≡ Some r
loaded_there c name r = get-insert c.reports name r name ∙ ap (λ b. cond b (Some r) (get c.reports name)) (text_eq-refl name)

free : (c : Repository) (name : Text) (r : Report) → report_at c name ≡ None
    → load_reply c name r ≡ cond (report_obeys r) (reply.Loaded (c.count + 1)) (disallowed_cell name r)
free c name r none = ap (λ o. cond (is_some o) reply.NameTaken (cond (report_obeys r) (reply.Loaded (c.count + 1)) (disallowed_cell name r))) none

-- no cell is disallowed
pub accepted : (c : Repository) (name : Text) (r : Report) → report_at c name ≡ None → least_disallowed r.allowed r.facts.entries ≡ None
    → load_reply c name r ≡ reply.Loaded (c.count + 1)
accepted c name r none least =
    free c name r none
    ∙ ap (λ b. cond b (reply.Loaded (c.count + 1)) (disallowed_cell name r)) ((obeys_where_no_cell_is_disallowed r.allowed r.facts.entries).1 least)

-- how a report is refused whose least disallowed cell, if any, is this
abbrev told : Text → Report → Option Dims → Reply
told name r least = option_map_or (λ dims. reply.Disallowed name (class_of (cell_facts dims r.facts)) (cell_ids dims r.facts)) least
    (reply.Disallowed name Empty [])

-- one is
pub refused : (c next : Repository) (name : Text) (r : Report) (dims : Dims) → report_at c name ≡ None → report_at next name ≡ Some r
    → least_disallowed r.allowed r.facts.entries ≡ Some dims → load_reply c name r ≡ refusal_at next (name, dims)
refused c next name r dims none there least =
    free c name r none ∙ by (report_obeys r) refl ∙ ap (told name r) least
    ∙ sym (ap (λ o. option_map_or (λ (r : Report). reply.Disallowed name (class_of (cell_facts dims r.facts)) (cell_ids dims r.facts)) o reply.NoReport) there)
  where
    by : (b : Bool) → report_obeys r ≡ b
        → cond b (reply.Loaded (c.count + 1)) (disallowed_cell name r) ≡ told name r (least_disallowed r.allowed r.facts.entries)
    by true obeys =
        let apart : None ≡ Some dims = sym ((obeys_where_no_cell_is_disallowed r.allowed r.facts.entries).0 obeys) ∙ least in
        absurd cc
    by false disobeys = refl

-- which does not count
pub refusal_at_is_quiet : (c : Repository) (d : Text × Dims) → counts (refusal_at c d) ≡ false
refusal_at_is_quiet c d = by (report_at c d.0)
  where
    by : (o : Option Report)
        → counts (option_map_or (λ (r : Report). reply.Disallowed d.0 (class_of (cell_facts d.1 r.facts)) (cell_ids d.1 r.facts)) o reply.NoReport) ≡ false
    by None = refl
    by (Some r) = refl
