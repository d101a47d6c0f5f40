-- Each entry of a lawful history changes nothing, or loads a report that obeys under a new name, or is the commit of an amendment that passed and obeys.
use Rattle.std.proofs.Common.{◌≡◌, ◌∙◌, ap, sym, refl, ℕ, ◌+◌, Bool, true, false, cond, [], ◌∷◌, Option, Some, None, is_some, option_map}
use Rattle.std.proofs.Common.{unwrap_or, find, not, MatchOption, true≢false}
use Rattle.std.specs.Option.{option_map_or}
use Rattle.filing_model.specs.Common.Text.{Text}
use Rattle.filing_model.specs.Oim.Dimensions.{Dims}
use Rattle.filing_model.specs.Oim.Reports.{Report}
use Rattle.filing_model.specs.Oim.Duplicates.{class_of, least_disallowed}
use Rattle.filing_model.specs.Sessions.Queries.{cell_facts, cell_ids}
use Rattle.filing_model.specs.Sessions.Repository.{Repository, report_at, with_report}
use Rattle.filing_model.specs.Sessions.Calls.{Call}
use Rattle.filing_model.specs.Sessions.Replies as reply
use Rattle.filing_model.specs.Sessions.Replies.{Reply}
use Rattle.filing_model.specs.Sessions.Things.{Thing}
use Rattle.filing_model.specs.Sessions.Sessions.{answer, solo_copy, report_obeys, disallowed_cell, refusal_of}
use Rattle.filing_model.specs.Histories.History.{Step, Load, Open, Ask, Commit, Close, Entry, History, Live, status_of, calls_of}
use Rattle.filing_model.specs.Histories.History.{repository, effect_of, committed}
use Rattle.filing_model.specs.Histories.Lawful.{IsNext, IsNextStep, IsCommitReply, IsOngoing, IsPassed, conflict_of}
use Rattle.filing_model.specs.Histories.Versions.{counts}
use Rattle.filing_model.specs.declared.duplicates.Class.TheVariants.{Empty}
use Rattle.filing_model.specs.declared.kind.Kind.{Kind}
use Rattle.filing_model.specs.declared.kind.Kind.TheVariants.{Review, Amend}
use Rattle.filing_laws.proofs.Agreement.AnswerCases.{finds_none, stages, each_answer}
use Rattle.filing_laws.proofs.Opening.OwnReplies.{IsSoloAt}

-- the copy of an amendment that runs alone at the repository as it is
abbrev pub passed_copy : ℕ → History → Repository
passed_copy s older = solo_copy Amend (repository older) (calls_of s older)

pub record IsAcceptedLoad (older : History) (e : Entry) : Type 0 where
  pub name : Text
  pub report : Report
  pub step : e.step ≡ Load name report
  pub new : is_some (report_at (repository older) name) ≡ false
  pub obeys : report_obeys report ≡ true
  pub reply : e.reply ≡ reply.Loaded ((repository older).count + 1)
  pub result : repository (e ∷ older) ≡ with_report (repository older) name report

pub record IsPassedCommit (older : History) (e : Entry) : Type 0 where
  pub s : ℕ
  pub of_it : e.session ≡ Some s
  pub step : e.step ≡ Commit
  pub live : status_of s older ≡ Live Amend
  pub untouched : conflict_of s older ≡ None
  pub earlier : IsSoloAt Amend (repository older) s older
  pub obeys : refusal_of (passed_copy s older) ≡ None
  pub reply : e.reply ≡ reply.Committed ((repository older).count + 1)
  pub result : repository (e ∷ older) ≡ record (passed_copy s older) { count = (repository older).count + 1 }

pub data EntryCase (older : History) (e : Entry) : Type 0 where
  Quiet : counts e.reply ≡ false → EntryCase older e
  Accepted : IsAcceptedLoad older e → EntryCase older e
  Passed : IsPassedCommit older e → EntryCase older e

-- ---- replies that do not count

pub quiet_effect : (r : Reply) (session : Option ℕ) (step : Step) (older : History) (c : Repository) → counts r ≡ false → effect_of r session step older c ≡ c
quiet_effect (reply.Loaded n) session step older c quiet = absurd (true≢false quiet)
quiet_effect (reply.Committed n) session step older c quiet = absurd (true≢false quiet)
quiet_effect _ session step older c quiet = refl

refused_is_quiet : (name : Text) (r : Report) (o : Option Dims)
    → counts (option_map_or (λ dims. reply.Disallowed name (class_of (cell_facts dims r.facts)) (cell_ids dims r.facts)) o (reply.Disallowed name Empty []))
    ≡ false
refused_is_quiet name r None = refl
refused_is_quiet name r (Some dims) = refl

pub cell_is_quiet : (name : Text) (r : Report) → counts (disallowed_cell name r) ≡ false
cell_is_quiet name r = refused_is_quiet name r (least_disallowed r.allowed r.facts.entries)

pub found_refusal_is_quiet : (o : Option (Text × Report)) (x : Reply) → option_map (λ (e : Text × Report). disallowed_cell e.0 e.1) o ≡ Some x
    → counts x ≡ false
found_refusal_is_quiet None x is = let apart : None ≡ Some x = is in cc
found_refusal_is_quiet (Some e) x is = let same : disallowed_cell e.0 e.1 ≡ x = cc in ap counts (sym same) ∙ cell_is_quiet e.0 e.1

pub answer_is_quiet : (kind : Kind) (ask : Call) (c : Repository) → counts (answer kind ask c).0 ≡ false
answer_is_quiet kind ask c = each_answer (λ ask a. counts a.0 ≡ false) kind ask c (record {
  told = quiet;
  found = λ name id r fact is some. refl;
  put = λ name id raw r fact is fits. refl;
  removed = λ name id r is. refl;
  declared = λ name value r is. refl;
})
  where
    quiet : (ask : Call) (r : Reply) → stages r ≡ false → finds_none r ≡ true → counts r ≡ false
    quiet ask (reply.Loaded n) kept none = sym none
    quiet ask (reply.Committed n) kept none = sym none
    quiet ask r kept none = refl

-- ---- the cases

loading : (older : History) (session : Option ℕ) (name : Text) (x : Report) (r : Reply) (taken fits : Bool)
    → is_some (report_at (repository older) name) ≡ taken → report_obeys x ≡ fits
    → r ≡ cond taken reply.NameTaken (cond fits (reply.Loaded ((repository older).count + 1)) (disallowed_cell name x))
    → EntryCase older (record { session = session; step = Load name x; reply = r })
loading older session name x r true fits there obeys is = Quiet (ap counts is)
loading older session name x r false true there obeys is = Accepted (record {
  name = name;
  report = x;
  step = refl;
  new = there;
  obeys = obeys;
  reply = is;
  result = ap (λ r. effect_of r session (Load name x) older (repository older)) is;
})
loading older session name x r false false there obeys is = Quiet (ap counts is ∙ cell_is_quiet name x)

passing : (older : History) (session : Option ℕ) (s : ℕ) (r : Reply) → IsOngoing older session s Amend → conflict_of s older ≡ None
    → IsSoloAt Amend (repository older) s older
    → (o : Option Reply) → refusal_of (passed_copy s older) ≡ o → r ≡ unwrap_or o (reply.Committed ((repository older).count + 1))
    → EntryCase older (record { session = session; step = Commit; reply = r })
passing older session s r ongoing untouched earlier None obeys is = Passed (record {
  s = s;
  of_it = ongoing.of_it;
  step = refl;
  live = ongoing.live;
  untouched = untouched;
  earlier = earlier;
  obeys = obeys;
  reply = is;
  result =
      ap (λ r. effect_of r session Commit older (repository older)) is
      ∙ ap (λ o. option_map_or (λ s. committed (status_of s older) (repository older) (calls_of s older)) o (repository older)) ongoing.of_it
      ∙ ap (λ status. committed status (repository older) (calls_of s older)) ongoing.live
      ∙ ap (λ o. option_map_or (λ (refusal : Reply). repository older) o (record (passed_copy s older) { count = (repository older).count + 1 })) obeys;
})
passing older session s r ongoing untouched earlier (Some x) refused is =
    Quiet (ap counts is ∙ found_refusal_is_quiet (find (λ e. not (report_obeys e.1)) (passed_copy s older).reports.entries) x refused)

validating : (older : History) (session : Option ℕ) (s : ℕ) (r : Reply) → IsOngoing older session s Amend → (o : Option (ℕ × Thing)) → conflict_of s older ≡ o
    → MatchOption o (IsPassed older s r) (λ c. r ≡ reply.Conflict c.0 c.1) → EntryCase older (record { session = session; step = Commit; reply = r })
validating older session s r ongoing None untouched passed =
    passing older session s r ongoing untouched passed.earlier (refusal_of (passed_copy s older)) refl passed.commit
validating older session s r ongoing (Some c) touched is = Quiet (ap counts is)

committing : (older : History) (session : Option ℕ) (s : ℕ) (kind : Kind) (r : Reply) → IsOngoing older session s kind → IsCommitReply kind older s r
    → EntryCase older (record { session = session; step = Commit; reply = r })
committing older session s Review r ongoing is = Quiet (ap counts is)
committing older session s Amend r ongoing is = validating older session s r ongoing (conflict_of s older) refl is

step_case : (older : History) (session : Option ℕ) (step : Step) (r : Reply) → IsNextStep older session step r
    → EntryCase older (record { session = session; step = step; reply = r })
step_case older session (Load name x) r h = loading older session name x r (is_some (report_at (repository older) name)) (report_obeys x) refl refl h.1
step_case older session (Open kind) r h = Quiet (ap counts h.1)
step_case older session (Ask ask) r (s, kind, ongoing, h) = Quiet (ap counts h ∙ answer_is_quiet kind ask _)
step_case older session Commit r (s, kind, ongoing, h) = committing older session s kind r ongoing h
step_case older session Close r (s, kind, ongoing, h) = Quiet (ap counts h)

pub entry_case : (older : History) (e : Entry) → IsNext older e → EntryCase older e
entry_case older e h = step_case older e.session e.step e.reply h

pub quiet_repository : (older : History) (e : Entry) → counts e.reply ≡ false → repository (e ∷ older) ≡ repository older
quiet_repository older e quiet = quiet_effect e.reply e.session e.step older (repository older) quiet
