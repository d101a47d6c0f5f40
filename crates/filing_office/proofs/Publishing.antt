-- What the lock's value keeps, and what a step on it is answered.
use Rattle.std.proofs.Common.{◌≡◌, ◌∙◌, ap, sym, refl, subst, ℕ, ◌+◌, Bool, true, false, cond, List, [], ◌∷◌, ◌++◌, Option, Some, None}
use Rattle.std.proofs.Common.{is_some, option_map, length, arith}
use Rattle.std.specs.Option.{option_map_or}
use Rattle.filing_model.specs.Sessions.Repository.{Repository}
use Rattle.filing_model.specs.Sessions.Replies.{Reply}
use Rattle.filing_model.specs.Histories.History.{Step, Entry, History, repository}
use Rattle.filing_model.specs.Histories.Touches.{number_in}
use Rattle.filing_model.specs.Histories.Lawful.{IsLawful, entered_under}
use Rattle.filing_model.specs.Histories.Versions.{counts, versions, IsChain}
use Rattle.filing_laws.proofs.Stamping.VersionChain.{versions_are_a_chain}
use Rattle.filing_version.specs.StampedReports.{StampedReports, repository_in}
use Rattle.filing_step.specs.Steps.{reply_of}
use Rattle.filing_core.specs.Answers.{IsEntered}
use Rattle.filing_core.specs.Prepared.{Preparation, MayFollow, IsPreparedFor, is_load_or_commit}
use Rattle.filing_office.specs.Answers.{IsTold, IsSettled}
use Rattle.filing_office.specs.Tallies.{Tally, IsReceipted, IsCounted}
use Rattle.filing_office.specs.declared.answer.Answer.{Answer}
use Rattle.filing_laws.proofs.Stamping.CountedVersions.{one_more, no_more, count_after, told_number}
use Rattle.filing_office.proofs.Numbered.{makes_none}

module _ (old new : History) (session : Option ℕ) (step : Step) (r : Reply) where
  -- the entry, and that it is lawful
  abbrev entry : Entry
  entry = record { session = entered_under old session step; step = step; reply = r }

  is_lawful : IsEntered old new session step r → IsLawful (entry ∷ old)
  is_lawful e = subst IsLawful e.entry e.lawful

  quiet : IsEntered old new session step r → is_load_or_commit step ≡ false → counts r ≡ false
  quiet e other = makes_none old (entered_under old session step) step r other (is_lawful e).1

  -- a step that is no load and no commit leaves the versions
  pub leaves_versions : IsEntered old new session step r → is_load_or_commit step ≡ false → versions new ≡ versions old
  leaves_versions e other = ap versions e.entry ∙ no_more entry old (quiet e other)

  pub no_receipt : IsEntered old new session step r → is_load_or_commit step ≡ false → None ≡ cond (counts r) (Some (versions new)) None
  no_receipt e other = sym (ap (λ b. cond b (Some (versions new)) None) (quiet e other))

  pub count_entered : IsEntered old new session step r → (repository new).count ≡ (repository old).count + cond (counts r) 1 0
  count_entered e = ap (λ h. (repository h).count) e.entry ∙ count_after entry old (is_lawful e)

  pub length_entered : IsEntered old new session step r → counts r ≡ true → length (versions new) ≡ number_in r + 1
  length_entered e makes = ap (λ h. length (versions h)) e.entry ∙ told_number entry old (is_lawful e) makes

-- ---- a version that is made

module _ (h : History) (p : Preparation) (follows : MayFollow h p) where
  pub versions_with : (next : Option StampedReports) → p.next ≡ next → versions (p.entry ∷ h) ≡ versions h ++ option_map_or (λ v. repository_in v ∷ []) next []
  versions_with (Some v) is =
      one_more p.entry h (sym follows.counts_so ∙ ap is_some is)
      ∙ ap (λ c. versions h ++ c ∷ []) (sym (follows.version v is).repository_is)
  versions_with None is = ap (λ b. versions h ++ cond b (repository (p.entry ∷ h) ∷ []) []) (sym follows.counts_so ∙ ap is_some is)

  pub chain_with : (v : StampedReports) → p.next ≡ Some v → IsChain (versions h ++ repository_in v ∷ [])
  chain_with v is = subst IsChain (versions_with (Some v) is) (versions_are_a_chain (p.entry ∷ h) follows.lawful)

  receipt_at : (next : Option StampedReports) → p.next ≡ next → (after : List Repository)
      → option_map (λ _. after) next ≡ cond (counts p.entry.reply) (Some after) None
  receipt_at (Some v) is after = sym (ap (λ b. cond b (Some after) None) (sym follows.counts_so ∙ ap is_some is))
  receipt_at None is after = sym (ap (λ b. cond b (Some after) None) (sym follows.counts_so ∙ ap is_some is))

  pub receipt_with : (after : List Repository) → option_map (λ _. after) p.next ≡ cond (counts p.entry.reply) (Some after) None
  receipt_with after = receipt_at p.next refl after

-- ---- receipts

module _ {J : Type 0} (old new : History) (session : Option ℕ) (step : Step) (a : Answer J) (told : IsTold old new session step a) where
  abbrev r : Reply
  r = reply_of a.reply

  pub there : is_some a.receipt ≡ counts r
  there = ap is_some told.receipt_is ∙ by (counts r)
    where
      by : (b : Bool) → is_some (cond b (Some (versions new)) None) ≡ b
      by true = refl
      by false = refl

  numbered : (b : Bool) → counts r ≡ b → option_map length (cond b (Some (versions new)) None) ≡ cond b (Some (number_in r + 1)) None
  numbered true makes = ap Some (length_entered old new session step r told.entered makes)
  numbered false none = refl

  pub receipted : IsReceipted a
  receipted = record { there = there; number = ap (option_map length) told.receipt_is ∙ numbered (counts r) refl }

  pub count_told : (repository new).count ≡ (repository old).count + cond (is_some a.receipt) 1 0
  count_told = count_entered old new session step r told.entered ∙ ap (λ b. (repository old).count + cond b 1 0) (sym there)

-- ---- a load or a commit, prepared, published and settled

pub publishes : (h new : History) (p : Preparation) → MayFollow h p → new ≡ p.entry ∷ h → (old published : List Repository) → old ≡ versions h
    → published ≡ old ++ option_map_or (λ v. repository_in v ∷ []) p.next [] → published ≡ versions new
publishes h new p follows entered old published before after =
    after
    ∙ ap (λ vs. vs ++ option_map_or (λ v. repository_in v ∷ []) p.next []) before
    ∙ sym (versions_with h p follows p.next refl)
    ∙ ap versions (sym entered)

-- on a core that still had the history for which it was prepared
module _ (h kept new : History) (session : Option ℕ) (step : Step) (p : Preparation) (prepared : IsPreparedFor h session step p) (same : kept ≡ h) where
  pub tells : {J : Type 0} (a : Answer J) → IsSettled kept new p a → IsTold h new session step a
  tells a settled = record {
    entered = record {
      told = prepared.told ∙ ap Some (sym settled.replied);
      entry = entered
          ∙ ap (λ e. e ∷ h)
          (prepared.entry ∙ ap (λ (y : Reply). record { session = entered_under h session step; step = step; reply = y }) (sym settled.replied));
      lawful = subst IsLawful (sym entered) prepared.follows.lawful;
    };
    under = settled.under ∙ ap (λ (e : Entry). e.session) prepared.entry;
    receipt_is =
        settled.receipt_is
        ∙ receipt_with h p prepared.follows (versions new)
        ∙ ap (λ x. cond (counts x) (Some (versions new)) None) (sym settled.replied);
  }
    where
      entered : new ≡ p.entry ∷ h
      entered = settled.entered ∙ ap (λ (x : History). p.entry ∷ x) same

-- ---- what the value behind the lock counts

module _ {J : Type 0} (old new : History) (session : Option ℕ) (step : Step) (a : Answer J) (told : IsTold old new session step a) where
  pub one_longer : length new ≡ length old + 1
  one_longer = omega (arith, ap length told.entered.entry)

  pub counts_it : (s t : Tally) → t ≡ record { steps = s.steps + 1; receipts = s.receipts + cond (is_some a.receipt) 1 0 } → IsCounted s t a
  counts_it s t is = record {
    steps = ap (λ (x : Tally). x.steps) is;
    receipts = ap (λ (x : Tally). x.receipts) is;
    receipted = receipted old new session step a told;
  }
