-- What follows a lawful history lawfully is entered under the next number and has the one next reply.
use Rattle.std.proofs.Common.{◌≡◌, ◌≢◌, ◌∙◌, ap, sym, ℕ, Option, Some, None, [], ◌∷◌, ◌++◌}
use Rattle.std.specs.Prelude.{MatchOption}
use Rattle.std.specs.Option.{option_and_then, option_map_or}
use Rattle.filing_model.specs.Sessions.Replies.{Reply}
use Rattle.filing_model.specs.Sessions.Replies as reply
use Rattle.filing_model.specs.Sessions.Things.{Thing}
use Rattle.filing_model.specs.Histories.History.{Step, Load, Open, Ask, Commit, Close, Entry, History, status_of}
use Rattle.filing_model.specs.Histories.Lawful.{IsLawful, IsNext, IsNextStep, IsSessionStep, IsSessionReply, IsCommitReply}
use Rattle.filing_model.specs.Histories.Lawful.{IsPassed, next_reply, reply_at_status, session_reply, commit_reply_of}
use Rattle.filing_model.specs.Histories.Lawful.{passed_reply, conflict_of}
use Rattle.filing_model.specs.declared.kind.Kind.{Kind}
use Rattle.filing_model.specs.declared.kind.Kind.TheVariants.{Review, Amend}

amendment : (older : History) (s : ℕ) (r : Reply) (c : Option (ℕ × Thing)) → MatchOption c (IsPassed older s r) (λ c. r ≡ reply.Conflict c.0 c.1)
    → option_map_or (λ c. reply.Conflict c.0 c.1) c (passed_reply s older) ≡ r
amendment older s r None h = sym h.commit
amendment older s r (Some c) h = sym h

committing : (older : History) (s : ℕ) (kind : Kind) (r : Reply) → IsCommitReply kind older s r → commit_reply_of kind s older ≡ r
committing older s Review r h = sym h
committing older s Amend r h = amendment older s r (conflict_of s older) h

session : (older : History) (s : ℕ) (kind : Kind) (step : Step) (r : Reply) → IsSessionReply older s kind step r → session_reply older s kind step ≡ Some r
session older s kind (Load name x) r h = absurd h
session older s kind (Open k) r h = absurd h
session older s kind (Ask call) r h = ap Some (sym h)
session older s kind Commit r h = ap Some (committing older s kind r h)
session older s kind Close r h = ap Some (sym h)

live : (older : History) (found : Option ℕ) (step : Step) (r : Reply) → IsSessionStep older found step r → option_and_then (λ s. reply_at_status older s step (status_of s older)) found ≡ Some r
live older found step r (s, kind, ongoing, h) =
    ap (λ o. option_and_then (λ s. reply_at_status older s step (status_of s older)) o) ongoing.of_it
    ∙ ap (λ t. reply_at_status older s step t) ongoing.live
    ∙ session older s kind step r h

step : (older : History) (found : Option ℕ) (step : Step) (r : Reply) → IsNextStep older found step r → next_reply older found step ≡ Some r
step older found (Load name x) r h = ap Some (sym h.1)
step older found (Open kind) r h = ap Some (sym h.1)
step older found (Ask call) r h = live older found (Ask call) r h
step older found Commit r h = live older found Commit r h
step older found Close r h = live older found Close r h

pub next_reply-IsNext : (older : History) (e : Entry) → IsNext older e → next_reply older e.session e.step ≡ Some e.reply
next_reply-IsNext older e h = step older e.session e.step e.reply h

-- its newest reply is not the one that the older steps admit
abbrev pub LastIsWrong : History → Type 0
LastIsWrong [] = ⊥
LastIsWrong (e ∷ older) = next_reply older e.session e.step ≢ Some e.reply

pub not_lawful : (h : History) → LastIsWrong h → ¬ IsLawful h
not_lawful [] wrong lawful = wrong
not_lawful (e ∷ older) wrong lawful = wrong (next_reply-IsNext older e lawful.1)

-- the older part of a lawful history is lawful
pub older_is_lawful : (newer older : History) → IsLawful (newer ++ older) → IsLawful older
older_is_lawful [] older lawful = lawful
older_is_lawful (e ∷ newer) older lawful = older_is_lawful newer older lawful.0
