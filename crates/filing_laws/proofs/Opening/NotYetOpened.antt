-- Numbers that were not opened yet: in a lawful history no entry is of such a session.
use Rattle.std.proofs.Common.{◌≡◌, ◌∙◌, ap, sym, refl, ℕ, ◌+◌, ◌<◌, ◌==◌, arith, false, cond, [], ◌∷◌, ◌++◌, Option, ne_eqb, append-nil}
use Rattle.std.specs.Option.{option_map_or}
use Rattle.std.proofs.lemmas.List.Sums.{sum_by-cons}
use Rattle.filing_model.specs.Sessions.Replies.{Reply}
use Rattle.filing_model.specs.Histories.History.{Step, Load, Open, Ask, Commit, Close, Entry, History, Unknown, Live, is_of, is_opening, call_in, reply_in, status_after, status_of, calls_of, replies_of}
use Rattle.filing_model.specs.Histories.Lawful.{IsLawful, IsNextStep, IsSessionStep, openings}

pub record IsFresh (s : ℕ) (h : History) : Type 0 where
  pub status : status_of s h ≡ Unknown
  pub calls : calls_of s h ≡ []
  pub replies : replies_of s h ≡ []

pub openings_next : (e : Entry) (older : History) → openings (e ∷ older) ≡ cond (is_opening e.step) 1 0 + openings older
openings_next e older = sum_by-cons (λ (x : Entry). cond (is_opening x.step) 1 0) e older

not_of_ongoing : (older : History) (session : Option ℕ) (step : Step) (r : Reply) (s : ℕ) → IsFresh s older → IsSessionStep older session step r → option_map_or (λ n. n == s) session false ≡ false
not_of_ongoing older session step r s fresh (of, kind, ongoing, h) =
    ap (λ o. option_map_or (λ n. n == s) o false) ongoing.of_it
    ∙ ne_eqb of s (λ same. let apart : Live kind ≡ Unknown = sym ongoing.live ∙ ap (λ n. status_of n older) same ∙ fresh.status in cc)

not_of_step : (older : History) (session : Option ℕ) (step : Step) (r : Reply) (s : ℕ) → IsFresh s older
    → cond (is_opening step) 1 0 + openings older < s → IsNextStep older session step r → option_map_or (λ n. n == s) session false ≡ false
not_of_step older session (Load name x) r s fresh above h = ap (λ o. option_map_or (λ n. n == s) o false) h.0
not_of_step older session (Open kind) r s fresh above h =
    ap (λ o. option_map_or (λ n. n == s) o false) h.0 ∙ ne_eqb (openings older + 1) s (λ same. omega arith)
not_of_step older session (Ask call) r s fresh above h = not_of_ongoing older session (Ask call) r s fresh h
not_of_step older session Commit r s fresh above h = not_of_ongoing older session Commit r s fresh h
not_of_step older session Close r s fresh above h = not_of_ongoing older session Close r s fresh h

-- an entry that is not of the session leaves what is known of it
pub status_other : (s : ℕ) (e : Entry) (older : History) → is_of s e ≡ false → status_of s (e ∷ older) ≡ status_of s older
status_other s e older other = ap (λ b. cond b (status_after e.step (status_of s older)) (status_of s older)) other

pub calls_other : (s : ℕ) (e : Entry) (older : History) → is_of s e ≡ false → calls_of s (e ∷ older) ≡ calls_of s older
calls_other s e older other = ap (λ b. calls_of s older ++ cond b (call_in e.step) []) other ∙ append-nil (calls_of s older)

pub replies_other : (s : ℕ) (e : Entry) (older : History) → is_of s e ≡ false → replies_of s (e ∷ older) ≡ replies_of s older
replies_other s e older other = ap (λ b. replies_of s older ++ cond b (reply_in e.step e.reply) []) other ∙ append-nil (replies_of s older)

pub not_opened : (h : History) (s : ℕ) → IsLawful h → openings h < s → IsFresh s h
not_opened [] s lawful above = record { status = refl; calls = refl; replies = refl }
not_opened (e ∷ older) s lawful above =
    let counted : openings (e ∷ older) ≡ cond (is_opening e.step) 1 0 + openings older = openings_next e older in
    let fresh : IsFresh s older = not_opened older s lawful.0 (omega arith) in
    let other : is_of s e ≡ false = not_of_step older e.session e.step e.reply s fresh (omega arith) lawful.1 in
    record {
      status = status_other s e older other ∙ fresh.status;
      calls = calls_other s e older other ∙ fresh.calls;
      replies = replies_other s e older other ∙ fresh.replies;
    }
