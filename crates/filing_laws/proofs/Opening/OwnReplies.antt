-- The replies that a session was given are those of its solo run at the repository of its opening.
use Rattle.std.proofs.Common.{◌≡◌, ◌∙◌, ap, sym, refl, ℕ, ◌+◌, ◌==◌, arith, true, false, cond, ◌&&◌, List, [], ◌∷◌, ◌++◌, Option, Some, eqb-true, true≢false, append-nil}
use Rattle.std.specs.Option.{option_map_or}
use Rattle.filing_model.specs.Sessions.Repository.{Repository}
use Rattle.filing_model.specs.Sessions.Calls.{Call}
use Rattle.filing_model.specs.Sessions.Replies.{Reply}
use Rattle.filing_model.specs.Sessions.Sessions.{answer, solo_replies, solo_copy}
use Rattle.filing_model.specs.Histories.History.{Step, Load, Open, Ask, Commit, Close, History, Live, Ended, is_of}
use Rattle.filing_model.specs.Histories.History.{is_opening, call_in, reply_in, status_after, status_of, calls_of}
use Rattle.filing_model.specs.Histories.History.{replies_of, base_of, repository}
use Rattle.filing_model.specs.Histories.Lawful.{IsLawful, IsNextStep, openings, call_reply}
use Rattle.filing_model.specs.declared.kind.Kind.{Kind}
use Rattle.filing_laws.proofs.Opening.NotYetOpened.{IsFresh, not_opened}

-- one call more at the end of a solo run
pub solo_replies_more : (kind : Kind) (c : Repository) (calls : List Call) (call : Call)
    → solo_replies kind c (calls ++ call ∷ []) ≡ solo_replies kind c calls ++ (answer kind call (solo_copy kind c calls)).0 ∷ []
solo_replies_more kind c [] call = refl
solo_replies_more kind c (first ∷ calls) call = ap (λ rs. (answer kind first c).0 ∷ rs) (solo_replies_more kind (answer kind first c).1 calls call)

abbrev pub IsSoloAt : (kind : Kind) → Repository → ℕ → History → Type 0
IsSoloAt kind c s h = replies_of s h ≡ solo_replies kind c (calls_of s h)

-- whose the entry is, as a number
pub number_known : (session : Option ℕ) (n s : ℕ) → session ≡ Some n → option_map_or (λ n. n == s) session false ≡ true → n ≡ s
number_known session n s of_it mine = eqb-true n s (sym (ap (λ o. option_map_or (λ n. n == s) o false) of_it) ∙ mine)

own_opening : (older : History) (s : ℕ) (kind : Kind) (c : Repository) → IsFresh s older → replies_of s older ++ [] ≡ solo_replies kind c (calls_of s older ++ [])
own_opening older s kind c fresh = ap (λ rs. rs ++ []) fresh.replies ∙ sym (ap (λ cs. solo_replies kind c (cs ++ [])) fresh.calls)

own_step : (older : History) (session : Option ℕ) (step : Step) (r : Reply) (s : ℕ) (kind : Kind) → IsLawful older
    → (status_of s older ≡ Live kind → IsSoloAt kind (base_of s older) s older)
    → IsNextStep older session step r → option_map_or (λ n. n == s) session false ≡ true → status_after step (status_of s older) ≡ Live kind
    → replies_of s older ++ reply_in step r ≡ solo_replies kind (cond (is_opening step) (repository older) (base_of s older)) (calls_of s older ++ call_in step)
own_step older session (Load name x) r s kind lawful before h mine live =
    absurd (true≢false (sym mine ∙ ap (λ o. option_map_or (λ n. n == s) o false) h.0))
own_step older session (Open k) r s kind lawful before h mine live =
    own_opening older s kind (repository older) (not_opened older s lawful (let same : openings older + 1 ≡ s = number_known session (openings older + 1) s h.0 mine in omega arith))
own_step older session (Ask call) r s kind lawful before (n, k, ongoing, h) mine live =
    let same : n ≡ s = number_known session n s ongoing.of_it mine in
    let kinds : Live k ≡ Live kind = sym ongoing.live ∙ ap (λ m. status_of m older) same ∙ live in
    let same_kind : k ≡ kind = cc in
    let told : r ≡ call_reply kind s older call = h ∙ (λ i. call_reply (same_kind i) (same i) older call) in
    (λ i. before live i ++ told i ∷ []) ∙ sym (solo_replies_more kind (base_of s older) (calls_of s older) call)
own_step older session Commit r s kind lawful before h mine live = let apart : Ended ≡ Live kind = live in cc
own_step older session Close r s kind lawful before h mine live = let apart : Ended ≡ Live kind = live in cc

pub own_replies : (h : History) (s : ℕ) (kind : Kind) → IsLawful h → status_of s h ≡ Live kind → IsSoloAt kind (base_of s h) s h
own_replies [] s kind lawful live = refl
own_replies (e ∷ older) s kind lawful live =
    let before = own_replies older s kind lawful.0 in
    elim (is_of s e) as (λ b. is_of s e ≡ b → cond b (status_after e.step (status_of s older)) (status_of s older) ≡ Live kind
    → replies_of s older ++ cond b (reply_in e.step e.reply) []
    ≡ solo_replies kind (cond (b && is_opening e.step) (repository older) (base_of s older)) (calls_of s older
    ++ cond b (call_in e.step) [])) [
      | true ↦ λ mine live. own_step older e.session e.step e.reply s kind lawful.0 before lawful.1 mine live
      | false ↦ λ other live. append-nil (replies_of s older) ∙ before live ∙ ap (λ cs. solo_replies kind (base_of s older) cs) (sym (append-nil (calls_of s older)))
    ] refl live
