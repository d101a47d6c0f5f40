-- What a lawful history holds of each session: nothing before its opening, its replies while it goes on, and its whole run once it has ended.
use Rattle.std.proofs.Common.{◌≡◌, ◌∙◌, ap, sym, refl, subst, ℕ, ◌+◌, ◌==◌, arith, Bool, true, false, cond, ◌&&◌, List, [], ◌∷◌, ◌++◌, Option, Some, None, unwrap_or, true≢false, append-nil}
use Rattle.std.proofs.lemmas.Option.{same_Some}
use Rattle.std.specs.Option.{option_map_or}
use Rattle.filing_model.specs.Sessions.Repository.{Repository}
use Rattle.filing_model.specs.Sessions.Calls.{Call}
use Rattle.filing_model.specs.Sessions.Replies as reply
use Rattle.filing_model.specs.Sessions.Replies.{Reply}
use Rattle.filing_model.specs.Sessions.Sessions.{Ending, Committing, Closing, Unended, solo, solo_replies, refusal_of}
use Rattle.filing_model.specs.Histories.History.{Step, Load, Open, Ask, Commit, Close, Entry, History, Status, Unknown, Live}
use Rattle.filing_model.specs.Histories.History.{Ended, is_of, is_opening, call_in, reply_in, status_after, status_of}
use Rattle.filing_model.specs.Histories.History.{calls_of, replies_of, base_of, repository}
use Rattle.filing_model.specs.Histories.Lawful.{IsLawful, IsNext, IsNextStep, IsOngoing, IsCommitReply, openings}
use Rattle.filing_model.specs.Histories.Versions.{counts}
use Rattle.filing_model.specs.declared.kind.Kind.{Kind}
use Rattle.filing_model.specs.declared.kind.Kind.TheVariants.{Review, Amend}
use Rattle.filing_laws.specs.Serial.WholeRuns.{all_replies_of, kind_after, kind_of, ending_after, ending_of, is_commit, told_at_commit, before_commit, after_commit, AreSoloReplies}
use Rattle.filing_laws.proofs.Opening.NotYetOpened.{IsFresh, not_opened}
use Rattle.filing_laws.proofs.Opening.OwnReplies.{number_known, own_replies}
use Rattle.filing_laws.proofs.Touching.EntryCases.{EntryCase, Quiet, Accepted, Passed, entry_case, passed_copy}

-- ---- all that a history holds of a session

pub record Part : Type 0 where
  pub kind : Option Kind
  pub ending : Ending
  pub told : Option Reply
  pub calls : List Call
  pub replies : List Reply
  pub all : List Reply
  pub base : Repository
  pub before : Repository
  pub after : Repository

abbrev pub part_of : ℕ → History → Part
part_of s h = record {
  kind = kind_of s h;
  ending = ending_of s h;
  told = told_at_commit s h;
  calls = calls_of s h;
  replies = replies_of s h;
  all = all_replies_of s h;
  base = base_of s h;
  before = before_commit s h;
  after = after_commit s h;
}

-- with one entry more, which is of the session or not
abbrev part_with : Bool → ℕ → Entry → History → Part
part_with mine s e older = record {
  kind = cond mine (kind_after e.step (kind_of s older)) (kind_of s older);
  ending = cond mine (ending_after e.step (ending_of s older)) (ending_of s older);
  told = cond (mine && is_commit e.step) (Some e.reply) (told_at_commit s older);
  calls = calls_of s older ++ cond mine (call_in e.step) [];
  replies = replies_of s older ++ cond mine (reply_in e.step e.reply) [];
  all = all_replies_of s older ++ cond mine (e.reply ∷ []) [];
  base = cond (mine && is_opening e.step) (repository older) (base_of s older);
  before = cond (mine && is_commit e.step) (repository older) (before_commit s older);
  after = cond (mine && is_commit e.step) (repository (e ∷ older)) (after_commit s older);
}

part_other : (s : ℕ) (e : Entry) (older : History) → part_with false s e older ≡ part_of s older
part_other s e older = λ i. record (part_of s older) {
  calls = append-nil (calls_of s older) i;
  replies = append-nil (replies_of s older) i;
  all = append-nil (all_replies_of s older) i;
}

-- ---- where it stands

pub record IsUnopened (p : Part) : Type 0 where
  pub kind : p.kind ≡ None
  pub ending : p.ending ≡ Unended
  pub told : p.told ≡ None
  pub all : p.all ≡ []

pub record IsGoing (kind : Kind) (p : Part) : Type 0 where
  pub of_kind : p.kind ≡ Some kind
  pub ending : p.ending ≡ Unended
  pub told : p.told ≡ None
  pub all : p.all ≡ reply.Opened ∷ p.replies

pub record IsWhole (p : Part) : Type 0 where
  pub kind : p.kind ≡ Some Amend
  pub replies : p.all ≡ (solo Amend p.before p.calls Committing).replies
  pub effect : p.after ≡ (solo Amend p.before p.calls Committing).result

-- the two laws of a session's whole run
pub record IsKnown (p : Part) : Type 0 where
  pub committed : (n : ℕ) → p.told ≡ Some (reply.Committed n) → IsWhole p
  pub opened : (kind : Kind) → p.kind ≡ Some kind → AreSoloReplies kind p.ending p.base p.calls p.all
  pub unopened : p.kind ≡ None → p.all ≡ []

abbrev pub IsAt : Status → Part → Type 0
IsAt Unknown p = IsUnopened p
IsAt (Live kind) p = IsGoing kind p
IsAt Ended p = IsKnown p

-- ---- the end of a run

same_kind : (k kind : Kind) → Live k ≡ Live kind → k ≡ kind
same_kind k kind e = cc

was_opened : (o : Option Kind) (kind : Kind) (all : List Reply) → o ≡ Some kind → o ≡ None → all ≡ []
was_opened o kind all some none = let apart : Some kind ≡ None = sym some ∙ none in cc

untold : (o : Option Reply) (n : ℕ) → o ≡ None → o ≡ Some (reply.Committed n) → ⊥
untold o n none some = let apart : None ≡ Some (reply.Committed n) = sym none ∙ some in cc

module _ (older : History) (session : Option ℕ) (s : ℕ) (r : Reply) where
  -- all its replies with the last one
  all_at_end : (kind : Kind) → IsLawful older → status_of s older ≡ Live kind → IsGoing kind (part_of s older)
      → all_replies_of s older ++ r ∷ [] ≡ reply.Opened ∷ solo_replies kind (base_of s older) (calls_of s older ++ []) ++ r ∷ []
  all_at_end kind lawful live going =
      ap (λ rs. rs ++ r ∷ []) going.all
      ∙ ap (λ rs. reply.Opened ∷ rs ++ r ∷ []) (own_replies older s kind lawful live)
      ∙ ap (λ cs. reply.Opened ∷ solo_replies kind (base_of s older) cs ++ r ∷ []) (sym (append-nil (calls_of s older)))

  closed_at : (kind : Kind) → IsLawful older → status_of s older ≡ Live kind → IsGoing kind (part_of s older) → r ≡ reply.Closed
      → AreSoloReplies kind Closing (base_of s older) (calls_of s older ++ []) (all_replies_of s older ++ r ∷ [])
  closed_at Review lawful live going is = all_at_end Review lawful live going ∙ ap (λ x. reply.Opened ∷ solo_replies Review (base_of s older) (calls_of s older ++ []) ++ x ∷ []) is
  closed_at Amend lawful live going is = all_at_end Amend lawful live going ∙ ap (λ x. reply.Opened ∷ solo_replies Amend (base_of s older) (calls_of s older ++ []) ++ x ∷ []) is

  committed_at : (kind : Kind) → IsLawful older → status_of s older ≡ Live kind → IsGoing kind (part_of s older) → IsCommitReply kind older s r
      → AreSoloReplies kind Committing (base_of s older) (calls_of s older ++ []) (all_replies_of s older ++ r ∷ [])
  committed_at Review lawful live going is = all_at_end Review lawful live going ∙ ap (λ x. reply.Opened ∷ solo_replies Review (base_of s older) (calls_of s older ++ []) ++ x ∷ []) is
  committed_at Amend lawful live going is =
      (r, all_at_end Amend lawful live going ∙ ap (λ rs. reply.Opened ∷ rs ++ r ∷ []) (sym (append-nil (solo_replies Amend (base_of s older) (calls_of s older ++ [])))))

  closing : (kind : Kind) → IsLawful older → status_of s older ≡ Live kind → IsGoing kind (part_of s older) → r ≡ reply.Closed
      → IsKnown (part_with true s (record { session = session; step = Close; reply = r }) older)
  closing kind lawful live going is = record {
    committed = λ n e. absurd (untold (told_at_commit s older) n going.told e);
    opened =
        λ k of_kind. subst (λ k. AreSoloReplies k Closing (base_of s older) (calls_of s older
        ++ []) (all_replies_of s older ++ r ∷ [])) (same_Some kind k (sym going.of_kind ∙ of_kind))
        (closed_at kind lawful live going is);
    unopened = was_opened (kind_of s older) kind (all_replies_of s older ++ r ∷ []) going.of_kind;
  }

  -- the commit that was told a number ran whole at the repository so far
  abbrev entry : Entry
  entry = record { session = session; step = Commit; reply = r }

  passed : (kind : Kind) (n : ℕ) → IsNext older entry → option_map_or (λ n. n == s) session false ≡ true → status_of s older ≡ Live kind → IsGoing kind (part_of s older) → r ≡ reply.Committed n
      → EntryCase older entry → IsWhole (part_with true s entry older)
  passed kind n next mine live going told (Quiet quiet) = absurd (true≢false (sym (ap counts told) ∙ quiet))
  passed kind n next mine live going told (Accepted load) = let apart : Commit ≡ Load load.name load.report = load.step in cc
  passed kind n next mine live going told (Passed it) =
      let same : it.s ≡ s = number_known session it.s s it.of_it mine in
      let amends : kind ≡ Amend = same_kind kind Amend (sym live ∙ ap (λ m. status_of m older) (sym same) ∙ it.live) in
      let earlier : replies_of s older ≡ solo_replies Amend (repository older) (calls_of s older) =
      subst (λ m. replies_of m older ≡ solo_replies Amend (repository older) (calls_of m older)) same it.earlier in
      let obeys : refusal_of (passed_copy s older) ≡ None = subst (λ m. refusal_of (passed_copy m older) ≡ None) same it.obeys in
      let result : repository (entry ∷ older) ≡ record (passed_copy s older) { count = (repository older).count + 1 } =
      subst (λ m. repository (entry ∷ older) ≡ record (passed_copy m older) { count = (repository older).count + 1 }) same it.result in
      let number : r ≡ unwrap_or (refusal_of (passed_copy s older)) (reply.Committed ((repository older).count + 1)) = it.reply
      ∙ sym (ap (λ o. unwrap_or o (reply.Committed ((repository older).count + 1))) obeys) in
      subst (λ cs. IsWhole (record (part_with true s entry older) { calls = cs })) (sym (append-nil (calls_of s older))) (record {
        kind = going.of_kind ∙ ap Some amends;
        replies = ap (λ rs. rs ++ r ∷ []) going.all ∙ (λ i. reply.Opened ∷ earlier i ++ number i ∷ []);
        effect = result ∙ sym (ap (λ (o : Option Reply). option_map_or (λ (refusal : Reply). repository older) o (record (passed_copy s older) { count = (repository older).count + 1 })) obeys);
      })

  committing : (kind : Kind) → IsLawful older → IsNext older entry → option_map_or (λ n. n == s) session false ≡ true → status_of s older ≡ Live kind
      → IsGoing kind (part_of s older) → IsCommitReply kind older s r
      → IsKnown (part_with true s entry older)
  committing kind lawful next mine live going is = record {
    committed = λ n e. passed kind n next mine live going (let told : Some r ≡ Some (reply.Committed n) = e in cc) (entry_case older entry next);
    opened =
        λ k of_kind. subst (λ k. AreSoloReplies k Committing (base_of s older) (calls_of s older
        ++ []) (all_replies_of s older ++ r ∷ [])) (same_Some kind k (sym going.of_kind ∙ of_kind))
        (committed_at kind lawful live going is);
    unopened = was_opened (kind_of s older) kind (all_replies_of s older ++ r ∷ []) going.of_kind;
  }

-- ---- each entry of the session

opening : (older : History) (session : Option ℕ) (k : Kind) (r : Reply) (s : ℕ) → IsFresh s older → IsUnopened (part_of s older) → r ≡ reply.Opened
    → IsGoing k (part_with true s (record { session = session; step = Open k; reply = r }) older)
opening older session k r s fresh none is = record {
  of_kind = refl;
  ending = none.ending;
  told = none.told;
  all = (λ i. none.all i ++ is i ∷ []) ∙ sym (ap (λ rs. reply.Opened ∷ rs ++ []) fresh.replies);
}

asking : (older : History) (session : Option ℕ) (call : Call) (r : Reply) (s : ℕ) (kind : Kind) → IsGoing kind (part_of s older)
    → IsGoing kind (part_with true s (record { session = session; step = Ask call; reply = r }) older)
asking older session call r s kind going = record {
  of_kind = going.of_kind;
  ending = going.ending;
  told = going.told;
  all = ap (λ rs. rs ++ r ∷ []) going.all;
}

-- a step of a session that is open
pub record IsLiveStep (older : History) (s : ℕ) (kind : Kind) : Type 0 where
  pub live : status_of s older ≡ Live kind
  pub going : IsGoing kind (part_of s older)

live_step : (older : History) (session : Option ℕ) (s n : ℕ) (k : Kind) → IsOngoing older session n k
    → option_map_or (λ n. n == s) session false ≡ true → IsAt (status_of s older) (part_of s older) → (n ≡ s) × IsLiveStep older s k
live_step older session s n k ongoing mine before =
    let same : n ≡ s = number_known session n s ongoing.of_it mine in
    let live : status_of s older ≡ Live k = sym (ap (λ m. status_of m older) same) ∙ ongoing.live in
    (same, record { live = live; going = subst (λ status. IsAt status (part_of s older)) live before })

own_step : (older : History) (session : Option ℕ) (step : Step) (r : Reply) (s : ℕ) → IsLawful older → IsNextStep older session step r → option_map_or (λ n. n == s) session false ≡ true
    → IsAt (status_of s older) (part_of s older) → IsAt (status_after step (status_of s older)) (part_with true s (record { session = session; step = step; reply = r }) older)
own_step older session (Load name x) r s lawful next mine before = absurd (true≢false (sym mine ∙ ap (λ o. option_map_or (λ n. n == s) o false) next.0))
own_step older session (Open k) r s lawful next mine before =
    let fresh = not_opened older s lawful (let same : openings older + 1 ≡ s = number_known session (openings older + 1) s next.0 mine in omega arith) in
    opening older session k r s fresh (subst (λ status. IsAt status (part_of s older)) fresh.status before) next.1
own_step older session (Ask call) r s lawful (n, k, ongoing, is) mine before =
    let now = (live_step older session s n k ongoing mine before).1 in
    subst (λ status. IsAt status (part_with true s (record { session = session; step = Ask call; reply = r }) older)) (sym now.live) (asking older session call r s k now.going)
own_step older session Commit r s lawful (n, k, ongoing, is) mine before =
    let now = live_step older session s n k ongoing mine before in
    committing older session s r k lawful (n, k, ongoing, is) mine now.1.live now.1.going (subst (λ m. IsCommitReply k older m r) now.0 is)
own_step older session Close r s lawful (n, k, ongoing, is) mine before =
    let now = live_step older session s n k ongoing mine before in
    closing older session s r k lawful now.1.live now.1.going is

pub where_it_stands : (h : History) (s : ℕ) → IsLawful h → IsAt (status_of s h) (part_of s h)
where_it_stands [] s lawful = record { kind = refl; ending = refl; told = refl; all = refl }
where_it_stands (e ∷ older) s lawful = by (is_of s e) refl (where_it_stands older s lawful.0)
  where
    by : (mine : Bool) → is_of s e ≡ mine → IsAt (status_of s older) (part_of s older) → IsAt (cond mine (status_after e.step (status_of s older)) (status_of s older)) (part_with mine s e older)
    by true mine before = own_step older e.session e.step e.reply s lawful.0 lawful.1 mine before
    by false other before = subst (IsAt (status_of s older)) (sym (part_other s e older)) before

-- ---- both laws, wherever it stands

not_ended : (kind : Kind) (c : Repository) (calls : List Call) → AreSoloReplies kind Unended c calls (reply.Opened ∷ solo_replies kind c calls)
not_ended Review c calls = sym (ap (λ rs. reply.Opened ∷ rs) (append-nil (solo_replies Review c calls)))
not_ended Amend c calls = sym (ap (λ rs. reply.Opened ∷ rs) (append-nil (solo_replies Amend c calls)))

going_known : (h : History) (s : ℕ) (kind : Kind) → IsLawful h → status_of s h ≡ Live kind → IsGoing kind (part_of s h) → IsKnown (part_of s h)
going_known h s kind lawful live going = record {
  committed = λ n e. absurd (untold (told_at_commit s h) n going.told e);
  opened = λ k of_kind.
      subst (λ k. AreSoloReplies k (ending_of s h) (base_of s h) (calls_of s h) (all_replies_of s h)) (same_Some kind k (sym going.of_kind ∙ of_kind))
      (subst (λ ending. AreSoloReplies kind ending (base_of s h) (calls_of s h) (all_replies_of s h)) (sym going.ending)
      (subst (AreSoloReplies kind Unended (base_of s h) (calls_of s h))
      (sym (going.all ∙ ap (λ rs. reply.Opened ∷ rs) (own_replies h s kind lawful live)))
      (not_ended kind (base_of s h) (calls_of s h))));
  unopened = was_opened (kind_of s h) kind (all_replies_of s h) going.of_kind;
}

known_at : (h : History) (s : ℕ) → IsLawful h → (status : Status) → status_of s h ≡ status → IsAt status (part_of s h) → IsKnown (part_of s h)
known_at h s lawful Unknown is none = record {
  committed = λ n e. absurd (untold (told_at_commit s h) n none.told e);
  opened = λ k of_kind. let apart : None ≡ Some k = sym none.kind ∙ of_kind in cc;
  unopened = λ no_kind. none.all;
}
known_at h s lawful (Live kind) is going = going_known h s kind lawful is going
known_at h s lawful Ended is over = over

pub known : (h : History) (s : ℕ) → IsLawful h → IsKnown (part_of s h)
known h s lawful = known_at h s lawful (status_of s h) refl (where_it_stands h s lawful)
