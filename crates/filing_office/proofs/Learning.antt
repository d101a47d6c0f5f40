-- What a reviewer knows that has learnt receipts.
use Rattle.std.proofs.Common.{◌≡◌, ◌∙◌, ap, sym, subst, refl, arith, ℕ, ◌+◌, ◌≤◌, ◌<◌, List, [], ◌∷◌, ◌++◌, length}
use Rattle.std.proofs.Common.{◌-◌, length-append, Option, Some, None, Result, Ok, Err, is_some, option_map, true}
use Rattle.std.proofs.Common.{false, true≢false}
use Rattle.std.specs.Prelude.{All, IfOk, OnOk, IfSome, IsSome, OnErr, take, drop, get_or, slice_index_or, zero, suc}
use Rattle.std.proofs.lemmas.List.Elements.{All-append}
use Rattle.std.proofs.Math.Seq.{take-suc}
use Rattle.std.proofs.lemmas.List.{take-append-drop, take-append-le, take_rest}
use Rattle.std.specs.Result.{is_ok}
use Rattle.filing_model.specs.Common.Text.{Text}
use Rattle.filing_model.specs.Common.TextMap.{get}
use Rattle.filing_publish.proofs.Beginnings.{prefix_trans}
use Rattle.std.proofs.lemmas.Option.{none-some, same_Some}
use mathlib.Core.List.{IsPrefix}
use Rattle.filing_model.specs.Sessions.Repository.{Repository}
use Rattle.filing_model.specs.Sessions.Calls.{Call}
use Rattle.filing_model.specs.Histories.History.{Step, Load, Open, Ask, Commit, Close}
use Rattle.filing_model.specs.Sessions.Sessions.{answer}
use Rattle.filing_model.specs.Histories.Versions.{IsChain}
use Rattle.filing_model.specs.declared.kind.Kind.TheVariants.{Review}
use Rattle.filing_model.specs.declared.kind.Kind.{Kind}
use Rattle.filing_step.specs.Steps.{call_in}
use Rattle.filing_publish.specs.Lists.{EndsWith, IsLonger}
use Rattle.filing_publish.proofs.Chains.{added}
use Rattle.filing_office.specs.declared.outcome.Outcome.{Outcome}
use Rattle.filing_office.specs.Runs.{RunState, NamedDeskState, HasLearnt, IsLearnt, IsWithin, IsReviewedFrom, Learns}
use Rattle.filing_office.specs.Runs.{Opens, OpensUnder, ReviewOpens, receipt_in, reply_of_review}

pub prefix_length : {X : Type 0} (xs ys : List X) → IsPrefix xs ys → length xs ≤ length ys
prefix_length xs ys p = omega (arith, ap length p.1, length-append xs p.0)

pub within_more : {J : Type 0} (m n : ℕ) (o : Outcome J) → m ≤ n → IsWithin m o → IsWithin n o
within_more m n o le within = at (receipt_in o) within
  where
    at : (r : Option (List Repository)) → IfSome r (λ v. length v ≤ m) → IfSome r (λ v. length v ≤ n)
    at None is = tt
    at (Some v) is = omega (arith, le, is)

pub all_within_more : {J : Type 0} (m n : ℕ) (os : List (Outcome J)) → m ≤ n → All (IsWithin m) os → All (IsWithin n) os
all_within_more m n os le within = λ k d lt. within_more m n (slice_index_or os k d) le (within k d lt)

-- one outcome more
pub one_more_within : {J : Type 0} (n : ℕ) (os : List (Outcome J)) (i : ℕ) (d : Outcome J) → i < length os
    → All (IsWithin n) (take i os) → IsWithin n (get_or os i d) → All (IsWithin n) (take (i + 1) os)
one_more_within {J} n os i d lt before here =
    let next : suc i ≡ i + 1 = omega arith in
    subst (λ m. All (IsWithin n) (take m os)) next
    (subst (λ xs. All (IsWithin n) xs) (sym (take-suc os i d lt))
    (All-append (IsWithin n) (take i os) (get_or os i d ∷ []) before (λ k e least. at k e least)))
  where
    at : (k : ℕ) (e : Outcome J) → k < 1 → IsWithin n (slice_index_or (get_or os i d ∷ []) k e)
    at zero e least = here
    at (suc k) e least = absurd (omega (arith, least))

-- a receipt that was learnt
pub learnt : {E T : Type 0} (r : Result T E) (old now v : List Repository) → OnOk r (IsLonger old v now) → OnOk r (length v ≤ length now)
learnt (Ok x) old now v longer = prefix_length v now longer.two_begins
learnt (Err e) old now v longer = tt

-- the number of the last of a chain
pub last_number : (versions : List Repository) (last : Repository) → IsChain versions → EndsWith versions last → length versions ≡ last.count + 1
last_number versions last chain newest =
    let before = added newest.0 last (subst IsChain newest.1 chain) in
    omega (arith, before, ap length newest.1, length-append newest.0 (last ∷ []))

-- what a review is told by a call
pub reply_of_review_call : (last : Repository) (step : Step) (call : Call) → Some call ≡ call_in step → reply_of_review last step ≡ (answer Review call last).0
reply_of_review_call last (Ask asked) call is = ap (λ c. (answer Review c last).0) (sym (same_Some call asked is))
reply_of_review_call last (Load name r) call is = absurd (none-some call (sym is))
reply_of_review_call last (Open kind) call is = absurd (none-some call (sym is))
reply_of_review_call last Commit call is = absurd (none-some call (sym is))
reply_of_review_call last Close call is = absurd (none-some call (sym is))

pub some_of : {X : Type 0} (o : Option X) → IsSome o → (x : X) × (o ≡ Some x)
some_of (Some x) is = (x, refl)
some_of None is = absurd (cc is)

pub on_ok : {T E : Type 0} {P Q : Type 0} (r : Result T E) → OnOk r P → (P → Q) → OnOk r Q
on_ok (Ok x) p f = f p
on_ok (Err e) p f = tt

pub reply_so : {T E X : Type 0} (f : T → X) (r : Result T E) (x y : X) → IfOk r (λ t. f t ≡ x) → x ≡ y → IfOk r (λ t. f t ≡ y)
reply_so f (Ok t) x y is same = is ∙ same
reply_so f (Err e) x y is same = tt

-- those that were learnt before and the others
pub all_learnt : {J : Type 0} (n i : ℕ) (os : List (Outcome J)) → All (IsWithin n) (take i os) → All (IsWithin n) (drop i os) → All (IsWithin n) os
all_learnt n i os before others = subst (λ xs. All (IsWithin n) xs) (take-append-drop i os) (All-append (IsWithin n) (take i os) (drop i os) before others)

module _ {J E : Type 0} (s t : NamedDeskState) (told : List (Outcome J)) (seen learned now : List Repository)
    (had : s.state.seen ≡ Some seen) (left : t.state
    ≡ record s.state { seen = Some now }) (begins : IsPrefix seen learned) where
  -- a review after receipts were learnt
  pub reviewed_from : (r : Result Repository E) → All (IsWithin (length learned)) told
      → IfOk r (λ last. EndsWith now last) → OnOk r (IsChain now) → OnOk r (IsPrefix learned now)
      → OnErr r (now ≡ learned) → IsReviewedFrom s t told r
  reviewed_from (Ok last) all newest chain goes_on same = λ was is. (
    now,
    record {
      goes_on = subst (λ xs. IsPrefix xs now) (same_Some seen was (sym had ∙ is)) (prefix_trans seen learned now begins goes_on);
      chain = chain;
      newest = newest;
      not_older = all_within_more (length learned) (last.count + 1) told
          (omega (arith, prefix_length learned now goes_on, last_number now last chain newest)) all;
    },
    left,
  )
  reviewed_from (Err e) all newest chain goes_on same = λ was is. (
    now,
    subst (λ xs. IsPrefix xs now) (same_Some seen was (sym had ∙ is)) (subst (λ xs. IsPrefix seen xs) (sym same) begins),
    left,
  )

-- want of memory while receipts were learnt
module _ (s t : NamedDeskState) (seen now : List Repository) (had : s.state.seen ≡ Some seen) (left : t.state ≡ record s.state { seen = Some now })
    (begins : IsPrefix seen now) where
  pub stopped_from : (was : List Repository) → s.state.seen ≡ Some was
      → (now_seen : List Repository) × IsPrefix was now_seen × (t.state ≡ record s.state { seen = Some now_seen })
  stopped_from was is = (now, subst (λ xs. IsPrefix xs now) (same_Some seen was (sym had ∙ is)) begins, left)

pub ok_of : {T E : Type 0} {P : Type 0} (r : Result T E) → OnOk r P → is_ok r ≡ true → P
ok_of (Ok x) p is = p
ok_of (Err e) p is = absurd (true≢false (sym is))

pub grows : {T E X : Type 0} (r : Result T E) (old new : List X) → OnOk r (IsPrefix old new) → OnErr r (new ≡ old) → length old ≤ length new
grows (Ok x) old new begins same = prefix_length old new begins
grows (Err e) old new begins same = omega (arith, ap length same)

-- what was learnt is known to a reviewer that has seen more
pub still_learnt : {J : Type 0} (i : ℕ) (reviewer : Option (List Repository)) (seen now : List Repository)
    (told : List (Outcome J)) → reviewer ≡ Some seen → length seen ≤ length now → HasLearnt i reviewer told
    → All (IsWithin (length now)) (take i told)
still_learnt i reviewer seen now told is more known =
    all_within_more (length seen) (length now) (take i told) more (subst (λ o. HasLearnt i o told) is known)

-- and so are the others
pub all_known : {J T E : Type 0} (i : ℕ) (reviewer : Option (List Repository)) (seen now : List Repository)
    (told : List (Outcome J)) (r : Result T E) → reviewer ≡ Some seen → IsPrefix seen now → HasLearnt i reviewer told
    → is_ok r ≡ true
    → OnOk r (All (IsWithin (length now)) (take (length told - i) (drop i told))) → All (IsWithin (length now)) told
all_known i reviewer seen now told r is begins known good others =
    all_learnt (length now) i told (still_learnt i reviewer seen now told is (prefix_length seen now begins) known)
    (subst (λ xs. All (IsWithin (length now)) xs) (take_rest told i) (ok_of r others good))

-- an opening to review where there is a reviewer
pub opens_review : {J : Type 0} (s t : RunState) (told : List (Outcome J)) (name : Text) (kind : Kind) (o : Outcome J) → get s.names name ≡ None
    → kind ≡ Review → IsSome s.seen
    → ((seen : List Repository) → s.seen ≡ Some seen → ReviewOpens s t told name seen o) → OpensUnder s t told name kind (get s.names name) o
opens_review s t told name kind o free is there opens =
    subst (λ p. OpensUnder s t told name kind p o) (sym free) (subst (λ k. Opens s t told name k s.seen o) (sym is) (at s.seen refl there))
  where
    at : (seen : Option (List Repository)) → s.seen ≡ seen → IsSome seen → Opens s t told name Review seen o
    at (Some seen) had some = opens seen had
    at None had some = absurd (true≢false (sym some))

pub none_of : {X Y : Type 0} (f : X → Y) (r : Option X) (o : Option Y) → option_map f r ≡ o → is_some r ≡ false → o ≡ None
none_of f (Some x) o is none = absurd (true≢false none)
none_of f None o is none = sym is

-- an outcome more
pub learnt_before : {J : Type 0} (s : NamedDeskState) (told now : List (Outcome J)) (o : Outcome J) → IsLearnt s told → now ≡ told ++ o ∷ [] → IsLearnt s now
learnt_before s told now o known is = record {
  few = omega (arith, known.few, ap length is, length-append told (o ∷ []));
  receipts = subst (λ os. HasLearnt s.learnt s.state.seen os) (sym is) (at s.state.seen known.receipts);
}
  where
    at : (seen : Option (List Repository)) → HasLearnt s.learnt seen told → HasLearnt s.learnt seen (told ++ o ∷ [])
    at None has = tt
    at (Some seen) has = subst (λ os. All (IsWithin (length seen)) os) (sym (take-append-le s.learnt told (o ∷ []) known.few)) has

-- receipts that are learnt, all or some
module _ {J : Type 0} (s t : RunState) (told : List (Outcome J)) (seen now : List Repository) (had : s.seen ≡ Some seen)
    (left : t ≡ record s { seen = Some now }) (begins : IsPrefix seen now) where
  pub learns : {A E : Type 0} (r : Result A E) → OnOk r (All (IsWithin (length now)) told) → Learns s t told s.seen r
  learns {A} {E} r all = subst (λ o. Learns {A = A} {E = E} s t told o r) (sym had) (at r all)
    where
      at : (r : Result A E) → OnOk r (All (IsWithin (length now)) told) → Learns {A = A} {E = E} s t told (Some seen) r
      at (Ok x) all = (now, begins, all, left)
      at (Err e) all = (now, begins, left)
