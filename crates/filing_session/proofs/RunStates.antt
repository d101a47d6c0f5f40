-- A session after any calls is as the solo run leaves it.
use Rattle.std.proofs.Common.{◌≡◌, ◌∙◌, ap, sym, refl, Bool, true, false, cond, not, ◌&&◌, ◌||◌, filter, List, [], ◌∷◌, ◌++◌, Option, Some, None, append_assoc, append-nil}
use Rattle.std.specs.List.{cons_option}
use Rattle.filing_model.specs.Sessions.Calls.{Call}
use Rattle.filing_model.specs.Sessions.Things.{Thing, thing_eq, has_thing, each_once}
use Rattle.filing_model.specs.Sessions.Sessions.{answer, solo_copy, solo_replies}
use Rattle.filing_model.specs.Histories.Touches.{read_by, reads, things_read}
use Rattle.filing_laws.proofs.Lists.EqualThings.{thing_same, thing_itself}
use Rattle.filing_session.specs.States.{SessionState, opened, with_thing, called, after_calls, replies_to}
use Rattle.filing_session.specs.Runs.{EachSessionRunsAlone}

-- ---- copies and replies

pub copy_after : (calls : List Call) (s : SessionState) → (after_calls calls s).copy ≡ solo_copy s.kind s.copy calls
copy_after [] s = refl
copy_after (ask ∷ calls) s = copy_after calls (called ask s)

pub replies_after : (calls : List Call) (s : SessionState) → replies_to calls s ≡ solo_replies s.kind s.copy calls
replies_after [] s = refl
replies_after (ask ∷ calls) s = ap (λ rs. (answer s.kind ask s.copy).0 ∷ rs) (replies_after calls (called ask s))

-- ---- things read

abbrev in_turn : List Thing → List Thing → List Thing
in_turn things [] = things
in_turn things (t ∷ ts) = in_turn (with_thing things (Some t)) ts

entered : (things : List Thing) (o : Option Thing) (ts : List Thing) → in_turn (with_thing things o) ts ≡ in_turn things (cons_option o ts)
entered things None ts = refl
entered things (Some t) ts = refl

reads_after : (calls : List Call) (s : SessionState) → (after_calls calls s).reads ≡ in_turn s.reads (reads s.kind s.copy calls)
reads_after [] s = refl
reads_after (ask ∷ calls) s =
    reads_after calls (called ask s)
    ∙ entered s.reads (read_by s.kind ask s.copy) (reads s.kind (answer s.kind ask s.copy).1 calls)

-- two tests one after the other
filter_twice : (p q r : Thing → Bool) → ((u : Thing) → (q u && p u) ≡ r u) → (ts : List Thing) → filter p (filter q ts) ≡ filter r ts
filter_twice p q r same [] = refl
filter_twice p q r same (t ∷ ts) = by (q t) (same t) (filter_twice p q r same ts)
  where
    by : (b : Bool) → (b && p t) ≡ r t → filter p (filter q ts) ≡ filter r ts → filter p (cond b (t ∷ filter q ts) (filter q ts)) ≡ cond (r t) (t ∷ filter r ts) (filter r ts)
    by false is later = later ∙ ap (λ b. cond b (t ∷ filter r ts) (filter r ts)) is
    by true is later = λ i. cond (is i) (t ∷ later i) (later i)

filter_all : (ts : List Thing) → filter (λ u. not (has_thing [] u)) ts ≡ ts
filter_all [] = refl
filter_all (t ∷ ts) = ap (λ us. t ∷ us) (filter_all ts)

or_none : (b : Bool) → (b || false) ≡ b
or_none true = refl
or_none false = refl

or_three : (a b c : Bool) → (a || (b || c)) ≡ ((a || b) || c)
or_three true b c = refl
or_three false b c = refl

any_more : (u t : Thing) (ts : List Thing) → has_thing (ts ++ t ∷ []) u ≡ (has_thing ts u || thing_eq u t)
any_more u t [] = or_none (thing_eq u t)
any_more u t (x ∷ xs) = ap (λ b. thing_eq u x || b) (any_more u t xs) ∙ or_three (thing_eq u x) (has_thing xs u) (thing_eq u t)

other_way : (u t : Thing) → thing_eq u t ≡ thing_eq t u
other_way u t = by (thing_eq u t) refl (thing_eq t u) refl
  where
    by : (b : Bool) → thing_eq u t ≡ b → (c : Bool) → thing_eq t u ≡ c → b ≡ c
    by true is true also = refl
    by false is false also = refl
    by true is false also = sym (thing_itself t) ∙ ap (thing_eq t) (sym (thing_same u t is)) ∙ also
    by false is true also = sym is ∙ ap (thing_eq u) (thing_same t u also) ∙ thing_itself u

not_either : (a b : Bool) → (not b && not a) ≡ not (a || b)
not_either true true = refl
not_either true false = refl
not_either false true = refl
not_either false false = refl

-- each is entered where it first stands
in_turn_once : (things ts : List Thing) → in_turn things ts ≡ things ++ filter (λ u. not (has_thing things u)) (each_once ts)
in_turn_once things [] = sym (append-nil things)
in_turn_once things (t ∷ ts) = by (has_thing things t) refl (in_turn_once things ts) (in_turn_once (things ++ t ∷ []) ts)
  where
    is_new : Thing → Bool
    is_new u = not (has_thing things u)

    is_other : Thing → Bool
    is_other u = not (thing_eq t u)

    nothing_more : has_thing things t ≡ true → (u : Thing) → (is_other u && is_new u) ≡ is_new u
    nothing_more is u = elim (thing_eq t u) as (λ b. thing_eq t u ≡ b → (not b && is_new u) ≡ is_new u) [
      | true ↦ λ same. sym (ap not (ap (has_thing things) (sym (thing_same t u same)) ∙ is))
      | false ↦ λ other. refl
    ] refl

    one_more : (u : Thing) → (is_other u && is_new u) ≡ not (has_thing (things ++ t ∷ []) u)
    one_more u = not_either (has_thing things u) (thing_eq t u) ∙ sym (ap not (any_more u t things ∙ ap (λ b. has_thing things u || b) (other_way u t)))

    by : (b : Bool) → has_thing things t ≡ b → in_turn things ts ≡ things ++ filter is_new (each_once ts)
        → in_turn (things ++ t ∷ []) ts ≡ (things ++ t ∷ []) ++ filter (λ u. not (has_thing (things ++ t ∷ []) u)) (each_once ts)
        → in_turn (cond b things (things ++ t ∷ [])) ts ≡ things ++ cond (not b) (t ∷ filter is_new (filter is_other (each_once ts))) (filter is_new (filter is_other (each_once ts)))
    by true is same more = same ∙ ap (λ us. things ++ us) (sym (filter_twice is_new is_other is_new (nothing_more is) (each_once ts)))
    by false is same more =
        more
        ∙ append_assoc things (t ∷ []) (filter (λ u. not (has_thing (things ++ t ∷ []) u)) (each_once ts))
        ∙ ap (λ us. things ++ t ∷ us) (sym (filter_twice is_new is_other (λ u. not (has_thing (things ++ t ∷ []) u)) one_more (each_once ts)))

pub each_session_runs_alone : EachSessionRunsAlone
each_session_runs_alone kind base calls = record {
  copy = copy_after calls (opened kind base);
  reads = reads_after calls (opened kind base) ∙ in_turn_once [] (reads kind base calls) ∙ filter_all (things_read kind base calls);
  replies = replies_after calls (opened kind base);
}
