-- What a session has read, what a commit or a load touches, and which touch of something read comes first (Kung and Robinson, On Optimistic Methods for Concurrency Control, 1981, serial validation; that absent things, cells, ranges and declared values are read and touched is the project's own).
use Rattle.std.specs.Prelude.{ℕ, Bool, true, false, cond, not, ◌&&◌, ◌||◌, List, [], ◌∷◌, Option, Some, None, is_some, option_map}
use Rattle.std.specs.List.{filter_map, list_any, zip, cons_option}
use Rattle.std.specs.Option.{option_map_or, option_or}
use Rattle.std.specs.Ordering.{is_lt}
use Rattle.filing_model.specs.Common.Text.{Text, text_cmp}
use Rattle.filing_model.specs.Common.TextMap.{empty}
use Rattle.filing_model.specs.Oim.Facts.{Fact}
use Rattle.filing_model.specs.Oim.Reports.{Report}
use Rattle.filing_model.specs.Sessions.Repository.{Repository, report_at, fact_at}
use Rattle.filing_model.specs.Oim.Duplicates.{has_dims}
use Rattle.filing_model.specs.Sessions.Queries.{answers_query, is_after, ids_for, first_cut}
use Rattle.filing_model.specs.Sessions.Calls as call
use Rattle.filing_model.specs.Sessions.Calls.{Call, report_of_call}
use Rattle.filing_model.specs.Sessions.Replies as reply
use Rattle.filing_model.specs.Sessions.Replies.{Reply}
use Rattle.filing_model.specs.Sessions.Things as thing
use Rattle.filing_model.specs.Sessions.Things.{Thing, thing_eq, each_once}
use Rattle.filing_model.specs.Sessions.Changes.{Change, change_in, change_at, declared_in, with_change, with_declared}
use Rattle.filing_model.specs.Sessions.Sessions.{may_make, answer, solo_copy}
use Rattle.filing_model.specs.Histories.History.{Step, Load, Entry, History, opens, calls_of, replies_of, base_of, repository}
use Rattle.filing_model.specs.declared.duplicates.Allowed.{Allowed}
use Rattle.filing_model.specs.declared.kind.Kind.{Kind}
use Rattle.filing_model.specs.declared.kind.Kind.TheVariants.{Amend}

-- ---- things read

-- what a call looks at in its report. A page looks no further than the first identifier that its limit cuts, and a declaration at nothing
abbrev pub read_in : Call → Report → Option Thing
read_in (call.Get name id) r = Some (thing.Id name id)
read_in (call.Cell name dims) r = Some (thing.Cell name dims)
read_in (call.Page name query limit) r = Some
    (thing.Range name query (first_cut limit.number (ids_for query r.facts)))
read_in (call.Add name id raw) r = Some (thing.Id name id)
read_in (call.Remove name id) r = Some (thing.Id name id)
read_in (call.Declared name) r = Some (thing.Policy name)
read_in (call.Declare name value) r = None

-- what it reads of a session's copy: nothing where a review may not make it, and the report itself where it is not there
abbrev pub read_by : Kind → Call → Repository → Option Thing
read_by kind ask c = cond (may_make kind ask)
    (option_map_or (read_in ask) (report_at c (report_of_call ask)) (Some (thing.Report (report_of_call ask))))
    None

-- what calls read one after another, each of the copy that those before it left
abbrev pub reads : Kind → Repository → List Call → List Thing
reads kind c [] = []
reads kind c (ask ∷ calls) = cons_option (read_by kind ask c) (reads kind (answer kind ask c).1 calls)

-- of a session's calls at the repository of its opening: in order of first reading, each once
abbrev pub things_read : Kind → Repository → List Call → List Thing
things_read kind opening calls = each_once (reads kind opening calls)

-- ---- net change

-- where an addition or a removal is made
abbrev pub place_of_call : Call → Option (Text × Text)
place_of_call (call.Add name id raw) = Some (name, id)
place_of_call (call.Remove name id) = Some (name, id)
place_of_call _ = None

-- which report is to declare which value
abbrev pub value_of_call : Call → Option (Text × Allowed)
value_of_call (call.Declare name value) = Some (name, value)
value_of_call _ = None

-- of a call that was staged
abbrev pub if_staged : {A : Type 0} → Reply → Option A → Option A
if_staged reply.Staged found = found
if_staged _ found = None

abbrev pub staged_places : List Call → List Reply → List (Text × Text)
staged_places calls replies = filter_map (λ p. if_staged p.1 (place_of_call p.0)) (zip calls replies)

abbrev pub staged_values : List Call → List Reply → List (Text × Allowed)
staged_values calls replies = filter_map (λ p. if_staged p.1 (value_of_call p.0)) (zip calls replies)

-- the facts at these places in the session's copy at its end; a place that is empty there and was empty at the opening is left out
abbrev pub change_between : Repository → Repository → List (Text × Text) → Change
change_between opening copy [] = empty
change_between opening copy (p ∷ ps) =
    cond (is_some (fact_at opening p.0 p.1) || is_some (fact_at copy p.0 p.1))
    (with_change (change_between opening copy ps) p.0 p.1 (fact_at copy p.0 p.1))
    (change_between opening copy ps)

-- the change with these values declared one after another, so that the last of a report counts
abbrev pub with_values : List (Text × Allowed) → Change → Change
with_values [] change = change
with_values (v ∷ vs) change = with_values vs (with_declared change v.0 v.1)

-- of an amendment's calls at the repository of its opening. A declared value is in it also where it is the old one
abbrev pub net_change : Repository → List Call → List Reply → Change
net_change opening calls replies =
    with_values (staged_values calls replies)
    (change_between opening (solo_copy Amend opening calls) (staged_places calls replies))

-- ---- touches

-- whether the fact of an identifier passes, before a change or after it
abbrev pub passes_at : (Fact → Bool) → Repository → Repository → Text → Text → Bool
passes_at test before after name id =
    option_map_or test (fact_at before name id) false || option_map_or test (fact_at after name id) false

-- greater than the one, where it is given, and not greater than the other, where that is given
abbrev pub is_within : Option Text → Option Text → Text → Bool
is_within after upto id = is_after after id && option_map_or (λ last. not (is_lt (text_cmp last id))) upto true

-- whether a change touches a thing: an identifier where it is changed, a cell and a range where a changed identifier's fact lies in it before or after, and a declared value where one is declared
abbrev pub is_changed : Repository → Repository → Change → Thing → Bool
is_changed before after change (thing.Report name) = false
is_changed before after change (thing.Id name id) = is_some (change_at change name id)
is_changed before after change (thing.Cell name dims) =
    list_any (λ e. passes_at (has_dims dims) before after name e.0) (change_in change name).facts.entries
is_changed before after change (thing.Range name query upto) =
    list_any (λ e. is_within query.after upto e.0
    && passes_at (answers_query query.concept query.period) before after name e.0)
    (change_in change name).facts.entries
is_changed before after change (thing.Policy name) = is_some (declared_in change name)

abbrev pub is_loaded : Step → Thing → Bool
is_loaded (Load name r) t = thing_eq t (thing.Report name)
is_loaded _ t = false

abbrev pub net_change_of : ℕ → History → Change
net_change_of s h = net_change (base_of s h) (calls_of s h) (replies_of s h)

abbrev pub is_committed : Entry → History → Thing → Bool
is_committed e older t =
    option_map_or (λ s. is_changed (repository older) (repository (e ∷ older))
    (net_change_of s older) t) e.session false

-- a load touches its report, and a commit what its net change touches. No other entry touches anything
abbrev pub touches_with : Reply → Entry → History → Thing → Bool
touches_with (reply.Loaded n) e older t = is_loaded e.step t
touches_with (reply.Committed n) e older t = is_committed e older t
touches_with _ e older t = false

abbrev pub touches : Entry → History → Thing → Bool
touches e older t = touches_with e.reply e older t

-- ---- conflicts

abbrev pub number_in : Reply → ℕ
number_in (reply.Loaded n) = n
number_in (reply.Committed n) = n
number_in _ = 0

-- the number of the last load or commit after the session's opening that touched the thing
abbrev pub last_touch : ℕ → Thing → History → Option ℕ
last_touch s t [] = None
last_touch s t (e ∷ older) = cond (opens s e) None
    (cond (touches e older t) (Some (number_in e.reply)) (last_touch s t older))

-- the first of the things that was touched since the session's opening, with that number
abbrev pub first_conflict : ℕ → List Thing → History → Option (ℕ × Thing)
first_conflict s [] h = None
first_conflict s (t ∷ ts) h = option_or (option_map (λ n. (n, t)) (last_touch s t h)) (first_conflict s ts h)
