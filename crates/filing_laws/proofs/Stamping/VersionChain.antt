-- The versions of a lawful history obey and are a chain.
use Rattle.std.proofs.Common.{◌≡◌, ◌∙◌, ap, sym, refl, subst, ◌+◌, ◌<◌, arith, Bool, true, false, cond, ◌&&◌, inl}
use Rattle.std.proofs.Common.{inr, T, List, [], ◌∷◌, ◌++◌, map, All, Option, Some, None, is_some, option_map}
use Rattle.std.proofs.Common.{true≢false, Ordering, Less, Equal, Greater, is_lt, is_eq, append-nil}
use Rattle.std.specs.List.{list_all}
use Rattle.std.specs.Cmp.Lexicographic.{nat_list_cmp_total}
use Rattle.std.specs.FinMap.Entries.{find, put, by_order, below_all, is_sorted, same_entries}
use Rattle.std.proofs.lemmas.Bool.{and_parts, and_from}
use Rattle.std.proofs.lemmas.List.Elements.{All-cons, All-push}
use Rattle.filing_model.specs.Common.Text.{Text, text_cmp, text_eq}
use Rattle.filing_model.specs.Common.TextMap.{TextMap, get, keys}
use Rattle.filing_model.specs.Oim.Facts.{Names}
use Rattle.filing_model.specs.Oim.Reports.{Report}
use Rattle.filing_model.specs.Sessions.Repository.{Repository, nothing, report_at, with_report}
use Rattle.filing_model.specs.Sessions.Sessions.{report_obeys, repository_obeys}
use Rattle.filing_model.specs.Histories.History.{Entry, History, calls_of, repository}
use Rattle.filing_model.specs.Histories.Lawful.{IsLawful, IsNext}
use Rattle.filing_model.specs.Histories.Versions.{counts, versions, HasOneMore, Follows, FollowsAll, IsChain}
use Rattle.filing_model.specs.declared.kind.Kind.TheVariants.{Amend}
use Rattle.filing_model.proofs.Common.Texts.{text_same, text_cmp-Equal}
use Rattle.filing_model.proofs.Common.TextMaps.{get-insert}
use Rattle.filing_model.proofs.Common.Tests.{none_from_not_is_some}
use Rattle.filing_laws.specs.Updating.Versions.{EachVersionObeys, VersionsAreAChain}
use Rattle.filing_laws.proofs.Lists.WithOneFact.{names_at}
use Rattle.filing_laws.proofs.Agreement.RunsAlike.{run_leaves_names}
use Rattle.filing_laws.proofs.Updating.AllowedCells.{repository_obeys_where_not_refused}
use Rattle.filing_laws.proofs.Touching.EntryCases.{EntryCase, Quiet, Accepted, Passed, entry_case, quiet_repository, passed_copy}

-- ---- reports that obey

put_obeys : (name : Text) (x : Report) (es : List (Text × Report)) → report_obeys x ≡ true → list_all (λ e. report_obeys e.1) es ≡ true
    → list_all (λ e. report_obeys e.1) (put text_cmp name x es) ≡ true
put_obeys name x [] new old = and_from (report_obeys x) true new refl
put_obeys name x (e ∷ es) new old =
    let parts = and_parts (report_obeys e.1) (list_all (λ (e : Text × Report). report_obeys e.1) es) old in
    by (text_cmp name e.0) parts.0 parts.1 (put_obeys name x es new parts.1)
  where
    by : (o : Ordering) → report_obeys e.1 ≡ true → list_all (λ e. report_obeys e.1) es ≡ true → list_all (λ e. report_obeys e.1) (put text_cmp name x es) ≡ true
        → list_all (λ (e : Text × Report). report_obeys e.1) (by_order o ((name, x) ∷ e ∷ es) ((e.0, x) ∷ es) (e ∷ put text_cmp name x es)) ≡ true
    by Less first rest later = and_from _ _ new old
    by Equal first rest later = and_from _ _ new rest
    by Greater first rest later = and_from _ _ first later

-- the repository of a lawful history obeys
pub repository_obeys_always : (h : History) → IsLawful h → repository_obeys (repository h) ≡ true
repository_obeys_always [] lawful = refl
repository_obeys_always (e ∷ older) lawful = by (repository_obeys_always older lawful.0) (entry_case older e lawful.1)
  where
    by : repository_obeys (repository older) ≡ true → EntryCase older e → repository_obeys (repository (e ∷ older)) ≡ true
    by before (Quiet quiet) = ap repository_obeys (quiet_repository older e quiet) ∙ before
    by before (Accepted load) = ap repository_obeys load.result ∙ put_obeys load.name load.report (repository older).reports.entries load.obeys before
    by before (Passed passed) = ap repository_obeys passed.result ∙ (repository_obeys_where_not_refused (passed_copy passed.s older)).1 passed.obeys

pub each_version_obeys : EachVersionObeys
each_version_obeys [] lawful = All-cons (λ c. repository_obeys c ≡ true) nothing [] refl (λ k d below. let none : k < 0 = below in absurd (omega arith))
each_version_obeys (e ∷ older) lawful = by (counts e.reply) (each_version_obeys older lawful.0)
  where
    by : (b : Bool) → All (λ c. repository_obeys c ≡ true) (versions older) → All (λ c. repository_obeys c ≡ true) (versions older ++ cond b (repository (e ∷ older) ∷ []) [])
    by true before = All-push (λ c. repository_obeys c ≡ true) (versions older) (repository (e ∷ older)) before (repository_obeys_always (e ∷ older) lawful)
    by false before = subst (All (λ c. repository_obeys c ≡ true)) (sym (append-nil (versions older))) before

-- ---- names

named : List (Text × Report) → List (Text × Names)
named es = map (λ e. (e.0, e.1.names)) es

keys_named : (es : List (Text × Report)) → map (λ e. e.0) (named es) ≡ map (λ e. e.0) es
unfolding named
keys_named [] = refl
keys_named (e ∷ es) = ap (λ ks. e.0 ∷ ks) (keys_named es)

find_named : (q : Text) (es : List (Text × Report)) → find text_cmp q (named es) ≡ option_map (λ r. r.names) (find text_cmp q es)
unfolding named
find_named q [] = refl
find_named q (e ∷ es) = by (text_eq q e.0) (find_named q es)
  where
    by : (b : Bool) → find text_cmp q (named es) ≡ option_map (λ r. r.names) (find text_cmp q es)
        → cond b (Some e.1.names) (find text_cmp q (named es)) ≡ option_map (λ (r : Report). r.names) (cond b (Some e.1) (find text_cmp q es))
    by true rest = refl
    by false rest = rest

below_named : (x : Text) (es : List (Text × Report)) → below_all text_cmp x (named es) ≡ below_all text_cmp x es
unfolding named
below_named x [] = refl
below_named x (e ∷ es) = ap (λ b. is_lt (text_cmp x e.0) && b) (below_named x es)

sorted_named : (es : List (Text × Report)) → is_sorted text_cmp (named es) ≡ is_sorted text_cmp es
unfolding named
sorted_named [] = refl
sorted_named (e ∷ es) = λ i. below_named e.0 es i && sorted_named es i

-- maps with the same names everywhere have the same keys
keys_same : (m n : TextMap Report) → ((q : Text) → option_map (λ r. r.names) (get m q) ≡ option_map (λ r. r.names) (get n q)) → keys m ≡ keys n
keys_same m n same =
    sym (keys_named m.entries)
    ∙ ap (λ (es : List (Text × Names)). map (λ e. e.0) es)
    (same_entries text_cmp nat_list_cmp_total text_cmp-Equal (named m.entries) (named n.entries) (subst T (sym (sorted_named m.entries)) m.sorted) (subst T (sym (sorted_named n.entries)) n.sorted)
    (λ q. find_named q m.entries ∙ same q ∙ sym (find_named q n.entries)))
    ∙ keys_named n.entries

put_new : (name : Text) (x : Report) (es : List (Text × Report)) → find text_cmp name es ≡ None → HasOneMore (map (λ e. e.0) es) (map (λ e. e.0) (put text_cmp name x es))
put_new name x [] none = record { before = []; name = name; after = []; old_is = refl; new_is = refl }
put_new name x (e ∷ es) none = by (text_cmp name e.0) none (put_new name x es)
  where
    by : (o : Ordering) → cond (is_eq o) (Some e.1) (find text_cmp name es) ≡ None → (find text_cmp name es ≡ None → HasOneMore (map (λ e. e.0) es) (map (λ e. e.0) (put text_cmp name x es)))
        → HasOneMore (e.0 ∷ map (λ (e : Text × Report). e.0) es) (map (λ (e : Text × Report). e.0) (by_order o ((name, x) ∷ e ∷ es) ((e.0, x) ∷ es) (e ∷ put text_cmp name x es)))
    by Less none later = record { before = []; name = name; after = e.0 ∷ map (λ e. e.0) es; old_is = refl; new_is = refl }
    by Equal none later = let some : Some e.1 ≡ None = none in cc
    by Greater none later =
        let rest = later none in
        record { before = e.0 ∷ rest.before; name = rest.name; after = rest.after; old_is = ap (λ ks. e.0 ∷ ks) rest.old_is; new_is = ap (λ ks. e.0 ∷ ks) rest.new_is }

-- ---- one version after another

load_follows : (c : Repository) (name : Text) (x : Report) → is_some (report_at c name) ≡ false → Follows c (with_report c name x)
load_follows c name x new = record {
  count = refl;
  names = inr (put_new name x c.reports.entries (none_from_not_is_some (report_at c name) new));
  kept = λ m r there. (r, get-insert c.reports name x m ∙ ap (λ b. cond b (Some x) (report_at c m)) (other m r there (text_eq m name) refl) ∙ there, refl);
}
  where
    other : (m : Text) (r : Report) → report_at c m ≡ Some r → (b : Bool) → text_eq m name ≡ b → text_eq m name ≡ false
    other m r there true same = absurd (true≢false (sym (ap is_some (sym (ap (report_at c) (text_same m name same)) ∙ there)) ∙ new))
    other m r there false apart = apart

same_names_follow : (c d : Repository) → d.count ≡ c.count + 1 → ((m : Text) → names_at d m ≡ names_at c m) → Follows c d
same_names_follow c d count same = record {
  count = count;
  names = inl (keys_same c.reports d.reports (λ q. sym (same q)));
  kept = λ m r there. there_too m r (report_at d m) refl (same m ∙ ap (option_map (λ (r : Report). r.names)) there);
}
  where
    there_too : (m : Text) (r : Report) (o : Option Report) → report_at d m ≡ o → option_map (λ (r : Report). r.names) (report_at d m) ≡ Some r.names
        → (s : Report) × (report_at d m ≡ Some s) × (s.names ≡ r.names)
    there_too m r None gone names = let apart : None ≡ Some r.names = sym (ap (option_map (λ (r : Report). r.names)) gone) ∙ names in cc
    there_too m r (Some s) there names =
        let alike : Some s.names ≡ Some r.names = sym (ap (option_map (λ (r : Report). r.names)) there) ∙ names in
        let named : s.names ≡ r.names = cc in
        (s, there, named)

-- each entry that counts makes a version that follows
pub version_follows : (older : History) (e : Entry) → IsNext older e → counts e.reply ≡ true → Follows (repository older) (repository (e ∷ older))
version_follows older e next counted = by (entry_case older e next)
  where
    by : EntryCase older e → Follows (repository older) (repository (e ∷ older))
    by (Quiet quiet) = absurd (true≢false (sym counted ∙ quiet))
    by (Accepted load) = subst (Follows (repository older)) (sym load.result) (load_follows (repository older) load.name load.report load.new)
    by (Passed passed) = subst (Follows (repository older)) (sym passed.result)
        (same_names_follow (repository older)
        (record (passed_copy passed.s older) { count = (repository older).count + 1 }) refl
        (λ m. run_leaves_names Amend (calls_of passed.s older) (repository older) m))

-- ---- the chain

abbrev last_of : Repository → List Repository → Repository
last_of c [] = c
last_of c (d ∷ ds) = last_of d ds

one_more : (c : Repository) (cs : List Repository) (d : Repository) → FollowsAll c cs → Follows (last_of c cs) d → repository_obeys d ≡ true → FollowsAll c (cs ++ d ∷ [])
one_more c [] d all follows obeys = (follows, obeys, tt)
one_more c (x ∷ xs) d all follows obeys = (all.0, all.1, one_more x xs d all.2 follows obeys)

last_is : (c : Repository) (cs : List Repository) (d : Repository) → last_of c (cs ++ d ∷ []) ≡ d
last_is c [] d = refl
last_is c (x ∷ xs) d = last_is x xs d

record Chain (h : History) (vs : List Repository) : Type 0 where
  rest : List Repository
  is : vs ≡ nothing ∷ rest
  follows : FollowsAll nothing rest
  last : last_of nothing rest ≡ repository h

chain : (h : History) → IsLawful h → Chain h (versions h)
chain [] lawful = record { rest = []; is = refl; follows = tt; last = refl }
chain (e ∷ older) lawful = by (counts e.reply) refl (chain older lawful.0)
  where
    by : (b : Bool) → counts e.reply ≡ b → Chain older (versions older) → Chain (e ∷ older) (versions older ++ cond b (repository (e ∷ older) ∷ []) [])
    by true counted c = record {
      rest = c.rest ++ repository (e ∷ older) ∷ [];
      is = ap (λ vs. vs ++ repository (e ∷ older) ∷ []) c.is;
      follows =
          one_more nothing c.rest (repository (e ∷ older)) c.follows
          (subst (λ d. Follows d (repository (e ∷ older))) (sym c.last)
          (version_follows older e lawful.1 counted)) (repository_obeys_always (e ∷ older) lawful);
      last = last_is nothing c.rest (repository (e ∷ older));
    }
    by false quiet c = record {
      rest = c.rest;
      is = append-nil (versions older) ∙ c.is;
      follows = c.follows;
      last = c.last ∙ sym (quiet_repository older e quiet);
    }

pub versions_are_a_chain : VersionsAreAChain
versions_are_a_chain h lawful =
    let c = chain h lawful in
    subst IsChain (sym c.is) (refl, c.follows)
