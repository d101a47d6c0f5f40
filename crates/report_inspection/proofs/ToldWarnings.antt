-- Warnings that are told one behind another.
use Rattle.std.proofs.Common.{◌≡◌, ◌∙◌, ap, sym, subst, refl, Bool, true, ◌||◌, List, [], ◌∷◌, ◌++◌, map, Option, Bor, Less}
use Rattle.std.proofs.lemmas.List.{append-nil, append_assoc}
use Rattle.std.specs.List.{list_any, AllByRecursion}
use Rattle.std.specs.List.Sorted.{IsStrictlySortedBy}
use Rattle.std.specs.declared.alloc.Global.{Global}
use Rattle.json.specs.Json.{Json}
use Rattle.json.specs.Value.{value_view}
use Rattle.json.specs.declared.value.Value.{Value as TextValue}
use Rattle.filing_model.specs.Common.Text.{Text, text_cmp, text_eq}
use Rattle.report_inspection.specs.KeptFacts.{members_seen}
use Rattle.report_inspection.specs.MemberNames.{NameSet, has_name}
use Rattle.report_inspection.specs.Warnings.{AreOfConcepts, AreOfFact, AreOfFacts, AreOfNames, Has, Tells, Then, Told, is_of_concept, told}
use Rattle.report_inspection.specs.declared.warning.Warning.{Warning}
use Rattle.report_inspection.specs.declared.warning.WarningKind.{WarningKind}
use Rattle.report_inspection.proofs.AddedNames.{name_cmp}

-- ---- the names of a set

abbrev texts : List (Bor Text) → List Text
texts ks = map (λ k. k.now) ks

above_texts : (k : Bor Text) (ks : List (Bor Text)) → AllByRecursion (λ y. name_cmp k y ≡ Less) ks
    → AllByRecursion (λ y. text_cmp k.now y ≡ Less) (texts ks)
above_texts k [] h = tt
above_texts k (x ∷ xs) (h, hs) = (h, above_texts k xs hs)

rising_texts : (ks : List (Bor Text)) → IsStrictlySortedBy name_cmp ks → IsStrictlySortedBy text_cmp (texts ks)
unfolding IsStrictlySortedBy
rising_texts [] h = tt
rising_texts (k ∷ ks) (h, hs) = (above_texts k ks h, rising_texts ks hs)

among_texts : (name : Text) (ks : List (Bor Text)) → list_any (text_eq name) (texts ks) ≡ list_any (λ k. text_eq name k.now) ks
among_texts name [] = refl
among_texts name (k ∷ ks) = ap (λ b. text_eq name k.now || b) (among_texts name ks)

map_texts : {X : Type 0} (f : Text → X) (ks : List (Bor Text)) → map (λ k. f k.now) ks ≡ map f (texts ks)
map_texts f [] = refl
map_texts f (k ∷ ks) = ap (λ xs. f k.now ∷ xs) (map_texts f ks)

pub names_told : (kind : WarningKind) (fact : Option Text) (names : NameSet) (before after : List Warning) → IsStrictlySortedBy name_cmp names.keys
    → map told after ≡ map told before ++ map (λ k. (kind, (fact, k.now))) names.keys → Tells (AreOfNames kind fact (has_name names)) before after
names_told kind fact names before after rise is = record {
  told_now = map (λ k. (kind, (fact, k.now))) names.keys;
  are = record {
    names = texts names.keys;
    are = record { rise = rising_texts names.keys rise; each = λ name. among_texts name names.keys };
    told = map_texts (λ name. (kind, (fact, name))) names.keys;
  };
  behind = is;
}

-- the same names by another test
pub by_test : (kind : WarningKind) (fact : Option Text) (names : NameSet) (test : Text → Bool) (before after : List Warning) → Has test names
    → Tells (AreOfNames kind fact (has_name names)) before after → Tells (AreOfNames kind fact test) before after
by_test kind fact names test before after has h = record {
  told_now = h.told_now;
  are = record {
    names = h.are.names;
    are = record { rise = h.are.are.rise; each = λ name. h.are.are.each name ∙ has name };
    told = h.are.told;
  };
  behind = h.behind;
}

-- some, and then others
pub tells_then : (P Q : List Told → Type 0) (a b c : List Warning) → Tells P a b → Tells Q b c → Tells (Then P Q) a c
tells_then P Q a b c h k = record {
  told_now = h.told_now ++ k.told_now;
  are = record { first = h.told_now; later = k.told_now; are_first = h.are; are_later = k.are; both = refl };
  behind = k.behind ∙ ap (λ ws. ws ++ k.told_now) h.behind ∙ append_assoc (map told a) h.told_now k.told_now;
}

-- some that are just these
pub tells_just : (ws : List Told) (before after : List Warning) → map told after ≡ map told before ++ ws → Tells (λ xs. xs ≡ ws) before after
tells_just ws before after is = record { told_now = ws; are = refl; behind = is }

-- ---- facts one by one

-- the warnings of the facts so far, with those of the facts that are left
pub record Warned (all left : List (Text × Json)) (before now : List Warning) : Type 0 where
  pub done : List Told
  pub behind : map told now ≡ map told before ++ done
  pub goes : (rest : List Told) → AreOfFacts left rest → AreOfFacts all (done ++ rest)

pub warned_none : (all : List (Text × Json)) (before : List Warning) → Warned all all before before
warned_none all before = record { done = []; behind = sym (append-nil (map told before)); goes = λ rest h. h }

pub warned_one : (k : Bor Text) (v : Bor (TextValue Global)) (all : List (Text × Json)) (left rest : List (Bor Text × Bor (TextValue Global)))
    (before mid after : List Warning) → Warned all (members_seen left) before mid → left ≡ (k, v) ∷ rest
    → Tells (AreOfFact k.now (value_view v.now)) mid after → Warned all (members_seen rest) before after
warned_one k v all left rest before mid after w is h = record {
  done = w.done ++ h.told_now;
  behind = h.behind ∙ ap (λ ws. ws ++ h.told_now) w.behind ∙ append_assoc (map told before) w.done h.told_now;
  goes = λ later are.
      subst (AreOfFacts all) (sym (append_assoc w.done h.told_now later)) (w.goes (h.told_now ++ later)
      (subst (λ fs. AreOfFacts (members_seen fs) (h.told_now ++ later)) (sym is)
      (record { first = h.told_now; later = later; are_first = h.are; are_later = are; both = refl })));
}

pub warned_all : (all : List (Text × Json)) (left : List (Bor Text × Bor (TextValue Global))) (before now : List Warning)
    → Warned all (members_seen left) before now → left ≡ [] → Tells (AreOfFacts all) before now
warned_all all left before now w none = record {
  told_now = w.done;
  are = subst (AreOfFacts all) (append-nil w.done) (w.goes [] (subst (λ fs. AreOfFacts (members_seen fs) []) (sym none) refl));
  behind = w.behind;
}

-- ---- concepts

all_more : {X : Type 0} (P : X → Type 0) (xs ys : List X) → AllByRecursion P xs → AllByRecursion P ys → AllByRecursion P (xs ++ ys)
all_more P [] ys h k = k
all_more P (x ∷ xs) ys (h, hs) k = (h, all_more P xs ys hs k)

-- none, one, and some behind others
pub no_concept : (before : List Warning) → Tells AreOfConcepts before before
no_concept before = record { told_now = []; are = tt; behind = sym (append-nil (map told before)) }

pub one_concept : (w : Told) (before after : List Warning) → is_of_concept w.0 ≡ true → map told after ≡ map told before ++ w ∷ []
    → Tells AreOfConcepts before after
one_concept w before after of is = record { told_now = w ∷ []; are = (of, tt); behind = is }

pub more_concepts : (a b c : List Warning) → Tells AreOfConcepts a b → Tells AreOfConcepts b c → Tells AreOfConcepts a c
more_concepts a b c h k = record {
  told_now = h.told_now ++ k.told_now;
  are = all_more (λ w. is_of_concept w.0 ≡ true) h.told_now k.told_now h.are k.are;
  behind = k.behind ∙ ap (λ ws. ws ++ k.told_now) h.behind ∙ append_assoc (map told a) h.told_now k.told_now;
}

-- ---- the whole

-- of those that are told behind none
pub all_told : (Are : List Told → Type 0) (before after : List Warning) → before ≡ [] → Tells Are before after → Are (map told after)
all_told Are before after none h = subst Are (sym (h.behind ∙ ap (λ ws. map told ws ++ h.told_now) none)) h.are
