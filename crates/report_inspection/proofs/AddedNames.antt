-- Names that are added to sets one by one.
use Rattle.std.proofs.Common.{◌≡◌, ◌∙◌, ap, sym, refl, Bool, true, false, ◌||◌, ◌&&◌, not, cond, true≢false, Bor, Ordering}
use Rattle.std.specs.BTreeSet.{Updates}
use Rattle.filing_model.specs.Common.Text.{Text, text_cmp, text_eq}
use Rattle.filing_model.proofs.Common.Texts.{text_eq-sym, text_same}
use Rattle.report_inspection.specs.MemberNames.{NameSet, has_name}

-- as the order of a set of names compares them
abbrev pub name_cmp : Bor Text → Bor Text → Ordering
name_cmp x y = text_cmp x.now y.now

abbrev behind : Text → Bor Text
behind name = record { ref_ptr = (0, 0); now = name }

either : (b c : Bool) → cond b true c ≡ (c || b)
either true true = refl
either true false = refl
either false true = refl
either false false = refl

-- one name is added
pub one_added : (k : Bor Text) (before after : NameSet) → Updates name_cmp before after k true
    → (name : Text) → has_name after name ≡ (has_name before name || text_eq name k.now)
one_added k before after h name =
    h.0 (behind name) ∙ either (text_eq k.now name) (has_name before name) ∙ ap (λ b. has_name before name || b) (text_eq-sym k.now name)

-- a name that was seen
pub seen_turn : (r s e h d : Bool) → (e ≡ true → s ≡ true) → ((r || e) || ((s && h) || d)) ≡ (r || ((s && (e || h)) || ((e && h) || d)))
seen_turn true s e h d is = refl
seen_turn false s false h d is = refl
seen_turn false true true h d is = refl
seen_turn false false true h d is = absurd (true≢false (sym (is refl)))

-- a name that is new
pub new_turn : (r s e h d : Bool) → (e ≡ true → s ≡ false) → (r || (((s || e) && h) || d)) ≡ (r || ((s && (e || h)) || ((e && h) || d)))
new_turn true s e h d is = refl
new_turn false true false h d is = refl
new_turn false false false h d is = refl
new_turn false true true h d is = absurd (true≢false (is refl))
new_turn false false true h d is = refl

seen_as : (names : NameSet) (k : Bor Text) (b : Bool) → has_name names k.now ≡ b → (name : Text) → text_eq name k.now ≡ true → has_name names name ≡ b
seen_as names k b is name same = ap (has_name names) (text_same name k.now same) ∙ is

-- what is told of a name by the sets, and by the names that are left
abbrev pub told : NameSet → NameSet → Text → Bool → Bool → Bool
told repeated seen name h d = has_name repeated name || ((has_name seen name && h) || d)

pub told_seen : (k : Bor Text) (repeated more seen again : NameSet) → Updates name_cmp repeated more k true → has_name seen k.now ≡ true
    → again.keys ≡ seen.keys
    → (name : Text) (h d : Bool) → told more again name h d ≡ told repeated seen name (text_eq name k.now || h) ((text_eq name k.now && h) || d)
told_seen k repeated more seen again u is same name h d =
    (λ i. one_added k repeated more u name i || ((has_name record { keys = same i } name && h) || d))
    ∙ seen_turn (has_name repeated name) (has_name seen name) (text_eq name k.now) h d (seen_as seen k true is name)

pub told_new : (k : Bor Text) (repeated seen more : NameSet) → Updates name_cmp seen more k true → has_name seen k.now ≡ false
    → (name : Text) (h d : Bool) → told repeated more name h d ≡ told repeated seen name (text_eq name k.now || h) ((text_eq name k.now && h) || d)
told_new k repeated seen more u is name h d =
    ap (λ b. has_name repeated name || ((b && h) || d)) (one_added k seen more u name)
    ∙ new_turn (has_name repeated name) (has_name seen name) (text_eq name k.now) h d (seen_as seen k false is name)

-- ---- names that are not known

new_name : (u e h n : Bool) → (e ≡ true → n ≡ true) → ((u || e) || (h && n)) ≡ (u || ((e || h) && n))
new_name true e h n is = refl
new_name false false h n is = refl
new_name false true h true is = refl
new_name false true h false is = absurd (true≢false (sym (is refl)))

known_name : (u e h n : Bool) → (e ≡ true → n ≡ false) → (u || (h && n)) ≡ (u || ((e || h) && n))
known_name true e h n is = refl
known_name false false h n is = refl
known_name false true true n is = refl
known_name false true false false is = refl
known_name false true false true is = absurd (true≢false (is refl))

known_as : (known : Text → Bool) (k : Bor Text) (b : Bool) → not (known k.now) ≡ b → (name : Text) → text_eq name k.now ≡ true → not (known name) ≡ b
known_as known k b is name same = ap (λ t. not (known t)) (text_same name k.now same) ∙ is

pub unknown_turn : (known : Text → Bool) (k : Bor Text) (before after : NameSet) → Updates name_cmp before after k true → not (known k.now) ≡ true
    → (name : Text) (h : Bool) → (has_name after name || (h && not (known name))) ≡ (has_name before name || ((text_eq name k.now || h) && not (known name)))
unknown_turn known k before after u is name h =
    ap (λ b. b || (h && not (known name))) (one_added k before after u name)
    ∙ new_name (has_name before name) (text_eq name k.now) h (not (known name)) (known_as known k true is name)

pub known_turn : (known : Text → Bool) (k : Bor Text) (before : NameSet) → not (known k.now) ≡ false
    → (name : Text) (h : Bool) → (has_name before name || (h && not (known name))) ≡ (has_name before name || ((text_eq name k.now || h) && not (known name)))
known_turn known k before is name h =
    known_name (has_name before name) (text_eq name k.now) h (not (known name)) (known_as known k false is name)
