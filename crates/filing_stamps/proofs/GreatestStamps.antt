-- The greatest numbers of stamps in ranges.
use Rattle.std.proofs.Common.{◌≡◌, ◌∙◌, ap, sym, refl, ℕ, ◌≤◌, max, arith, Bool, true, false, cond, ◌||◌, List, [], ◌∷◌, ◌++◌, Ordering, is_eq}
use Rattle.std.specs.List.{AllByRecursion, flat_map, list_any}
use Rattle.std.proofs.lemmas.List.Elements.{filter-append}
use Rattle.sorted_pages.specs.Pages.{greatest}
use Rattle.sorted_pages.specs.Ranges.{within}
use Rattle.sorted_pages.proofs.Peaks.{greatest-append}
use Rattle.sorted_pages.proofs.Flats.{flat_map-append}
use Rattle.filing_facts.specs.FactChanges.{FactChange, Part, is_touched, stamped_by}
use Rattle.filing_stamps.specs.Stamps.{Stamp, among_side, part_among, stamp_in, stamps_of_changes}
use Rattle.filing_stamps.specs.LastStamps.{AreLast}
use Rattle.filing_stamps.specs.Layers.{all_stamps, AreUpTo, AreWith}
use Rattle.filing_stamps.proofs.ChangedParts.{AllHave, changes_hit, changes_have}

abbrev pub best : (Stamp → Ordering) → List Stamp → ℕ
best side stamps = greatest (λ s. s.number) (within side stamps)

pub best-append : (side : Stamp → Ordering) (xs ys : List Stamp) → best side (xs ++ ys) ≡ max (best side xs) (best side ys)
best-append side xs ys =
    ap (greatest (λ (s : Stamp). s.number)) (filter-append (λ s. is_eq (side s)) xs ys)
    ∙ greatest-append (λ (s : Stamp). s.number) (within side xs) (within side ys)

best-one : (side : Stamp → Ordering) (s : Stamp) → best side (s ∷ []) ≡ cond (is_eq (side s)) s.number 0
best-one side s = by (is_eq (side s))
  where
    by : (b : Bool) → greatest (λ (s : Stamp). s.number) (cond b (s ∷ []) []) ≡ cond b s.number 0
    by true = omega arith
    by false = refl

-- one more at the end
pub best-push : (side : Stamp → Ordering) (xs : List Stamp) (s : Stamp) (b : Bool) → b ≡ is_eq (side s)
    → cond b (max (best side xs) s.number) (best side xs) ≡ best side (xs ++ s ∷ [])
best-push side xs s b is = by b is ∙ sym (best-append side xs (s ∷ []) ∙ ap (max (best side xs)) (best-one side s))
  where
    by : (b : Bool) → b ≡ is_eq (side s) → cond b (max (best side xs) s.number) (best side xs) ≡ max (best side xs) (cond (is_eq (side s)) s.number 0)
    by true is = ap (λ t. max (best side xs) (cond t s.number 0)) is
    by false is = (let none : best side xs ≡ max (best side xs) 0 = omega arith in none) ∙ ap (λ t. max (best side xs) (cond t s.number 0)) is

-- none in a range has a greater number than the greatest of all
best-of_all : (side : Stamp → Ordering) (stamps : List Stamp) → best side stamps ≤ greatest (λ s. s.number) stamps
best-of_all side [] = omega arith
best-of_all side (s ∷ stamps) = by (is_eq (side s)) (best-of_all side stamps)
  where
    by : (b : Bool) → best side stamps ≤ greatest (λ s. s.number) stamps
        → greatest (λ (s : Stamp). s.number) (cond b (s ∷ within side stamps) (within side stamps)) ≤ greatest (λ s. s.number) (s ∷ stamps)
    by true rest = omega arith
    by false rest = omega arith

-- so where all are up to a number that is not greater than since, none in a range is greater
pub none-since : (side : Stamp → Ordering) (since n : ℕ) (stamps : List Stamp) → AreUpTo n stamps → n ≤ since → max since 0 ≡ max since (best side stamps)
none-since side since n stamps upto less =
    let under = best-of_all side stamps in
    omega (arith, under, upto, less)

pub numbered-up_to : (n : ℕ) (stamps : List Stamp) → AllByRecursion (λ s. s.number ≡ n) stamps → AreUpTo n stamps
numbered-up_to n [] all = omega arith
numbered-up_to n (s ∷ stamps) all =
    let is : s.number ≡ n = all.0 in
    let rest = numbered-up_to n stamps all.1 in
    omega (arith, is, rest)

-- ---- what a commit leaves

-- where all have one number
best-numbered : (side : Stamp → Ordering) (n : ℕ) (stamps : List Stamp) → AllHave (λ s. s.number) n stamps
    → best side stamps ≡ cond (list_any (λ s. is_eq (side s)) stamps) n 0
best-numbered side n [] all = refl
best-numbered side n (s ∷ stamps) all =
    by (is_eq (side s)) (list_any (λ s. is_eq (side s)) stamps) (best-numbered side n stamps all.1) all.0
  where
    by : (b any : Bool) → best side stamps ≡ cond any n 0 → s.number ≡ n
        → greatest (λ (s : Stamp). s.number) (cond b (s ∷ within side stamps) (within side stamps)) ≡ cond (b || any) n 0
    by true true rest this = omega (arith, rest, this)
    by true false rest this = omega (arith, rest, this)
    by false any rest this = rest

-- so it stamps what its changes touch
pub stamped_with : (fact_changes : List FactChange) (n : ℕ) (old new : List Stamp) → ((part : Part) → stamp_in old part ≤ n)
    → AreWith (stamps_of_changes n fact_changes) old new → stamp_in new ≡ stamped_by fact_changes n (stamp_in old)
stamped_with fact_changes n old new upto is = λ i part. at part i
  where
    greater : (b : Bool) (m : ℕ) → m ≤ n → max (cond b n 0) m ≡ cond b n m
    greater true m h = omega arith
    greater false m h = omega arith

    at : (part : Part) → stamp_in new part ≡ stamped_by fact_changes n (stamp_in old) part
    at part =
        is part
        ∙ ap (λ m. max m (stamp_in old part))
        (best-numbered (among_side (part_among part)) n (stamps_of_changes n fact_changes) (changes_have n fact_changes)
        ∙ ap (λ b. cond b n 0) (changes_hit part n fact_changes))
        ∙ greater (is_touched fact_changes part) (stamp_in old part) (upto part)

-- ---- one part more

pub best-more : {X : Type 0} (side : Stamp → Ordering) (v : X → List Stamp) (parts : List X) (part : X)
    → best side (flat_map v (parts ++ part ∷ [])) ≡ max (best side (flat_map v parts)) (best side (v part))
best-more side v parts part =
    let pushed : best side (flat_map v (parts ++ part ∷ [])) ≡ max (best side (flat_map v parts)) (best side (v part ++ [])) =
    ap (best side) (flat_map-append v parts (part ∷ [])) ∙ best-append side (flat_map v parts) (v part ++ []) in
    let one : best side (v part ++ []) ≡ max (best side (v part)) 0 = best-append side (v part) [] in
    omega arith

-- what a commit left, after what those before it left
pub with_commit_stamps : (recent layers : List (List Stamp)) (added : List Stamp)
    → AreWith added (all_stamps recent ++ all_stamps layers) (all_stamps (recent ++ added ∷ []) ++ all_stamps layers)
with_commit_stamps recent layers added part =
    let side = among_side (part_among part) in
    let pushed = best-more side (λ (x : List Stamp). x) recent added in
    let old : best side (all_stamps recent ++ all_stamps layers) ≡ max (best side (all_stamps recent)) (best side (all_stamps layers)) =
    best-append side (all_stamps recent) (all_stamps layers) in
    let new : best side (all_stamps (recent ++ added ∷ []) ++ all_stamps layers)
    ≡ max (best side (all_stamps (recent ++ added ∷ []))) (best side (all_stamps layers)) =
    best-append side (all_stamps (recent ++ added ∷ [])) (all_stamps layers) in
    omega arith

-- a layer of what a commit left, of what those before it left, and of some layers
pub with_layer : (recent longer others : List (List Stamp)) (added last : List Stamp)
    → AreLast ((added ++ all_stamps recent) ++ all_stamps others) last
    → AreWith added (all_stamps recent ++ all_stamps (longer ++ others)) (all_stamps (longer ++ last ∷ []))
with_layer recent longer others added last is part =
    let side = among_side (part_among part) in
    let pushed = best-more side (λ (x : List Stamp). x) longer last in
    let gathered : best side last ≡ max (best side (added ++ all_stamps recent)) (best side (all_stamps others)) =
    is (part_among part) ∙ best-append side (added ++ all_stamps recent) (all_stamps others) in
    let fresh : best side (added ++ all_stamps recent) ≡ max (best side added) (best side (all_stamps recent)) = best-append side added (all_stamps recent) in
    let layers : best side (all_stamps (longer ++ others)) ≡ max (best side (all_stamps longer)) (best side (all_stamps others)) =
    ap (best side) (flat_map-append (λ (x : List Stamp). x) longer others) ∙ best-append side (all_stamps longer) (all_stamps others) in
    let old : best side (all_stamps recent ++ all_stamps (longer ++ others)) ≡ max (best side (all_stamps recent)) (best side (all_stamps (longer ++ others))) =
    best-append side (all_stamps recent) (all_stamps (longer ++ others)) in
    omega arith
