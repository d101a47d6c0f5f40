-- The versions of a history by their numbers, after one entry more.
use Rattle.std.proofs.Common.{◌≡◌, ◌∙◌, ap, sym, refl, subst, ℕ, zero, suc, ◌+◌, Bool, true, false, cond, List, [], ◌∷◌, ◌++◌}
use Rattle.std.proofs.Common.{length, Option, Some, None, is_some, unwrap_or}
use Rattle.std.specs.List.{slice_get}
use Rattle.filing_model.specs.Common.TextMap.{TextMap}
use Rattle.filing_model.specs.Sessions.Repository.{Repository}
use Rattle.filing_model.specs.Histories.History.{Entry, History, repository}
use Rattle.filing_model.specs.Histories.Lawful.{IsLawful}
use Rattle.filing_model.specs.Histories.Versions.{counts, versions}
use Rattle.filing_laws.proofs.Touching.EntryCases.{quiet_repository}
use Rattle.filing_laws.proofs.Stamping.RisingNumbers.{counted, quiet_count}
use Rattle.filing_laws.proofs.Stamping.CountedVersions.{one_more, no_more, length_of_versions}
use Rattle.history_views.specs.Names.{HasNames}
use Rattle.history_views.specs.Versions.{IsSought, version_at}

-- ---- places of a list with one more at its end

pub seam : {X : Type 0} (xs : List X) (x : X) → slice_get (xs ++ x ∷ []) (length xs) ≡ Some x
seam [] x = refl
seam (y ∷ ys) x = seam ys x

front : {X : Type 0} (xs ys : List X) (n : ℕ) (x : X) → slice_get xs n ≡ Some x → slice_get (xs ++ ys) n ≡ Some x
front [] ys n x is = let none : None ≡ Some x = is in cc
front (z ∷ zs) ys zero x is = is
front (z ∷ zs) ys (suc n) x is = front zs ys n x is

pub elsewhere : {X : Type 0} (xs : List X) (x : X) (n : ℕ) → (n ≡ length xs → ⊥) → slice_get (xs ++ x ∷ []) n ≡ slice_get xs n
elsewhere [] x zero apart = absurd (apart refl)
elsewhere [] x (suc n) apart = refl
elsewhere (y ∷ ys) x zero apart = refl
elsewhere (y ∷ ys) x (suc n) apart = elsewhere ys x n (λ same. apart (ap suc same))

-- ---- one entry more

-- the last version has the number of the repository
pub last_version : (h : History) → IsLawful h → version_at h (repository h).count ≡ Some (repository h)
last_version [] lawful = refl
last_version (e ∷ h) lawful = by (counts e.reply) refl (last_version h lawful.0)
  where
    by : (b : Bool) → counts e.reply ≡ b → version_at h (repository h).count ≡ Some (repository h)
        → version_at (e ∷ h) (repository (e ∷ h)).count ≡ Some (repository (e ∷ h))
    by true makes before =
        let many : length (versions h) ≡ (repository h).count + 1 = length_of_versions h lawful.0 in
        let place : (repository (e ∷ h)).count ≡ length (versions h) = (counted h e lawful.1 makes).count ∙ sym many in
        ap (slice_get (versions (e ∷ h))) place
        ∙ ap (λ vs. slice_get vs (length (versions h))) (one_more e h makes)
        ∙ seam (versions h) (repository (e ∷ h))
    by false quiet before =
        (λ i. slice_get (no_more e h quiet i) (quiet_count h e quiet i)) ∙ before ∙ ap Some (sym (quiet_repository h e quiet))

-- what was found stays
stays_found : (e : Entry) (h : History) (n : ℕ) (c : Repository) → version_at h n ≡ Some c → version_at (e ∷ h) n ≡ Some c
stays_found e h n c found = front (versions h) (cond (counts e.reply) (repository (e ∷ h) ∷ []) []) n c found

-- a version of another number is as it was, or still none
other_number : (e : Entry) (h : History) (n : ℕ) → IsLawful (e ∷ h) → (n ≡ (repository (e ∷ h)).count → ⊥) → version_at (e ∷ h) n ≡ version_at h n
other_number e h n lawful apart = by (counts e.reply) refl
  where
    by : (b : Bool) → counts e.reply ≡ b → version_at (e ∷ h) n ≡ version_at h n
    by true makes =
        let many : length (versions h) ≡ (repository h).count + 1 = length_of_versions h lawful.0 in
        let place : (repository (e ∷ h)).count ≡ length (versions h) = (counted h e lawful.1 makes).count ∙ sym many in
        ap (λ vs. slice_get vs n) (one_more e h makes)
        ∙ elsewhere (versions h) (repository (e ∷ h)) n (λ same. apart (same ∙ sym place))
    by false quiet = ap (λ vs. slice_get vs n) (no_more e h quiet)

-- ---- what is sought

-- it was found before
pub sought_before : (asked : Option ℕ) (found : Option Repository) (e : Entry) (h : History) → is_some found ≡ true → IsSought asked found h
    → IsSought asked found (e ∷ h)
sought_before None found e h some is = is
sought_before (Some n) None e h some is = cc
sought_before (Some n) (Some c) e h some is = sym (stays_found e h n c (sym is))

-- the version is another
pub sought_later : (asked : Option ℕ) (found : Option Repository) (e : Entry) (h : History) → IsLawful (e ∷ h) → (asked ≡ Some (repository (e ∷ h)).count → ⊥)
    → IsSought asked found h → IsSought asked found (e ∷ h)
sought_later None found e h lawful another is = is
sought_later (Some n) found e h lawful another is = is ∙ sym (other_number e h n lawful (λ same. another (ap Some same)))

-- it is this one
pub sought_now : (asked : Option ℕ) (e : Entry) (h : History) → IsLawful (e ∷ h) → asked ≡ Some (repository (e ∷ h)).count
    → IsSought asked (Some (repository (e ∷ h))) (e ∷ h)
sought_now None e h lawful here = let none : None ≡ Some (repository (e ∷ h)).count = here in cc
sought_now (Some n) e h lawful here =
    let same : n ≡ (repository (e ∷ h)).count = cc in
    sym (ap (version_at (e ∷ h)) same ∙ last_version (e ∷ h) lawful)

-- ---- with the names of reports

newly : {X : Type 0} (xs : List X) (x y : X) (n : ℕ) → slice_get xs n ≡ None → slice_get (xs ++ x ∷ []) n ≡ Some y → y ≡ x
newly [] x y zero none some = cc
newly [] x y (suc n) none some = cc
newly (z ∷ zs) x y zero none some = cc
newly (z ∷ zs) x y (suc n) none some = newly zs x y n none some

-- a version that is met is the last one
newly_met : (e : Entry) (h : History) (n : ℕ) (c : Repository) → version_at h n ≡ None → version_at (e ∷ h) n ≡ Some c → c ≡ repository (e ∷ h)
newly_met e h n c none some = by (counts e.reply) refl
  where
    by : (b : Bool) → counts e.reply ≡ b → c ≡ repository (e ∷ h)
    by true makes = newly (versions h) (repository (e ∷ h)) c n none (sym (ap (λ vs. slice_get vs n) (one_more e h makes)) ∙ some)
    by false quiet = let found : None ≡ Some c = sym none ∙ sym (ap (λ vs. slice_get vs n) (no_more e h quiet)) ∙ some in cc

-- nothing more is looked at once it is met
pub named_before : {X : Type 0} (names : TextMap X) (asked : Option ℕ) (found : Option Repository) (e : Entry) (h : History) → is_some found ≡ true
    → IsSought asked found h × HasNames names (unwrap_or found (repository h))
    → IsSought asked found (e ∷ h) × HasNames names (unwrap_or found (repository (e ∷ h)))
named_before names asked None e h some (is, has) = cc
named_before names asked (Some c) e h some (is, has) = (sought_before asked (Some c) e h some is, has)

-- until then the names are those of the reports so far
pub named_so_far : {X : Type 0} (names : TextMap X) (found : Option Repository) (h : History) → is_some found ≡ false
    → HasNames names (unwrap_or found (repository h)) → HasNames names (repository h)
named_so_far names None h none has = has
named_so_far names (Some c) h none has = cc

pub named_after : {X : Type 0} (names : TextMap X) (asked : Option ℕ) (found found' : Option Repository) (e : Entry) (h : History) → is_some found ≡ false
    → IsSought asked found h → HasNames names (repository (e ∷ h)) → IsSought asked found' (e ∷ h)
    → IsSought asked found' (e ∷ h) × HasNames names (unwrap_or found' (repository (e ∷ h)))
named_after names asked found None e h none was has is = (is, has)
named_after names None found (Some c) e h none was has is = cc
named_after names (Some n) (Some d) (Some c) e h none was has is = cc
named_after names (Some n) None (Some c) e h none was has is = (is, subst (HasNames names) (sym (newly_met e h n c (sym was) (sym is))) has)
