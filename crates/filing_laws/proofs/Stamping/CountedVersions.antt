-- How many versions and openings a lawful history has, and which entries make a version.
use Rattle.std.proofs.Common.{◌≡◌, ◌∙◌, ap, sym, refl, ℕ, ◌+◌, ◌≤◌, arith, Bool, true, false, cond, [], ◌∷◌, ◌++◌, length, length-append, append-nil}
use Rattle.filing_model.specs.Histories.History.{Entry, History, is_opening, repository}
use Rattle.filing_model.specs.Histories.Touches.{number_in}
use Rattle.filing_model.specs.Histories.Lawful.{IsLawful, openings}
use Rattle.filing_model.specs.Histories.Versions.{counts, versions}
use Rattle.filing_laws.proofs.Opening.NotYetOpened.{openings_next}
use Rattle.filing_laws.proofs.Stamping.RisingNumbers.{counted, quiet_count}

-- the versions after an entry, by whether it makes one
pub one_more : (e : Entry) (h : History) → counts e.reply ≡ true → versions (e ∷ h) ≡ versions h ++ repository (e ∷ h) ∷ []
one_more e h makes = ap (λ b. versions h ++ cond b (repository (e ∷ h) ∷ []) []) makes

pub no_more : (e : Entry) (h : History) → counts e.reply ≡ false → versions (e ∷ h) ≡ versions h
no_more e h quiet = ap (λ b. versions h ++ cond b (repository (e ∷ h) ∷ []) []) quiet ∙ append-nil (versions h)

-- the count of the repository rises with each entry that makes a version, and with no other
pub count_after : (e : Entry) (h : History) → IsLawful (e ∷ h) → (repository (e ∷ h)).count ≡ (repository h).count + cond (counts e.reply) 1 0
count_after e h lawful = by (counts e.reply) refl
  where
    by : (b : Bool) → counts e.reply ≡ b → (repository (e ∷ h)).count ≡ (repository h).count + cond b 1 0
    by true makes = (counted h e lawful.1 makes).count
    by false quiet = omega (arith, quiet_count h e quiet)

pub length_of_versions : (h : History) → IsLawful h → length (versions h) ≡ (repository h).count + 1
length_of_versions [] lawful = refl
length_of_versions (e ∷ h) lawful = by (counts e.reply) refl (length_of_versions h lawful.0)
  where
    by : (b : Bool) → counts e.reply ≡ b → length (versions h) ≡ (repository h).count + 1 → length (versions (e ∷ h)) ≡ (repository (e ∷ h)).count + 1
    by true makes before =
        let one : (repository (e ∷ h)).count ≡ (repository h).count + 1 = (counted h e lawful.1 makes).count in
        omega (arith, ap length (one_more e h makes), length-append (versions h) (repository (e ∷ h) ∷ []), before, one)
    by false quiet before = omega (arith, ap length (no_more e h quiet), before, quiet_count h e quiet)

-- the number that is told with a version is one less than how many there are
pub told_number : (e : Entry) (h : History) → IsLawful (e ∷ h) → counts e.reply ≡ true → length (versions (e ∷ h)) ≡ number_in e.reply + 1
told_number e h lawful makes =
    let is = counted h e lawful.1 makes in
    length_of_versions (e ∷ h) lawful ∙ ap (λ (n : ℕ). n + 1) (is.count ∙ sym is.number)

-- ---- at most as many as the entries

pub few_versions : (h : History) → IsLawful h → (repository h).count ≤ length h
few_versions [] lawful = omega arith
few_versions (e ∷ h) lawful = by (counts e.reply) (few_versions h lawful.0) (count_after e h lawful)
  where
    by : (b : Bool) → (repository h).count ≤ length h → (repository (e ∷ h)).count ≡ (repository h).count + cond b 1 0
        → (repository (e ∷ h)).count ≤ length (e ∷ h)
    by true few after = omega arith
    by false few after = omega arith

pub few_openings : (h : History) → openings h ≤ length h
few_openings [] = omega arith
few_openings (e ∷ h) = by (is_opening e.step) (few_openings h) (openings_next e h)
  where
    by : (b : Bool) → openings h ≤ length h → openings (e ∷ h) ≡ cond b 1 0 + openings h → openings (e ∷ h) ≤ length (e ∷ h)
    by true few next = omega arith
    by false few next = omega arith
