-- Each line of a difference tells what is in the one repository and not in the other.
use Rattle.std.proofs.Common.{◌≡◌, ◌∙◌, ap, sym, refl, Bool, true, false, cond, List, [], ◌∷◌, ◌++◌, Option, Some, None, option_and_then, true≢false}
use Rattle.std.specs.List.{flat_map, AllByRecursion}
use Rattle.filing_model.specs.Common.Text.{Text}
use Rattle.filing_model.specs.Oim.Facts.{Fact}
use Rattle.filing_model.specs.Oim.Reports.{Report}
use Rattle.filing_model.specs.Sessions.Repository.{Repository, report_at, fact_in, fact_at}
use Rattle.filing_model.specs.Sessions.Replies.{Found, Declared as DeclaredReply}
use Rattle.filing_model.specs.declared.duplicates.Allowed.{Allowed}
use Rattle.filing_laws.specs.Histories.SameReplies.{allowed_eq, fact_eq}
use Rattle.filing_laws.proofs.Histories.SameReplies.{reply_itself}
use Rattle.version_differences.specs.Differences.{Declared, Changed, fact_lines, declared_lines, report_lines, lines_at, keys_of_either}
use Rattle.version_differences.specs.Laid.{IsToldOf, EachLineIsToldOfBoth}

module _ {A : Type 0} (P : A → Type 0) where
  all_joined : (xs ys : List A) → AllByRecursion P xs → AllByRecursion P ys → AllByRecursion P (xs ++ ys)
  all_joined [] ys h hs = hs
  all_joined (x ∷ xs) ys h hs = (h.0, all_joined xs ys h.1 hs)

  all_flat : {K : Type 0} (f : K → List A) (ks : List K) → ((k : K) → AllByRecursion P (f k)) → AllByRecursion P (flat_map f ks)
  all_flat f [] each = tt
  all_flat f (k ∷ ks) each = all_joined (f k) (flat_map f ks) (each k) (all_flat f ks each)

facts_apart : (f g : Fact) → fact_eq f g ≡ false → f ≡ g → ⊥
facts_apart f g apart same = true≢false (sym (reply_itself (Found f)) ∙ ap (fact_eq f) same ∙ apart)

values_apart : (a b : Allowed) → allowed_eq a b ≡ false → a ≡ b → ⊥
values_apart a b apart same = true≢false (sym (reply_itself (DeclaredReply a)) ∙ ap (allowed_eq a) same ∙ apart)

module _ (from to : Repository) (name : Text) where
  module _ (r s : Report) (is_r : report_at from name ≡ Some r) (is_s : report_at to name ≡ Some s) where
    fact_told : (id : Text) (o p : Option Fact) → fact_at from name id ≡ o → fact_at to name id ≡ p → AllByRecursion (IsToldOf from to) (fact_lines name id o p)
    fact_told id None None none gone = tt
    fact_told id None (Some g) none is = ((none, is), tt)
    fact_told id (Some f) None is none = ((is, none), tt)
    fact_told id (Some f) (Some g) is_f is_g = by (fact_eq f g) refl
      where
        by : (b : Bool) → fact_eq f g ≡ b → AllByRecursion (IsToldOf from to) (cond b [] (Changed name id f g ∷ []))
        by true same = tt
        by false apart = ((is_f, is_g, facts_apart f g apart), tt)

    value_told : AllByRecursion (IsToldOf from to) (declared_lines name r.allowed s.allowed)
    value_told = by (allowed_eq r.allowed s.allowed) refl
      where
        by : (b : Bool) → allowed_eq r.allowed s.allowed ≡ b → AllByRecursion (IsToldOf from to) (cond b [] (Declared name r.allowed s.allowed ∷ []))
        by true same = tt
        by false apart = ((r, s, is_r, is_s, refl, refl, values_apart r.allowed s.allowed apart), tt)

    both_told : AllByRecursion (IsToldOf from to) (report_lines name (Some r) (Some s))
    both_told =
        all_joined (IsToldOf from to) (declared_lines name r.allowed s.allowed) _ value_told
        (all_flat (IsToldOf from to) (λ id. fact_lines name id (fact_in r id) (fact_in s id)) (keys_of_either r.facts s.facts)
        (λ id. fact_told id (fact_in r id) (fact_in s id) (ap (option_and_then (λ r. fact_in r id)) is_r) (ap (option_and_then (λ r. fact_in r id)) is_s)))

  report_told : (o p : Option Report) → report_at from name ≡ o → report_at to name ≡ p → AllByRecursion (IsToldOf from to) (report_lines name o p)
  report_told None None none gone = tt
  report_told None (Some s) none is = ((s, none, is), tt)
  report_told (Some r) None is none = ((r, is, none), tt)
  report_told (Some r) (Some s) is_r is_s = both_told r s is_r is_s

pub each_line_is_told_of_both : EachLineIsToldOfBoth
each_line_is_told_of_both from to =
    all_flat (IsToldOf from to) (lines_at from to) (keys_of_either from.reports to.reports)
    (λ name. report_told from to name (report_at from name) (report_at to name) refl refl)
