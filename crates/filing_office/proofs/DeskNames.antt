-- Names that are put in use before their session is open.
use Rattle.std.proofs.Common.{◌≡◌, ◌∙◌, ap, sym, refl, cond, Bool, true, false, Some, None}
use Rattle.filing_model.specs.Common.Text.{Text, text_eq}
use Rattle.filing_model.specs.Common.TextMap.{TextMap, get, insert, remove}
use Rattle.filing_model.proofs.Common.TextMaps.{get-insert, get-remove, same_map}
use Rattle.filing_model.proofs.Common.Texts.{text_same, text_eq-refl}

module _ {X : Type 0} (m : TextMap X) (q : Text) where
  -- a new name that is put in use and freed leaves the names as they were
  pub freed_again : (v : X) → get m q ≡ None → remove (insert m q v) q ≡ m
  freed_again v free = same_map _ _ (λ r. get-remove (insert m q v) q r ∙ ap (λ o. cond (text_eq r q) None o) (get-insert m q v r) ∙ at r (text_eq r q) refl)
    where
      at : (r : Text) (b : Bool) → text_eq r q ≡ b → cond b None (cond b (Some v) (get m r)) ≡ get m r
      at r true same = sym (ap (λ x. get m x) (text_same r q same) ∙ free)
      at r false apart = refl

  -- of two values of one name the last counts
  pub put_again : (v w : X) → insert (insert m q v) q w ≡ insert m q w
  put_again v w = same_map _ _ (λ r.
      get-insert (insert m q v) q w r
      ∙ ap (λ o. cond (text_eq r q) (Some w) o) (get-insert m q v r)
      ∙ at r (text_eq r q)
      ∙ sym (get-insert m q w r))
    where
      at : (r : Text) (b : Bool) → cond b (Some w) (cond b (Some v) (get m r)) ≡ cond b (Some w) (get m r)
      at r true = refl
      at r false = refl

  -- what was put in use is in use
  pub is_put : (v : X) → get (insert m q v) q ≡ Some v
  is_put v = get-insert m q v q ∙ ap (λ b. cond b (Some v) (get m q)) (text_eq-refl q)
