-- Machines whose replies are a function of what contracts see of them.
use Rattle.std.proofs.Common.{◌≡◌, List, [], ◌∷◌, refl, sym, ◌∙◌, ap}
use Rattle.line_io.specs.Text.{Text}
use Rattle.line_io.specs.Run.{Answers, replies_by, state_after}

-- such a machine's replies to some lines, and the machine after them, are those of the function
pub answers_of_function : {M S : Type 0} (R : M → Text → Text → M → Type 0) (view : M → S) (step : S → Text → Text × S)
    → ((m n : M) (line text : Text) → R m line text n → step (view m) line ≡ (text, view n))
    → (m n : M) (lines texts : List Text) → Answers R m lines texts n
    → (texts ≡ replies_by step (view m) lines) × (view n ≡ state_after step (view m) lines)
answers_of_function R view step is m n [] [] p = (refl, ap view p)
answers_of_function R view step is m n [] (text ∷ texts) p = absurd p
answers_of_function R view step is m n (line ∷ lines) [] p = absurd p
answers_of_function R view step is m n (line ∷ lines) (text ∷ texts) p =
    let here = is m p.0 line text p.1.0 in
    let rest = answers_of_function R view step is p.0 n lines texts p.1.1 in
    let state : (step (view m) line).1 ≡ view p.0 = ap (λ o. o.1) here in
    let reply : (step (view m) line).0 ≡ text = ap (λ o. o.0) here in (
      ap (λ t. t ∷ texts) (sym reply) ∙ ap (λ ts. (step (view m) line).0 ∷ ts) (rest.0 ∙ ap (λ s. replies_by step s lines) (sym state)),
      rest.1 ∙ ap (λ s. state_after step s lines) (sym state),
    )
