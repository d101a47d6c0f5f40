-- Things that code has entered, as plain things.
use Rattle.std.proofs.Common.{◌≡◌, ◌∙◌, ap, refl, Bool, true, false, cond, ◌||◌, List, [], ◌∷◌, ◌++◌, map, Some}
use Rattle.std.specs.List.{list_any}
use Rattle.indexmap.specs.IndexSet.{insert_key}
use Rattle.filing_model.specs.Sessions.Things.{thing_eq, has_thing}
use Rattle.filing_step.specs.declared.thing.Thing.{Thing}
use Rattle.filing_step.specs.Steps.{thing_of}
use Rattle.filing_session.specs.States.{with_thing}

-- as code compares them
abbrev pub held_eq : Thing → Thing → Bool
held_eq a b = thing_eq (thing_of a) (thing_of b)

among : (t : Thing) (ts : List Thing) → list_any (held_eq t) ts ≡ has_thing (map thing_of ts) (thing_of t)
among t [] = refl
among t (x ∷ xs) = ap (λ b. held_eq t x || b) (among t xs)

mapped_more : (ts : List Thing) (t : Thing) → map thing_of (ts ++ t ∷ []) ≡ map thing_of ts ++ thing_of t ∷ []
mapped_more [] t = refl
mapped_more (x ∷ xs) t = ap (λ us. thing_of x ∷ us) (mapped_more xs t)

pub entered : (ts : List Thing) (t : Thing) → map thing_of (insert_key held_eq ts t) ≡ with_thing (map thing_of ts) (Some (thing_of t))
entered ts t = by (list_any (held_eq t) ts) ∙ ap (λ b. cond b (map thing_of ts) (map thing_of ts ++ thing_of t ∷ [])) (among t ts)
  where
    by : (b : Bool) → map thing_of (cond b ts (ts ++ t ∷ [])) ≡ cond b (map thing_of ts) (map thing_of ts ++ thing_of t ∷ [])
    by true = refl
    by false = mapped_more ts t
