-- A run, step by step.
use Rattle.std.proofs.Common.{◌≡◌, ◌∙◌, ap, sym, subst, refl, cond, Bool, true, false, not, length, List, [], ◌∷◌, ◌++◌, append-nil, append_assoc}
use Rattle.std.specs.Prelude.{string_bytes}
use Rattle.filing_step.specs.Steps.{step_of}
use Rattle.filing_office.specs.declared.outcome.Outcome.{Outcome}
use Rattle.filing_office.specs.declared.work.DeskStep.{DeskStep}
use Rattle.filing_office.specs.Runs.{RunState, Goes, Runs, RanAfter, is_no_memory}

-- what the rest of the steps makes of the state as it is, all of them make of the first, after these outcomes
pub record RunsOn {J : Type 0} (start now : RunState) (before : List (Outcome J)) (all rest : List DeskStep)
    (told : List (Outcome J)) : Type 0 where
  pub so_far : List (Outcome J)
  pub are : told ≡ before ++ so_far
  pub on : (t : RunState) (os : List (Outcome J)) → Runs now t told rest os → Runs start t before all (so_far ++ os)

pub begins : {J : Type 0} (s : RunState) (all : List DeskStep) (told : List (Outcome J)) → RunsOn s s told all all told
begins s all told = record { so_far = []; are = sym (append-nil told); on = λ t os runs. runs }

module _ {J : Type 0} (start now mid : RunState) (before : List (Outcome J)) (all rest : List DeskStep) (x : DeskStep)
    (told : List (Outcome J)) (o : Outcome J) (run : RunsOn start now before all (x ∷ rest) told)
    (goes : Goes now mid told (string_bytes x.name) (step_of x.step) o) where
  one_more : told ++ o ∷ [] ≡ before ++ (run.so_far ++ o ∷ [])
  one_more = ap (λ os. os ++ o ∷ []) run.are ∙ append_assoc before run.so_far (o ∷ [])

  pub goes_on : is_no_memory o ≡ false → RunsOn start mid before all rest (told ++ o ∷ [])
  goes_on more = record {
    so_far = run.so_far ++ o ∷ [];
    are = one_more;
    on = λ t os runs.
        subst (λ xs. Runs start t before all xs) (sym (append_assoc run.so_far (o ∷ []) os))
        (run.on t (o ∷ os) (
          mid,
          goes,
          subst (λ b. cond b ((os ≡ []) × (t ≡ mid)) (Runs mid t (told ++ o ∷ []) rest os)) (sym more) runs,
        ));
  }

  pub stops : is_no_memory o ≡ true → RanAfter start mid before all (told ++ o ∷ [])
  stops last =
      let none : List (Outcome J) = [] in (
        run.so_far ++ o ∷ [],
        run.on mid (o ∷ []) (
          mid,
          goes,
          subst (λ b. cond b ((none ≡ []) × (mid ≡ mid)) (Runs mid mid (told ++ o ∷ []) rest [])) (sym last) (refl, refl),
        ),
        one_more,
      )

pub ends : {J : Type 0} (start now : RunState) (before : List (Outcome J)) (all : List DeskStep) (told : List (Outcome J))
    → RunsOn start now before all [] told → RanAfter start now before all told
ends start now before all told run = (run.so_far ++ [], run.on now [] (refl, refl), run.are ∙ ap (λ os. before ++ os) (sym (append-nil run.so_far)))

pub not_from_true : (b : Bool) → not b ≡ true → b ≡ false
not_from_true true is = sym is
not_from_true false is = refl

pub not_from_false : (b : Bool) → not b ≡ false → b ≡ true
not_from_false true is = refl
not_from_false false is = sym is

pub no_items : {X : Type 0} (xs : List X) → 0 ≡ length xs → xs ≡ []
no_items [] none = refl
no_items (x ∷ xs) none = absurd (cc none)
