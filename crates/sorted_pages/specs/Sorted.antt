-- Plain sorted lists, in the words of std: each entry is its own key.
use Rattle.std.specs.Prelude.{T, Bool, List, [], ◌∷◌, map}
use Rattle.std.specs.declared.cmp.Ordering.{Ordering}
use Rattle.std.specs.FinMap.Entries.{below_all, is_sorted}

-- the entries, each under itself
abbrev pub keyed : {E : Type 0} → List E → List (E × E)
keyed es = map (λ e. (e, e)) es

-- the entries, without their keys
abbrev pub entries : {E : Type 0} → List (E × E) → List E
entries ps = map (λ p. p.1) ps

-- each entry is less than those after it
abbrev pub IsRising : {E : Type 0} → (E → E → Ordering) → List E → Type 0
IsRising R es = T (is_sorted R (keyed es))

-- whether x is less than each of these
abbrev pub is_below : {E : Type 0} → (E → E → Ordering) → E → List E → Bool
is_below R x es = below_all R x (keyed es)

-- each of the first entries is less than each of the others
abbrev pub AllBelow : {E : Type 0} → (E → E → Ordering) → List E → List E → Type 0
AllBelow R [] ys = Unit {0}
AllBelow R (x ∷ xs) ys = T (is_below R x ys) × AllBelow R xs ys

-- what is less than each of the first entries is less than each of the others
abbrev pub PassesBelow : {E : Type 0} → (E → E → Ordering) → List E → List E → Type 0
PassesBelow {E} R ys zs = (x : E) → T (is_below R x ys) → T (is_below R x zs)
