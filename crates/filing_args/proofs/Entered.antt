-- From what clap says of a parse to what the words ask for.
use Rattle.std.proofs.Common.{◌≡◌, ◌⊎◌, refl, inl, inr, ap, ap₂, subst, sym, unwrap_or, Bool, true, false, List, []}
use Rattle.std.proofs.Common.{Option, Some, None, Result, Ok, Err, IfOk, codes, option_map}
use Rattle.clap.specs.Words.{Row, Text, IsAmong, all_of, fault_of, subcommand_of, takes}
use Rattle.clap.specs.declared.error.kind.ErrorKind.{ErrorKind}
use Rattle.clap.specs.declared.error.kind.ErrorKind.TheVariants.{DisplayHelp, DisplayVersion, OutOfMemory}
use Rattle.filing_args.specs.Words.{Asks, IsOrdered, program, tables_of}
use Rattle.filing_args.specs.declared.fault.WordsFault.{WordsFault}
use Rattle.filing_args.specs.declared.invocation.Invocation.{Invocation}
use Rattle.filing_args.specs.declared.invocation.Invocation.TheVariants.{Shown}

-- two values that are read of one, from each of them
pub both_read : {A B C : Type 0} (f : A → B) (g : A → C) (o : Option A) (x : B) (y : C)
    → option_map f o ≡ Some x → option_map (λ (p : B × C). p.1) (option_map {U = B × C} (λ a. (f a, g a)) o) ≡ Some y
    → option_map {U = B × C} (λ a. (f a, g a)) o ≡ Some (x, y)
both_read f g None x y first second = cc
both_read {A} {B} {C} f g (Some a) x y first second =
    let some_both : B → C → Option (B × C) = λ b c. Some (b, c) in
    ap₂ some_both (ap (λ (o : Option B). unwrap_or o (f a)) first) (ap (λ (o : Option C). unwrap_or o (g a)) second)

-- the values of the option are the files of tables, of which there is none where it was not given
pub tables_read : (rows : List Row) (given : Option (List Text)) → given ≡ all_of (codes "numeric") rows → unwrap_or given [] ≡ tables_of rows
tables_read rows given is = ap (λ (o : Option (List Text)). unwrap_or o []) is

-- words of which none is wrong ask for the command that a parse of them entered
pub asks_command : (words : List Text) (r : Result Invocation WordsFault) → fault_of program words ≡ []
    → IfOk r (IsOrdered (subcommand_of program words)) → IfOk r (Asks words)
asks_command words (Ok Shown) none ordered = absurd ordered
asks_command words (Ok command) none ordered = (none, ordered)
asks_command words (Err fault) none ordered = tt

-- an error by which help is shown is none of memory
not_taken : (kind : ErrorKind) (taken : Bool) → (taken ≡ true → kind ≡ OutOfMemory) → (kind ≡ DisplayHelp) ⊎ (kind ≡ DisplayVersion)
    → taken ≡ false
not_taken kind false passes help = refl
not_taken kind true passes (inl h) = let full : kind ≡ OutOfMemory = passes refl in cc
not_taken kind true passes (inr v) = let full : kind ≡ OutOfMemory = passes refl in cc

answered : (words : List Text) (kind : ErrorKind) → (kind ≡ DisplayHelp) ⊎ (kind ≡ DisplayVersion)
    → (kind ≡ OutOfMemory) ⊎ IsAmong kind (fault_of program words)
    → IsAmong DisplayHelp (fault_of program words) ⊎ IsAmong DisplayVersion (fault_of program words)
answered words kind (inl h) (inl full) = cc
answered words kind (inr v) (inl full) = cc
answered words kind (inl h) (inr is) = inl (subst (λ (k : ErrorKind). IsAmong k (fault_of program words)) h is)
answered words kind (inr v) (inr is) = inr (subst (λ (k : ErrorKind). IsAmong k (fault_of program words)) v is)

-- words that are answered with help ask for what is shown
pub asks_shown : (words : List Text) (kind : ErrorKind) (r : Result Invocation WordsFault)
    → (takes program words ≡ true → kind ≡ OutOfMemory) → (kind ≡ OutOfMemory) ⊎ IsAmong kind (fault_of program words)
    → IfOk r (λ o. o ≡ Shown) → IfOk r (λ _. (kind ≡ DisplayHelp) ⊎ (kind ≡ DisplayVersion)) → IfOk r (Asks words)
asks_shown words kind (Ok order) passes fails shown help =
    subst (Asks words) (sym shown) (not_taken kind (takes program words) passes help, answered words kind help fails)
asks_shown words kind (Err fault) passes fails shown help = tt
