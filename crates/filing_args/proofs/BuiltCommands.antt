-- Commands that are built of other commands.
use Rattle.std.proofs.Common.{◌≡◌, ◌∙◌, ap, ap₂, true, Result, Ok, Err, IfOk, IsOkAnd}
use Rattle.clap.specs.Words.{AddsSubcommand, App, app_of, with_subcommand}
use Rattle.clap.specs.declared.builder.command.Command.{Command}
use Rattle.clap.proofs.SimpleLemmas.{is_false}
use Rattle.clap.proofs.WalkLemmas.{both}

-- one command below it more, none of whose arguments is one of all commands, since it is plain
pub with_command : (app below : App) (old sub new : Command) → AddsSubcommand old sub new → app_of old ≡ app → app_of sub ≡ below
    → below.top.is_plain ≡ true → app_of new ≡ with_subcommand app below.top
with_command app below old sub new added is under plain =
    let top = ap (λ (a : App). a.top) under in
    let sub_is_plain : (app_of sub).top.is_plain ≡ true = ap (λ (a : App). a.top.is_plain) under ∙ plain in
    added.shape (is_false _ (both _ _ (both _ _ (both _ _ sub_is_plain).1).1).0) ∙ ap₂ with_subcommand is top

-- the same, where what is below could be made
pub with_made : {E : Type 0} (app below : App) (old new : Command) (made : Result Command E) → IsOkAnd made (λ sub. AddsSubcommand old sub new)
    → app_of old ≡ app → IfOk made (λ sub. app_of sub ≡ below) → below.top.is_plain ≡ true → app_of new ≡ with_subcommand app below.top
with_made app below old new (Ok sub) added is under plain = with_command app below old sub new added is under plain
with_made app below old new (Err error) added is under plain = absurd added
