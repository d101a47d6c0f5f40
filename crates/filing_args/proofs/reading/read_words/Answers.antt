use Rattle.std.proofs.Common.{IfOk, map, string_bytes, subst}
use Rattle.clap.specs.Words.{app_of}
use Rattle.filing_args.specs.Words.{IsOrdered}
use Rattle.filing_args.proofs.Entered.{asks_command, asks_shown}
use Rattle.filing_args.proofs.Program.{program_enters, program_fails, program_passes, program_takes}
use Rattle.filing_args.proofs.reading.read_words.Goals as goal

pub returns-in-Ok : goal.returns-in-Ok
returns-in-Ok g c =
    let words = map string_bytes c.args.words.now in
    let line = app_of c.in_ok-command.command in
    let is = c.in_ok-command.ensures in
    let enters = program_enters line words c.in-Ok.matches is c.in-Ok.ensures.ok.2 in
    asks_command words c.invocation_of-order.result (program_takes line words is c.in-Ok.ensures.kinds)
    (subst (λ entered. IfOk c.invocation_of-order.result (IsOrdered entered)) enters c.invocation_of-order.ensures)

pub returns-in-Err : goal.returns-in-Err
returns-in-Err g c =
    let words = map string_bytes c.args.words.now in
    let line = app_of c.in_ok-command.command in
    let is = c.in_ok-command.ensures in
    let error = c.in-Err.error in
    asks_shown words error.kind c.show_error-order.result (program_passes line words error is c.in-Err.ensures.passes)
    (program_fails line words error is c.in-Err.ensures.kinds) c.show_error-order.ensures.shown c.show_error-order.ensures.asked
