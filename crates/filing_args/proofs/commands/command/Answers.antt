use Rattle.std.proofs.Common.{ap, codes, true, false, refl, ◌≡◌, ◌∙◌}
use Rattle.std.proofs.lemmas.Result.{IfOk-weaker}
use Rattle.clap.specs.Words.{App, app_of, new_app}
use Rattle.clap.specs.Simple.{app_of_fields}
use Rattle.filing_args.specs.Words.{check, diff, history, inspect, load, log, program, repair, run, seal, show, threads, verify, words}
use Rattle.filing_args.proofs.BuiltCommands.{with_made}
use Rattle.filing_args.proofs.commands.command.Goals as goal

pub returns : goal.returns
unfolding run load check show diff log verify history seal repair inspect threads words program
returns c =
    let dated = λ (a : App). record a { top = record a.top { has_version = true } } in
    let wants = λ (a : App). record a { top = record a.top { subcommand_required = true } } in
    let helps = λ (a : App). record a { top = record a.top { arg_required_else_help = false } } in
    let bare : app_of c.about.result ≡ new_app (codes "filing") = ap app_of_fields c.about.ensures ∙ c.new.ensures.app in
    let told : app_of c.after_long_help.result ≡ dated (new_app (codes "filing")) = ap app_of_fields c.after_long_help.ensures
    ∙ (ap app_of_fields c.version.ensures ∙ ap dated bare) in
    let top_is : app_of c.arg_required_else_help-bare.result ≡ wants (dated (new_app (codes "filing"))) = ap app_of_fields c.arg_required_else_help-bare.ensures
    ∙ ap helps (ap app_of_fields c.subcommand_required.ensures ∙ ap wants told) in
    let runs = with_made _ run _ _ _ c.in_ok-with_run.ensures top_is c.run_command.ensures refl in
    let loads = with_made _ load _ _ _ c.in_ok-with_load.ensures runs c.load_command.ensures refl in
    let threaded = with_made _ threads _ _ _ c.in_ok-with_threads.ensures loads c.threads_command.ensures refl in
    let checked = with_made _ check _ _ _ c.in_ok-with_check.ensures threaded c.check_command.ensures refl in
    let showing = with_made _ show _ _ _ c.in_ok-with_show.ensures checked c.show_command.ensures refl in
    let comparing = with_made _ diff _ _ _ c.in_ok-with_diff.ensures showing c.diff_command.ensures refl in
    let logging = with_made _ log _ _ _ c.in_ok-with_log.ensures comparing c.log_command.ensures refl in
    let verifying = with_made _ verify _ _ _ c.in_ok-with_verify.ensures logging c.verify_command.ensures refl in
    let writing = with_made _ history _ _ _ c.in_ok-with_history.ensures verifying c.history_command.ensures refl in
    let sealing = with_made _ seal _ _ _ c.in_ok-with_seal.ensures writing c.seal_command.ensures refl in
    let repairing = with_made _ repair _ _ _ c.in_ok-with_repair.ensures sealing c.repair_command.ensures refl in
    let inspecting = with_made _ inspect _ _ _ c.in_ok-with_inspect.ensures repairing c.inspect_command.ensures refl in
    IfOk-weaker c.with_below-13.result _ _ (λ r added. with_made _ words _ r _ added inspecting c.words_command.ensures refl)
    c.with_below-13.ensures
