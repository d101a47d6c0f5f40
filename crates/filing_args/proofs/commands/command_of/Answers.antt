use Rattle.std.proofs.Common.{◌∙◌, List, ap, ap₂, map, sym}
use Rattle.std.proofs.lemmas.List.{map_more, take_all}
use Rattle.clap.specs.Words.{with_rule}
use Rattle.clap.specs.Simple.{app_of_fields}
use Rattle.filing_args.specs.Arguments.{rule_for}
use Rattle.filing_args.specs.Words.{taking}
use Rattle.filing_args.specs.declared.arguments.Argument.{Argument}
use Rattle.filing_args.proofs.commands.command_of.Goals as goal

pub loop-argument-init : goal.loop-argument-init
loop-argument-init c =
    ap app_of_fields c.after_long_help-command.ensures ∙ ap app_of_fields c.about.ensures ∙ c.new.ensures.app

pub loop-argument-preserved : goal.loop-argument-preserved
loop-argument-preserved c =
    let at = c.loop-argument in
    c.in_ok-command.ensures.shape c.clap_arg.ensures.local ∙ ap₂ with_rule at.invariant c.clap_arg.ensures.rule
    ∙ ap (taking c.args.name.now) (sym (map_more rule_for c.args.arguments.now at.argument-index _ c.loop-argument-test.true))

pub returns : goal.returns
returns c =
    c.loop-argument.invariant
    ∙ ap (λ (l : List Argument). taking c.args.name.now (map rule_for l)) (take_all _ _ c.loop-argument-test.false)
