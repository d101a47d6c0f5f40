use Rattle.std.proofs.Common.{◌≡◌, map, take}
use Rattle.clap.specs.Words.{app_of}
use Rattle.filing_args.specs.Arguments.{rule_for}
use Rattle.filing_args.specs.Words.{taking}
use Rattle.filing_args.proofs.commands.command_of.Given as goal

abbrev pub invariant-loop-argument : goal.invariant-loop-argument
invariant-loop-argument l = app_of l.command ≡ taking l.name (map rule_for (take l.argument-index l.arguments))
