-- What clap reads of an argument in the table of `src/arguments.rt`.
use Rattle.clap.specs.Words.{Rule, Text}
use Rattle.clap.specs.declared.builder.action.ArgAction.TheVariants.{Append, Set}
use Rattle.filing_args.specs.Words.{flag_rule, needed_rule, option_rule, optional_word_rule, repeated_rule, word_rule}
use Rattle.filing_args.specs.declared.arguments.Argument.{Argument}
use Rattle.filing_args.specs.declared.arguments.Form.{Form}
use Rattle.filing_args.specs.declared.arguments.Form.TheVariants.{Flag, Optional, Repeated, Needed, OptionalWord, Word, Words}

abbrev pub rule_by : Text → Form → Rule
rule_by id (Flag long) = flag_rule id long.now
rule_by id (Optional long value) = option_rule id long.now
rule_by id (Repeated long value) = repeated_rule id long.now
rule_by id (Needed long value) = needed_rule id long.now
rule_by id (OptionalWord value) = optional_word_rule id
rule_by id (Word value) = word_rule id Set
rule_by id (Words value) = word_rule id Append

abbrev pub rule_for : Argument → Rule
rule_for argument = rule_by argument.id.now argument.form
