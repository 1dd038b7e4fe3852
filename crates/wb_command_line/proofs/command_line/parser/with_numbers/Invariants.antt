use Rattle.std.proofs.Common.{◌≡◌, fold, take}
use Rattle.clap.specs.Words.{app_of}
use Rattle.clap.specs.declared.builder.command.Command.TheViews.{out-Command as fields_of}
use Rattle.wb_command_line.specs.CommandLine.{with_option}
use Rattle.wb_command_line.proofs.command_line.parser.with_numbers.Given as goal

abbrev pub invariant-loop-option : goal.invariant-loop-option
invariant-loop-option l = record {
  added : app_of l.line ≡ fold with_option (app_of l.initial.line) (take l.option-index l.options);
  own : (fields_of l.line).has_globals ≡ (fields_of l.initial.line).has_globals;
}
