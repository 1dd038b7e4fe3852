use Rattle.std.proofs.Common.{◌≡◌, fold, take}
use Rattle.clap.specs.Words.{app_of}
use Rattle.wb_command_line.specs.CommandLine.{with_level}
use Rattle.wb_command_line.proofs.command_line.parser.with_levels.Given as goal

abbrev pub invariant-loop-level : goal.invariant-loop-level
invariant-loop-level l = app_of l.line ≡ fold with_level (app_of l.initial.line) (take l.level-index l.levels)
