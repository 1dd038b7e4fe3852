use Rattle.std.proofs.Common.{◌∙◌, ap₂, sym}
use Rattle.clap.specs.Words.{App, app_of, with_subcommand}
use Rattle.wb_command_line.specs.CommandLine.{with_level}
use Rattle.wb_command_line.proofs.Folds.{fold_next}
use Rattle.wb_command_line.proofs.command_line.parser.with_levels.Goals as goal

pub loop-level-preserved : goal.loop-level-preserved
loop-level-preserved c =
    c.in_ok-line.ensures ∙ ap₂ (λ (a b : App). with_subcommand a b.top) c.loop-level.invariant c.in_ok-subcommand.ensures.words
    ∙ sym (fold_next with_level (app_of c.args.line) c.args.levels.now c.loop-level.level-index _ c.loop-level-test.true)
