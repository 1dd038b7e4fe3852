use Rattle.std.proofs.Common.{◌∙◌, ap₂, sym}
use Rattle.clap.specs.Words.{app_of, with_rule}
use Rattle.wb_command_line.specs.CommandLine.{with_option}
use Rattle.wb_command_line.proofs.Folds.{fold_next}
use Rattle.wb_command_line.proofs.command_line.parser.with_numbers.Goals as goal

pub loop-option-preserved : goal.loop-option-preserved
loop-option-preserved c = record {
  added = c.in_ok-line.ensures.added ∙ ap₂ with_rule c.loop-option.invariant.added c.number.ensures.rule ∙ sym (fold_next with_option (app_of c.args.line) c.args.options.now c.loop-option.option-index _ c.loop-option-test.true);
  own = c.in_ok-line.ensures.own ∙ c.loop-option.invariant.own;
}
