use Rattle.std.proofs.Common.{◌≡◌, ◌∙◌, Bool, ap, ap₂, subst}
use Rattle.std.specs.Prelude.{IfOk}
use Rattle.clap.specs.Words.{App, app_of, with_rule}
use Rattle.clap.specs.declared.builder.command.Command.TheViews.{out-Command as fields_of}
use Rattle.wb_command_line.specs.CommandLine.{failures_option, sets_flag, states_option}
use Rattle.wb_command_line.proofs.command_line.sets.with_sets.Goals as goal

-- the flag stands between the numbers
pub returns-clause-added : goal.returns-clause-added
returns-clause-added c =
    let sets : app_of c.in_ok-line-2.line ≡ with_rule (with_rule (app_of c.args.line) failures_option) sets_flag = c.in_ok-line-2.ensures.added ∙ ap₂ with_rule c.in_ok-line.ensures.added c.sets.ensures.rule in
    subst (λ (a : App). IfOk c.with_number-2.result (λ more. app_of more ≡ with_rule a states_option)) sets c.with_number-2.ensures.added

pub returns-clause-own : goal.returns-clause-own
returns-clause-own c =
    let own : (fields_of c.in_ok-line-2.line).has_globals ≡ (fields_of c.args.line).has_globals = c.in_ok-line-2.ensures.own ∙ c.in_ok-line.ensures.own in
    subst (λ (b : Bool). IfOk c.with_number-2.result (λ more. (fields_of more).has_globals ≡ b)) own c.with_number-2.ensures.own
