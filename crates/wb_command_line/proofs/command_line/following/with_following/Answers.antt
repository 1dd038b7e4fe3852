use Rattle.std.proofs.Common.{◌≡◌, ◌∙◌, ap, subst}
use Rattle.std.specs.Prelude.{IfOk}
use Rattle.clap.specs.Words.{App, app_of, with_rule}
use Rattle.wb_command_line.specs.CommandLine.{follow_around_option, follow_flag, follow_steps_option}
use Rattle.wb_command_line.proofs.command_line.following.with_following.Goals as goal

-- the flag comes first
pub returns-clause-added : goal.returns-clause-added
returns-clause-added c =
    let flagged : app_of c.in_ok-line.line ≡ with_rule (app_of c.args.line) follow_flag = c.in_ok-line.ensures.added ∙ ap (with_rule (app_of c.args.line)) c.follow.ensures.rule in
    subst (λ (a : App). IfOk c.with_numbers.result (λ more. app_of more ≡ with_rule (with_rule a follow_steps_option) follow_around_option)) flagged c.with_numbers.ensures.added
