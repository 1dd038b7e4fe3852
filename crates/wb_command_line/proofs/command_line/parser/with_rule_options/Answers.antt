-- Proof: with_rule_options. The numbers come first, and then the set.
use Rattle.std.proofs.Common.{◌≡◌, ◌∙◌, subst}
use Rattle.std.specs.Prelude.{IfOk}
use Rattle.clap.specs.Words.{App, Rule, app_of, with_rule}
use Rattle.wb_command_line.specs.CommandLine.{also_option, every_option, fail_from_option, fail_option, limit_option, set_option}
use Rattle.wb_command_line.proofs.command_line.parser.with_rule_options.Goals as goal

pub returns-clause-added : goal.returns-clause-added
returns-clause-added c =
    let line = app_of c.args.line in
    let numbers : app_of c.in_ok-line.line
    ≡ with_rule (with_rule (with_rule (with_rule (with_rule line limit_option) fail_option) also_option) every_option) fail_from_option =
    c.in_ok-line.ensures.added ∙ (λ i. with_rule (with_rule (with_rule (with_rule (with_rule line (c.up_to_ceiling.ensures i)) (c.up_to_ceiling-2.ensures i))
    (c.up_to_ceiling-3.ensures i)) (c.up_to_ceiling-4.ensures i)) (c.up_to_ceiling-5.ensures i)) in
    let more = subst (λ (r : Rule). IfOk c.with_argument.result (λ more. app_of more ≡ with_rule (app_of c.in_ok-line.line) r)) c.set_argument.ensures.rule
    c.with_argument.ensures.added in
    subst (λ (a : App). IfOk c.with_argument.result (λ more. app_of more ≡ with_rule a set_option)) numbers more
