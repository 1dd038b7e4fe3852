use Rattle.std.proofs.Common.{rules, ◌≡◌, ◌∙◌, ◌++◌, refl, ap, subst}
use Rattle.std.specs.Prelude.{IfOk}
use Rattle.clap.specs.Words.{App, app_of, new_app, with_rule}
use Rattle.wb_command_line.specs.CommandLine.{file_argument, own_options, shared_options, with_rules}
use Rattle.wb_command_line.specs.declared.command_line.parser.Takes.{Takes}
use Rattle.wb_command_line.specs.declared.command_line.parser.Takes.TheVariants as taking
use Rattle.wb_command_line.proofs.command_line.parser.subcommand.Goals as goal

-- its own options and then the shared ones are all of them
together : (line : App) (takes : Takes) → with_rules (with_rules line (own_options takes)) shared_options ≡ with_rules line (own_options takes ++ shared_options)
together line taking.Rule = refl
together line taking.Failures = refl
together line taking.Part = refl
together line taking.Neither = refl

pub returns-clause-words : goal.returns-clause-words
returns-clause-words c =
    let start : app_of c.in_ok-line.line ≡ with_rule (new_app c.args.level.now.name.now) file_argument = search rules in
    let ruled = c.in_ok-line-2.ensures.added ∙ ap (λ line. with_rules line (own_options c.args.level.now.takes)) start in
    let whole = ap (λ line. with_rules line shared_options) ruled ∙ together (with_rule (new_app c.args.level.now.name.now) file_argument) c.args.level.now.takes in
    subst (λ (a : App). IfOk c.with_shared_options.result (λ line. app_of line ≡ a)) whole c.with_shared_options.ensures.added
