use Rattle.std.proofs.Common.{◌≡◌, ◌∙◌, Bool, ap, ap₂, subst}
use Rattle.std.specs.Prelude.{IfOk}
use Rattle.clap.specs.Words.{App, app_of, with_rule}
use Rattle.clap.specs.declared.builder.command.Command.TheViews.{out-Command as fields_of}
use Rattle.wb_command_line.specs.CommandLine.{all_flag, ends_flag, pairs_flag, persistent_flag, rates_flag, set_options, with_rules}
use Rattle.wb_command_line.proofs.command_line.failures.with_failures.Goals as goal

-- the flags come first
pub returns-clause-added : goal.returns-clause-added
returns-clause-added c =
    let bare = app_of c.args.line in
    let rates : app_of c.in_ok-line.line ≡ with_rule bare rates_flag = c.in_ok-line.ensures.added ∙ ap (with_rule bare) c.rates.ensures.rule in
    let persistent : app_of c.in_ok-line-2.line ≡ with_rule (with_rule bare rates_flag) persistent_flag = c.in_ok-line-2.ensures.added ∙ ap₂ with_rule rates c.persistent.ensures.rule in
    let two = with_rule (with_rule bare rates_flag) persistent_flag in
    let pairs : app_of c.in_ok-line-3.line ≡ with_rule two pairs_flag = c.in_ok-line-3.ensures.added ∙ ap₂ with_rule persistent c.pairs.ensures.rule in
    let all : app_of c.in_ok-line-4.line ≡ with_rule (with_rule two pairs_flag) all_flag = c.in_ok-line-4.ensures.added ∙ ap₂ with_rule pairs c.all.ensures.rule in
    let ends : app_of c.in_ok-line-5.line ≡ with_rule (with_rule (with_rule two pairs_flag) all_flag) ends_flag = c.in_ok-line-5.ensures.added ∙ ap₂ with_rule all c.ends.ensures.rule in
    subst (λ (a : App). IfOk c.with_sets.result (λ more. app_of more ≡ with_rules a set_options)) ends c.with_sets.ensures.added

pub returns-clause-own : goal.returns-clause-own
returns-clause-own c =
    let own : (fields_of c.in_ok-line-5.line).has_globals ≡ (fields_of c.args.line).has_globals =
    c.in_ok-line-5.ensures.own ∙ (c.in_ok-line-4.ensures.own ∙ (c.in_ok-line-3.ensures.own ∙ (c.in_ok-line-2.ensures.own ∙ c.in_ok-line.ensures.own))) in
    subst (λ (b : Bool). IfOk c.with_sets.result (λ more. (fields_of more).has_globals ≡ b)) own c.with_sets.ensures.own
