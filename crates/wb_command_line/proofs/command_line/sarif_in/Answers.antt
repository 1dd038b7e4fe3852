use Rattle.std.proofs.Common.{◌≡◌, ◌∙◌, Some, rules, codes}
use Rattle.clap.specs.Words.{first_value, found_of}
use Rattle.clap.proofs.WalkLemmas.{first_value-rows}
use Rattle.wb_command_line.proofs.command_line.sarif_in.Goals as goal

pub returns-in_ok-copy_of-in-Some : goal.returns-in_ok-copy_of-in-Some
returns-in_ok-copy_of-in-Some c =
    let named : Some c.in_ok-copy_of-in-Some.field-0 ≡ first_value (found_of c.args.options.now) (codes "sarif") = search rules in
    named ∙ first_value-rows (found_of c.args.options.now) (codes "sarif")

pub returns-in-None : goal.returns-in-None
returns-in-None c = (rw c.in-None.is at c.get_str.ensures) ∙ first_value-rows (found_of c.args.options.now) (codes "sarif")
