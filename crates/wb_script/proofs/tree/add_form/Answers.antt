use Rattle.std.proofs.Common.{sym, subst}
use Rattle.wb_script.specs.ResolvedLines.{form_of}
use Rattle.wb_script.specs.declared.checks.resolved_lines.ResolvedLine.{ResolvedLine}
use Rattle.wb_script.specs.Growing.{Grows, declared_in_space}
use Rattle.wb_script.proofs.building.Growth.{skip_grows}
use Rattle.wb_script.proofs.tree.add_form.Goals as goal

pub returns-in-Skip : goal.returns-in-Skip
returns-in-Skip c =
    subst (λ (l : ResolvedLine). Grows (declared_in_space c.args.space) c.args.number (form_of l) c.args.building c.args.building) (sym c.in-Skip.is)
    (skip_grows (declared_in_space c.args.space) c.args.number c.args.building c.requires.sound c.requires.below)
