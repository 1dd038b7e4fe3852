use Rattle.std.proofs.Common.{◌≡◌, sym, ap, ◌∙◌, length, arith}
use Rattle.std.proofs.lemmas.Grind.{common_steps}
use Rattle.wb_script.proofs.names.LinesOfRows.{one_for_each}
use Rattle.wb_script.proofs.checks.resolved_lines.ResolvedLines.len.Goals as goal

pub returns : goal.returns
returns c =
    let many : c.len.result ≡ length c.self.inside.rows.items = grind (arith, common_steps, c.len.ensures) in
    many ∙ sym (one_for_each c.self.inside.rows.items c.self.inside.operands.items) ∙ ap length c.self.view_is
