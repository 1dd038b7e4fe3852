use Rattle.std.proofs.Common.{◌≡◌, ◌<◌, ◌-◌, ◌∙◌, sym, ap, subst, drop, get_or, length, arith}
use Rattle.std.proofs.lemmas.Grind.{common_steps}
use Rattle.std.proofs.lemmas.List.{take_rest}
use Rattle.wb_script.specs.ResolvedLines.{count_of, with_operands}
use Rattle.wb_script.proofs.names.LinesOfRows.{last_counted, last_line, one_for_each}
use Rattle.wb_script.proofs.checks.resolved_lines.ResolvedLines.last.Goals as goal

pub overflow_sub-first : goal.overflow_sub-first
overflow_sub-first c =
    let rows = c.self.inside.rows.items in
    let row = c.index-row.result.now in
    let many : c.len.result ≡ length rows = grind (arith, common_steps, c.len.ensures) in
    let all : c.len-2.result ≡ length c.self.inside.operands.items = grind (arith, common_steps, c.len-2.ensures) in
    let some : 0 < length rows = subst (λ n. 0 < n) (sym (ap length c.self.view_is) ∙ one_for_each rows c.self.inside.operands.items) c.requires in
    let is = c.index-row.ensures ∙ ap (λ n. get_or rows (n - 1) row) many in
    omega (arith, all, c.self.invariant, last_counted rows row some is, c.operand_count.ensures)

pub returns : goal.returns
returns c = λ before line lines.
    let rows = c.self.inside.rows.items in
    let operands = c.self.inside.operands.items in
    let row = c.index-row.result.now in
    let many : c.len.result ≡ length rows = grind (arith, common_steps, c.len.ensures) in
    let all : c.len-2.result ≡ length operands = grind (arith, common_steps, c.len-2.ensures) in
    let some : 0 < length rows = subst (λ n. 0 < n) (sym (ap length c.self.view_is) ∙ one_for_each rows operands) c.requires in
    let is = c.index-row.ensures ∙ ap (λ n. get_or rows (n - 1) row) many in
    let first : c.len-2.result - c.operand_count.result ≡ length operands - count_of row = omega (arith, all, c.operand_count.ensures) in
    c.line_with.ensures
    ∙ ap (with_operands row) (take_rest c.deref.result.now (c.len-2.result - c.operand_count.result))
    ∙ ap (λ l. with_operands row (drop (c.len-2.result - c.operand_count.result) l)) c.deref.ensures.value
    ∙ ap (λ n. with_operands row (drop n operands)) first
    ∙ last_line rows row operands before line c.self.invariant some is (c.self.view_is ∙ lines)
