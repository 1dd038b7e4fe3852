-- The lines of a script with what their names and literals stand for, as they are kept: a row for each line, and the operands of
-- all lines in one list.
use Rattle.std.specs.Prelude.{ℕ, ◌+◌, List, [], ◌∷◌, take, drop}
use Rattle.wb_tree.specs.declared.script_lines.Form.{Form}
use Rattle.wb_tree.specs.declared.script_lines.Form.TheVariants as form
use Rattle.wb_tree.specs.declared.script_lines.Operand.{Operand}
use Rattle.wb_tree.specs.declared.script_lines.Referent.{Referent}
use Rattle.wb_script.specs.declared.checks.resolved_lines.ResolvedLine.{ResolvedLine}
use Rattle.wb_script.specs.declared.checks.resolved_lines.ResolvedLine.TheVariants as lent
use Rattle.wb_script.specs.declared.checks.resolved_lines.Row.{Row}
use Rattle.wb_script.specs.declared.checks.resolved_lines.Row.TheVariants as row

-- a line that is lent, with operands of its own
abbrev pub form_of : ResolvedLine → Form Referent
form_of lent.Skip = form.Skip
form_of lent.Unknown = form.Unknown
form_of (lent.Line line_kind operands) = form.Line line_kind operands.now

-- how many operands the line of a row has
abbrev pub count_of : Row → ℕ
count_of (row.Line line_kind count) = count
count_of _ = 0

-- how many the lines of all these rows have
abbrev pub counted_in : List Row → ℕ
counted_in [] = 0
counted_in (r ∷ rows) = count_of r + counted_in rows

-- the line of a row with these operands
abbrev pub with_operands : Row → List (Operand Referent) → Form Referent
with_operands row.Skip operands = form.Skip
with_operands row.Unknown operands = form.Unknown
with_operands (row.Line line_kind count) operands = form.Line line_kind operands

-- the lines of rows: each takes its operands from the front of those that the lines before it leave
abbrev pub lines_of_rows : List Row → List (Operand Referent) → List (Form Referent)
lines_of_rows [] operands = []
lines_of_rows (r ∷ rows) operands = with_operands r (take (count_of r) operands) ∷ lines_of_rows rows (drop (count_of r) operands)
