use Rattle.std.proofs.Common.{◌≡◌, ◌∙◌, ◌+◌, ◌-◌, ◌++◌, ◌∷◌, [], List, refl, sym, ap, add-zero, length, length-append, arith}
use Rattle.std.proofs.lemmas.Grind.{common_steps}
use Rattle.std.proofs.lemmas.List.{length-map}
use Rattle.std.proofs.lemmas.Result.{on_ok_weaker}
use Rattle.std.specs.Borrow.{Bor}
use Rattle.wb_lines.specs.BytesOf.{bytes_of_form, bytes_of_operand, bytes_of_operands}
use Rattle.wb_tree.specs.declared.script_lines.Form.{Form}
use Rattle.wb_tree.specs.declared.script_lines.Form.TheVariants as form
use Rattle.wb_tree.specs.declared.script_lines.Referent.{Referent}
use Rattle.wb_language.specs.LineKinds.{operand_places_for}
use Rattle.wb_language.specs.Names.{Text}
use Rattle.wb_language.specs.Resolved.{resolved_line, resolved_operands}
use Rattle.wb_script.specs.BytesOf.{bytes_of_items}
use Rattle.wb_script.specs.Checks.{known_in}
use Rattle.wb_script.specs.ResolvedLines.{counted_in, lines_of_rows, with_operands}
use Rattle.wb_script.specs.declared.checks.resolved_lines.Row.TheVariants as row
use Rattle.wb_script.proofs.names.LinesOfRows.{one_more_bare, one_more_counted, one_more_line}
use Rattle.wb_script.proofs.checks.resolved_lines.add_line.Goals as goal

pub returns-in-Skip-clause-lines : goal.returns-in-Skip-clause-lines
returns-in-Skip-clause-lines c =
    let rows = c.args.rows.now.items in
    let operands = c.args.operands.now.items in
    let line : (f : Form (Bor Text)) → List (Form Referent) = λ f. lines_of_rows rows operands ++ resolved_line (bytes_of_items c.args.items.now) (known_in c.args.known.now) (bytes_of_form f) ∷ [] in
    on_ok_weaker c.add.result (λ is. ap (λ l. lines_of_rows l operands) is ∙ one_more_bare rows operands row.Skip c.requires refl ∙ ap line (sym c.in-Skip.is)) c.add.ensures

pub returns-in-Skip-clause-counts : goal.returns-in-Skip-clause-counts
returns-in-Skip-clause-counts c =
    let rows = c.args.rows.now.items in
    on_ok_weaker c.add.result (λ is. ap counted_in is ∙ one_more_counted rows row.Skip ∙ add-zero (counted_in rows) ∙ c.requires) c.add.ensures

pub returns-in-Unknown-clause-lines : goal.returns-in-Unknown-clause-lines
returns-in-Unknown-clause-lines c =
    let rows = c.args.rows.now.items in
    let operands = c.args.operands.now.items in
    let line : (f : Form (Bor Text)) → List (Form Referent) = λ f. lines_of_rows rows operands ++ resolved_line (bytes_of_items c.args.items.now) (known_in c.args.known.now) (bytes_of_form f) ∷ [] in
    on_ok_weaker c.add-in-Unknown.result (λ is. ap (λ l. lines_of_rows l operands) is ∙ one_more_bare rows operands row.Unknown c.requires refl ∙ ap line (sym c.in-Unknown.is)) c.add-in-Unknown.ensures

pub returns-in-Unknown-clause-counts : goal.returns-in-Unknown-clause-counts
returns-in-Unknown-clause-counts c =
    let rows = c.args.rows.now.items in
    on_ok_weaker c.add-in-Unknown.result (λ is. ap counted_in is ∙ one_more_counted rows row.Unknown ∙ add-zero (counted_in rows) ∙ c.requires) c.add-in-Unknown.ensures

pub returns-in_ok-add_operands-in-Line-clause-lines :
    goal.returns-in_ok-add_operands-in-Line-clause-lines
returns-in_ok-add_operands-in-Line-clause-lines c =
    let rows = c.args.rows.now.items in
    let operands = c.args.operands.now.items in
    let items = bytes_of_items c.args.items.now in
    let known = known_in c.args.known.now in
    let kind = c.in-Line.line_kind in
    let words = c.as_slice.result.now in
    let found = resolved_operands items known kind (operand_places_for kind (length words)) (bytes_of_operands words) in
    let count = c.len.result - c.len-before.result in
    let longer : c.add_operands.new.found.items ≡ operands ++ found = c.in_ok-add_operands-in-Line.ensures in
    let before : c.len-before.result ≡ length operands = grind (arith, common_steps, c.len-before.ensures) in
    let after : c.len.result ≡ length c.add_operands.new.found.items = grind (arith, common_steps, c.len.ensures) in
    let counted : count ≡ length found = omega (arith, before, after, ap length longer ∙ length-append operands found) in
    let line : (f : Form (Bor Text)) → List (Form Referent) = λ f. lines_of_rows rows operands ++ resolved_line items known (bytes_of_form f) ∷ [] in
    let form_is : c.args.form.now ≡ form.Line kind words = cc in
    let here : with_operands (row.Line kind count) found ≡ resolved_line items known (bytes_of_form (form.Line kind words)) =
    ap (λ n. form.Line kind (resolved_operands items known kind (operand_places_for kind n) (bytes_of_operands words))) (sym (length-map words bytes_of_operand)) in
    on_ok_weaker c.add-in-Line.result (λ is.
    ap (λ l. lines_of_rows l c.add_operands.new.found.items) is ∙ ap (lines_of_rows (rows ++ row.Line kind count ∷ [])) longer
    ∙ one_more_line rows operands (row.Line kind count) found c.requires counted
    ∙ ap (λ l. lines_of_rows rows operands ++ l ∷ []) here
    ∙ ap line (sym form_is)) c.add-in-Line.ensures

pub returns-in_ok-add_operands-in-Line-clause-counts :
    goal.returns-in_ok-add_operands-in-Line-clause-counts
returns-in_ok-add_operands-in-Line-clause-counts c =
    let rows = c.args.rows.now.items in
    let count = c.len.result - c.len-before.result in
    let operands = c.args.operands.now.items in
    let words = c.as_slice.result.now in
    let found = resolved_operands (bytes_of_items c.args.items.now) (known_in c.args.known.now) c.in-Line.line_kind (operand_places_for c.in-Line.line_kind (length words)) (bytes_of_operands words) in
    let longer : c.add_operands.new.found.items ≡ operands ++ found = c.in_ok-add_operands-in-Line.ensures in
    let before : c.len-before.result ≡ length operands = grind (arith, common_steps, c.len-before.ensures) in
    let after : c.len.result ≡ length c.add_operands.new.found.items = grind (arith, common_steps, c.len.ensures) in
    let counted : counted_in rows + count ≡ length c.add_operands.new.found.items = omega (arith, c.requires, before, after, ap length longer ∙ length-append operands found) in
    on_ok_weaker c.add-in-Line.result (λ is. ap counted_in is ∙ one_more_counted rows (row.Line c.in-Line.line_kind count) ∙ counted) c.add-in-Line.ensures
