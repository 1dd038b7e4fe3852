use Rattle.std.proofs.Common.{sym, ◌∙◌}
use Rattle.wb_lines.specs.BytesOf.{bytes_of_text, bytes_of_texts}
use Rattle.wb_lines.proofs.BytesOf.{map_some}
use Rattle.wb_script.proofs.lists.ListLoops.{all_fields, field_found, line_skipped, fields_end}
use Rattle.wb_script.proofs.checks.items.following_fields.Goals as goal
use Rattle.wb_script.proofs.checks.items.following_fields.Goals.{in-Field+in_ok-add_some-in-Field, in-Skip}

pub loop-form-preserved : goal.loop-form-preserved
loop-form-preserved c =
    let forms = c.args.forms.now in
    let at = c.loop-form.form-index in
    let found = c.loop-form.found.items in
    elim c.match-role.branch [
      | in-Field+in_ok-add_some-in-Field w ↦
          rw (w.found-is, w.in_ok-add_some-in-Field.ensures, map_some bytes_of_text found w.first_name.result, w.first_name.ensures)
          (field_found forms at (bytes_of_texts found) _ c.loop-form.invariant c.form-item.result c.loop-form-test.true c.form-item.is (sym c.role.ensures ∙ w.in-Field.is))
      | in-Skip w ↦
          rw w.found-is (line_skipped forms at (bytes_of_texts found) _ c.loop-form.invariant c.form-item.result c.loop-form-test.true c.form-item.is (sym c.role.ensures ∙ w.in-Skip.is))
    ]

pub returns-in_default : goal.returns-in_default
returns-in_default c =
    fields_end c.args.forms.now c.loop-form.form-index (bytes_of_texts c.loop-form.found.items) _ c.loop-form.invariant c.form-item.result c.loop-form-test.true c.form-item.is
    (λ e. c.in_default.not-Skip (c.role.ensures ∙ e)) (λ e. c.in_default.not-Field (c.role.ensures ∙ e))

pub returns : goal.returns
returns c = all_fields c.args.forms.now c.loop-form.form-index _ _ c.loop-form.invariant c.loop-form-test.false
