use Rattle.std.proofs.Common.{◌∙◌, ◌+◌, ap, sym, subst, take}
use Rattle.std.proofs.lemmas.List.{take_all}
use Rattle.wb_script.specs.Checks.{AreChecked}
use Rattle.wb_lines.specs.BytesOf.{bytes_of_form, bytes_of_forms}
use Rattle.wb_script.specs.BytesOf.{bytes_of_items}
use Rattle.wb_script.proofs.lists.Passes.{map_more}
use Rattle.wb_script.proofs.checks.checked_lines.Goals as goal

pub loop-form-init : goal.loop-form-init
loop-form-init c = record {
  checked = c.in_ok-checked.ensures.checked (bytes_of_items c.args.items.now);
  items = c.in_ok-checked.ensures.items;
  lines = c.in_ok-checked.ensures.lines;
}

pub loop-form-preserved : goal.loop-form-preserved
loop-form-preserved c =
    let before = take c.loop-form.form-index c.args.forms.now in
    let longer = map_more bytes_of_form c.args.forms.now c.loop-form.form-index c.form-item.result c.loop-form-test.true c.form-item.is in
    record {
      checked = subst (λ l. AreChecked (bytes_of_items c.args.items.now) l c.add_line.new.self) (sym longer) (c.in_ok-add_line.ensures.checked (bytes_of_forms before) c.loop-form.invariant.checked);
      items = c.in_ok-add_line.ensures.items;
      lines = c.in_ok-add_line.ensures.lines ∙ ap (λ n. n + 1) c.loop-form.invariant.lines;
    }

pub returns : goal.returns
returns c =
    subst (λ l. AreChecked (bytes_of_items c.args.items.now) (bytes_of_forms l) c.loop-form.checked) (take_all c.loop-form.form-index c.args.forms.now c.loop-form-test.false) c.loop-form.invariant.checked
