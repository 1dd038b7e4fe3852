use Rattle.std.proofs.Common.{◌≡◌, ◌≤◌, length, take}
use Rattle.wb_lines.specs.BytesOf.{bytes_of_forms}
use Rattle.wb_script.specs.BytesOf.{bytes_of_items}
use Rattle.wb_language.specs.Names.{items_before}
use Rattle.wb_script.specs.Checks.{known_in, AreChecked}
use Rattle.wb_script.proofs.checks.checked_lines.Given as goal

abbrev pub invariant-loop-form : goal.invariant-loop-form
invariant-loop-form l = record {
  checked : AreChecked (bytes_of_items l.items) (bytes_of_forms (take l.form-index l.forms)) l.checked;
  items : items_before (known_in l.checked.known) ≤ length l.checked.lines;
  lines : length l.checked.lines ≡ l.form-index;
}
