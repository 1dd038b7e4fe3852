use Rattle.std.proofs.Common.{◌≡◌, ◌++◌, drop}
use Rattle.wb_language.specs.Names.{items_of}
use Rattle.wb_lines.specs.BytesOf.{bytes_of_forms}
use Rattle.wb_script.specs.BytesOf.{bytes_of_items}
use Rattle.wb_script.proofs.checks.items.items_of.Given as goal

abbrev pub invariant-loop-index : goal.invariant-loop-index
invariant-loop-index l = bytes_of_items l.items.items ++ items_of (bytes_of_forms (drop l.index l.forms)) ≡ items_of (bytes_of_forms l.forms)
