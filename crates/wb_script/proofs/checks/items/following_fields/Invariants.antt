use Rattle.std.proofs.Common.{◌≡◌, ◌++◌, drop}
use Rattle.wb_language.specs.Names.{following_fields}
use Rattle.wb_lines.specs.BytesOf.{bytes_of_texts, bytes_of_forms}
use Rattle.wb_script.proofs.checks.items.following_fields.Given as goal

abbrev pub invariant-loop-form : goal.invariant-loop-form
invariant-loop-form l = bytes_of_texts l.found.items ++ following_fields (bytes_of_forms (drop l.form-index l.forms)) ≡ following_fields (bytes_of_forms l.forms)
