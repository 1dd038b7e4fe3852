use Rattle.std.proofs.Common.{◌≡◌, take}
use Rattle.wb_language.specs.Forms.{forms_of}
use Rattle.wb_lines.specs.BytesOf.{bytes_of_texts, bytes_of_forms}
use Rattle.wb_lines.proofs.forms.forms.Given as goal

abbrev pub invariant-loop-line : goal.invariant-loop-line
invariant-loop-line l = bytes_of_forms l.found.items ≡ forms_of (bytes_of_texts (take l.line-index l.lines))
