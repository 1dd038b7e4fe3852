use Rattle.std.proofs.Common.{◌≡◌, drop}
use Rattle.wb_language.specs.Forms.{form_in}
use Rattle.wb_lines.specs.BytesOf.{bytes_of_texts}
use Rattle.wb_lines.proofs.forms.form_in.Given as goal

abbrev pub invariant-loop-line_kind : goal.invariant-loop-line_kind
invariant-loop-line_kind l = form_in (drop l.line_kind-index l.line_kinds) l.first (bytes_of_texts l.words) ≡ form_in l.line_kinds l.first (bytes_of_texts l.words)
