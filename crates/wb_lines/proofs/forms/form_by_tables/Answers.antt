use Rattle.std.proofs.Common.{sym, arith}
use Rattle.wb_lines.specs.BytesOf.{bytes_of_texts}
use Rattle.wb_lines.proofs.FirstBytes.{form_by_first, form_without_first}
use Rattle.wb_lines.proofs.forms.form_by_tables.Goals as goal

pub returns-in-empty : goal.returns-in-empty
returns-in-empty c = sym (form_without_first (bytes_of_texts c.args.words.now) c.args.first.now c.in-empty.len_below)

pub returns-in-len1-up : goal.returns-in-len1-up
returns-in-len1-up c =
    rw (c.line_kinds_with_first.ensures, form_by_first (bytes_of_texts c.args.words.now) c.args.first.now (omega (arith, c.in-len1-up.len_at_least))) at c.form_in.ensures
