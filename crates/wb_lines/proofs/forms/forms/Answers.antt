use Rattle.std.proofs.Common.{take, ap, ◌∙◌, sym}
use Rattle.std.proofs.lemmas.List.{map_more, map-append, take_all}
use Rattle.wb_language.specs.Forms.{line_form, forms_of}
use Rattle.wb_lines.specs.BytesOf.{bytes_of_text, bytes_of_texts}
use Rattle.wb_lines.proofs.forms.forms.Goals as goal

pub loop-line-preserved : goal.loop-line-preserved
loop-line-preserved c =
    let lines = c.args.lines.now in
    let at = c.loop-line.line-index in
    rw (c.in_ok-add_form.ensures, c.loop-line.invariant)
    (sym (ap forms_of (map_more bytes_of_text lines at _ c.loop-line-test.true) ∙ map-append line_form (bytes_of_texts (take at lines)) _))

pub returns : goal.returns
returns c = c.loop-line.invariant ∙ ap (λ l. forms_of (bytes_of_texts l)) (take_all c.loop-line.line-index c.args.lines.now c.loop-line-test.false)
