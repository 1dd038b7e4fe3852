use Rattle.std.proofs.Common.{◌≡◌, ◌+◌, [], ap, sym, subst, ◌∙◌, get_or}
use Rattle.std.specs.Prelude.{unwrap_or}
use Rattle.std.specs.Option.{option_copied}
use Rattle.std.proofs.lemmas.Option.{unwrap_or-slice_get}
use Rattle.wb_hbuf.specs.Sources.{IsReadable, base_units, from_of}
use Rattle.wb_hbuf.proofs.Drafts.{text-has}
use Rattle.wb_hbuf.proofs.ReadUnits.{source-unit}
use Rattle.wb_hbuf.proofs.reading.foreign_unit.Goals as goal

pub text_unit-requires : goal.text_unit-requires
text_unit-requires c = text-has c.in-Cell.ptr c.args.heap.now (subst (λ s. IsReadable c.args.heap.now s) c.in-Cell.is c.requires.source.readable)

pub returns-in-Some : goal.returns-in-Some
returns-in-Some c =
    let d = c.args.heap.now in
    let read : c.in-Some.unit.now ≡ get_or c.in-Literal.chars.now (c.in-Literal.from + c.args.i) 0 =
    ap (λ o. unwrap_or o 0) (sym (ap option_copied c.in-Some.is) ∙ c.get.ensures) ∙ unwrap_or-slice_get c.in-Literal.chars.now (c.in-Literal.from + c.args.i) 0 in
    c.from.ensures ∙ read ∙ sym (ap (λ s. get_or (base_units d [] s) (from_of s + c.args.i) 0) c.in-Literal.is)
    ∙ sym (source-unit d [] c.args.source c.args.i c.requires.within)

pub returns-in-None : goal.returns-in-None
returns-in-None c =
    let d = c.args.heap.now in
    let read : 0 ≡ get_or c.in-Literal.chars.now (c.in-Literal.from + c.args.i) 0 =
    ap (λ o. unwrap_or o 0) (sym (ap option_copied c.in-None.is) ∙ c.get.ensures) ∙ unwrap_or-slice_get c.in-Literal.chars.now (c.in-Literal.from + c.args.i) 0 in
    read ∙ sym (ap (λ s. get_or (base_units d [] s) (from_of s + c.args.i) 0) c.in-Literal.is) ∙ sym (source-unit d [] c.args.source c.args.i c.requires.within)

pub returns-in-Cell : goal.returns-in-Cell
returns-in-Cell c =
    let d = c.args.heap.now in
    c.text_unit.ensures ∙ sym (ap (λ s. get_or (base_units d [] s) (from_of s + c.args.i) 0) c.in-Cell.is)
    ∙ sym (source-unit d [] c.args.source c.args.i c.requires.within)
