use Rattle.std.proofs.Common.{◌≡◌, ◌+◌, ◌++◌, length, take, sym, ◌∙◌, arith, length-append}
use Rattle.std.proofs.lemmas.List.{length-take-le}
use Rattle.wb_heap_model.specs.TextCells.{text_at, max_at}
use Rattle.wb_heap_model.specs.Texts.{at_most}
use Rattle.wb_hbuf.specs.Sources.{source_units}
use Rattle.wb_hbuf.proofs.Drafts.{draft-has, draft-words}
use Rattle.wb_hbuf.proofs.WrittenUnits.{units-counted}
use Rattle.wb_hbuf.proofs.Edits.{edit-done, edit-refused, text-len, overwritten, at_most-fits, at_most-refuses}
use Rattle.wb_hbuf.proofs.hbuf.overwrite.Goals as goal

pub overflow_sub-text : goal.overflow_sub-text
overflow_sub-text c =
    omega (arith, c.requires.within, c.measure-text.ensures.room, c.measure-text.ensures.units.within, text-len c.args.ptr c.args.heap.now c.requires.text)

pub write_units-requires-clause-room : goal.write_units-requires-clause-room
write_units-requires-clause-room c =
    omega (
      arith,
      c.count-n.ensures,
      c.measure-text.ensures.room,
      c.if-text-at.false,
      c.requires.within,
      c.measure-text.ensures.units.within,
      text-len c.args.ptr c.args.heap.now c.requires.text,
    )

pub settle-requires-clause-units : goal.settle-requires-clause-units
settle-requires-clause-units c =
    draft-has c.args.ptr c.args.heap.now c.write_units.new.heap _ _ c.measure-text.ensures.units c.write_units.ensures c.measure-text.ensures.units.within

pub settle-requires-clause-most : goal.settle-requires-clause-most
settle-requires-clause-most c =
    omega (arith, draft-words c.args.ptr c.args.heap.now c.write_units.new.heap _ _ c.measure-text.ensures.units c.write_units.ensures, c.measure-text.ensures.small)

pub settle-requires-clause-room : goal.settle-requires-clause-room
settle-requires-clause-room c =
    omega (
      arith,
      draft-words c.args.ptr c.args.heap.now c.write_units.new.heap _ _ c.measure-text.ensures.units c.write_units.ensures,
      c.measure-text.ensures.room,
      c.if-text-at.false,
      c.requires.within,
      c.measure-text.ensures.units.within,
      text-len c.args.ptr c.args.heap.now c.requires.text,
    )

pub returns-then-text-at : goal.returns-then-text-at
returns-then-text-at c =
    let d = c.args.heap.now in
    let p = c.args.ptr in
    let us = source_units d (text_at p d) c.args.source in
    let counted : length us ≡ c.count-n.result = units-counted d (text_at p d) c.args.source ∙ sym c.count-n.ensures in
    edit-refused p d _ (at_most (max_at p d) (take c.args.at (text_at p d) ++ us))
    (at_most-refuses (max_at p d) (take c.args.at (text_at p d) ++ us)
    (omega (arith, length-append (take c.args.at (text_at p d)) us, length-take-le c.args.at (text_at p d) c.requires.within, counted, c.if-text-at.true, c.measure-text.ensures.max-is)))
    c.requires.text c.measure-text.ensures.sound

pub returns : goal.returns
returns c =
    let d = c.args.heap.now in
    let p = c.args.ptr in
    let is = c.requires.text in
    let us = source_units d (text_at p d) c.args.source in
    let counted : length us ≡ c.count-n.result = units-counted d (text_at p d) c.args.source ∙ sym c.count-n.ensures in
    let within = c.requires.within in
    edit-done p d c.settle.new.heap (take c.args.at (text_at p d) ++ us) (at_most (max_at p d) (take c.args.at (text_at p d) ++ us))
    (at_most-fits (max_at p d) (take c.args.at (text_at p d) ++ us)
    (omega (
      arith,
      length-append (take c.args.at (text_at p d)) us,
      length-take-le c.args.at (text_at p d) within,
      counted,
      c.if-text-at.false,
      c.measure-text.ensures.max-is,
      c.measure-text.ensures.room,
      c.measure-text.ensures.units.within,
      text-len p d is,
    )))
    (overwritten p d is c.write_units.new.heap c.settle.new.heap c.args.at (c.args.at + c.count-n.result) us c.write_units.ensures c.settle.ensures.draft
    (omega (arith, counted)) (omega (arith, within, c.if-text-at.false, c.measure-text.ensures.room, c.measure-text.ensures.units.within, text-len p d is))
    (omega (arith, within, text-len p d is)))
    c.settle.ensures.sound
