use Rattle.std.proofs.Common.{◌≡◌, ◌+◌, ◌≤◌, ◌++◌, length, take, drop, sym, subst, ◌∙◌, arith}
use Rattle.wb_heap_model.specs.TextCells.{text_at, max_at}
use Rattle.wb_heap_model.specs.Texts.{insert_text}
use Rattle.wb_hbuf.specs.Drafts.{IsDraft, put}
use Rattle.wb_hbuf.specs.Sources.{source_units}
use Rattle.wb_hbuf.proofs.Drafts.{draft-has, draft-words}
use Rattle.wb_hbuf.proofs.ReadUnits.{source-stays}
use Rattle.wb_hbuf.proofs.WrittenUnits.{units-counted}
use Rattle.wb_hbuf.proofs.Edits.{edit-done, len, all, text-len, gap-filled, inserted, at_most-fits, insert-within, length-inserted}
use Rattle.wb_hbuf.proofs.hbuf.insert.Goals as goal

pub write_units-requires-clause-units : goal.write_units-requires-clause-units
write_units-requires-clause-units c =
    draft-has c.args.ptr c.args.heap.now c.open_gap.new.heap _ _ c.measure-text.ensures.units c.open_gap.ensures.draft c.measure-text.ensures.units.within

pub write_units-requires-clause-most : goal.write_units-requires-clause-most
write_units-requires-clause-most c =
    omega (arith, draft-words c.args.ptr c.args.heap.now c.open_gap.new.heap _ _ c.measure-text.ensures.units c.open_gap.ensures.draft, c.measure-text.ensures.small)

pub write_units-requires-clause-source : goal.write_units-requires-clause-source
write_units-requires-clause-source c =
    source-stays c.args.ptr _ c.args.heap.now c.open_gap.new.heap c.args.source c.open_gap.ensures.draft.changed c.requires.apart c.requires.source

pub write_units-requires-clause-room : goal.write_units-requires-clause-room
write_units-requires-clause-room c =
    omega (
      arith,
      draft-words c.args.ptr c.args.heap.now c.open_gap.new.heap _ _ c.measure-text.ensures.units c.open_gap.ensures.draft,
      c.measure-text.ensures.room,
      c.if-text-n.false,
      c.if-text-at.false,
      c.count-n.ensures,
      c.measure-text.ensures.length-is,
      c.measure-text.ensures.units.within,
      text-len c.args.ptr c.args.heap.now c.requires.text,
    )

pub settle-requires-clause-units : goal.settle-requires-clause-units
settle-requires-clause-units c =
    let d = c.args.heap.now in
    draft-has c.args.ptr d c.write_units.new.heap _ _ c.measure-text.ensures.units
    (gap-filled c.args.ptr d c.requires.text c.open_gap.new.heap c.write_units.new.heap c.args.at _ c.args.source c.open_gap.ensures.draft c.write_units.ensures c.requires.apart c.requires.foreign)
    c.measure-text.ensures.units.within

pub settle-requires-clause-most : goal.settle-requires-clause-most
settle-requires-clause-most c =
    let d = c.args.heap.now in
    omega (
      arith,
      draft-words c.args.ptr d c.write_units.new.heap _ _ c.measure-text.ensures.units
          (gap-filled c.args.ptr d c.requires.text c.open_gap.new.heap c.write_units.new.heap c.args.at _ c.args.source c.open_gap.ensures.draft c.write_units.ensures c.requires.apart c.requires.foreign),
      c.measure-text.ensures.small,
    )

pub settle-requires-clause-room : goal.settle-requires-clause-room
settle-requires-clause-room c =
    let d = c.args.heap.now in
    omega (
      arith,
      draft-words c.args.ptr d c.write_units.new.heap _ _ c.measure-text.ensures.units
          (gap-filled c.args.ptr d c.requires.text c.open_gap.new.heap c.write_units.new.heap c.args.at _ c.args.source c.open_gap.ensures.draft c.write_units.ensures c.requires.apart c.requires.foreign),
      c.measure-text.ensures.room,
      c.if-text-n.false,
      c.measure-text.ensures.length-is,
      c.measure-text.ensures.units.within,
      text-len c.args.ptr d c.requires.text,
    )

pub returns : goal.returns
returns c =
    let d = c.args.heap.now in
    let p = c.args.ptr in
    let is = c.requires.text in
    let at = c.args.at in
    let t = text_at p d in
    let us = source_units d t c.args.source in
    let counted : length us ≡ c.count-n.result = units-counted d t c.args.source ∙ sym c.count-n.ensures in
    let long : c.measure-text.result.length ≡ len p d is = c.measure-text.ensures.length-is ∙ sym (text-len p d is) in
    let fits : len p d is + c.count-n.result ≤ c.measure-text.result.max =
    omega (arith, long, c.if-text-n.false, c.measure-text.ensures.room, c.measure-text.ensures.units.within) in
    let within : at ≤ length t = omega (arith, c.if-text-at.false, c.measure-text.ensures.length-is) in
    let draft = gap-filled p d is c.open_gap.new.heap c.write_units.new.heap at _ c.args.source c.open_gap.ensures.draft c.write_units.ensures c.requires.apart c.requires.foreign in
    edit-done p d c.settle.new.heap (take at t ++ us ++ drop at t) (insert_text (max_at p d) t at us)
    (insert-within (max_at p d) t at us within
    ∙ at_most-fits (max_at p d) (take at t ++ us ++ drop at t) (omega (arith, length-inserted t at us within, counted, fits, text-len p d is, c.measure-text.ensures.max-is)))
    (inserted p d is c.write_units.new.heap c.settle.new.heap at (c.measure-text.result.length + c.count-n.result) us
    (subst (λ n. IsDraft p d c.write_units.new.heap (len p d is) (put at us (put (at + n) (drop at t) (all p d is)))) (sym counted) draft) c.settle.ensures.draft
    (omega (arith, counted, long)) (omega (arith, fits, long, c.measure-text.ensures.room)) (omega (arith, within, text-len p d is)))
    c.settle.ensures.sound
