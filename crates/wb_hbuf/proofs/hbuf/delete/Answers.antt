use Rattle.std.proofs.Common.{◌≡◌, ◌+◌, ◌-◌, ◌≤◌, ◌++◌, Ok, take, drop, ap, sym, ◌∙◌, arith}
use Rattle.wb_heap_model.specs.TextCells.{text_at}
use Rattle.wb_heap_model.specs.Texts.{delete_text, units_of_part}
use Rattle.wb_hbuf.specs.Drafts.{IsEdited}
use Rattle.wb_hbuf.proofs.Drafts.{draft-has, draft-words}
use Rattle.wb_hbuf.proofs.Edits.{edit-done, len, text-len, deleted, delete-within}
use Rattle.wb_hbuf.proofs.hbuf.delete.Goals as goal

pub settle-requires-clause-units : goal.settle-requires-clause-units
settle-requires-clause-units c =
    draft-has c.args.ptr c.args.heap.now c.write_units.new.heap _ _ c.measure-text.ensures.units c.write_units.ensures c.measure-text.ensures.units.within

pub settle-requires-clause-most : goal.settle-requires-clause-most
settle-requires-clause-most c =
    omega (arith, draft-words c.args.ptr c.args.heap.now c.write_units.new.heap _ _ c.measure-text.ensures.units c.write_units.ensures, c.measure-text.ensures.small)

pub settle-requires-clause-room : goal.settle-requires-clause-room
settle-requires-clause-room c =
    omega (
      arith,
      draft-words c.args.ptr c.args.heap.now c.write_units.new.heap _ _ c.measure-text.ensures.units c.write_units.ensures,
      c.measure-text.ensures.length-is,
      c.measure-text.ensures.units.within,
      text-len c.args.ptr c.args.heap.now c.requires,
    )

pub returns : goal.returns
returns c =
    let d = c.args.heap.now in
    let p = c.args.ptr in
    let is = c.requires in
    let t = text_at p d in
    let at = c.args.position in
    let cut = c.min-count.result in
    let long : c.measure-text.result.length ≡ len p d is = c.measure-text.ensures.length-is ∙ sym (text-len p d is) in
    let within : at + cut ≤ len p d is = omega (arith, long, c.min-count.ensures, c.if-text-position.false) in
    let done : IsEdited p d c.settle.new.heap (Ok tt) (delete_text t at c.args.count) =
    edit-done p d c.settle.new.heap (take at t ++ drop (at + cut) t) (delete_text t at c.args.count)
    (delete-within t at c.args.count cut (omega (arith, within, text-len p d is)) (c.min-count.ensures ∙ omega (arith, c.measure-text.ensures.length-is)))
    (deleted p d is c.write_units.new.heap c.settle.new.heap at cut (c.measure-text.result.length - cut) _
    (ap (λ n. units_of_part t (at + cut) (n - (at + cut))) long) c.write_units.ensures c.settle.ensures.draft (omega (arith, long, within)) within)
    c.settle.ensures.sound in
    record { answer = done.answer; changed = done.changed; text = done.text; now = done.now; sound = done.sound }
