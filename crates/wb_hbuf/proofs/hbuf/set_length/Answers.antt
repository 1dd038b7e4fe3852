use Rattle.std.proofs.Common.{Ok, arith}
use Rattle.wb_heap_model.specs.TextCells.{text_at, max_at}
use Rattle.wb_heap_model.specs.Texts.{exactly, set_length_text}
use Rattle.wb_hbuf.specs.Drafts.{IsEdited}
use Rattle.wb_hbuf.proofs.Edits.{edit-done, settled-at, set_length-fits}
use Rattle.wb_hbuf.proofs.hbuf.set_length.Goals as goal

pub returns : goal.returns
returns c =
    let d = c.args.heap.now in
    let p = c.args.ptr in
    let n = c.args.n in
    let done : IsEdited p d c.settle.new.heap (Ok tt) (set_length_text (max_at p d) (text_at p d) n) =
    edit-done p d c.settle.new.heap (exactly n (text_at p d)) (set_length_text (max_at p d) (text_at p d) n)
    (set_length-fits (max_at p d) (text_at p d) n (omega (arith, c.if-measure-n.false, c.measure.ensures.max-is)))
    (settled-at p d c.requires c.settle.new.heap n c.settle.ensures.draft (omega (arith, c.if-measure-n.false, c.measure.ensures.room)))
    c.settle.ensures.sound in
    record { answer = done.answer; changed = done.changed; text = done.text; now = done.now; sound = done.sound }
