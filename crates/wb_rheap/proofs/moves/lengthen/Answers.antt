use Rattle.std.proofs.Common.{ap, ◌∙◌}
use Rattle.wb_heap_model.specs.Row.{headers, pointer_to}
use Rattle.wb_heap_model.proofs.Reallocations.{found-from, found-head}
use Rattle.wb_rheap.proofs.Growing.{cell-of, whole-cell, words-of, in-place}
use Rattle.wb_rheap.proofs.moves.lengthen.Goals as goal

pub returns-then-place-cell-clause-longer : goal.returns-then-place-cell-clause-longer
returns-then-place-cell-clause-longer c =
    rw c.pointer-ptr.ensures ((rw c.pointer-ptr.ensures at c.resize.ensures.resized)
    ∙ ap (λ r. record { row = r; held = c.args.cells.now.held })
    (in-place c.args.cells.now.row c.args.cell c.args.length c.args.place c.requires.row c.requires.live c.if-place-cell.true))

pub words-requires : goal.words-requires
words-requires c =
    let p = pointer_to c.args.cell in
    let row = c.args.cells.now.row in
    (found-from p (headers row) 0 c.args.cell c.requires.row.spaced (found-head p row (cell-of p row c.args.cell) (whole-cell p row c.args.cell c.requires.live))).least

pub move_to-requires-clause-whole : goal.move_to-requires-clause-whole
move_to-requires-clause-whole c =
    rw (c.words.ensures, c.pointer-ptr.ensures) (words-of (pointer_to c.args.cell) c.args.cells.now.row c.args.cell c.requires.filled c.requires.live)
