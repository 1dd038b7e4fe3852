use Rattle.std.proofs.Common.{◌∙◌, sym, subst}
use Rattle.wb_heap_model.specs.Row.{IsLeastPlace, headers}
use Rattle.wb_rheap.proofs.Growing.{own-named, always-moves, stays-there, moves-least}
use Rattle.wb_rheap.proofs.heap.Heap.place_for_realloc.Goals as goal

pub place_to_grow-requires-clause-live : goal.place_to_grow-requires-clause-live
place_to_grow-requires-clause-live c =
    own-named c.args.self.now c.args.ptr c.unwrap-cell.result c.header.ensures.sound (sym c.header.ensures.header ∙ c.unwrap-cell.ensures)

pub returns-clause-stays : goal.returns-clause-stays
returns-clause-stays c still fits =
    c.place_to_grow.ensures.place
    ∙ stays-there c.args.self.now c.args.ptr c.unwrap-cell.result c.args.length c.header.ensures.sound (sym c.header.ensures.header ∙ c.unwrap-cell.ensures) still fits

pub returns-clause-moves : goal.returns-clause-moves
returns-clause-moves c full =
    subst (IsLeastPlace (headers c.args.self.now.row) c.args.length) (sym c.place_to_grow.ensures.place)
    (moves-least c.args.self.now c.args.ptr c.unwrap-cell.result c.args.length c.requires.length c.header.ensures.sound
    (sym c.header.ensures.header ∙ c.unwrap-cell.ensures) full)

pub returns-clause-moving : goal.returns-clause-moving
returns-clause-moving c moving =
    subst (IsLeastPlace (headers c.args.self.now.row) c.args.length) (sym c.place_to_grow.ensures.place)
    (always-moves c.args.self.now c.unwrap-cell.result c.args.length c.requires.length c.header.ensures.sound moving)
