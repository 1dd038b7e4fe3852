use Rattle.std.proofs.Common.{◌≤◌, not, sym, subst}
use Rattle.std.specs.Prelude.{◌&&◌}
use Rattle.std.proofs.lemmas.Bool.{cond-true}
use Rattle.wb_heap_model.specs.Placement.{fits_in_place}
use Rattle.wb_heap_model.specs.LimitedHeap.{place_in}
use Rattle.wb_heap_model.specs.Row.{headers, pointer_to}
use Rattle.wb_rheap.proofs.Growing.{grows-within, live-found}
use Rattle.wb_rheap.proofs.heap.Heap.place_to_grow.Goals as goal

pub returns-then-stays-clause-within : goal.returns-then-stays-clause-within
returns-then-stays-clause-within c =
    let now = c.args.self.now in
    let stays = sym c.if-stays.ensures.stays in
    subst (λ p. p ≤ now.committed)
    (cond-true (not now.shape.moving && fits_in_place (headers now.row) c.args.cell c.args.length) c.args.cell.place (place_in now c.args.length) stays)
    (grows-within now c.args.cell c.args.length c.requires.length c.if-stays.ensures.sound c.requires.live)

pub returns-then-stays-clause-aligned : goal.returns-then-stays-clause-aligned
returns-then-stays-clause-aligned c =
    (live-found c.args.self.now (pointer_to c.args.cell) c.args.cell c.if-stays.ensures.sound c.requires.live).placed
