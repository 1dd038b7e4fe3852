use Rattle.std.proofs.Common.{Some, None, ap, ◌∙◌, subst}
use Rattle.wb_heap_model.specs.CellRow.{room_after}
use Rattle.wb_heap_model.specs.LimitedHeap.{IsSoundHeap}
use Rattle.wb_heap_model.specs.Row.{headers, pointer_to}
use Rattle.wb_rheap.proofs.Growing.{fits-decided, room-left}
use Rattle.wb_rheap.proofs.heap.Heap.fits.Goals as goal

pub returns-in-Some : goal.returns-in-Some
returns-in-Some c =
    let sound = subst IsSoundHeap c.self.view_is c.self.invariant.sound in
    let room = c.in-Some.ensures.room ∙ ap (λ p. room_after p (headers c.self.inside.cells.row)) c.pointer.ensures
    ∙ ap (λ h. room_after (pointer_to c.args.cell) (headers h.row)) c.self.view_is in
    record {
      fits = room-left c.args.cell.length c.args.length c.in-Some.room c.requires.longer
          ∙ fits-decided c.args.self.now c.args.cell c.args.length (Some c.in-Some.room) sound c.requires.live room;
      sound = sound;
    }

pub returns-in-None : goal.returns-in-None
returns-in-None c =
    let sound = subst IsSoundHeap c.self.view_is c.self.invariant.sound in
    let room = c.in-None.ensures.room ∙ ap (λ p. room_after p (headers c.self.inside.cells.row)) c.pointer.ensures
    ∙ ap (λ h. room_after (pointer_to c.args.cell) (headers h.row)) c.self.view_is in
    record {
      fits = fits-decided c.args.self.now c.args.cell c.args.length None sound c.requires.live room;
      sound = sound;
    }
