use Rattle.std.proofs.Common.{◌+◌, Some, ap, sym, ◌∙◌, arith}
use Rattle.wb_cells.proofs.Changing.{valid, some_cell, payload_within}
use Rattle.wb_cells.proofs.NamedCells.{length_word}
use Rattle.wb_cells.proofs.Listing.{room_last, room_inner}
use Rattle.wb_cells.proofs.Sound.{sound_now}
use Rattle.wb_cells.proofs.cells.Cells.room_after.Goals as goal

pub length_at-requires : goal.length_at-requires
length_at-requires c =
    let v = valid _ _ _ _ c.self.invariant.laid c.args.ptr _ (ap (λ v. v.row) c.self.view_is) (some_cell c.args.ptr c.args.self.now.row c.requires) in
    omega (arith, payload_within _ _ _ _ v.cell)

pub overflow_add-end : goal.overflow_add-end
overflow_add-end c =
    let v = valid _ _ _ _ c.self.invariant.laid c.args.ptr _ (ap (λ v. v.row) c.self.view_is) (some_cell c.args.ptr c.args.self.now.row c.requires) in
    omega (arith, c.length_at.ensures, length_word _ _ _ _ v.cell, payload_within _ _ _ _ v.cell, c.self.invariant.laid.bounded)

pub returns-then-end-self-clause-room : goal.returns-then-end-self-clause-room
returns-then-end-self-clause-room c =
    let v = valid _ _ _ _ c.self.invariant.laid c.args.ptr _ (ap (λ v. v.row) c.self.view_is) (some_cell c.args.ptr c.args.self.now.row c.requires) in
    let end = ap (λ n. c.args.ptr.place + n) c.length_at.ensures in
    sym (room_last _ _ _ _ c.self.invariant.laid _ c.self.invariant.listed c.args.ptr v.cell c.args.self.now.row (ap (λ v. v.row) c.self.view_is) _ end c.if-end-self.true)

pub returns-then-end-self-clause-sound : goal.returns-then-end-self-clause-sound
returns-then-end-self-clause-sound c = sound_now _ _ _ _ c.self.invariant.laid c.args.self.now c.self.view_is

pub returns-clause-room : goal.returns-clause-room
returns-clause-room c =
    let v = valid _ _ _ _ c.self.invariant.laid c.args.ptr _ (ap (λ v. v.row) c.self.view_is) (some_cell c.args.ptr c.args.self.now.row c.requires) in
    let end = ap (λ n. c.args.ptr.place + n) c.length_at.ensures in
    ap (λ n. Some n) c.length_at-2.ensures
    ∙ sym (room_inner _ _ _ _ c.self.invariant.laid _ c.self.invariant.listed c.args.ptr v.cell c.args.self.now.row (ap (λ v. v.row) c.self.view_is) _ end c.if-end-self.false)

pub returns-clause-sound : goal.returns-clause-sound
returns-clause-sound c = sound_now _ _ _ _ c.self.invariant.laid c.args.self.now c.self.view_is
