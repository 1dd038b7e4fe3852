use Rattle.std.proofs.Common.{◌-◌, ◌/◌, ◌≤◌, length, IsSome, refl, sym, ap, subst, arith}
use Rattle.std.proofs.lemmas.List.{length-replicate}
use Rattle.wb_heap_model.specs.CellRow.{CellRow, content_or_nil, payload_of}
use Rattle.wb_heap_model.specs.Row.{cell_at, pointer_to}
use Rattle.wb_rheap.proofs.Moving.{old-there, new-there, still-live, moved-all}
use Rattle.wb_rheap.proofs.moves.move_to.Goals as goal

pub copy_payload-requires-clause-source : goal.copy_payload-requires-clause-source
copy_payload-requires-clause-source c =
    let r = c.requires in
    let taken = ap (λ (x : CellRow). x.row) c.take.ensures.taken in
    subst (λ row. c.args.words ≤ length (payload_of c.args.ptr row)) (sym taken)
    (subst (λ o. c.args.words ≤ length (content_or_nil o)) (sym (old-there c.args.ptr c.args.moved c.args.cells.now.row r.spaced r.live r.unused)) (omega (arith, r.whole)))

pub copy_payload-requires-clause-target : goal.copy_payload-requires-clause-target
copy_payload-requires-clause-target c =
    let r = c.requires in
    let taken = ap (λ (x : CellRow). x.row) c.take.ensures.taken in
    rw c.pointer.ensures (subst (λ row. c.args.words ≤ length (payload_of (pointer_to c.args.moved) row)) (sym taken)
    (subst (λ o. c.args.words ≤ length (content_or_nil o)) (sym (new-there c.args.ptr c.args.moved c.args.cells.now.row r.spaced r.live r.unused))
    (omega (arith, r.longer, length-replicate (c.args.moved.length / 4 - 4) (◌-◌ 0 0)))))

pub copy_payload-requires-clause-from_live : goal.copy_payload-requires-clause-from_live
copy_payload-requires-clause-from_live c =
    let r = c.requires in
    let taken = ap (λ (x : CellRow). x.row) c.take.ensures.taken in
    subst (λ row. IsSome (cell_at c.args.ptr row)) (sym taken)
    (subst IsSome (sym (old-there c.args.ptr c.args.moved c.args.cells.now.row r.spaced r.live r.unused)) r.live)

pub copy_payload-requires-clause-to_live : goal.copy_payload-requires-clause-to_live
copy_payload-requires-clause-to_live c =
    let r = c.requires in
    let taken = ap (λ (x : CellRow). x.row) c.take.ensures.taken in
    rw c.pointer.ensures (subst (λ row. IsSome (cell_at (pointer_to c.args.moved) row)) (sym taken)
    (subst IsSome (sym (new-there c.args.ptr c.args.moved c.args.cells.now.row r.spaced r.live r.unused)) refl))

pub give-requires : goal.give-requires
give-requires c =
    let r = c.requires in
    still-live c.args.ptr c.args.moved c.args.cells.now c.take.new.self c.copy_payload.new.self c.copy_payload.new.self c.args.words r.spaced r.live r.unused
    c.take.ensures.taken (rw c.pointer.ensures at c.copy_payload.ensures.copied) r.whole r.longer

pub returns : goal.returns
returns c =
    let r = c.requires in
    moved-all c.args.ptr c.args.moved c.args.cells.now c.take.new.self c.copy_payload.new.self c.give.new.self c.args.words r.spaced r.live r.unused
    c.take.ensures.taken (rw c.pointer.ensures at c.copy_payload.ensures.copied) r.whole r.longer c.give.ensures.given
