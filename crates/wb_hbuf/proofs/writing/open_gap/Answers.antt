use Rattle.std.proofs.Common.{◌≡◌, ◌+◌, ◌-◌, ℕ, List, length, take, drop, ap, refl, sym, ◌∙◌, arith}
use Rattle.std.proofs.lemmas.List.{drop-take, length-drop}
use Rattle.std.proofs.lemmas.List.Elements.{All-drop, All-take}
use Rattle.wb_chunk.specs.Halves.{halves_from, with_halves}
use Rattle.wb_heap_model.specs.CellRow.{payload_of}
use Rattle.wb_heap_model.specs.Debug.{debug_changed}
use Rattle.wb_heap_model.specs.TextCells.{text_at}
use Rattle.wb_heap_model.proofs.TextCells.{IsUnit}
use Rattle.wb_hbuf.proofs.Drafts.{draft-none, draft-put, is_live}
use Rattle.wb_hbuf.proofs.Units.{run-following}
use Rattle.wb_hbuf.proofs.WrittenUnits.{len, all, all-room, text-length}
use Rattle.wb_hbuf.proofs.writing.open_gap.Goals as goal

pub copy_halves-requires-clause-from_live : goal.copy_halves-requires-clause-from_live
copy_halves-requires-clause-from_live c = is_live c.args.ptr c.args.heap.now.heap.row c.requires.units.some

pub copy_halves-requires-clause-to_live : goal.copy_halves-requires-clause-to_live
copy_halves-requires-clause-to_live c = is_live c.args.ptr c.args.heap.now.heap.row c.requires.units.some

pub copy_halves-requires-clause-source : goal.copy_halves-requires-clause-source
copy_halves-requires-clause-source c =
    omega (arith, c.payload-len.ensures, c.requires.units.within, c.requires.units.some, c.requires.within, text-length c.args.ptr c.args.heap.now c.requires.units)

pub copy_halves-requires-clause-target : goal.copy_halves-requires-clause-target
copy_halves-requires-clause-target c =
    omega (arith, c.payload-len.ensures, c.requires.units.some, c.requires.within, c.requires.room, text-length c.args.ptr c.args.heap.now c.requires.units)

pub returns-clause-draft : goal.returns-clause-draft
returns-clause-draft c =
    let d = c.args.heap.now in
    let p = c.args.ptr in
    let has = c.requires.units in
    let at = c.args.at in
    let ws = payload_of p d.heap.row in
    let tail : List ℕ = drop at (text_at p d) in
    let n = c.payload-len.result - at in
    let long : length tail ≡ n = omega (arith, length-drop at (text_at p d), text-length p d has, c.payload-len.ensures) in
    let whole : at + n ≡ len p d has = omega (arith, c.requires.within, text-length p d has, c.payload-len.ensures) in
    let read : halves_from ws (at + 2) n ≡ tail =
    run-following ws at (at + 2) n (omega arith) (omega (arith, whole, all-room p d has, has.within))
    ∙ sym (drop-take at n (all p d has)) ∙ ap (λ k. drop at (take k (all p d has))) whole in
    draft-put p d d (len p d has) (all p d has) has (draft-none p d has) c.copy_halves.new.self (at + c.args.gap) (at + c.args.gap + 2) tail refl
    (omega (arith, long, whole, all-room p d has, c.requires.room, text-length p d has))
    (All-drop IsUnit at (text_at p d) (All-take IsUnit (len p d has) (all p d has) has.units))
    (c.copy_halves.ensures.changed ∙ ap (λ vs. debug_changed d p (with_halves ws (at + c.args.gap + 2) vs)) read)
