use Rattle.std.proofs.Common.{◌≡◌, ◌+◌, ◌<◌, ◌≤◌, ℕ, List, length, take, drop, subst, refl, sym, ◌∙◌, arith}
use Rattle.std.proofs.lemmas.List.{take_all}
use Rattle.wb_heap_model.specs.Texts.{units_of_part}
use Rattle.wb_heap_model.proofs.TextCells.{length-exactly}
use Rattle.wb_hbuf.specs.Drafts.{IsDraft, put}
use Rattle.wb_hbuf.proofs.Drafts.{draft-words, draft-set}
use Rattle.wb_hbuf.proofs.Units.{put-more}
use Rattle.wb_hbuf.proofs.WrittenUnits.{len, all, all-room, put-first}
use Rattle.wb_hbuf.proofs.writing.write_literal.Goals as goal

counted : (base : List ℕ) (from count : ℕ) → length (units_of_part base from count) ≡ count
counted base from count = length-exactly count (drop from base)

pub loop-i-init : goal.loop-i-init
loop-i-init c = put-first c.args.ptr c.args.heap.now c.requires.units c.args.at (units_of_part c.args.chars.now c.args.from c.args.count)

pub set_payload_half-requires : goal.set_payload_half-requires
set_payload_half-requires c =
    omega (arith, draft-words c.args.ptr c.args.heap.now c.loop-i.heap _ _ c.requires.units c.loop-i.invariant, c.requires.units.some)

pub loop-i-preserved : goal.loop-i-preserved
loop-i-preserved c =
    let d = c.args.heap.now in
    let p = c.args.ptr in
    let us = units_of_part c.args.chars.now c.args.from c.args.count in
    let has = c.requires.units in
    let long : length us ≡ c.args.count = counted c.args.chars.now c.args.from c.args.count in
    let lt : c.loop-i.i < c.args.count = omega (arith, c.loop-i-test.true) in
    let fits : c.args.at + length us ≤ length (all p d has) = omega (arith, long, all-room p d has, c.requires.room) in
    let written = put c.args.at (take c.loop-i.i us) (all p d has) in
    let room : length written ≡ length (all p d has) = c.loop-i.invariant.room ∙ sym (all-room p d has) in
    let set = draft-set p d c.loop-i.heap (len p d has) written has c.loop-i.invariant c.set_payload_half.new.self (c.args.at + c.loop-i.i) (c.args.at + c.loop-i.i + 2) c.foreign_unit-unit.result
    (omega arith) (omega (arith, room, fits, long, lt)) c.foreign_unit-unit.type_inv c.set_payload_half.ensures.changed in
    subst (λ vs. IsDraft p d c.set_payload_half.new.self (len p d has) vs)
    (put-more c.args.at us (all p d has) c.loop-i.i (c.args.at + c.loop-i.i) c.foreign_unit-unit.result refl (omega (arith, long, lt)) fits c.foreign_unit-unit.ensures) set

pub returns : goal.returns
returns c =
    let d = c.args.heap.now in
    let p = c.args.ptr in
    let us = units_of_part c.args.chars.now c.args.from c.args.count in
    let whole : take c.loop-i.i us ≡ us = take_all c.loop-i.i us (omega (arith, counted c.args.chars.now c.args.from c.args.count, c.loop-i-test.false)) in
    subst (λ vs. IsDraft p d c.loop-i.heap (len p d c.requires.units) (put c.args.at vs (all p d c.requires.units))) whole c.loop-i.invariant
