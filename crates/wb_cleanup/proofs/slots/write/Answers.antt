use Rattle.std.proofs.Common.{◌≡◌, ◌*◌, List, ℕ, [], ◌∷◌, sym, ap, ◌∙◌, arith}
use Rattle.wb_heap_model.specs.declared.heap.Ptr.{Ptr}
use Rattle.wb_heap_model.specs.CellRow.{payload_of}
use Rattle.wb_heap_model.specs.CleanupCells.{slot_words}
use Rattle.wb_heap_model.specs.Debug.{debug_changed}
use Rattle.wb_cleanup.specs.Slots.{with_words}
use Rattle.wb_cleanup.proofs.Rewriting.{same-length, four-written}
use Rattle.wb_cleanup.proofs.slots.write.Goals.{in-Free, in-Delete, in-Call}
use Rattle.wb_cleanup.proofs.slots.write.Goals as goal

pub set_payload-requires-2 : goal.set_payload-requires-2
set_payload-requires-2 c =
    omega (
      arith,
      same-length c.args.cell c.args.heap.now c.set_payload.new.self (4 * c.args.slot) c.match-item.what.0 (omega (arith, c.requires.within)) c.set_payload.ensures.changed,
      c.requires.within,
    )

pub set_payload-requires-3 : goal.set_payload-requires-3
set_payload-requires-3 c =
    let before = same-length c.args.cell c.args.heap.now c.set_payload.new.self _ _ (omega (arith, c.requires.within)) c.set_payload.ensures.changed in
    omega (
      arith,
      same-length c.args.cell c.set_payload.new.self c.set_payload-2.new.self _ _ (omega (arith, before, c.requires.within)) c.set_payload-2.ensures.changed,
      before,
      c.requires.within,
    )

pub set_payload-requires-4 : goal.set_payload-requires-4
set_payload-requires-4 c =
    let p = c.args.cell in
    let one = same-length p c.args.heap.now c.set_payload.new.self _ _ (omega (arith, c.requires.within)) c.set_payload.ensures.changed in
    let two = same-length p c.set_payload.new.self c.set_payload-2.new.self _ _ (omega (arith, one, c.requires.within)) c.set_payload-2.ensures.changed in
    let three = same-length p c.set_payload-2.new.self c.set_payload-3.new.self _ _ (omega (arith, one, two, c.requires.within)) c.set_payload-3.ensures.changed in
    omega (arith, one, two, three, c.requires.within)

-- the four words are the item's
slot-of : (c : goal.After-set_payload-4) →
    c.match-item.what.0 ∷ c.match-item.what.1.place ∷ c.match-item.what.1.number ∷ c.match-item.what.2 ∷ [] ≡ slot_words c.args.item
slot-of c =
    let words : ℕ × Ptr × ℕ → List ℕ = λ t. t.0 ∷ t.1.place ∷ t.1.number ∷ t.2 ∷ [] in
    elim c.match-item.branch [
      | in-Free w ↦ ap words w.what-is ∙ sym (ap slot_words w.in-Free.is)
      | in-Delete w ↦ ap words w.what-is ∙ sym (ap slot_words w.in-Delete.is)
      | in-Call w ↦ ap words w.what-is ∙ ap (λ n. 3 ∷ w.in-Call.ptr.place ∷ w.in-Call.ptr.number ∷ n ∷ []) w.from.ensures ∙ sym (ap slot_words w.in-Call.is)
    ]

pub returns-clause-written : goal.returns-clause-written
returns-clause-written c =
    let d = c.args.heap.now in
    let w = c.match-item.what in
    four-written c.args.cell d c.set_payload.new.self c.set_payload-2.new.self c.set_payload-3.new.self c.set_payload-4.new.self (4 * c.args.slot)
    w.0 w.1.place w.1.number w.2 (omega (arith, c.requires.within)) c.set_payload.ensures.changed c.set_payload-2.ensures.changed
    c.set_payload-3.ensures.changed c.set_payload-4.ensures.changed
    ∙ ap (λ ws. debug_changed d c.args.cell (with_words (4 * c.args.slot) ws (payload_of c.args.cell d.heap.row))) (slot-of c)
