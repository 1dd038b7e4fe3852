use Rattle.std.proofs.Common.{◌≡◌, ◌+◌, ◌-◌, ◌≤◌, ℕ, length, ap, ◌∙◌, arith}
use Rattle.std.proofs.lemmas.List.{length-replicate}
use Rattle.wb_chunk.specs.Halves.{with_halves}
use Rattle.wb_heap_model.specs.CellRow.{payload_of}
use Rattle.wb_heap_model.specs.Debug.{Debug, debug_changed}
use Rattle.wb_heap_model.proofs.TextCells.{zeros}
use Rattle.wb_hbuf.specs.Drafts.{HasUnits, IsDraft, put}
use Rattle.wb_heap_model.specs.declared.heap.Ptr.{Ptr}
use Rattle.wb_hbuf.proofs.Drafts.{draft-none, draft-put, draft-words, draft-length-set, is_live, units-zeros}
use Rattle.wb_hbuf.proofs.WrittenUnits.{len, all, all-room}
use Rattle.wb_hbuf.proofs.writing.settle.Goals as goal

-- zeros for what is past the new end
cleared : (p : Ptr) (d e : Debug) (has : HasUnits p d) (n k m : ℕ) → k ≡ n + 2 → m ≡ len p d has - n → n ≤ length (all p d has) →
    e ≡ debug_changed d p (with_halves (payload_of p d.heap.row) k (zeros m)) → IsDraft p d e (len p d has) (put n (zeros (len p d has - n)) (all p d has))
cleared p d e has n k m here count fits made =
    draft-put p d d (len p d has) (all p d has) has (draft-none p d has) e n k (zeros (len p d has - n)) here
    (omega (arith, all-room p d has, has.within, fits, length-replicate {A = ℕ} (len p d has - n) 0)) (units-zeros (len p d has - n))
    (made ∙ ap (λ i. debug_changed d p (with_halves (payload_of p d.heap.row) k (zeros i))) count)

pub zero_halves-requires-clause-live : goal.zero_halves-requires-clause-live
zero_halves-requires-clause-live c = is_live c.args.ptr c.args.heap.now.heap.row c.requires.units.some

pub zero_halves-requires-clause-within : goal.zero_halves-requires-clause-within
zero_halves-requires-clause-within c =
    omega (arith, c.payload-len.ensures, c.saturating_sub.ensures, c.requires.units.within, c.requires.units.some, c.requires.room)

pub set_payload-requires : goal.set_payload-requires
set_payload-requires c =
    let has = c.requires.units in
    let d = c.args.heap.now in
    let draft = cleared c.args.ptr d c.zero_halves.new.self has c.args.n (c.args.n + 2) c.saturating_sub.result (omega arith) (omega (arith, c.saturating_sub.ensures, c.payload-len.ensures))
    (omega (arith, all-room c.args.ptr d has, c.requires.room)) c.zero_halves.ensures.changed in
    omega (arith, draft-words c.args.ptr d c.zero_halves.new.self _ _ has draft, has.some)

pub returns-clause-draft : goal.returns-clause-draft
returns-clause-draft c =
    let has = c.requires.units in
    let d = c.args.heap.now in
    let draft = cleared c.args.ptr d c.zero_halves.new.self has c.args.n (c.args.n + 2) c.saturating_sub.result (omega arith) (omega (arith, c.saturating_sub.ensures, c.payload-len.ensures))
    (omega (arith, all-room c.args.ptr d has, c.requires.room)) c.zero_halves.ensures.changed in
    draft-length-set c.args.ptr d c.zero_halves.new.self (len c.args.ptr d has) _ has draft c.set_payload.new.self c.args.n c.set_payload.ensures.changed
