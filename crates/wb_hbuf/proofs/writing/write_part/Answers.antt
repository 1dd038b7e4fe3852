use Rattle.std.proofs.Common.{◌≡◌, ◌+◌, ◌-◌, ◌<◌, ◌≤◌, ◌^◌, ℕ, List, length, min, take, drop, get_or, ap, subst, refl, sym, ◌∙◌, arith}
use Rattle.std.proofs.lemmas.List.{length-drop, length-take-le, length-replicate, get_or_default}
use Rattle.std.proofs.lemmas.List.Elements.{All-drop, All-take}
use Rattle.wb_chunk.specs.Halves.{with_halves}
use Rattle.wb_heap_model.specs.declared.heap.Ptr.{Ptr}
use Rattle.wb_heap_model.specs.CellRow.{payload_of}
use Rattle.wb_heap_model.specs.Debug.{Debug, debug_changed}
use Rattle.wb_heap_model.specs.Texts.{AreUnits, units_of_part}
use Rattle.wb_heap_model.proofs.TextCells.{IsUnit, zeros}
use Rattle.wb_hbuf.specs.Drafts.{HasUnits, IsDraft, put}
use Rattle.wb_hbuf.proofs.Drafts.{draft-none, draft-put, draft-words, is_live, units-zeros}
use Rattle.wb_hbuf.proofs.Units.{part-is, put-put, length-put}
use Rattle.wb_hbuf.proofs.WrittenUnits.{len, all, all-room}
use Rattle.wb_hbuf.proofs.writing.write_part.Goals as goal

module _ (p : Ptr) (d e : Debug) (has : HasUnits p d) (us : List ℕ) (units : AreUnits us) (at from count start there : ℕ) (begins : start ≡ min from (length us)) (long : there ≡ min count (length us - start))
    (room : at + count ≤ length (all p d has)) (part : List ℕ) (is : part ≡ take there (drop start us))
    (made : e ≡ debug_changed d p (with_halves (payload_of p d.heap.row) (at + 2) part)) where
  abbrev read : List ℕ
  read = take there (drop start us)

  length-read : length read ≡ there
  length-read = length-take-le there (drop start us) (omega (arith, length-drop start us, begins, long))

  -- what is there of the part
  written : IsDraft p d e (len p d has) (put at read (all p d has))
  written =
      draft-put p d d (len p d has) (all p d has) has (draft-none p d has) e at (at + 2) read refl (omega (arith, length-read, long, room))
      (All-take IsUnit there (drop start us) (All-drop IsUnit start us units)) (made ∙ ap (λ vs. debug_changed d p (with_halves (payload_of p d.heap.row) (at + 2) vs)) is)

  -- and zeros after it
  filled : (f : Debug) (k n : ℕ) → k ≡ at + there + 2 → n ≡ count - there → f ≡ debug_changed e p (with_halves (payload_of p e.heap.row) k (zeros n)) →
      IsDraft p d f (len p d has) (put at (units_of_part us from count) (all p d has))
  filled f k n here rest next =
      let fits : at + length read ≤ length (all p d has) = omega (arith, length-read, long, room) in
      subst (λ vs. IsDraft p d f (len p d has) vs)
      (put-put at (at + there) read (zeros (count - there)) (all p d has) (omega (arith, length-read)) fits ∙ ap (λ vs. put at vs (all p d has)) (sym (part-is us from count start there begins long)))
      (draft-put p d e (len p d has) (put at read (all p d has)) has written f (at + there) k (zeros (count - there)) here
      (omega (arith, length-put at read (all p d has) fits, length-replicate {A = ℕ} (count - there) 0, long, room)) (units-zeros (count - there))
      (next ∙ ap (λ m. debug_changed e p (with_halves (payload_of p e.heap.row) k (zeros m))) rest))

fitting : (us : List ℕ) → ((j : ℕ) → get_or us j 0 < 2 ^ 16) → AreUnits us
fitting us each j d lt = omega (arith, get_or_default us j d 0 lt, each j)

pub zero_halves-requires-clause-live : goal.zero_halves-requires-clause-live
zero_halves-requires-clause-live c =
    let d = c.args.heap.now in
    let p = c.args.ptr in
    let has = c.requires.units in
    let us = c.args.units.now in
    let start = c.min-start.result in
    let there = c.min-there.result in
    let n : start + there - start ≡ there = omega arith in
    let part : List ℕ = take (start + there - start) (drop start us) in
    let units : AreUnits us = fitting us (λ j. let f = c.type_inv.units j in f.fits) in
    let room : c.args.at + c.args.count ≤ length (all p d has) = omega (arith, all-room p d has, c.requires.room) in
    let draft = written p d c.write_halves.new.self has us units c.args.at c.args.from c.args.count start there c.min-start.ensures c.min-there.ensures room part
    (ap (λ k. take k (drop start us)) n) c.write_halves.ensures.changed in
    is_live p c.write_halves.new.self.heap.row (omega (arith, draft-words p d c.write_halves.new.self _ _ has draft, has.some))

pub zero_halves-requires-clause-within : goal.zero_halves-requires-clause-within
zero_halves-requires-clause-within c =
    let d = c.args.heap.now in
    let p = c.args.ptr in
    let has = c.requires.units in
    let us = c.args.units.now in
    let start = c.min-start.result in
    let there = c.min-there.result in
    let n : start + there - start ≡ there = omega arith in
    let part : List ℕ = take (start + there - start) (drop start us) in
    let units : AreUnits us = fitting us (λ j. let f = c.type_inv.units j in f.fits) in
    let room : c.args.at + c.args.count ≤ length (all p d has) = omega (arith, all-room p d has, c.requires.room) in
    let draft = written p d c.write_halves.new.self has us units c.args.at c.args.from c.args.count start there c.min-start.ensures c.min-there.ensures room part
    (ap (λ k. take k (drop start us)) n) c.write_halves.ensures.changed in
    omega (arith, draft-words p d c.write_halves.new.self _ _ has draft, has.some, c.requires.room, c.min-there.ensures)

pub returns : goal.returns
returns c =
    let d = c.args.heap.now in
    let p = c.args.ptr in
    let has = c.requires.units in
    let us = c.args.units.now in
    let start = c.min-start.result in
    let there = c.min-there.result in
    let n : start + there - start ≡ there = omega arith in
    let part : List ℕ = take (start + there - start) (drop start us) in
    let units : AreUnits us = fitting us (λ j. let f = c.type_inv.units j in f.fits) in
    let room : c.args.at + c.args.count ≤ length (all p d has) = omega (arith, all-room p d has, c.requires.room) in
    filled p d c.write_halves.new.self has us units c.args.at c.args.from c.args.count start there c.min-start.ensures c.min-there.ensures room part
    (ap (λ k. take k (drop start us)) n) c.write_halves.ensures.changed c.zero_halves.new.self (c.args.at + there + 2) (c.args.at + c.args.count - (c.args.at + there))
    refl (omega (arith, c.min-there.ensures)) c.zero_halves.ensures.changed
