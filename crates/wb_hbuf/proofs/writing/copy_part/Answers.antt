use Rattle.std.proofs.Common.{◌≡◌, ◌+◌, ◌-◌, ◌≤◌, ℕ, List, ◌++◌, length, min, take, drop, ap, subst, refl, sym, ◌∙◌, arith}
use Rattle.std.proofs.lemmas.List.{length-drop, length-take-le, length-replicate}
use Rattle.std.proofs.lemmas.List.Elements.{All-drop, All-take}
use Rattle.wb_chunk.specs.Halves.{halves_from, with_halves}
use Rattle.wb_heap_model.specs.declared.heap.Ptr.{Ptr}
use Rattle.wb_heap_model.specs.CellRow.{payload_of}
use Rattle.wb_heap_model.specs.Debug.{Debug, debug_changed}
use Rattle.wb_heap_model.specs.TextCells.{text_at}
use Rattle.wb_heap_model.specs.Texts.{units_of_part}
use Rattle.wb_heap_model.proofs.TextCells.{IsUnit, zeros}
use Rattle.wb_hbuf.specs.Drafts.{HasUnits, IsDraft, put}
use Rattle.wb_hbuf.proofs.Drafts.{draft-none, draft-put, draft-words, is_live, payload-small, units-zeros}
use Rattle.wb_hbuf.proofs.Units.{part-is, part-within, put-put, length-put, run-following}
use Rattle.wb_hbuf.proofs.WrittenUnits.{len, all, all-room, text-length}
use Rattle.wb_hbuf.proofs.writing.copy_part.Goals as goal

module _ (p q : Ptr) (d e : Debug) (has : HasUnits p d) (has' : HasUnits q d) (at from count start there : ℕ) (begins : start ≡ min from (len q d has')) (long : there ≡ min count (len q d has' - start))
    (room : at + count ≤ length (all p d has))
    (made : e ≡ debug_changed d p (with_halves (payload_of p d.heap.row) (at + 2) (halves_from (payload_of q d.heap.row) (start + 2) there))) where
  abbrev read : List ℕ
  read = take there (drop start (all q d has'))

  within : start + there ≤ length (all q d has')
  within = omega (arith, begins, long, all-room q d has', has'.within)

  length-read : length read ≡ there
  length-read = length-take-le there (drop start (all q d has')) (omega (arith, length-drop start (all q d has'), within))

  -- what is there of the part
  copied : IsDraft p d e (len p d has) (put at read (all p d has))
  copied =
      draft-put p d d (len p d has) (all p d has) has (draft-none p d has) e at (at + 2) read refl (omega (arith, length-read, long, room))
      (All-take IsUnit there (drop start (all q d has')) (All-drop IsUnit start (all q d has') has'.units))
      (made ∙ ap (λ vs. debug_changed d p (with_halves (payload_of p d.heap.row) (at + 2) vs)) (run-following (payload_of q d.heap.row) start (start + 2) there (omega arith) within))

  -- and zeros after it
  filled : (f : Debug) → f ≡ debug_changed e p (with_halves (payload_of p e.heap.row) (at + there + 2) (zeros (count - there))) →
      IsDraft p d f (len p d has) (put at (units_of_part (text_at q d) from count) (all p d has))
  filled f next =
      let fits : at + length read ≤ length (all p d has) = omega (arith, length-read, long, room) in
      let same : length (text_at q d) ≡ len q d has' = text-length q d has' in
      let part : units_of_part (text_at q d) from count ≡ read ++ zeros (count - there) =
      part-is (text_at q d) from count start there (omega (arith, begins, same)) (omega (arith, long, same))
      ∙ ap (λ us. us ++ zeros (count - there)) (part-within (all q d has') (len q d has') start there (omega (arith, begins, long))) in
      subst (λ us. IsDraft p d f (len p d has) us)
      (put-put at (at + there) read (zeros (count - there)) (all p d has) (omega (arith, length-read)) fits ∙ ap (λ us. put at us (all p d has)) (sym part))
      (draft-put p d e (len p d has) (put at read (all p d has)) has copied f (at + there) (at + there + 2) (zeros (count - there)) refl
      (omega (arith, length-put at read (all p d has) fits, length-replicate {A = ℕ} (count - there) 0, long, room)) (units-zeros (count - there)) next)

pub overflow_add-start : goal.overflow_add-start
overflow_add-start c =
    omega (arith, c.min-start.ensures, c.payload-len.ensures, c.requires.source.within, c.requires.source.some, payload-small c.args.cell c.args.heap.now c.requires.sound)

pub copy_halves-requires-clause-from_live : goal.copy_halves-requires-clause-from_live
copy_halves-requires-clause-from_live c = is_live c.args.cell c.args.heap.now.heap.row c.requires.source.some

pub copy_halves-requires-clause-to_live : goal.copy_halves-requires-clause-to_live
copy_halves-requires-clause-to_live c = is_live c.args.ptr c.args.heap.now.heap.row c.requires.units.some

pub copy_halves-requires-clause-source : goal.copy_halves-requires-clause-source
copy_halves-requires-clause-source c =
    omega (arith, c.min-start.ensures, c.min-there.ensures, c.payload-len.ensures, c.requires.source.within, c.requires.source.some)

pub copy_halves-requires-clause-target : goal.copy_halves-requires-clause-target
copy_halves-requires-clause-target c = omega (arith, c.min-there.ensures, c.requires.room, c.requires.units.some)

pub zero_halves-requires-clause-live : goal.zero_halves-requires-clause-live
zero_halves-requires-clause-live c =
    let d = c.args.heap.now in
    let has = c.requires.units in
    let draft = copied c.args.ptr c.args.cell d c.copy_halves.new.self has c.requires.source c.args.at c.args.from c.args.count c.min-start.result c.min-there.result
    (omega (arith, c.min-start.ensures, c.payload-len.ensures)) (omega (arith, c.min-there.ensures, c.payload-len.ensures)) (omega (arith, all-room c.args.ptr d has, c.requires.room))
    c.copy_halves.ensures.changed in
    is_live c.args.ptr c.copy_halves.new.self.heap.row (omega (arith, draft-words c.args.ptr d c.copy_halves.new.self _ _ has draft, has.some))

pub zero_halves-requires-clause-within : goal.zero_halves-requires-clause-within
zero_halves-requires-clause-within c =
    let d = c.args.heap.now in
    let has = c.requires.units in
    let draft = copied c.args.ptr c.args.cell d c.copy_halves.new.self has c.requires.source c.args.at c.args.from c.args.count c.min-start.result c.min-there.result
    (omega (arith, c.min-start.ensures, c.payload-len.ensures)) (omega (arith, c.min-there.ensures, c.payload-len.ensures)) (omega (arith, all-room c.args.ptr d has, c.requires.room))
    c.copy_halves.ensures.changed in
    omega (arith, draft-words c.args.ptr d c.copy_halves.new.self _ _ has draft, has.some, c.requires.room, c.min-there.ensures)

pub returns : goal.returns
returns c =
    let d = c.args.heap.now in
    let has = c.requires.units in
    filled c.args.ptr c.args.cell d c.copy_halves.new.self has c.requires.source c.args.at c.args.from c.args.count c.min-start.result c.min-there.result
    (omega (arith, c.min-start.ensures, c.payload-len.ensures)) (omega (arith, c.min-there.ensures, c.payload-len.ensures)) (omega (arith, all-room c.args.ptr d has, c.requires.room))
    c.copy_halves.ensures.changed c.zero_halves.new.self c.zero_halves.ensures.changed
