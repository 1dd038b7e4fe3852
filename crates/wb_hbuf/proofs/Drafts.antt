-- A cell in the midst of an edit: what its words are, and what each write makes of them.
use Rattle.std.proofs.Common.{◌≡◌, ℕ, suc, ◌+◌, ◌*◌, ◌%◌, ◌^◌, ◌<◌, ◌≤◌, All, Bool, true, false, cond, List, [], ◌∷◌, length, set, slice_index, slice_set, Option, Some, None, is_some, refl, sym, ap, subst, ◌∙◌, arith}
use Rattle.std.proofs.lemmas.List.{length-set}
use Rattle.std.proofs.lemmas.List.Elements.{All-replicate, All-set}
use Rattle.wb_chunk.specs.Halves.{with_half, with_halves}
use Rattle.wb_heap_model.specs.declared.heap.Ptr.{Ptr}
use Rattle.wb_heap_model.specs.Row.{Cell, cell_at, end_of, headers, is_at, usable_of}
use Rattle.wb_heap_model.specs.CellRow.{content_or_nil, payload_of}
use Rattle.wb_heap_model.specs.Texts.{AreUnits, exactly}
use Rattle.wb_heap_model.specs.Debug.{Debug, IsSoundDebug, debug_changed, with_row}
use Rattle.wb_heap_model.specs.Space.{limit_under}
use Rattle.wb_heap_model.proofs.LimitedHeaps.{limit_under-ceiling}
use Rattle.wb_heap_model.specs.TextCells.{joined, room_in, units_after, text_in, text_at, IsTextAt}
use Rattle.wb_heap_model.proofs.TextCells.{IsUnit, zeros, joined-halves, halves-joined, length-halves, length-joined, room-even, text-read, IsUnit-exactly, IsUnit-shorter}
use Rattle.wb_heap_model.proofs.TextCellsHeap.{IsTextNow, text-changed, found-changed, changed-twice, changed-same}
use Rattle.wb_hbuf.specs.Drafts.{HasUnits, IsDraft, put}
use Rattle.wb_hbuf.proofs.Units.{set-following, put-following, length-put, units-put}

-- a pointer with words names a cell
pub record IsFound (p : Ptr) (row : List (Cell (List ℕ))) : Type 0 where
  pub cell : Cell (List ℕ)
  pub found : cell_at p row ≡ Some cell

-- the words that a pointer names are few, where the heap is sound
payload-below : (most : ℕ) (p : Ptr) (row : List (Cell (List ℕ))) → All (λ c. 4 * length c.content ≡ usable_of c.head) row → All (λ h. end_of h ≤ most) (headers row) →
    4 * length (payload_of p row) ≤ most
payload-below most p [] filled ends = omega arith
payload-below most p (c ∷ cs) filled ends =
    by (is_at p c.head) (payload-below most p cs (λ k d lt. filled (suc k) d (omega arith)) (λ k d lt. ends (suc k) d (omega arith)))
  where
    by : (b : Bool) → 4 * length (payload_of p cs) ≤ most → 4 * length (content_or_nil (cond b (Some c) (cell_at p cs))) ≤ most
    by true rest = omega (arith, filled 0 c (omega arith), ends 0 c.head (omega arith))
    by false rest = rest

pub payload-small : (p : Ptr) (d : Debug) → IsSoundDebug d → 2 * length (payload_of p d.heap.row) < 2 ^ 32
payload-small p d sound =
    omega (arith, payload-below (limit_under d.rule) p d.heap.row sound.filled (λ k h lt. let live = sound.live k h lt in live.within), limit_under-ceiling d.rule)

pub found-of : (p : Ptr) (row : List (Cell (List ℕ))) → 1 ≤ length (payload_of p row) → IsFound p row
found-of p row some = by (cell_at p row) refl some
  where
    by : (o : Option (Cell (List ℕ))) → cell_at p row ≡ o → 1 ≤ length (content_or_nil o) → IsFound p row
    by None is none = absurd (omega (arith, none))
    by (Some c) is _ = record { cell = c; found = is }

whole : (ws : List ℕ) → 1 ≤ length ws → slice_index ws 0 ∷ joined (units_after ws) ≡ ws
whole [] some = absurd (omega (arith, some))
whole (w ∷ ws) some = ap (λ vs. w ∷ vs) (joined-halves ws)

pub following-room : (ws : List ℕ) → length (units_after ws) ≡ room_in (length ws)
following-room [] = omega arith
following-room (w ∷ ws) = omega (arith, length-halves ws)

pub units-zeros : (n : ℕ) → AreUnits (zeros n)
units-zeros n = All-replicate IsUnit n 0 (omega arith)

pub is_live : (p : Ptr) (row : List (Cell (List ℕ))) → 1 ≤ length (payload_of p row) → is_some (cell_at p row) ≡ true
is_live p row some = let named = found-of p row some in ap (λ o. is_some o) named.found

-- before the first write
pub draft-none : (p : Ptr) (d : Debug) → HasUnits p d → IsDraft p d d (slice_index (payload_of p d.heap.row) 0) (units_after (payload_of p d.heap.row))
draft-none p d has = record {
  changed = sym (ap (λ ws. debug_changed d p ws) (whole (payload_of p d.heap.row) has.some) ∙ ap (λ r. with_row d r) (changed-same p d.heap.row));
  room = following-room (payload_of p d.heap.row);
  units = has.units;
}

module _ (p : Ptr) (d e : Debug) (len : ℕ) (us : List ℕ) (has : HasUnits p d) (draft : IsDraft p d e len us) where
  pub draft-even : length us % 2 ≡ 0
  draft-even = ap (λ n. n % 2) draft.room ∙ room-even (length (payload_of p d.heap.row))

  pub draft-payload : payload_of p e.heap.row ≡ len ∷ joined us
  draft-payload =
      let named = found-of p d.heap.row has.some in
      ap (λ (x : Debug). payload_of p x.heap.row) draft.changed ∙ ap content_or_nil (found-changed p (len ∷ joined us) d.heap.row named.cell named.found)

  pub draft-words : length (payload_of p e.heap.row) ≡ length (payload_of p d.heap.row)
  draft-words = omega (arith, ap length draft-payload, length-joined us draft-even, draft.room, has.some)

  pub draft-length : slice_index (payload_of p e.heap.row) 0 ≡ len
  draft-length = ap (λ ws. slice_index ws 0) draft-payload

  pub draft-following : units_after (payload_of p e.heap.row) ≡ us
  draft-following = ap units_after draft-payload ∙ halves-joined us draft-even draft.units

  pub draft-has : len ≤ room_in (length (payload_of p d.heap.row)) → HasUnits p e
  draft-has le = record {
    some = omega (arith, draft-words, has.some);
    within = omega (arith, draft-length, ap room_in draft-words, le);
    units = subst AreUnits (sym draft-following) draft.units;
  }

  -- one edit after another
  pub draft-then : (f : Debug) (len' : ℕ) (us' : List ℕ) → IsDraft p e f len' us' → IsDraft p d f len' us'
  draft-then f len' us' next = record {
    changed = next.changed
        ∙ ap (λ (x : Debug). debug_changed x p (len' ∷ joined us')) draft.changed
        ∙ ap (λ r. with_row d r) (changed-twice p (len' ∷ joined us') (len ∷ joined us) d.heap.row);
    room = next.room ∙ ap room_in draft-words;
    units = next.units;
  }

  rewritten : (f : Debug) (words : List ℕ) (len' : ℕ) (us' : List ℕ) → f ≡ debug_changed e p words → words ≡ len' ∷ joined us' → f ≡ debug_changed d p (len' ∷ joined us')
  rewritten f words len' us' made is =
      made ∙ ap (λ ws. debug_changed e p ws) is
      ∙ ap (λ (x : Debug). debug_changed x p (len' ∷ joined us')) draft.changed
      ∙ ap (λ r. with_row d r) (changed-twice p (len' ∷ joined us') (len ∷ joined us) d.heap.row)

  -- a unit is written
  pub draft-set : (f : Debug) (i k v : ℕ) → k ≡ i + 2 → i < length us → v < 2 ^ 16 → f ≡ debug_changed e p (with_half (payload_of p e.heap.row) k v) →
      IsDraft p d f len (set us i v)
  draft-set f i k v here lt unit made = record {
    changed = rewritten f (with_half (payload_of p e.heap.row) k v) len (set us i v) made
        (ap (λ ws. with_half ws k v) draft-payload ∙ set-following len us i k v (omega (arith, here)) draft-even draft.units lt);
    room = length-set us i v ∙ draft.room;
    units = All-set IsUnit us i v unit draft.units;
  }

  -- a run of units is written
  pub draft-put : (f : Debug) (at k : ℕ) (vs : List ℕ) → k ≡ at + 2 → at + length vs ≤ length us → AreUnits vs →
      f ≡ debug_changed e p (with_halves (payload_of p e.heap.row) k vs) → IsDraft p d f len (put at vs us)
  draft-put f at k vs here fits new made = record {
    changed = rewritten f (with_halves (payload_of p e.heap.row) k vs) len (put at vs us) made
        (ap (λ ws. with_halves ws k vs) draft-payload ∙ put-following len us at k vs (omega (arith, here)) draft-even draft.units new fits);
    room = length-put at vs us fits ∙ draft.room;
    units = units-put at vs us new draft.units;
  }

  -- the length is written
  pub draft-length-set : (f : Debug) (n : ℕ) → f ≡ debug_changed e p (slice_set (payload_of p e.heap.row) 0 n) → IsDraft p d f n us
  draft-length-set f n made = record {
    changed = rewritten f (slice_set (payload_of p e.heap.row) 0 n) n us made (ap (λ ws. slice_set ws 0 n) draft-payload);
    room = draft.room;
    units = draft.units;
  }

-- what is known of words that read as a text
pub record IsTextWords (ws : List ℕ) : Type 0 where
  pub some : 1 ≤ length ws
  pub length-is : slice_index ws 0 ≡ length (text_in ws)
  pub following : units_after ws ≡ exactly (room_in (length ws)) (text_in ws)
  pub fits : length (text_in ws) ≤ room_in (length ws)
  pub units : AreUnits (text_in ws)

pub text-words : (p : Ptr) (d : Debug) → IsTextAt p d → IsTextWords (payload_of p d.heap.row)
text-words p d is =
    let payload : payload_of p d.heap.row ≡ is.cell.content = ap content_or_nil is.found in
    let read = text-read is.cell.content (text_in is.cell.content) is.text in
    let known : IsTextWords is.cell.content = record {
      some = read.some;
      length-is = read.length-is;
      following = read.following;
      fits = is.text.fits;
      units = is.text.units;
    } in
    subst IsTextWords (sym payload) known

pub text-has : (p : Ptr) (d : Debug) → IsTextAt p d → HasUnits p d
text-has p d is =
    let known = text-words p d is in
    record {
      some = known.some;
      within = omega (arith, known.length-is, known.fits);
      units = subst AreUnits (sym known.following) (IsUnit-exactly (room_in (length (payload_of p d.heap.row))) (text_at p d) known.units);
    }

-- an edit is done: the words are those of the new text
pub draft-text : (p : Ptr) (d e : Debug) (n : ℕ) (us t : List ℕ) → IsTextAt p d → IsDraft p d e n us → n ≡ length t →
    us ≡ exactly (room_in (length (payload_of p d.heap.row))) t → length t ≤ room_in (length (payload_of p d.heap.row)) → IsTextNow p d e t
draft-text p d e n us t is draft same filled fits =
    text-changed p d e t is
    (draft.changed ∙ ap (λ m. debug_changed d p (m ∷ joined us)) same ∙ ap (λ vs. debug_changed d p (length t ∷ joined vs)) filled)
    fits (IsUnit-shorter (room_in (length (payload_of p d.heap.row))) t fits (subst AreUnits filled draft.units))
