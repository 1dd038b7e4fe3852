-- A cell before an edit, and what a source has.
use Rattle.std.proofs.Common.{◌≡◌, ℕ, List, length, take, drop, slice_index, sym, subst, arith}
use Rattle.std.proofs.lemmas.List.{length-take-le}
use Rattle.wb_heap_model.specs.declared.heap.Ptr.{Ptr}
use Rattle.wb_heap_model.specs.CellRow.{payload_of}
use Rattle.wb_heap_model.specs.Debug.{Debug}
use Rattle.wb_heap_model.specs.TextCells.{room_in, units_after, text_at}
use Rattle.wb_heap_model.proofs.TextCells.{length-exactly}
use Rattle.wb_hbuf.specs.declared.sources.Source.{Source}
use Rattle.wb_hbuf.specs.Sources.{base_units, count_of, from_of, source_units}
use Rattle.wb_hbuf.specs.Drafts.{HasUnits, IsDraft, put}
use Rattle.wb_hbuf.proofs.Units.{put-none}
use Rattle.wb_hbuf.proofs.Drafts.{draft-none, following-room}

module _ (p : Ptr) (d : Debug) (has : HasUnits p d) where
  abbrev pub len : ℕ
  len = slice_index (payload_of p d.heap.row) 0

  abbrev pub all : List ℕ
  all = units_after (payload_of p d.heap.row)

  pub all-room : length all ≡ room_in (length (payload_of p d.heap.row))
  all-room = following-room (payload_of p d.heap.row)

  pub text-length : length (text_at p d) ≡ len
  text-length = length-take-le len all (omega (arith, all-room, has.within))

  -- before the first unit
  pub put-first : (at : ℕ) (us : List ℕ) → IsDraft p d d len (put at (take 0 us) all)
  put-first at us = subst (λ vs. IsDraft p d d len vs) (sym (put-none at all)) (draft-none p d has)

-- a source has as many units as it says
pub units-counted : (d : Debug) (own : List ℕ) (s : Source) → length (source_units d own s) ≡ count_of s
units-counted d own s = length-exactly (count_of s) (drop (from_of s) (base_units d own s))
