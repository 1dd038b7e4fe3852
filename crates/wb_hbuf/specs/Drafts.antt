-- A text while an edit is at work on it: the length word still tells the text that was, and units are put one after another.
use Rattle.std.specs.Prelude.{◌≡◌, ℕ, ◌+◌, ◌*◌, ◌^◌, ◌<◌, ◌≤◌, List, ◌∷◌, ◌++◌, length, take, drop, slice_index, Result, Ok, OnOk}
use Rattle.wb_heap_model.specs.declared.heap.Ptr.{Ptr}
use Rattle.wb_heap_model.specs.CellRow.{payload_of}
use Rattle.wb_heap_model.specs.declared.heap.Panic.{Panic}
use Rattle.wb_heap_model.specs.Texts.{AreUnits, Edited, answer_of}
use Rattle.wb_heap_model.specs.Debug.{Debug, IsSoundDebug, debug_changed}
use Rattle.wb_heap_model.specs.TextCells.{joined, room_in, units_after, text_at, max_at, IsTextAt, debug_edited}

-- units in place of as many others, from a place on
abbrev pub put : ℕ → List ℕ → List ℕ → List ℕ
put at us all = take at all ++ us ++ drop (at + length us) all

-- the words that a pointer names are a length, and units after it
pub record HasUnits (p : Ptr) (d : Debug) : Type 0 where
  pub some : 1 ≤ length (payload_of p d.heap.row)
  pub within : slice_index (payload_of p d.heap.row) 0 ≤ room_in (length (payload_of p d.heap.row))
  pub units : AreUnits (units_after (payload_of p d.heap.row))

-- the length and the maximum of the text in a cell, and what is known before an edit
pub record IsMeasured (p : Ptr) (d : Debug) (len most : ℕ) : Type 0 where
  pub length-is : len ≡ length (text_at p d)
  pub max-is : most ≡ max_at p d
  pub room : most ≡ room_in (length (payload_of p d.heap.row))
  pub small : 2 * length (payload_of p d.heap.row) < 2 ^ 32
  pub units : HasUnits p d
  pub sound : IsSoundDebug d

-- the heap once the cell has this length word and these units after it
pub record IsDraft (p : Ptr) (old new : Debug) (len : ℕ) (us : List ℕ) : Type 0 where
  pub changed : new ≡ debug_changed old p (len ∷ joined us)
  pub room : length us ≡ room_in (length (payload_of p old.heap.row))
  pub units : AreUnits us

-- the heap once units were put into the text in a cell, whose length word stays
abbrev pub IsPut : Ptr → Debug → Debug → ℕ → List ℕ → Type 0
IsPut p old new at us =
    let words = payload_of p old.heap.row in
    IsDraft p old new (slice_index words 0) (put at us (units_after words))

-- what an edit leaves and answers
pub record IsEdited (p : Ptr) (old new : Debug) (outcome : Result (Unit {0}) Panic) (e : Edited) : Type 0 where
  pub answer : outcome ≡ answer_of e
  pub changed : new ≡ debug_edited old p e
  pub text : IsTextAt p new
  pub now : OnOk outcome (e ≡ Ok (text_at p new))
  pub sound : IsSoundDebug new
