-- What a cell that becomes longer or shorter leaves of the heap's fields.
use Rattle.std.proofs.Common.{◌≡◌, ◌≢◌, ℕ, ◌+◌, ◌-◌, ◌≤◌, ◌<◌, List, length, max, All, Some, refl, sym, ◌∙◌, ap, subst, arith}
use Rattle.wb_heap_model.specs.declared.heap.Header.{Header}
use Rattle.wb_heap_model.specs.CellRow.{CellRow, with_length, resized_cell}
use Rattle.wb_heap_model.specs.LimitedHeap.{LimitedHeap, IsCellLength, IsSoundHeap, heap_grown, heap_shortened, grown_cell, committed_grown, place_to_grow}
use Rattle.wb_heap_model.specs.Row.{Cell, headers, cell_at, inserted, without, pointer_to, total_length}
use Rattle.wb_heap_model.proofs.Reallocations.{with_length-inserted}
use Rattle.wb_heap_model.proofs.ReallocatedHeaps.{IsSoundHeap-heap_grown, IsSoundHeap-heap_shortened}
use Rattle.wb_rheap.specs.declared.heap.Heap.TheInside.{Inside}
use Rattle.wb_rheap.specs.Heap.{heap_of, IsKept}
use Rattle.wb_rheap.proofs.Counters.{AreLess, without-less, inserted-more}
use Rattle.wb_rheap.proofs.Growing.{Names, cell-of, whole-cell}

-- a cell that became longer
pub grown : (inside : Inside) (heap : LimitedHeap) (cell new : Cell (List ℕ)) (held moved : CellRow) (committed length number : ℕ) → heap_of inside ≡ heap →
    held ≡ record inside.cells { held = max inside.cells.held committed } →
    moved ≡ record held { row = inserted new (without (pointer_to cell.head) held.row) } → new ≡ grown_cell heap cell length number →
    committed ≡ committed_grown heap cell.head length →
    record { row = moved.row; limit = inside.limit; shape = inside.shape; committed = committed; held = moved.held } ≡ heap_grown heap cell length number
grown inside heap cell new held moved committed length number is held_is moved_is new_is grown_is =
    let row : moved.row ≡ inserted (grown_cell heap cell length number) (without (pointer_to cell.head) heap.row) =
    ap (λ (x : CellRow). x.row) moved_is
    ∙ ap (λ r. inserted new (without (pointer_to cell.head) r)) (ap (λ (x : CellRow). x.row) held_is ∙ ap (λ (x : LimitedHeap). x.row) is)
    ∙ ap (λ x. inserted x (without (pointer_to cell.head) heap.row)) new_is in
    let most : moved.held ≡ max heap.held (committed_grown heap cell.head length) =
    ap (λ (x : CellRow). x.held) moved_is ∙ ap (λ (x : CellRow). x.held) held_is
    ∙ ap (λ n. max n committed) (ap (λ (x : LimitedHeap). x.held) is) ∙ ap (λ n. max heap.held n) grown_is in
    let limit : inside.limit ≡ heap.limit = ap (λ (x : LimitedHeap). x.limit) is in
    let shape : inside.shape ≡ heap.shape = ap (λ (x : LimitedHeap). x.shape) is in
    cc

pub grown-kept : (inside : Inside) (heap : LimitedHeap) (cell new : Cell (List ℕ)) (held moved : CellRow) (committed length number : ℕ) → heap_of inside ≡ heap →
    held ≡ record inside.cells { held = max inside.cells.held committed } →
    moved ≡ record held { row = inserted new (without (pointer_to cell.head) held.row) } → new ≡ grown_cell heap cell length number →
    committed ≡ committed_grown heap cell.head length → IsCellLength length → 1 ≤ number → All (λ h. h.number ≢ number) (headers heap.row) →
    place_to_grow heap cell.head length + length ≤ heap.limit → cell_at (pointer_to cell.head) heap.row ≡ Some cell → cell.head.length < length → IsKept inside →
    IsKept (record {
      cells = moved;
      limit = inside.limit;
      shape = inside.shape;
      committed = committed;
      count = inside.count;
      total = inside.total + (length - cell.head.length);
    })
grown-kept inside heap cell new held moved committed length number is held_is moved_is new_is grown_is long numbered unused fits found longer kept =
    let p = pointer_to cell.head in
    let here : inside.cells.row ≡ heap.row = ap (λ (x : LimitedHeap). x.row) is in
    let sound = subst IsSoundHeap is kept.sound in
    let row : moved.row ≡ inserted new (without p heap.row) =
    ap (λ (x : CellRow). x.row) moved_is ∙ ap (λ r. inserted new (without p r)) (ap (λ (x : CellRow). x.row) held_is ∙ here) in
    let less = without-less p heap.row cell sound.row.numbered found in
    let more = inserted-more new (without p heap.row) in
    let size : new.head.length ≡ length = ap (λ (x : Cell (List ℕ)). x.head.length) new_is in
    record {
      sound = subst IsSoundHeap (sym (grown inside heap cell new held moved committed length number is held_is moved_is new_is grown_is))
          (IsSoundHeap-heap_grown heap p cell length number long numbered unused fits found sound);
      counted = omega (arith, kept.counted, less.counted, more.counted, ap Rattle.std.proofs.Common.length row, ap Rattle.std.proofs.Common.length here);
      totalled = omega (arith, kept.totalled, less.totalled, more.totalled, size, ap (λ r. total_length (headers r)) row, ap (λ r. total_length (headers r)) here);
    }

-- a cell that became shorter
module _ (inside : Inside) (h : Header) (length : ℕ) (cells : CellRow) (live : Names (pointer_to h) inside.cells.row h)
    (is : cells ≡ record inside.cells { row = with_length (pointer_to h) length inside.cells.row }) (kept : IsKept inside) where
  abbrev cell : Cell (List ℕ)
  cell = cell-of (pointer_to h) inside.cells.row h

  there : cell_at (pointer_to h) inside.cells.row ≡ Some cell
  there = whole-cell (pointer_to h) inside.cells.row h live

  row : cells.row ≡ inserted (resized_cell length cell) (without (pointer_to h) inside.cells.row)
  row =
      ap (λ (x : CellRow). x.row) is
      ∙ with_length-inserted (pointer_to h) length inside.cells.row 0 cell kept.sound.row.spaced kept.sound.row.numbered there

  pub less-by : AreLess inside.cells.row (without (pointer_to h) inside.cells.row) h.length
  less-by = without-less (pointer_to h) inside.cells.row cell kept.sound.row.numbered there

  pub shortened : record { row = cells.row; limit = inside.limit; shape = inside.shape; committed = inside.committed; held = cells.held } ≡
      heap_shortened (heap_of inside) cell length
  shortened =
      ap (λ r. record { row = r; limit = inside.limit; shape = inside.shape; committed = inside.committed; held = cells.held }) row
      ∙ ap (λ (x : CellRow). record {
        row = inserted (resized_cell length cell) (without (pointer_to h) inside.cells.row);
        limit = inside.limit;
        shape = inside.shape;
        committed = inside.committed;
        held = x.held;
      }) is

  pub shortened-kept : IsCellLength length → length ≤ h.length → IsKept (record inside { cells = cells; total = inside.total - (h.length - length) })
  shortened-kept long shorter =
      let less = less-by in
      let more = inserted-more (resized_cell length cell) (without (pointer_to h) inside.cells.row) in
      let now = row in
      record {
        sound = subst IsSoundHeap (sym shortened) (IsSoundHeap-heap_shortened (heap_of inside) (pointer_to h) cell length long shorter there kept.sound);
        counted = omega (arith, kept.counted, less.counted, more.counted, ap Rattle.std.proofs.Common.length now);
        totalled = omega (arith, kept.totalled, less.totalled, more.totalled, ap (λ r. total_length (headers r)) now);
      }
