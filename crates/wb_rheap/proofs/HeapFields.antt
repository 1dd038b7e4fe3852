-- What each call leaves of the heap's fields.
use Rattle.std.proofs.Common.{◌≡◌, ◌≢◌, ℕ, ◌+◌, ◌-◌, ◌≤◌, ◌<◌, ◌++◌, List, length, take, drop, slice_set, max, Option, Some, None, option_map, All, refl, sym, ◌∙◌, ap, subst, arith}
use Rattle.wb_heap_model.specs.declared.heap.Header.{Header}
use Rattle.wb_heap_model.specs.declared.heap.Kind.{Kind}
use Rattle.wb_heap_model.specs.declared.heap.Ptr.{Ptr}
use Rattle.wb_heap_model.specs.CellRow.{CellRow, payload_of, with_payload, with_level}
use Rattle.wb_heap_model.specs.LimitedHeap.{LimitedHeap, IsCellLength, IsSoundHeap, place_in, fresh_cell, committed_with, compressed_length, heap_with}
use Rattle.wb_heap_model.specs.Row.{Cell, headers, cell_at, inserted, without, total_length}
use Rattle.wb_heap_model.proofs.LimitedHeaps.{IsSoundHeap-heap_with, IsSoundHeap-heap_without, IsSoundHeap-heap_changed, IsSoundHeap-heap_compressed}
use Rattle.wb_heap_model.proofs.ReallocatedHeaps.{IsSoundHeap-heap_leveled}
use Rattle.wb_heap_model.proofs.Rows.{headers-changed}
use Rattle.wb_rheap.specs.declared.heap.Heap.TheInside.{Inside}
use Rattle.wb_rheap.specs.Heap.{heap_of, IsKept}
use Rattle.wb_rheap.proofs.Counters.{AreLess, without-less, inserted-more, length-changed, length-leveled, total-leveled}

-- another payload of the same length
pub changed-kept : (inside : Inside) (cells : CellRow) (p : Ptr) (words : List ℕ) →
    cells ≡ record inside.cells { row = with_payload p words inside.cells.row } → length words ≡ length (payload_of p inside.cells.row) → IsKept inside →
    IsKept (record inside { cells = cells })
changed-kept inside cells p words is same kept =
    subst (λ (x : CellRow). IsKept (record inside { cells = x })) (sym is) (record {
      sound = IsSoundHeap-heap_changed (heap_of inside) p words same kept.sound;
      counted = kept.counted ∙ sym (length-changed p (λ _. words) inside.cells.row);
      totalled = kept.totalled ∙ ap total_length (sym (headers-changed p (λ _. words) inside.cells.row));
    })

-- another level of one cell
pub leveled-kept : (inside : Inside) (cells : CellRow) (p : Ptr) (level : ℕ) → cells ≡ record inside.cells { row = with_level p level inside.cells.row } →
    IsKept inside → IsKept (record inside { cells = cells })
leveled-kept inside cells p level is kept =
    subst (λ (x : CellRow). IsKept (record inside { cells = x })) (sym is) (record {
      sound = IsSoundHeap-heap_leveled (heap_of inside) p level kept.sound;
      counted = kept.counted ∙ sym (length-leveled p level inside.cells.row);
      totalled = kept.totalled ∙ sym (total-leveled p level inside.cells.row);
    })

-- a cell that a pointer names
pub record IsNamed (p : Ptr) (row : List (Cell (List ℕ))) (h : Header) : Type 0 where
  pub cell : Cell (List ℕ)
  pub found : cell_at p row ≡ Some cell
  pub head : cell.head ≡ h

pub named : (p : Ptr) (row : List (Cell (List ℕ))) (h : Header) → option_map (λ c. c.head) (cell_at p row) ≡ Some h → IsNamed p row h
named p row h e = by (cell_at p row) refl e
  where
    by : (o : Option (Cell (List ℕ))) → cell_at p row ≡ o → option_map (λ c. c.head) o ≡ Some h → IsNamed p row h
    by None is found = cc
    by (Some c) is found = record { cell = c; found = is; head = cc }

-- a release: one cell less, and its length
pub released : (inside : Inside) (p : Ptr) (h : Header) → option_map (λ c. c.head) (cell_at p inside.cells.row) ≡ Some h → IsKept inside →
    AreLess inside.cells.row (without p inside.cells.row) h.length
released inside p h e kept =
    let is = named p inside.cells.row h e in
    subst (λ (g : Header). AreLess inside.cells.row (without p inside.cells.row) g.length) is.head
    (without-less p inside.cells.row is.cell kept.sound.row.numbered is.found)

pub released-kept : (inside : Inside) (cells : CellRow) (p : Ptr) (h : Header) → option_map (λ c. c.head) (cell_at p inside.cells.row) ≡ Some h →
    cells ≡ record inside.cells { row = without p inside.cells.row } → IsKept inside →
    IsKept (record inside { cells = cells; count = inside.count - 1; total = inside.total - h.length })
released-kept inside cells p h e is kept =
    let less = released inside p h e kept in
    subst (λ (x : CellRow). IsKept (record inside { cells = x; count = inside.count - 1; total = inside.total - h.length })) (sym is) (record {
      sound = IsSoundHeap-heap_without (heap_of inside) p kept.sound;
      counted = omega (arith, less.counted, kept.counted);
      totalled = omega (arith, less.totalled, kept.totalled);
    })

-- a grant
pub granted : (inside : Inside) (heap : LimitedHeap) (held taken : CellRow) (place committed length : ℕ) (kind : Kind) (number level : ℕ) →
    heap_of inside ≡ heap → held ≡ record inside.cells { held = max inside.cells.held committed } →
    taken ≡ record held { row = inserted (fresh_cell place length kind number level) held.row } → place ≡ place_in heap length →
    committed ≡ committed_with heap length →
    record { row = taken.row; limit = inside.limit; shape = inside.shape; committed = committed; held = taken.held } ≡ heap_with heap length kind number level
granted inside heap held taken place committed length kind number level is held_is taken_is at grown =
    let row : taken.row ≡ inserted (fresh_cell (place_in heap length) length kind number level) heap.row =
    ap (λ (x : CellRow). x.row) taken_is
    ∙ ap (λ r. inserted (fresh_cell place length kind number level) r) (ap (λ (x : CellRow). x.row) held_is ∙ ap (λ (x : LimitedHeap). x.row) is)
    ∙ ap (λ p. inserted (fresh_cell p length kind number level) heap.row) at in
    let most : taken.held ≡ max heap.held (committed_with heap length) =
    ap (λ (x : CellRow). x.held) taken_is ∙ ap (λ (x : CellRow). x.held) held_is
    ∙ ap (λ n. max n committed) (ap (λ (x : LimitedHeap). x.held) is) ∙ ap (λ n. max heap.held n) grown in
    let limit : inside.limit ≡ heap.limit = ap (λ (x : LimitedHeap). x.limit) is in
    let shape : inside.shape ≡ heap.shape = ap (λ (x : LimitedHeap). x.shape) is in
    cc

pub granted-kept : (inside : Inside) (heap : LimitedHeap) (held taken : CellRow) (place committed length : ℕ) (kind : Kind) (number level : ℕ) →
    heap_of inside ≡ heap → held ≡ record inside.cells { held = max inside.cells.held committed } →
    taken ≡ record held { row = inserted (fresh_cell place length kind number level) held.row } → place ≡ place_in heap length →
    committed ≡ committed_with heap length → IsCellLength length → 1 ≤ number → All (λ h. h.number ≢ number) (headers heap.row) →
    place + length ≤ inside.limit → IsKept inside →
    IsKept (record { cells = taken; limit = inside.limit; shape = inside.shape; committed = committed; count = inside.count + 1; total = inside.total + length })
granted-kept inside heap held taken place committed length kind number level is held_is taken_is at grown long numbered unused fits kept =
    let cell : Cell (List ℕ) = fresh_cell place length kind number level in
    let row : taken.row ≡ inserted cell inside.cells.row =
    ap (λ (x : CellRow). x.row) taken_is ∙ ap (λ r. inserted cell r) (ap (λ (x : CellRow). x.row) held_is) in
    let more = inserted-more cell inside.cells.row in
    let limit : inside.limit ≡ heap.limit = ap (λ (x : LimitedHeap). x.limit) is in
    record {
      sound = subst IsSoundHeap (sym (granted inside heap held taken place committed length kind number level is held_is taken_is at grown))
          (IsSoundHeap-heap_with heap length kind number level long numbered unused (omega (arith, fits, at, limit)) (subst IsSoundHeap is kept.sound));
      counted = omega (arith, kept.counted, more.counted, ap Rattle.std.proofs.Common.length row);
      totalled = omega (arith, kept.totalled, more.totalled, ap (λ r. total_length (headers r)) row);
    }

-- a compression
pub compressed-kept : (inside : Inside) (committed : ℕ) → committed ≡ compressed_length (heap_of inside) → IsKept inside →
    IsKept (record inside { committed = committed })
compressed-kept inside committed is kept =
    subst (λ n. IsKept (record inside { committed = n })) (sym is) (record {
      sound = IsSoundHeap-heap_compressed (heap_of inside) kept.sound;
      counted = kept.counted;
      totalled = kept.totalled;
    })
