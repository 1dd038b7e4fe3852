-- The words of one cell are written one after another.
use Rattle.std.proofs.Common.{◌≡◌, ℕ, ◌+◌, ◌≤◌, List, [], ◌∷◌, length, slice_set, Option, Some, None, refl, sym, ap, ◌∙◌, arith}
use Rattle.std.proofs.lemmas.List.{length-set}
use Rattle.wb_heap_model.specs.declared.heap.Ptr.{Ptr}
use Rattle.wb_heap_model.specs.Row.{Cell, cell_at}
use Rattle.wb_heap_model.specs.CellRow.{content_or_nil, payload_of, with_payload}
use Rattle.wb_heap_model.specs.Debug.{Debug, debug_changed, with_row}
use Rattle.wb_heap_model.proofs.TextCellsHeap.{found-changed, changed-same, changed-twice}
use Rattle.wb_cleanup.specs.Slots.{with_words}
use Rattle.wb_cleanup.proofs.SlotWords.{set-four}

-- the new words are found
pub payload-then : (p : Ptr) (d e : Debug) (ws : List ℕ) → 1 ≤ length (payload_of p d.heap.row) → e ≡ debug_changed d p ws → payload_of p e.heap.row ≡ ws
payload-then p d e ws some changed = ap (λ (x : Debug). payload_of p x.heap.row) changed ∙ by (cell_at p d.heap.row) refl some
  where
    by : (o : Option (Cell (List ℕ))) → cell_at p d.heap.row ≡ o → 1 ≤ length (content_or_nil o) → payload_of p (with_payload p ws d.heap.row) ≡ ws
    by None is none = absurd (omega (arith, none))
    by (Some c) is some = ap content_or_nil (found-changed p ws d.heap.row c is)

-- the last words stay
pub changed-then : (p : Ptr) (d e f : Debug) (ws vs : List ℕ) → e ≡ debug_changed d p ws → f ≡ debug_changed e p vs → f ≡ debug_changed d p vs
changed-then p d e f ws vs first second =
    second ∙ ap (λ (x : Debug). debug_changed x p vs) first ∙ ap (λ r. with_row d r) (changed-twice p vs ws d.heap.row)

-- a word that is written leaves as many words
pub same-length : (p : Ptr) (d e : Debug) (i v : ℕ) → 1 ≤ length (payload_of p d.heap.row) → e ≡ debug_changed d p (slice_set (payload_of p d.heap.row) i v) →
    length (payload_of p e.heap.row) ≡ length (payload_of p d.heap.row)
same-length p d e i v some changed =
    ap length (payload-then p d e (slice_set (payload_of p d.heap.row) i v) some changed) ∙ length-set (payload_of p d.heap.row) i v

-- one word more
next-written : (p : Ptr) (d e f : Debug) (ws : List ℕ) (i v : ℕ) → 1 ≤ length (payload_of p d.heap.row) → e ≡ debug_changed d p ws →
    f ≡ debug_changed e p (slice_set (payload_of p e.heap.row) i v) → f ≡ debug_changed d p (slice_set ws i v)
next-written p d e f ws i v some is next =
    changed-then p d e f ws (slice_set ws i v) is (next ∙ ap (λ us. debug_changed e p (slice_set us i v)) (payload-then p d e ws some is))

-- four words from a place on
module _ (p : Ptr) (d0 d1 d2 d3 d4 : Debug) (i a b c d : ℕ) (fits : i + 4 ≤ length (payload_of p d0.heap.row))
    (first : d1 ≡ debug_changed d0 p (slice_set (payload_of p d0.heap.row) i a))
    (second : d2 ≡ debug_changed d1 p (slice_set (payload_of p d1.heap.row) (i + 1) b))
    (third : d3 ≡ debug_changed d2 p (slice_set (payload_of p d2.heap.row) (i + 2) c))
    (fourth : d4 ≡ debug_changed d3 p (slice_set (payload_of p d3.heap.row) (i + 3) d)) where
  pub four-written : d4 ≡ debug_changed d0 p (with_words i (a ∷ b ∷ c ∷ d ∷ []) (payload_of p d0.heap.row))
  four-written =
      let ws = payload_of p d0.heap.row in
      let some : 1 ≤ length ws = omega (arith, fits) in
      let two = next-written p d0 d1 d2 (slice_set ws i a) (i + 1) b some first second in
      let three = next-written p d0 d2 d3 (slice_set (slice_set ws i a) (i + 1) b) (i + 2) c some two third in
      let four = next-written p d0 d3 d4 (slice_set (slice_set (slice_set ws i a) (i + 1) b) (i + 2) c) (i + 3) d some three fourth in
      four ∙ ap (debug_changed d0 p) (set-four ws i a b c d fits)

-- the words stay as they were
pub unwritten : (p : Ptr) (d e : Debug) → e ≡ d → e ≡ debug_changed d p (payload_of p e.heap.row)
unwritten p d e same =
    same ∙ sym (ap (λ (x : Debug). debug_changed d p (payload_of p x.heap.row)) same ∙ ap (λ r. with_row d r) (changed-same p d.heap.row))
