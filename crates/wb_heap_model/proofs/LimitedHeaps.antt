-- What a grant and a release keep of a heap with a limit.
use Rattle.std.proofs.Common.{◌≡◌, ◌≢◌, ℕ, ◌+◌, ◌-◌, ◌*◌, ◌/◌, ◌%◌, ◌≤◌, ◌<◌, Bool, true, false, List, [], ◌∷◌, refl, arith, rules, suc, cond, min, length, subst, sym, ◌∙◌, ap, All, find, Option, Some, None, IfSome}
use Rattle.std.specs.Prelude.{nat_lt}
use Rattle.std.proofs.lemmas.Bool.{ltb-true, ltb-false}
use Rattle.std.proofs.Math.Nat.{mul-mod_left, mul_assoc}
use Rattle.std.proofs.lemmas.List.{length-replicate}
use Rattle.std.proofs.lemmas.List.Elements.{All-nil, All-filter}
use Rattle.wb_basics.specs.declared.limits.TheConstants.{CEILING, LARGEST_MINIMUM, LARGEST_STEP}
use Rattle.wb_heap_model.specs.declared.heap.Header.{Header}
use Rattle.wb_heap_model.specs.declared.heap.Kind.{Kind}
use Rattle.wb_heap_model.specs.declared.heap.Ptr.{Ptr}
use Rattle.wb_heap_model.specs.declared.heap.Rule.{Rule}
use Rattle.wb_heap_model.specs.declared.heap.Shape.{Shape}
use Rattle.wb_heap_model.specs.CellRow.{payload_of}
use Rattle.wb_heap_model.specs.Rules.{limit_of}
use Rattle.wb_heap_model.specs.Row.{headers, end_of, IsSpacedFrom, IsRow, IsLeastPlace, top_of}
use Rattle.wb_heap_model.specs.Space.{Space, below_ceiling, committed_by, compressed_to, limit_under, round_up, is_shape}
use Rattle.wb_heap_model.specs.LimitedHeap.{LimitedHeap, IsSoundHeap, IsCellLength, IsLiveBelow, IsFilled, space_in, place_in, zero_words, fresh_cell, empty_heap, heap_with, heap_without, heap_changed, compressed_length, heap_compressed}
use Rattle.wb_heap_model.proofs.Places.{place_of-least}
use Rattle.wb_heap_model.proofs.Rows.{headers-without, headers-changed, IsRow-filter, IsRow-inserted, All-inserted, All-placed, place_from-top, top_from-within, ends-within}
use Rattle.wb_heap_model.proofs.Payloads.{filled-changed}

pub record IsShape (shape : Shape) : Type 0 where
  pub min_aligned : shape.min % 16 ≡ 0
  pub min_greatest : shape.min ≤ LARGEST_MINIMUM
  pub step_aligned : shape.step % 16 ≡ 0
  pub step_least : 16 ≤ shape.step
  pub step_greatest : shape.step ≤ LARGEST_STEP

pub shape_is : (shape : Shape) → is_shape shape ≡ true → IsShape shape
shape_is shape e = search rules

pub round_up-above : (n step : ℕ) → 0 < step → n ≤ round_up n step
round_up-above n step some = omega arith

times-aligned : (k n : ℕ) → n % 16 ≡ 0 → k * n % 16 ≡ 0
times-aligned k n e =
    let sixteens : n ≡ n / 16 * 16 = omega arith in
    ap (λ m. k * m % 16) sixteens ∙ ap (λ m. m % 16) (sym (mul_assoc k (n / 16) 16)) ∙ mul-mod_left (k * (n / 16)) 16

pub round_up-aligned : (n step : ℕ) → step % 16 ≡ 0 → round_up n step % 16 ≡ 0
round_up-aligned n step e = times-aligned ((n + (step - 1)) / step) step e

least-aligned : (m n : ℕ) → m % 16 ≡ 0 → n % 16 ≡ 0 → min m n % 16 ≡ 0
least-aligned m n a b = omega arith

-- the committed length covers the new cell, and keeps its bounds
pub record IsCommitted (space : Space) (committed end new : ℕ) : Type 0 where
  pub grown : committed ≤ new
  pub covers : end ≤ new
  pub bound : new ≤ space.bound
  pub aligned : new % 16 ≡ 0

pub committed_by-is : (space : Space) (committed end : ℕ) → 0 < space.step → space.step % 16 ≡ 0 → space.bound % 16 ≡ 0 → committed % 16 ≡ 0 →
    committed ≤ space.bound → end ≤ space.bound → IsCommitted space committed end (committed_by space committed end)
committed_by-is space committed end some stepped bounded aligned within fits = go (nat_lt committed end) refl
  where
    up : end ≤ round_up end space.step
    up = round_up-above end space.step some

    go : (b : Bool) → nat_lt committed end ≡ b → IsCommitted space committed end (cond b (min (round_up end space.step) space.bound) committed)
    go true e = record { grown = omega (arith, ltb-true _ _ e, up); covers = omega (arith, up); bound = omega arith; aligned = least-aligned _ _ (round_up-aligned end space.step stepped) bounded }
    go false e = record { grown = omega arith; covers = omega (arith, ltb-false _ _ e); bound = within; aligned = aligned }

pub IsSoundHeap-empty_heap : (limit : ℕ) (shape : Shape) → limit ≤ CEILING → is_shape shape ≡ true → IsSoundHeap (empty_heap limit shape)
IsSoundHeap-empty_heap limit shape le e = record {
  row = record { spaced = tt; numbered = λ i j d lt end. absurd (omega arith) };
  within = All-nil _;
  least = omega arith;
  bound = omega arith;
  aligned = least-aligned shape.min (limit / 16 * 16) (shape_is shape e).min_aligned (mul-mod_left (limit / 16) 16);
  covered = omega arith;
  held = omega arith;
  filled = All-nil _;
  limit = le;
  shape = e;
}

-- the words of a new cell
fresh-filled : (bytes : ℕ) → bytes % 16 ≡ 0 → 4 * length (zero_words bytes) ≡ bytes - 16
fresh-filled bytes aligned =
    let words : 4 * (bytes / 4 - 4) ≡ bytes - 16 = omega arith in
    ap (λ n. 4 * n) (length-replicate (bytes / 4 - 4) 0) ∙ words

-- the row ends below the committed length, and so does each place
pub top_of-committed : (heap : LimitedHeap) → IsSoundHeap heap → top_of (headers heap.row) ≤ heap.committed
top_of-committed heap is = top_from-within (headers heap.row) 0 heap.committed (omega arith) is.within

pub place_in-committed : (heap : LimitedHeap) (length : ℕ) → IsSoundHeap heap → place_in heap length ≤ heap.committed
place_in-committed heap length is = omega (arith, place_from-top (headers heap.row) 0 length is.row.spaced, top_of-committed heap is)

pub place_in-least : (heap : LimitedHeap) (length : ℕ) → IsCellLength length → IsSoundHeap heap → IsLeastPlace (headers heap.row) length (place_in heap length)
place_in-least heap length long is = place_of-least (headers heap.row) length (omega (arith, long.least)) is.row.spaced

pub IsSoundHeap-heap_with : (heap : LimitedHeap) (length : ℕ) (kind : Kind) (number level : ℕ) → IsCellLength length → 1 ≤ number →
    All (λ h. h.number ≢ number) (headers heap.row) → place_in heap length + length ≤ heap.limit → IsSoundHeap heap →
    IsSoundHeap (heap_with heap length kind number level)
IsSoundHeap-heap_with heap length kind number level long numbered unused fits is =
    let least = place_in-least heap length long is in
    let shape = shape_is heap.shape is.shape in
    let committed = committed_by-is (space_in heap) heap.committed (place_in heap length + length) (omega (arith, shape.step_least)) shape.step_aligned
    (mul-mod_left (heap.limit / 16) 16) is.aligned is.bound (omega (arith, fits, least.aligned, long.aligned)) in
    record {
      row = IsRow-inserted (fresh_cell (place_in heap length) length kind number level) heap.row least.aligned long.aligned long.least numbered least.free unused is.row;
      within = All-inserted (λ h. end_of h ≤ committed_by (space_in heap) heap.committed (place_in heap length + length))
          (fresh_cell (place_in heap length) length kind number level) heap.row committed.covers
          (λ k d lt. omega (arith, is.within k d lt, committed.grown));
      least = omega (arith, is.least, committed.grown);
      bound = committed.bound;
      aligned = committed.aligned;
      covered = omega arith;
      held = omega (arith, is.held, committed.bound);
      filled = All-placed IsFilled (fresh_cell (place_in heap length) length kind number level) heap.row (fresh-filled length long.aligned) is.filled;
      limit = is.limit;
      shape = is.shape;
    }

pub IsSoundHeap-heap_without : (heap : LimitedHeap) (p : Ptr) → IsSoundHeap heap → IsSoundHeap (heap_without heap p)
IsSoundHeap-heap_without heap p is =
    let e = sym (headers-without p heap.row) in
    record {
      row = subst IsRow e (IsRow-filter _ (headers heap.row) is.row);
      within = subst (All (λ h. end_of h ≤ heap.committed)) e (All-filter _ (λ h. end_of h ≤ heap.committed) (headers heap.row) is.within);
      least = is.least;
      bound = is.bound;
      aligned = is.aligned;
      covered = is.covered;
      held = is.held;
      filled = All-filter _ IsFilled heap.row is.filled;
      limit = is.limit;
      shape = is.shape;
    }

-- another payload of the same length
pub IsSoundHeap-heap_changed : (heap : LimitedHeap) (p : Ptr) (words : List ℕ) → length words ≡ length (payload_of p heap.row) → IsSoundHeap heap →
    IsSoundHeap (heap_changed heap p words)
IsSoundHeap-heap_changed heap p words same is =
    let e = sym (headers-changed p (λ _. words) heap.row) in
    record {
      row = subst IsRow e is.row;
      within = subst (All (λ h. end_of h ≤ heap.committed)) e is.within;
      least = is.least;
      bound = is.bound;
      aligned = is.aligned;
      covered = is.covered;
      held = is.held;
      filled = filled-changed p words heap.row same is.filled;
      limit = is.limit;
      shape = is.shape;
    }

-- what is left of the committed length covers the row, and keeps its bounds
pub record IsCompressed (space : Space) (committed top new : ℕ) : Type 0 where
  pub least : space.least ≤ new
  pub covers : top ≤ new
  pub fallen : new ≤ committed
  pub aligned : new % 16 ≡ 0

compressed_to-is : (space : Space) (committed top : ℕ) → 0 < space.step → space.step % 16 ≡ 0 → space.least % 16 ≡ 0 → space.bound % 16 ≡ 0 →
    committed % 16 ≡ 0 → space.least ≤ committed → committed ≤ space.bound → top ≤ committed →
    IsCompressed space committed top (compressed_to space committed top)
compressed_to-is space committed top some stepped lowest bounded aligned least within fits =
    let up = round_up-above top space.step some in
    let rounded = round_up-aligned top space.step stepped in
    record { least = omega arith; covers = omega (arith, up); fallen = omega arith; aligned = omega (arith, rounded) }

pub compressed_length-is : (heap : LimitedHeap) → IsSoundHeap heap → IsCompressed (space_in heap) heap.committed (top_of (headers heap.row)) (compressed_length heap)
compressed_length-is heap is =
    let shape = shape_is heap.shape is.shape in
    compressed_to-is (space_in heap) heap.committed (top_of (headers heap.row)) (omega (arith, shape.step_least)) shape.step_aligned
    (least-aligned heap.shape.min (heap.limit / 16 * 16) shape.min_aligned (mul-mod_left (heap.limit / 16) 16)) (mul-mod_left (heap.limit / 16) 16)
    is.aligned is.least is.bound (top_of-committed heap is)

pub IsSoundHeap-heap_compressed : (heap : LimitedHeap) → IsSoundHeap heap → IsSoundHeap (heap_compressed heap)
IsSoundHeap-heap_compressed heap is =
    let now = compressed_length-is heap is in
    record {
      row = is.row;
      within = λ k d lt. omega (arith, ends-within (headers heap.row) 0 is.row.spaced k d lt, now.covers);
      least = now.least;
      bound = omega (arith, now.fallen, is.bound);
      aligned = now.aligned;
      covered = omega (arith, now.fallen, is.covered);
      held = is.held;
      filled = is.filled;
      limit = is.limit;
      shape = is.shape;
    }

-- each cell that a walk or a look-up finds
live_from : (hs : List Header) (at : ℕ) (limit : ℕ) (p : Header → Bool) → IsSpacedFrom at hs → All (λ h. end_of h ≤ limit) hs → IfSome (find p hs) (IsLiveBelow limit)
live_from [] at limit p s within = tt
live_from (h ∷ hs) at limit p s within = go (p h) (live_from hs (end_of h) limit p s.5 (λ k d lt. within (suc k) d (omega arith)))
  where
    go : (b : Bool) → IfSome (find p hs) (IsLiveBelow limit) → IfSome (cond b (Some h) (find p hs)) (IsLiveBelow limit)
    go true rest = record { placed = s.1; aligned = s.2; least = s.3; numbered = s.4; within = within 0 h (omega arith) }
    go false rest = rest

pub found-live : (heap : LimitedHeap) (p : Header → Bool) → IsSoundHeap heap → IfSome (find p (headers heap.row)) (IsLiveBelow heap.limit)
found-live heap p is = live_from (headers heap.row) 0 heap.limit p is.row.spaced (λ k d lt. omega (arith, is.within k d lt, is.bound))

-- what holds of all cells, and of the new one
pub All-heap_with : (P : Header → Type 0) (heap : LimitedHeap) (length : ℕ) (kind : Kind) (number level : ℕ) →
    P (record { place = place_in heap length; length = length; kind = kind; level = level; number = number }) → All P (headers heap.row) →
    All P (headers (heap_with heap length kind number level).row)
All-heap_with P heap length kind number level here rest = All-inserted P (fresh_cell (place_in heap length) length kind number level) heap.row here rest

pub All-heap_without : (P : Header → Type 0) (heap : LimitedHeap) (p : Ptr) → All P (headers heap.row) → All P (headers (heap_without heap p).row)
All-heap_without P heap p all = subst (All P) (sym (headers-without p heap.row)) (All-filter _ P (headers heap.row) all)

-- no rule lets a heap pass the ceiling
pub limit_under-ceiling : (r : Rule) → limit_under r ≤ CEILING
limit_under-ceiling r = by (limit_of r)
  where
    by : (o : Option ℕ) → below_ceiling o ≤ CEILING
    by None = omega arith
    by (Some l) = omega arith
