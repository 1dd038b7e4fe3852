-- Numbers stay below a bound, whatever a call of the heap makes of the row.
use Rattle.std.proofs.Common.{◌≡◌, ℕ, ◌<◌, All, Bool, true, false, cond, List, Option, Some, None, Result, Ok, Err, IsSomeAnd, refl, subst, sym, arith}
use Rattle.std.specs.Prelude.{OnOk, OnErr, nat_eq}
use Rattle.wb_heap_model.specs.declared.heap.Kind.{Kind}
use Rattle.wb_heap_model.specs.declared.heap.Ptr.{Ptr}
use Rattle.wb_heap_model.specs.LimitedHeap.{LimitedHeap, heap_with, heap_without, heap_changed, heap_leveled, heap_reallocated, place_to_grow}
use Rattle.wb_heap_model.specs.Row.{Cell, headers, cell_at}
use Rattle.wb_heap_model.proofs.LimitedHeaps.{All-heap_with, All-heap_without}
use Rattle.wb_heap_model.proofs.Reallocations.{found-all, found-head}
use Rattle.wb_heap_model.proofs.ReallocatedHeaps.{All-heap_reallocated, All-headers_leveled}
use Rattle.wb_heap_model.proofs.Rows.{headers-changed}

abbrev pub AreBelow : LimitedHeap → ℕ → Type 0
AreBelow heap n = All (λ h. h.number < n) (headers heap.row)

pub below_granted : {A E : Type 0} (old new : LimitedHeap) (length : ℕ) (kind : Kind) (number level n : ℕ) (r : Result A E) →
    OnOk r (new ≡ heap_with old length kind number level) → OnErr r (new ≡ old) → number < n → AreBelow old number → AreBelow new n
below_granted old new length kind number level n (Ok x) ok err lt below =
    subst (λ heap. AreBelow heap n) (sym ok) (All-heap_with (λ h. h.number < n) old length kind number level lt (λ k d less. omega (arith, below k d less)))
below_granted old new length kind number level n (Err e) ok err lt below = subst (λ heap. AreBelow heap n) (sym err) (λ k d less. omega (arith, below k d less))

pub below_released : {A E : Type 0} (old new : LimitedHeap) (p : Ptr) (n : ℕ) (r : Result A E) → OnOk r (new ≡ heap_without old p) → OnErr r (new ≡ old) →
    AreBelow old n → AreBelow new n
below_released old new p n (Ok x) ok err below = subst (λ heap. AreBelow heap n) (sym ok) (All-heap_without (λ h. h.number < n) old p below)
below_released old new p n (Err e) ok err below = subst (λ heap. AreBelow heap n) (sym err) below

pub below_changed : (old new : LimitedHeap) (p : Ptr) (words : List ℕ) (n : ℕ) → new ≡ heap_changed old p words → AreBelow old n → AreBelow new n
below_changed old new p words n is below =
    subst (λ heap. AreBelow heap n) (sym is) (subst (All (λ h. h.number < n)) (sym (headers-changed p (λ _. words) old.row)) below)

pub below_leveled : (old new : LimitedHeap) (p : Ptr) (level n : ℕ) → new ≡ heap_leveled old p level → AreBelow old n → AreBelow new n
below_leveled old new p level n is below =
    subst (λ heap. AreBelow heap n) (sym is) (All-headers_leveled (λ h. h.number < n) p level old.row (λ h lt. lt) below)

-- the cell that a reallocation leaves has its own number, or the new one
reallocated : (old new : LimitedHeap) (p : Ptr) (length number n : ℕ) (o : Option (Cell (List ℕ))) → cell_at p old.row ≡ o →
    IsSomeAnd o (λ c. new ≡ heap_reallocated old c length number) → number < n → AreBelow old number → AreBelow new n
reallocated old new p length number n None e done lt below = absurd done
reallocated old new p length number n (Some c) e done lt below =
    let own : c.head.number < n = omega (arith, found-all (λ h. h.number < number) p (headers old.row) c.head below (found-head p old.row c e), lt) in
    subst (λ heap. AreBelow heap n) (sym done)
    (All-heap_reallocated (λ h. h.number < n) old c length number (by (nat_eq (place_to_grow old c.head length) c.head.place) own) own
    (λ k d less. omega (arith, below k d less)))
  where
    by : (b : Bool) → c.head.number < n → cond b c.head.number number < n
    by true own = own
    by false own = lt

pub below_reallocated : {A E : Type 0} (old new : LimitedHeap) (p : Ptr) (length number n : ℕ) (r : Result A E) →
    OnOk r (IsSomeAnd (cell_at p old.row) (λ c. new ≡ heap_reallocated old c length number)) → OnErr r (new ≡ old) → number < n → AreBelow old number →
    AreBelow new n
below_reallocated old new p length number n (Ok x) ok err lt below = reallocated old new p length number n (cell_at p old.row) refl ok lt below
below_reallocated old new p length number n (Err e) ok err lt below = subst (λ heap. AreBelow heap n) (sym err) (λ k d less. omega (arith, below k d less))
