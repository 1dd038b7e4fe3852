-- Room for a new cell among the segments: where a gap of the row is, in a free segment or above the last.
use Rattle.std.proofs.Common.{◌≡◌, ◌≢◌, ℕ, zero, suc, ◌+◌, ◌*◌, ◌<◌, ◌≤◌, ◌⊎◌, inl, inr, List, [], ◌∷◌, ◌++◌, length, slice_index_or, refl, sym, ◌∙◌, ap, subst, arith, zero-add, add-zero, append_assoc, Any}
use Rattle.std.proofs.lemmas.Bool.{le-ltb, lt-ltb}
use Rattle.wb_heap_model.specs.declared.heap.Kind.{Kind}
use Rattle.wb_heap_model.specs.declared.heap.Header.{Header}
use Rattle.wb_heap_model.specs.Row.{Cell, headers, end_of, inserted, IsFree, Misses}
use Rattle.wb_heap_model.specs.CellRow.{IsGap}
use Rattle.wb_cells.specs.Segments.{Segment, live, free, total, cell_from, row_from, BeginsLive, AreMerged}
use Rattle.wb_cells.proofs.Laying.{total-append}

-- a place where a segment ends
pub record IsBetween (at place : ℕ) (xs : List Segment) : Type 0 where
  pub front : List Segment
  pub back : List Segment
  pub is : xs ≡ front ++ back
  pub here : place ≡ at + total front

pub between_end : (xs : List Segment) (at place : ℕ) → Any (λ h. end_of h ≡ place) (headers (row_from at xs)) → IsBetween at place xs
between_end [] at place any = absurd (omega (arith, any.2))
between_end (free body ∷ xs) at place any =
    let b = between_end xs (at + (16 + 4 * length body)) place any in
    record { front = free body ∷ b.front; back = b.back; is = ap (λ ys. free body ∷ ys) b.is; here = omega (arith, b.here) }
between_end (live kind level number body ∷ xs) at place any = go any.0 any.1 any.2 any.3 any.4 (λ a. between_end xs (at + (16 + 4 * length body)) place a)
  where
    go : (k : ℕ) (h : Header) → k < length (headers (row_from at (live kind level number body ∷ xs))) →
        slice_index_or (headers (row_from at (live kind level number body ∷ xs))) k h ≡ h → end_of h ≡ place →
        (Any (λ h. end_of h ≡ place) (headers (row_from (at + (16 + 4 * length body)) xs)) → IsBetween (at + (16 + 4 * length body)) place xs) →
        IsBetween at place (live kind level number body ∷ xs)
    go zero h lt is ends rest =
        let e : at + (16 + 4 * length body) ≡ place = ap end_of is ∙ ends in
        record { front = live kind level number body ∷ []; back = xs; is = refl; here = omega (arith, e) }
    go (suc k) h lt is ends rest =
        let b = rest (k, h, omega (arith, lt), is, ends) in
        record { front = live kind level number body ∷ b.front; back = b.back; is = ap (λ ys. live kind level number body ∷ ys) b.is; here = omega (arith, b.here) }

between_start : (xs : List Segment) (place : ℕ) (length : ℕ) → IsGap (headers (row_from 0 xs)) place length → IsBetween 0 place xs
between_start xs place length gap = go gap.begins
  where
    go : (place ≡ 0) ⊎ Any (λ h. end_of h ≡ place) (headers (row_from 0 xs)) → IsBetween 0 place xs
    go (inl e) = record { front = []; back = xs; is = refl; here = e }
    go (inr any) = between_end xs 0 place any

-- a live segment misses free bytes
misses_at : (front : List Segment) (kind : Kind) (level number : ℕ) (body : List ℕ) (back : List Segment) (at place bytes : ℕ) →
    IsFree (headers (row_from at (front ++ live kind level number body ∷ back))) place bytes → Misses place bytes (cell_from (at + total front) kind level number body).head
misses_at [] kind level number body back at place bytes f = rw (add-zero at) f.0
misses_at (live kind' level' number' body' ∷ front) kind level number body back at place bytes f =
    let e : at + (16 + 4 * length body') + total front ≡ at + total (live kind' level' number' body' ∷ front) = omega arith in
    subst (λ n. Misses place bytes (cell_from n kind level number body).head) e (misses_at front kind level number body back (at + (16 + 4 * length body')) place bytes f.1)
misses_at (free body' ∷ front) kind level number body back at place bytes f =
    let e : at + (16 + 4 * length body') + total front ≡ at + total (free body' ∷ front) = omega arith in
    subst (λ n. Misses place bytes (cell_from n kind level number body).head) e (misses_at front kind level number body back (at + (16 + 4 * length body')) place bytes f)

pub merged_back : (front back : List Segment) → AreMerged (front ++ back) → AreMerged back
merged_back [] back m = m
merged_back (live kind level number body ∷ front) back m = merged_back front back m
merged_back (free body ∷ front) back m = merged_back front back m.1

begins_both : (front xs ys : List Segment) → (BeginsLive xs → BeginsLive ys) → BeginsLive (front ++ xs) → BeginsLive (front ++ ys)
begins_both [] xs ys f b = f b
begins_both (live kind level number body ∷ front) xs ys f b = tt
begins_both (free body ∷ front) xs ys f b = absurd b

-- other segments after the same ones
pub merged_both : (front xs ys : List Segment) → (BeginsLive xs → BeginsLive ys) → (AreMerged xs → AreMerged ys) → AreMerged (front ++ xs) → AreMerged (front ++ ys)
merged_both [] xs ys f g m = g m
merged_both (live kind level number body ∷ front) xs ys f g m = merged_both front xs ys f g m
merged_both (free body ∷ front) xs ys f g m = (begins_both front xs ys f m.0, merged_both front xs ys f g m.1)

-- a free segment that is long enough
pub record IsRoom (place bytes : ℕ) (xs : List Segment) : Type 0 where
  pub front : List Segment
  pub body : List ℕ
  pub back : List Segment
  pub is : xs ≡ front ++ free body ∷ back
  pub here : place ≡ total front
  pub begins : BeginsLive back
  pub fits : bytes ≤ 16 + 4 * length body

pub room_in : (xs : List Segment) (place bytes : ℕ) → AreMerged xs → 16 ≤ bytes → IsGap (headers (row_from 0 xs)) place bytes → place ≢ total xs → IsRoom place bytes xs
room_in xs place bytes merged long gap low = let b = between_start xs place bytes gap in go b.front b.back b.is (b.here ∙ zero-add _)
  where
    go : (front back : List Segment) → xs ≡ front ++ back → place ≡ total front → IsRoom place bytes xs
    go front [] is here = absurd (low (omega (arith, here, ap total is, total-append front [])))
    go front (live kind level number body ∷ back) is here =
        let misses = misses_at front kind level number body back 0 place bytes (subst (λ ys. IsFree (headers (row_from 0 ys)) place bytes) is gap.free) in
        hit misses
      where
        hit : Misses place bytes (cell_from (0 + total front) kind level number body).head → IsRoom place bytes xs
        hit (inl before) = absurd (omega (arith, before, here, long))
        hit (inr after) = absurd (omega (arith, after, here))
    go front (free body ∷ []) is here = absurd (merged_back front (free body ∷ []) (subst (λ ys. AreMerged ys) is merged)).0
    go front (free body ∷ free body' ∷ back) is here = absurd (merged_back front (free body ∷ free body' ∷ back) (subst (λ ys. AreMerged ys) is merged)).0
    go front (free body ∷ live kind level number body' ∷ back) is here =
        let e : xs ≡ (front ++ free body ∷ []) ++ live kind level number body' ∷ back = is ∙ sym (append_assoc front (free body ∷ []) (live kind level number body' ∷ back)) in
        let misses = misses_at (front ++ free body ∷ []) kind level number body' back 0 place bytes (subst (λ ys. IsFree (headers (row_from 0 ys)) place bytes) e gap.free) in
        hit misses
      where
        hit : Misses place bytes (cell_from (0 + total (front ++ free body ∷ [])) kind level number body').head → IsRoom place bytes xs
        hit (inl before) = record {
          front = front;
          body = body;
          back = live kind level number body' ∷ back;
          is = is;
          here = here;
          begins = tt;
          fits = omega (arith, before, here, total-append front (free body ∷ []));
        }
        hit (inr after) = absurd (omega (arith, after, here, total-append front (free body ∷ [])))

-- a new cell goes after those below it and before those above
pub inserted-between : (c : Cell (List ℕ)) (front : List Segment) (at : ℕ) (row : List (Cell (List ℕ))) → at + total front ≤ c.head.place →
    inserted c (row_from at front ++ row) ≡ row_from at front ++ inserted c row
inserted-between c [] at row le = refl
inserted-between c (free body ∷ front) at row le = inserted-between c front (at + (16 + 4 * length body)) row (omega (arith, le))
inserted-between c (live kind level number body ∷ front) at row le =
    rw (le-ltb c.head.place at (omega (arith, le)))
    (ap (λ r. cell_from at kind level number body ∷ r) (inserted-between c front (at + (16 + 4 * length body)) row (omega (arith, le))))

pub inserted-first : (c : Cell (List ℕ)) (xs : List Segment) (at : ℕ) → c.head.place < at → inserted c (row_from at xs) ≡ c ∷ row_from at xs
inserted-first c [] at lt = refl
inserted-first c (free body ∷ xs) at lt = inserted-first c xs (at + (16 + 4 * length body)) (omega (arith, lt))
inserted-first c (live kind level number body ∷ xs) at lt = rw (lt-ltb c.head.place at lt)
