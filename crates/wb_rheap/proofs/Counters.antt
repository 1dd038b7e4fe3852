-- How many live cells there are, and their lengths together, over what is done to rows.
use Rattle.std.proofs.Common.{◌≡◌, ◌≢◌, ℕ, suc, ◌+◌, ◌*◌, ◌≤◌, Bool, true, false, not, cond, List, [], ◌∷◌, length, AllPairs, Some, refl, sym, ◌∙◌, ap, arith}
use Rattle.std.specs.Prelude.{nat_lt}
use Rattle.wb_heap_model.specs.declared.heap.Ptr.{Ptr}
use Rattle.wb_heap_model.specs.Row.{Cell, headers, is_at, cell_at, inserted, without, IsSpacedFrom, total_length, changed}
use Rattle.wb_heap_model.specs.LimitedHeap.{LimitedHeap, IsSoundHeap}
use Rattle.wb_heap_model.specs.CellRow.{with_level}
use Rattle.wb_heap_model.proofs.FreeRuns.{total_length-cons, free_runs-are}
use Rattle.wb_heap_model.proofs.LimitedHeaps.{top_of-committed}
use Rattle.wb_heap_model.proofs.Reallocations.{without-absent, others-apart}

-- a release lowers the count by one, and the total by the cell's length
pub record AreLess (row rest : List (Cell (List ℕ))) (length_less : ℕ) : Type 0 where
  pub counted : length rest + 1 ≡ length row
  pub totalled : total_length (headers rest) + length_less ≡ total_length (headers row)

pub without-less : (p : Ptr) (row : List (Cell (List ℕ))) (c : Cell (List ℕ)) → AllPairs (λ g h. g.number ≢ h.number) (headers row) →
    cell_at p row ≡ Some c → AreLess row (without p row) c.head.length
without-less p [] c apart e = cc
without-less p (d ∷ ds) c apart e =
    by (is_at p d.head) refl e (without-less p ds c (λ i j x lt end. apart (suc i) (suc j) x (omega arith) (omega arith)))
  where
    by : (b : Bool) → is_at p d.head ≡ b → cond b (Some d) (cell_at p ds) ≡ Some c → (cell_at p ds ≡ Some c → AreLess ds (without p ds) c.head.length) →
        AreLess (d ∷ ds) (cond (not b) (d ∷ without p ds) (without p ds)) c.head.length
    by true here found rest =
        let same : d ≡ c = cc in
        let gone : without p ds ≡ ds = without-absent p ds (others-apart p d ds apart here) in
        let long : d.head.length ≡ c.head.length = ap (λ x. x.head.length) same in
        record {
          counted = omega (arith, ap length gone);
          totalled = omega (arith, ap (λ r. total_length (headers r)) gone, total_length-cons d.head (headers ds), long);
        }
    by false other found rest =
        let less = rest found in
        record {
          counted = omega (arith, less.counted);
          totalled = omega (arith, less.totalled, total_length-cons d.head (headers ds), total_length-cons d.head (headers (without p ds)));
        }

-- a grant raises them
pub record AreMore (row more : List (Cell (List ℕ))) (length_more : ℕ) : Type 0 where
  pub counted : length more ≡ length row + 1
  pub totalled : total_length (headers more) ≡ total_length (headers row) + length_more

pub inserted-more : (c : Cell (List ℕ)) (row : List (Cell (List ℕ))) → AreMore row (inserted c row) c.head.length
inserted-more c [] = record { counted = omega arith; totalled = omega (arith, total_length-cons c.head []) }
inserted-more c (d ∷ ds) = by (nat_lt c.head.place d.head.place) (inserted-more c ds)
  where
    by : (b : Bool) → AreMore ds (inserted c ds) c.head.length → AreMore (d ∷ ds) (cond b (c ∷ d ∷ ds) (d ∷ inserted c ds)) c.head.length
    by true rest = record { counted = omega arith; totalled = omega (arith, total_length-cons c.head (d.head ∷ headers ds)) }
    by false rest = record {
      counted = omega (arith, rest.counted);
      totalled = omega (arith, rest.totalled, total_length-cons d.head (headers ds), total_length-cons d.head (headers (inserted c ds)));
    }

-- another payload leaves them
pub length-changed : (p : Ptr) (f : List ℕ → List ℕ) (row : List (Cell (List ℕ))) → length (changed p f row) ≡ length row
length-changed p f [] = refl
length-changed p f (c ∷ cs) = by (is_at p c.head) (length-changed p f cs)
  where
    by : (b : Bool) → length (changed p f cs) ≡ length cs → length (cond b (record c { content = f c.content } ∷ cs) (c ∷ changed p f cs)) ≡ length (c ∷ cs)
    by true rest = refl
    by false rest = omega (arith, rest)

-- and so does another level
pub length-leveled : (p : Ptr) (level : ℕ) (row : List (Cell (List ℕ))) → length (with_level p level row) ≡ length row
length-leveled p level [] = refl
length-leveled p level (c ∷ cs) = by (is_at p c.head) (length-leveled p level cs)
  where
    by : (b : Bool) → length (with_level p level cs) ≡ length cs →
        length (cond b (record c { head = record c.head { level = level } } ∷ cs) (c ∷ with_level p level cs)) ≡ length (c ∷ cs)
    by true rest = refl
    by false rest = omega (arith, rest)

pub total-leveled : (p : Ptr) (level : ℕ) (row : List (Cell (List ℕ))) → total_length (headers (with_level p level row)) ≡ total_length (headers row)
total-leveled p level [] = refl
total-leveled p level (c ∷ cs) = by (is_at p c.head) (total-leveled p level cs)
  where
    by : (b : Bool) → total_length (headers (with_level p level cs)) ≡ total_length (headers cs) →
        total_length (headers (cond b (record c { head = record c.head { level = level } } ∷ cs) (c ∷ with_level p level cs))) ≡ total_length (c.head ∷ headers cs)
    by true rest = total_length-cons (record c.head { level = level }) (headers cs) ∙ sym (total_length-cons c.head (headers cs))
    by false rest =
        total_length-cons c.head (headers (with_level p level cs)) ∙ ap (λ n. c.head.length + n) rest ∙ sym (total_length-cons c.head (headers cs))

-- the lengths of the live cells lie below the committed length, and each is 16 at least
pub total-within : (heap : LimitedHeap) → IsSoundHeap heap → total_length (headers heap.row) ≤ heap.committed
total-within heap is = omega (arith, (free_runs-are (headers heap.row) heap.committed is.row.spaced (top_of-committed heap is)).total)

count_from : (row : List (Cell (List ℕ))) (at : ℕ) → IsSpacedFrom at (headers row) → 16 * length row ≤ total_length (headers row)
count_from [] at s = omega arith
count_from (c ∷ cs) at s = omega (arith, count_from cs (c.head.place + c.head.length) s.5, s.3, total_length-cons c.head (headers cs))

pub count-within : (heap : LimitedHeap) → IsSoundHeap heap → 16 * length heap.row ≤ heap.committed
count-within heap is = omega (arith, count_from heap.row 0 is.row.spaced, total-within heap is)
