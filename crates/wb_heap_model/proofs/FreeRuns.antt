-- The free runs below a committed length: an induction on the row.
use Rattle.std.proofs.Common.{◌≡◌, ℕ, ◌+◌, ◌-◌, ◌≤◌, inl, inr, Bool, true, false, List, [], ◌∷◌, refl, arith, sum, map, max, subst}
use Rattle.std.specs.Prelude.{nat_le}
use Rattle.std.proofs.lemmas.Bool.{leb-true, leb-false}
use Rattle.std.proofs.lemmas.List.Sums.{sum_by-cons}
use Rattle.wb_heap_model.specs.declared.heap.Header.{Header}
use Rattle.wb_heap_model.specs.Row.{end_of, IsSpacedFrom, Misses, IsFree, top_from, top_of, total_length}
use Rattle.wb_heap_model.specs.Space.{IsFreeBelow, AreFreeRuns, free_runs, longest}
use Rattle.wb_heap_model.proofs.Places.{below_free, top_from-above}

-- a stretch that is free from a place on, and has this length
record IsFound (at : ℕ) (row : List Header) (committed length : ℕ) : Type 0 where
  place : ℕ
  above : at ≤ place
  found : IsFreeBelow row committed place length

-- the runs from a place on
record AreRunsFrom (at : ℕ) (row : List Header) (committed : ℕ) (runs : List ℕ) : Type 0 where
  total : at + (sum runs + total_length row) ≡ committed
  found : IsFound at row committed (longest runs)
  longest_of_all : (p length : ℕ) → at ≤ p → IsFreeBelow row committed p length → length ≤ longest runs

-- the run before a cell, or the longest after it
found_before : (h : Header) (hs : List Header) (at committed rest : ℕ) → IsSpacedFrom at (h ∷ hs) → top_from (end_of h) hs ≤ committed →
    IsFound (end_of h) hs committed rest → IsFound at (h ∷ hs) committed (max (h.place - at) rest)
found_before h hs at committed rest s top following = by (nat_le rest (h.place - at)) refl
  where
    by : (b : Bool) → nat_le rest (h.place - at) ≡ b → IsFound at (h ∷ hs) committed (max (h.place - at) rest)
    by true e =
        let n : max (h.place - at) rest ≡ h.place - at = omega (arith, leb-true _ _ e) in
        record {
          place = at;
          above = omega arith;
          found = record {
            within = omega (arith, n, s.0, top, top_from-above hs (end_of h) s.5);
            free = (inl (omega (arith, n, s.0)), below_free hs (end_of h) at (max (h.place - at) rest) s.5 (omega (arith, n, s.0)));
          };
        }
    by false e =
        let n : rest ≡ max (h.place - at) rest = omega (arith, leb-false _ _ e) in
        record {
          place = following.place;
          above = omega (arith, following.above, s.0);
          found = record {
            within = omega (arith, n, following.found.within);
            free = (inr following.above, subst (λ l. IsFree hs following.place l) n following.found.free);
          };
        }

pub sum-cons : (n : ℕ) (ns : List ℕ) → sum (n ∷ ns) ≡ n + sum ns
sum-cons n ns = sum_by-cons (λ x. x) n ns

pub total_length-cons : (h : Header) (hs : List Header) → total_length (h ∷ hs) ≡ h.length + total_length hs
total_length-cons h hs = sum-cons h.length (map (λ g. g.length) hs)

-- a run, a cell, and what is after them
total_more : (at place length runs lengths committed run_sum length_sum : ℕ) → at ≤ place → run_sum ≡ (place - at) + runs → length_sum ≡ length + lengths →
    place + length + (runs + lengths) ≡ committed → at + (run_sum + length_sum) ≡ committed
total_more at place length runs lengths committed run_sum length_sum le runs_are lengths_are e = omega arith

free_runs-from : (row : List Header) (at committed : ℕ) → IsSpacedFrom at row → top_from at row ≤ committed → AreRunsFrom at row committed (free_runs at row committed)
free_runs-from [] at committed s top = record {
  total = omega arith;
  found = record { place = at; above = omega arith; found = record { within = omega arith; free = tt } };
  longest_of_all = λ p length above free. omega (arith, free.within);
}
free_runs-from (h ∷ hs) at committed s top =
    let rest = free_runs-from hs (end_of h) committed s.5 top in
    record {
      total = total_more at h.place h.length (sum (free_runs (end_of h) hs committed)) (total_length hs) committed (sum (free_runs at (h ∷ hs) committed)) (total_length (h ∷ hs))
          s.0 (sum-cons (h.place - at) (free_runs (end_of h) hs committed)) (total_length-cons h hs) rest.total;
      found = found_before h hs at committed (longest (free_runs (end_of h) hs committed)) s top rest.found;
      longest_of_all = λ p length above free. by p length above free free.free.0 rest.longest_of_all;
    }
  where
    by : (p length : ℕ) → at ≤ p → IsFreeBelow (h ∷ hs) committed p length → Misses p length h →
        ((p length : ℕ) → end_of h ≤ p → IsFreeBelow hs committed p length → length ≤ longest (free_runs (end_of h) hs committed)) →
        length ≤ max (h.place - at) (longest (free_runs (end_of h) hs committed))
    by p length above free (inl before) following = omega (arith, above, before)
    by p length above free (inr after) following =
        let le = following p length after (record { within = free.within; free = free.free.1 }) in omega (arith, le)

pub free_runs-are : (row : List Header) (committed : ℕ) → IsSpacedFrom 0 row → top_of row ≤ committed → AreFreeRuns row committed (free_runs 0 row committed)
free_runs-are row committed s top =
    let runs = free_runs-from row 0 committed s top in
    record {
      total = omega (arith, runs.total);
      found = (runs.found.place, runs.found.found);
      longest_of_all = λ place length free. runs.longest_of_all place length (omega arith) free;
    }
