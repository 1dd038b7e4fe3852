-- The memory that a heap holds after a grant, and that a cell which ends no higher than it reaches takes no more.
use Rattle.std.proofs.Common.{◌≡◌, inl, inr, ℕ, suc, ◌+◌, ◌-◌, ◌*◌, ◌/◌, ◌<◌, ◌≤◌, arith, Bool, true, false, cond, max, min, All, List, [], ◌∷◌, refl, sym, subst}
use Rattle.std.specs.Prelude.{nat_lt}
use Rattle.std.proofs.lemmas.Bool.{cases_lt, ltb-true}
use native.Mathlib.Nat.{mul-le-mul_right, suc-mul}
use Rattle.wb_heap_model.specs.declared.heap.Header.{Header}
use Rattle.wb_heap_model.specs.LimitedHeap.{LimitedHeap, space_in}
use Rattle.wb_heap_model.specs.Row.{Cell, headers, inserted}
use Rattle.wb_heap_model.specs.Space.{Space, committed_by, round_up}
use Rattle.wb_debug.specs.Debug.{IsStepped}

-- what a grant leaves held is a number of steps as well
pub held-stepped : (space : Space) (held committed end : ℕ) → IsStepped space held → committed ≤ held → IsStepped space (max held (committed_by space committed end))
held-stepped space held committed end is covered = by (nat_lt committed end)
  where
    steps : ℕ
    steps = (end + (space.step - 1)) / space.step

    by : (b : Bool) → IsStepped space (max held (cond b (min (round_up end space.step) space.bound) committed))
    by true = elim (cases_lt held (min (round_up end space.step) space.bound)) [
      | inl less ↦ let more : max held (min (steps * space.step) space.bound) ≡ min (steps * space.step) space.bound = omega (arith, less) in inr (steps, more)
      | inr ge ↦ let same : max held (min (round_up end space.step) space.bound) ≡ held = omega (arith, ge) in subst (IsStepped space) (sym same) is
    ]
    by false = let same : max held committed ≡ held = omega (arith, covered) in subst (IsStepped space) (sym same) is

-- a number of steps above a length is no less than the length rounded up
rounded_within : (end step steps : ℕ) → 0 < step → end ≤ steps * step → round_up end step ≤ steps * step
rounded_within end step steps some within =
    let rounded = (end + (step - 1)) / step in
    elim (cases_lt steps rounded) [
      | inl less ↦
          let one_more : suc steps * step ≤ rounded * step = mul-le-mul_right step less in
          let below : rounded * step ≤ end + (step - 1) = omega (arith, some) in
          absurd (omega (arith, some, one_more, suc-mul steps step, below, within))
      | inr le ↦ mul-le-mul_right step le
    ]

-- a cell that ends within what is held commits no more
pub committed-within : (space : Space) (held committed end : ℕ) → 0 < space.step → IsStepped space held → space.least ≤ committed → committed ≤ held → end ≤ held →
    committed_by space committed end ≤ held
committed-within space held committed end some is least covered within = by (nat_lt committed end) refl is
  where
    by : (b : Bool) → nat_lt committed end ≡ b → IsStepped space held → cond b (min (round_up end space.step) space.bound) committed ≤ held
    by true e (inl first) = let lt = ltb-true _ _ e in absurd (omega (arith, lt, first, least, within))
    by true e (inr stepped) =
        let up = rounded_within end space.step stepped.0 some (omega (arith, stepped.1, within)) in
        omega (arith, stepped.1, up)
    by false e is = covered

-- a cell of a row
pub inserted-has : (P : Header → Type 0) (c : Cell (List ℕ)) (row : List (Cell (List ℕ))) → All P (headers (inserted c row)) → P c.head
inserted-has P c [] all = all 0 c.head (omega arith)
inserted-has P c (d ∷ ds) all = by (nat_lt c.head.place d.head.place) (inserted-has P c ds) all
  where
    by : (b : Bool) → (All P (headers (inserted c ds)) → P c.head) → All P (headers (cond b (c ∷ d ∷ ds) (d ∷ inserted c ds))) → P c.head
    by true rest all = all 0 c.head (omega arith)
    by false rest all = rest (λ k h lt. all (suc k) h (omega arith))

-- what a grant makes of a heap's memory: it is held up to the new cell's end
pub record HasRoom (old new : LimitedHeap) (end : ℕ) : Type 0 where
  pub limit : new.limit ≡ old.limit
  pub shape : new.shape ≡ old.shape
  pub stepped : IsStepped (space_in old) new.held
  pub more : old.held ≤ new.held
  pub reaches : end ≤ new.held

-- an attempt that isn't granted
pub same-room : (heap : LimitedHeap) → IsStepped (space_in heap) heap.held → HasRoom heap heap 0
same-room heap is = record { limit = refl; shape = refl; stepped = is; more = omega arith; reaches = omega arith }
