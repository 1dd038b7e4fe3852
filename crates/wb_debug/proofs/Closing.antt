-- What the end of a mark refuses, and what it leaves of the cells.
use Rattle.std.proofs.Common.{◌≡◌, ◌≢◌, ℕ, ◌-◌, ◌≤◌, suc, All, List, [], ◌∷◌, Some, Bool, true, false, cond, refl, ap, ◌∙◌, arith, subst}
use Rattle.std.specs.Prelude.{◌&&◌, not, nat_eq}
use Rattle.std.proofs.lemmas.Bool.{ne_eqb}
use Rattle.std.proofs.lemmas.List.Elements.{All-cons, All-nil}
use Rattle.wb_heap_model.specs.declared.heap.TheConstants.Panic.{NO_OPEN_MARK}
use Rattle.wb_heap_model.specs.declared.heap.Panic.{Panic}
use Rattle.wb_heap_model.specs.Debug.{Debug, check_all_refusal, check_refusal}
use Rattle.wb_heap_model.specs.Heap.{is_cleanup, lower, lowered, mark_end_refusal}
use Rattle.wb_heap_model.specs.LimitedHeap.{LimitedHeap, IsSoundHeap}
use Rattle.wb_heap_model.specs.Row.{Cell, headers}
use Rattle.wb_debug.specs.declared.debug_heap.DebugHeap.TheInside.{Inside}
use Rattle.wb_debug.specs.Debug.{IsKept}
use Rattle.wb_debug.specs.Tally.{Tally, IsTally}
use Rattle.wb_debug.proofs.DebugFields.{row-kept, set-kept}

-- below the outermost level it refuses what a check does
pub mark_end-checks : (d e : Debug) (n : ℕ) (panic : Panic) → d ≡ e → d.heap.level ≢ 0 → check_refusal d n ≡ Some panic → mark_end_refusal e.heap n ≡ Some panic
mark_end-checks d e n panic is deeper refused =
    subst (λ (x : Debug). mark_end_refusal x.heap n ≡ Some panic) is
    (ap (λ b. cond b (Some NO_OPEN_MARK) (check_refusal d n)) (ne_eqb d.heap.level 0 deeper) ∙ refused)

-- what a check refuses of what the heap holds, as callers see it
pub check-refused : (d e : Debug) (n : ℕ) (panic : Panic) → d ≡ e → check_refusal d n ≡ Some panic → check_refusal e n ≡ Some panic
check-refused d e n panic is refused = subst (λ (x : Debug). check_refusal x n ≡ Some panic) is refused

pub check_all-refused : (d e : Debug) (n : ℕ) (panic : Panic) → d ≡ e → check_all_refusal d n ≡ Some panic → check_all_refusal e n ≡ Some panic
check_all-refused d e n panic is refused = subst (λ (x : Debug). check_all_refusal x n ≡ Some panic) is refused

-- the cells keep their numbers
All-lowered : (most level : ℕ) (row : List (Cell (List ℕ))) → All (λ h. h.number ≤ most) (headers row) → All (λ h. h.number ≤ most) (headers (lowered level row))
All-lowered most level [] all = All-nil _
All-lowered most level (c ∷ cs) all =
    All-cons (λ h. h.number ≤ most) (lower level c.head) (headers (lowered level cs)) (by (nat_eq c.head.level level && not (is_cleanup c.head.kind)))
    (All-lowered most level cs (λ k h lt. all (suc k) h (omega arith)))
  where
    by : (b : Bool) → (cond b (record c.head { level = level - 1 }) c.head).number ≤ most
    by true = all 0 c.head (omega arith)
    by false = all 0 c.head (omega arith)

pub lowered-kept : (inside : Inside) (heap : LimitedHeap) (from level : ℕ) (tally : Tally) → heap ≡ record inside.heap { row = lowered from inside.heap.row } →
    IsSoundHeap heap → IsTally tally (headers heap.row) → IsKept inside → IsKept (record inside { heap = heap; level = level; tally = tally })
lowered-kept inside heap from level tally is sound tallied kept =
    set-kept (record inside { heap = heap; tally = tally }) heap level inside.setting inside.log refl refl
    (row-kept inside heap (lowered from inside.heap.row) inside.heap.committed tally is (All-lowered inside.attempts from inside.heap.row kept.numbered)
    (subst (λ (h : LimitedHeap). IsTally tally (headers h.row)) is tallied) sound kept)
