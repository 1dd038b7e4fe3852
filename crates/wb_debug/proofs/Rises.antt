-- An attempt that leaves the rises as they are takes no memory: its cell ends within what is held, and it adds nothing.
use Rattle.std.proofs.Common.{◌≡◌, ◌≢◌, ℕ, ◌+◌, ◌<◌, ◌≤◌, ◌++◌, arith, Result, Ok, Err, IsErr, IfErr, Bool, true, false, cond, List, [], ◌∷◌, length, length-append, Option, Some, None, is_some, refl, sym, ap, ◌∙◌}
use Rattle.std.specs.Prelude.{nat_lt}
use Rattle.std.proofs.lemmas.Bool.{ltb-false}
use Rattle.wb_basics.specs.declared.limits.TheConstants.{CEILING}
use Rattle.wb_heap_model.specs.declared.heap.Answer.{Answer}
use Rattle.wb_heap_model.specs.declared.heap.Answer.TheVariants.{Granted, Simulated, Refused}
use Rattle.wb_heap_model.specs.declared.heap.Attempt.{Attempt}
use Rattle.wb_heap_model.specs.declared.heap.Rule.{Rule}
use Rattle.wb_heap_model.specs.declared.size.Rise.{Rise}
use Rattle.wb_heap_model.specs.Debug.{Debug, made_by, number_of_next, answer_in}
use Rattle.wb_heap_model.specs.Reported.{trace_line}
use Rattle.wb_heap_model.specs.Heap.{AfterAnswer, alloc_request, request_at}
use Rattle.wb_heap_model.specs.LimitedHeap.{place_in, space_in}
use Rattle.wb_heap_model.specs.Rises.{end_of_line, granted_end, rise_of, rises_with, top_of_rises}
use Rattle.wb_heap_model.specs.Placement.{place_to_put}
use Rattle.wb_heap_model.specs.Row.{cell_length, headers, place_of}
use Rattle.wb_heap_model.specs.Rules.{Request, answer_to, limit_of, refusal_of, refusal_past, simulates, unless_refused}
use Rattle.wb_heap_model.specs.Space.{below_ceiling, committed_by, limit_under}
use Rattle.wb_heap_model.proofs.LimitedHeaps.{shape_is}
use Rattle.wb_rheap.specs.declared.fault.HeapFault.{HeapFault}
use Rattle.wb_rheap.specs.declared.fault.HeapFault.TheVariants as faults
use Rattle.wb_debug.specs.declared.debug_heap.DebugHeap.TheInside.{Inside}
use Rattle.wb_debug.specs.Debug.{debug_of, IsKept}
use Rattle.wb_debug.specs.Log.{adds_to, top_in}
use Rattle.wb_debug.proofs.Room.{committed-within}

-- what leaves the rises adds nothing
pub adds-nothing : (o : Option (List Rise)) (line : Attempt) → is_some o ≡ true → rises_with o line ≡ o → adds_to o line ≡ false
adds-nothing None line some same = cc
adds-nothing (Some rs) line some same = by (nat_lt (top_of_rises rs) (end_of_line line)) refl same
  where
    by : (b : Bool) → nat_lt (top_of_rises rs) (end_of_line line) ≡ b → Some (cond b (rs ++ rise_of line ∷ []) rs) ≡ Some rs → b ≡ false
    by false e same = refl
    by true e same =
        let longer : rs ++ rise_of line ∷ [] ≡ rs = cc in
        let more = length-append rs (rise_of line ∷ []) in
        absurd (omega (arith, ap length longer, more))

-- and ends no higher than the last rise
pub ends-below : (o : Option (List Rise)) (line : Attempt) → is_some o ≡ true → adds_to o line ≡ false → end_of_line line ≤ top_in o
ends-below None line some adds = cc
ends-below (Some rs) line some adds = ltb-false _ _ adds

-- the line that an attempt adds, where the rises stay
pub rises-same : (d : Debug) (t : Request) (after : ℕ → Answer → AfterAnswer (List ℕ)) (line : Attempt) → answer_in d t ≡ Some line.answer →
    line ≡ trace_line (number_of_next d) t line.answer → (made_by d t after (answer_in d t)).debug.rises ≡ d.rises → rises_with d.rises line ≡ d.rises
rises-same d t after line answer added same =
    ap (rises_with d.rises) added ∙ sym (ap (λ o. (made_by d t after o).debug.rises) answer) ∙ same

-- what is granted ends within the limit
pub granted-within : (rule : Rule) (number : ℕ) (t : Request) → answer_to rule number t ≡ Some Granted → t.place + t.length ≤ limit_under rule
granted-within rule number t = due t.due
  where
    end : ℕ
    end = t.place + t.length

    open_to : (b : Bool) → nat_lt CEILING end ≡ b → cond b None (Some Granted) ≡ Some Granted → end ≤ CEILING
    open_to true c e = cc
    open_to false c e = ltb-false _ _ c

    past : (o : Option ℕ) → unless_refused (refusal_past o end) end ≡ Some Granted → end ≤ below_ceiling o
    past None e = open_to (nat_lt CEILING end) refl e
    past (Some l) e = limited (nat_lt l end) refl e
      where
        limited : (b : Bool) → nat_lt l end ≡ b → unless_refused (cond b (Some Refused) None) end ≡ Some Granted → end ≤ below_ceiling (Some l)
        limited true f e = cc
        limited false f e = omega (arith, ltb-false _ _ f, open_to (nat_lt CEILING end) refl e)

    by : (b : Bool) → unless_refused (cond b (Some Simulated) (refusal_past (limit_of rule) end)) end ≡ Some Granted → end ≤ limit_under rule
    by true e = cc
    by false e = past (limit_of rule) e

    due : (b : Bool) → cond b (Some Simulated) (unless_refused (refusal_of rule number end) end) ≡ Some Granted → end ≤ limit_under rule
    due true e = cc
    due false e = by (simulates rule number) e

-- a grant that is neither too long nor in want of memory is no error
pub no_error : {T : Type 0} (r : Result T HeapFault) → IsErr r → IfErr r (λ fault. fault ≢ faults.TooShort → fault ≡ faults.NoMemory) →
    r ≢ Err faults.TooShort → r ≢ Err faults.NoMemory → ⊥
no_error (Ok x) is other short memory = cc
no_error (Err fault) is other short memory = memory (ap Err (other (λ e. short (ap Err e))))

-- what a cell commits that ends within the last rise is held
pub held-enough : (inside : Inside) (end : ℕ) → IsKept inside → end ≤ top_in inside.log.rises → committed_by (space_in inside.heap) inside.heap.committed end ≤ inside.heap.held
held-enough inside end kept below =
    let shape = shape_is inside.heap.shape kept.sound.shape in
    committed-within (space_in inside.heap) inside.heap.held inside.heap.committed end (omega (arith, shape.step_least)) kept.stepped kept.sound.least kept.sound.covered
    (omega (arith, below, kept.reached))

-- so a grant that leaves the rises is no error
pub no_want : {T : Type 0} (inside : Inside) (line : Attempt) (end : ℕ) (r : Result T HeapFault) → IsKept inside → end_of_line line ≡ end →
    is_some inside.log.rises ≡ true → rises_with inside.log.rises line ≡ inside.log.rises → end ≤ inside.heap.limit →
    IsErr r → IfErr r (λ fault. fault ≢ faults.TooShort → fault ≡ faults.NoMemory) → (r ≡ Err faults.TooShort → inside.heap.limit < end) →
    (committed_by (space_in inside.heap) inside.heap.committed end ≤ inside.heap.held → r ≢ Err faults.NoMemory) → ⊥
no_want inside line end r kept ends some same within is other short memory =
    let below = ends-below inside.log.rises line some (adds-nothing inside.log.rises line some same) in
    no_error r is other (λ e. let far = short e in omega (arith, far, within)) (memory (held-enough inside end kept (omega (arith, ends, below))))

-- the request of an allocation, from what was asked of the heap
pub allocation : (inside : Inside) (d : Debug) (bytes len place : ℕ) → debug_of inside ≡ d → len ≡ cell_length bytes → place ≡ place_in inside.heap len →
    request_at d.heap place len ≡ alloc_request d.heap bytes
allocation inside d bytes len place view long placed =
    ap (λ p. request_at d.heap p len)
    (placed ∙ ap (place_of (headers inside.heap.row)) long ∙ ap (λ (x : Debug). place_to_put x.heap.placement (headers x.heap.row) (cell_length bytes)) view)
    ∙ ap (request_at d.heap (place_to_put d.heap.placement (headers d.heap.row) (cell_length bytes))) long

-- where a cell ends that was granted
pub end-of-grant : (line : Attempt) (number : ℕ) (t : Request) → line ≡ trace_line number t line.answer → line.answer ≡ Granted → end_of_line line ≡ t.place + t.length
end-of-grant line number t is granted = ap (granted_end line) granted ∙ ap (λ (a : Attempt). a.place + a.length) is
