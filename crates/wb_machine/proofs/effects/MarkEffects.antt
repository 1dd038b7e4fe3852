-- Marks, checks and settings of failures come to what they mean.
use Rattle.std.proofs.Common.{◌≡◌, ℕ, List, refl, ap, ◌∙◌, sym, Option, Some, None}
use Rattle.std.specs.Prelude.{nat_eq, if◌then◌else◌}
use Rattle.wb_heap_model.specs.declared.heap.TheConstants.Panic.{NUMBER_OUT_OF_RANGE, NO_OPEN_MARK}
use Rattle.wb_heap_model.specs.declared.heap.Header.{Header}
use Rattle.wb_heap_model.specs.declared.heap.Panic.{Panic}
use Rattle.wb_heap_model.specs.declared.heap.Rule.{Rule}
use Rattle.wb_tree.specs.declared.script.Script.{Script}
use Rattle.wb_tree.specs.declared.script.Number.{Number}
use Rattle.wb_tree.specs.declared.script.Statement.TheOpen.{Statement-F}
use Rattle.wb_heap_model.specs.Row.{Cell, headers}
use Rattle.wb_heap_model.specs.Rules.{Setting, never, next, each}
use Rattle.wb_heap_model.specs.Heap.{after_mark_end, mark_end_refusal, checked, cells_of_level, cells_of_all_levels}
use Rattle.wb_heap_model.specs.Contents.{Content}
use Rattle.wb_meaning.specs.State.{goes_on, ends, and_then, with_some, unless, set_heap}
use Rattle.wb_meaning.specs.Operands.{not_negative}
use Rattle.wb_meaning.specs.Statements.{statement, done, set_setting, at_least_one}
use Rattle.wb_heap_model.specs.Debug.{check_refusal, check_all_refusal, with_setting}
use Rattle.wb_machine.specs.RunState.{RunState, read_row, state_of, with_debug}
use Rattle.wb_machine.specs.Flow.{flow}
use Rattle.wb_machine.specs.PointerOperands.{operands_refusal}
use Rattle.wb_machine.specs.Effects.{gone_on, unless_refused, number_read, marked, mark_end_within, check_within, set_within}
use Rattle.wb_machine.proofs.kept.Rows.{headers_read, read_lowered}
use Rattle.wb_machine.proofs.effects.StatementEffects.{Means, ComesTo, number_is}

pub mark_kept : (script : Script) (h : RunState) → operands_refusal h Statement-F.Mark ≡ None →
    Means script h Statement-F.Mark (gone_on (marked h))
unfolding statement flow
mark_kept script h ok r f rec at k = refl

-- what refuses the end of a mark, and what follows where nothing does
mark_end_by : (r : Rule) (script : Script) (h : RunState) (o : Option Panic) →
    ComesTo r script h (unless o (state_of script h) (λ st. done (set_heap st (after_mark_end st.heap))))
    (unless_refused h o (with_debug h (record h.debug { heap = after_mark_end h.debug.heap })))
unfolding flow unless
mark_end_by r script h (Some panic) k = refl
mark_end_by r script h None k =
    ap (λ (row : List (Cell Content)). flow r (and_then (ends goes_on (set_heap (state_of script h) (record (after_mark_end (state_of script h).heap) { row = row }))) k) h)
    (read_lowered script h.debug.heap.level h.debug.heap.row)

mark_end_in : (r : Rule) (script : Script) (h : RunState) (o : Option ℕ) →
    ComesTo r script h (with_some o NUMBER_OUT_OF_RANGE (state_of script h) (λ n. unless (mark_end_refusal (state_of script h).heap n) (state_of script h) (λ st. done (set_heap st (after_mark_end st.heap)))))
    (mark_end_within h o)
unfolding flow with_some
mark_end_in r script h None k = refl
mark_end_in r script h (Some n) k =
    let st = state_of script h in
    mark_end_by r script h (mark_end_refusal h.debug.heap n) k
    ∙ ap (λ (hs : List Header). flow r (and_then (unless (if nat_eq h.debug.heap.level 0 then Some NO_OPEN_MARK else checked (cells_of_level h.debug.heap.level hs) n) st (λ st. done (set_heap st (after_mark_end st.heap)))) k) h)
    (sym (headers_read script h.debug.heap.row))

pub mark_end_kept : (script : Script) (h : RunState) (v : Number) → operands_refusal h (Statement-F.MarkEnd v) ≡ None →
    Means script h (Statement-F.MarkEnd v) (mark_end_within h (not_negative (number_read h v)))
unfolding statement
mark_end_kept script h v ok r f rec at k =
    let st = state_of script h in
    mark_end_in r script h (not_negative (number_read h v)) k
    ∙ sym (ap (λ z. flow r (and_then (with_some (not_negative z) NUMBER_OUT_OF_RANGE st (λ n. unless (mark_end_refusal st.heap n) st (λ st. done (set_heap st (after_mark_end st.heap))))) k) h)
    (number_is script h v))

-- a check of some cells
check_by : (r : Rule) (script : Script) (h : RunState) (o : Option Panic) → ComesTo r script h (unless o (state_of script h) done) (unless_refused h o h)
unfolding flow unless
check_by r script h (Some panic) k = refl
check_by r script h None k = refl

check_in : (r : Rule) (script : Script) (h : RunState) (cells : List Header → List Header) (o : Option ℕ) →
    ComesTo r script h (with_some o NUMBER_OUT_OF_RANGE (state_of script h) (λ n. unless (checked (cells (headers (read_row script h.debug.heap.row))) n) (state_of script h) done))
    (check_within h (λ n. checked (cells (headers h.debug.heap.row)) n) o)
unfolding flow with_some
check_in r script h cells None k = refl
check_in r script h cells (Some n) k =
    check_by r script h (checked (cells (headers h.debug.heap.row)) n) k
    ∙ ap (λ hs. flow r (and_then (unless (checked (cells hs) n) (state_of script h) done) k) h) (sym (headers_read script h.debug.heap.row))

pub check_kept : (script : Script) (h : RunState) (v : Number) → operands_refusal h (Statement-F.Check v) ≡ None →
    Means script h (Statement-F.Check v) (check_within h (check_refusal h.debug) (not_negative (number_read h v)))
unfolding statement
check_kept script h v ok r f rec at k =
    let st = state_of script h in
    check_in r script h (cells_of_level h.debug.heap.level) (not_negative (number_read h v)) k
    ∙ sym (ap (λ z. flow r (and_then (with_some (not_negative z) NUMBER_OUT_OF_RANGE st (λ n. unless (checked (cells_of_level st.heap.level (headers st.heap.row)) n) st done)) k) h) (number_is script h v))

pub check_all_kept : (script : Script) (h : RunState) (v : Number) → operands_refusal h (Statement-F.CheckAll v) ≡ None →
    Means script h (Statement-F.CheckAll v) (check_within h (check_all_refusal h.debug) (not_negative (number_read h v)))
unfolding statement
check_all_kept script h v ok r f rec at k =
    let st = state_of script h in
    check_in r script h cells_of_all_levels (not_negative (number_read h v)) k
    ∙ sym (ap (λ z. flow r (and_then (with_some (not_negative z) NUMBER_OUT_OF_RANGE st (λ n. unless (checked (cells_of_all_levels (headers st.heap.row)) n) st done)) k) h) (number_is script h v))

-- a setting of a rate
set_in : (r : Rule) (script : Script) (h : RunState) (setting : ℕ → Setting) (o : Option ℕ) →
    ComesTo r script h (with_some o NUMBER_OUT_OF_RANGE (state_of script h) (λ n. done (set_setting (state_of script h) (setting n)))) (set_within h setting o)
unfolding flow with_some
set_in r script h setting None k = refl
set_in r script h setting (Some n) k = refl

pub fail_next_kept : (script : Script) (h : RunState) (v : Number) → operands_refusal h (Statement-F.FailNext v) ≡ None →
    Means script h (Statement-F.FailNext v) (set_within h (λ n. next n) (at_least_one (number_read h v)))
unfolding statement
fail_next_kept script h v ok r f rec at k =
    let st = state_of script h in
    set_in r script h (λ n. next n) (at_least_one (number_read h v)) k
    ∙ sym (ap (λ z. flow r (and_then (with_some (at_least_one z) NUMBER_OUT_OF_RANGE st (λ n. done (set_setting st (next n)))) k) h) (number_is script h v))

pub fail_every_kept : (script : Script) (h : RunState) (v : Number) → operands_refusal h (Statement-F.FailEvery v) ≡ None →
    Means script h (Statement-F.FailEvery v) (set_within h (λ n. each n n) (at_least_one (number_read h v)))
unfolding statement
fail_every_kept script h v ok r f rec at k =
    let st = state_of script h in
    set_in r script h (λ n. each n n) (at_least_one (number_read h v)) k
    ∙ sym (ap (λ z. flow r (and_then (with_some (at_least_one z) NUMBER_OUT_OF_RANGE st (λ n. done (set_setting st (each n n)))) k) h) (number_is script h v))

pub fail_none_kept : (script : Script) (h : RunState) → operands_refusal h Statement-F.FailNone ≡ None →
    Means script h Statement-F.FailNone (gone_on (with_debug h (with_setting h.debug never)))
unfolding statement flow
fail_none_kept script h ok r f rec at k = refl
