-- Statements that set locals come to what they mean.
use Rattle.std.proofs.Common.{◌≡◌, ℕ, ℤ, ◌+ℤ◌, Bool, true, false, refl, ap, ◌∙◌, sym, cond, None, [], ◌∷◌}
use Rattle.wb_heap_model.specs.declared.heap.TheConstants.Panic.{NUMBER_OUT_OF_RANGE}
use Rattle.wb_heap_model.specs.declared.heap.Rule.{Rule}
use Rattle.wb_tree.specs.declared.script.Script.{Script}
use Rattle.wb_tree.specs.declared.script.Pointer.{Pointer}
use Rattle.wb_tree.specs.declared.script.Number.{Number}
use Rattle.wb_tree.specs.declared.script.Statement.TheOpen.{Statement-F}
use Rattle.wb_meaning.specs.State.{number, State, goes_on, and_then, require, set_local, number_in}
use Rattle.wb_heap_model.specs.Pointers.{null}
use Rattle.wb_meaning.specs.Operands.{set_pointer, with_pointer}
use Rattle.wb_meaning.specs.Statements.{statement, done, in_range}
use Rattle.wb_machine.specs.RunState.{RunState, state_of, value_in}
use Rattle.wb_machine.specs.Flow.{flow}
use Rattle.wb_machine.specs.PointerOperands.{operands_refusal}
use Rattle.wb_machine.specs.Effects.{gone_on, panicked, pointer_read, number_read, pointer_stored, stored, sum_stored, add_effect}
use Rattle.wb_machine.proofs.effects.StatementEffects.{Means, ComesTo, number_is, pointer_is, stored_is, fine_first, fine_rest}

pub set_kept : (script : Script) (h : RunState) (p q : Pointer) → operands_refusal h (Statement-F.Set p q) ≡ None →
    Means script h (Statement-F.Set p q) (gone_on (pointer_stored h p (pointer_read script h q)))
unfolding statement and_then
set_kept script h p q ok r f rec at k =
    let st = state_of script h in
    let target = fine_first h p (q ∷ []) ok in
    let source = fine_first h q [] (fine_rest h p (q ∷ []) ok) in
    sym (ap (λ x. flow r (and_then x k) h) (pointer_is script h p (λ _. with_pointer st q (λ to. done (set_pointer st p to))) target
    ∙ pointer_is script h q (λ to. done (set_pointer st p to)) source)
    ∙ stored_is script h p (pointer_read script h q) r (k goes_on))

pub null_kept : (script : Script) (h : RunState) (p : Pointer) → operands_refusal h (Statement-F.SetNull p) ≡ None →
    Means script h (Statement-F.SetNull p) (gone_on (pointer_stored h p null))
unfolding statement and_then
null_kept script h p ok r f rec at k =
    let st = state_of script h in
    sym (ap (λ x. flow r (and_then x k) h) (pointer_is script h p (λ _. done (set_pointer st p null)) (fine_first h p [] ok))
    ∙ stored_is script h p null r (k goes_on))

pub set_number_kept : (script : Script) (h : RunState) (x : ℕ) (v : Number) → operands_refusal h (Statement-F.SetNumber x v) ≡ None →
    Means script h (Statement-F.SetNumber x v) (gone_on (stored h x (number (number_read h v))))
unfolding statement flow and_then
set_number_kept script h x v ok r f rec at k =
    let st = state_of script h in
    sym (ap (λ z. flow r (and_then (done (set_local st x (number z))) k) h) (number_is script h v))

-- a sum within the range of an int, and one past it
sum_kept : (r : Rule) (script : Script) (h : RunState) (x : ℕ) (z : ℤ) →
    ComesTo r script h (require (in_range z) NUMBER_OUT_OF_RANGE (state_of script h) (λ st. done (set_local st x (number z)))) (sum_stored h x z)
unfolding flow require
sum_kept r script h x z k = by (in_range z) k
  where
    st : State
    st = state_of script h

    by : (b : Bool) →
        ComesTo r script h (require b NUMBER_OUT_OF_RANGE st (λ st. done (set_local st x (number z)))) (cond b (gone_on (stored h x (number z))) (panicked h NUMBER_OUT_OF_RANGE))
    by true = λ k. refl
    by false = λ k. refl

pub add_kept : (script : Script) (h : RunState) (x : ℕ) (v : Number) → operands_refusal h (Statement-F.Add x v) ≡ None →
    Means script h (Statement-F.Add x v) (add_effect h x (number_read h v))
unfolding statement
add_kept script h x v ok r f rec at k =
    let st = state_of script h in
    sum_kept r script h x (number_in (value_in h.locals x) +ℤ number_read h v) k
    ∙ sym (ap (λ y. flow r (and_then (require (in_range (number_in (value_in h.locals x) +ℤ y)) NUMBER_OUT_OF_RANGE st (λ st. done (set_local st x (number (number_in (value_in h.locals x) +ℤ y))))) k) h)
    (number_is script h v))
