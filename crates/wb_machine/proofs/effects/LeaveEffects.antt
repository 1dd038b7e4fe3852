-- Statements that leave or end a body come to what they mean, and what an `if` asks is what it asks of the definitions.
use Rattle.std.proofs.Common.{◌≡◌, ℤ, pos, Bool, true, false, not, refl, ap, ◌∙◌, sym, None, []}
use Rattle.std.specs.Prelude.{◌&&◌, int_le, int_lt}
use Rattle.wb_heap_model.specs.declared.heap.TheConstants.{KERR_NO_MEMORY}
use Rattle.wb_heap_model.specs.declared.heap.Rule.{Rule}
use Rattle.wb_tree.specs.declared.script.Script.{Script}
use Rattle.wb_tree.specs.declared.script.Pointer.{Pointer}
use Rattle.wb_tree.specs.declared.script.Number.{Number}
use Rattle.wb_tree.specs.declared.script.Condition.{Condition}
use Rattle.wb_tree.specs.declared.script.Condition.TheVariants.{IsNull, NotNull, Equal, Less}
use Rattle.wb_tree.specs.declared.script.Statement.TheOpen.{Statement-F}
use Rattle.wb_meaning.specs.State.{returns, leaves, Process, ends, and_then}
use Rattle.wb_heap_model.specs.Pointers.{null, is_null}
use Rattle.wb_meaning.specs.Operands.{number_of}
use Rattle.wb_meaning.specs.Statements.{statement, leave_if, with_condition}
use Rattle.wb_machine.specs.RunState.{RunState, state_of}
use Rattle.wb_machine.specs.Flow.{flow}
use Rattle.wb_machine.specs.PointerOperands.{operands_refusal, first_refusal, of_condition}
use Rattle.wb_machine.specs.Effects.{pointer_read, number_read, condition_read, left_with, left_where, returned}
use Rattle.wb_machine.proofs.effects.PointerOperands.{through, one_asked, passed_by}
use Rattle.wb_machine.proofs.effects.StatementEffects.{Means, ComesTo, number_is, pointer_is, fine_first}

pub leave_kept : (script : Script) (h : RunState) (v : Number) → operands_refusal h (Statement-F.Leave v) ≡ None →
    Means script h (Statement-F.Leave v) (left_with h (number_read h v))
unfolding statement
leave_kept script h v ok r f rec at k =
    sym (ap (λ z. flow r (and_then (ends (leaves z) (state_of script h)) k) h) (number_is script h v))

leave_if_kept : (r : Rule) (script : Script) (h : RunState) (b : Bool) (code : ℤ) → ComesTo r script h (leave_if b code (state_of script h)) (left_where h b code)
unfolding leave_if
leave_if_kept r script h true code k = refl
leave_if_kept r script h false code k = refl

pub leave_if_error_kept : (script : Script) (h : RunState) (v : Number) → operands_refusal h (Statement-F.LeaveIfError v) ≡ None →
    Means script h (Statement-F.LeaveIfError v) (left_where h (int_lt (number_read h v) (pos 0)) (number_read h v))
unfolding statement
leave_if_error_kept script h v ok r f rec at k =
    leave_if_kept r script h (int_lt (number_read h v) (pos 0)) (number_read h v) k
    ∙ sym (ap (λ z. flow r (and_then (leave_if (int_lt z (pos 0)) z (state_of script h)) k) h) (number_is script h v))

pub leave_if_null_kept : (script : Script) (h : RunState) (p : Pointer) → operands_refusal h (Statement-F.LeaveIfNull p) ≡ None →
    Means script h (Statement-F.LeaveIfNull p) (left_where h (is_null (pointer_read script h p)) KERR_NO_MEMORY)
unfolding statement
leave_if_null_kept script h p ok r f rec at k =
    leave_if_kept r script h (is_null (pointer_read script h p)) KERR_NO_MEMORY k
    ∙ ap (λ x. flow r (and_then x k) h) (sym (pointer_is script h p (λ q. leave_if (is_null q) KERR_NO_MEMORY (state_of script h)) (fine_first h p [] ok)))

pub return_kept : (script : Script) (h : RunState) → operands_refusal h Statement-F.Return ≡ None →
    Means script h Statement-F.Return (returned h null)
unfolding statement
return_kept script h ok r f rec at k = refl

pub return_pointer_kept : (script : Script) (h : RunState) (p : Pointer) → operands_refusal h (Statement-F.ReturnPointer p) ≡ None →
    Means script h (Statement-F.ReturnPointer p) (returned h (pointer_read script h p))
unfolding statement
return_pointer_kept script h p ok r f rec at k =
    ap (λ x. flow r (and_then x k) h)
    (sym (pointer_is script h p (λ q. ends (returns q) (state_of script h)) (fine_first h p [] ok)))

-- what is asked
pub condition_asked : (script : Script) (h : RunState) (c : Condition) (go : Bool → Process) →
    with_condition (state_of script h) c go ≡ through (first_refusal h (of_condition c)) (state_of script h) (go (condition_read script h c))
unfolding with_condition
condition_asked script h (IsNull p) go = one_asked script h p (λ q. go (is_null q))
condition_asked script h (NotNull p) go = one_asked script h p (λ q. go (not (is_null q)))
condition_asked script h (Equal v w) go =
    ap (λ x. go (int_le x (number_of (state_of script h) w) && int_le (number_of (state_of script h) w) x)) (number_is script h v)
    ∙ ap (λ y. go (int_le (number_read h v) y && int_le y (number_read h v))) (number_is script h w)
condition_asked script h (Less v w) go =
    ap (λ x. go (int_lt x (number_of (state_of script h) w))) (number_is script h v) ∙ ap (λ y. go (int_lt (number_read h v) y)) (number_is script h w)

pub condition_is : (script : Script) (h : RunState) (c : Condition) (go : Bool → Process) → first_refusal h (of_condition c) ≡ None →
    with_condition (state_of script h) c go ≡ go (condition_read script h c)
condition_is script h c go fine = passed_by (state_of script h) _ (condition_asked script h c go) fine
