-- A statement that is refused for an operand means the panic, whatever follows.
use Rattle.std.proofs.Common.{◌≡◌, Bool, List, [], ◌∷◌, ◌++◌, map, refl, ap, ◌∙◌, Some, None}
use Rattle.wb_heap_model.specs.declared.heap.Panic.{Panic}
use Rattle.wb_heap_model.specs.declared.heap.Ptr.{Ptr}
use Rattle.wb_heap_model.specs.declared.text.Base.{Base}
use Rattle.wb_tree.specs.declared.script.Script.{Script}
use Rattle.wb_tree.specs.declared.script.Pointer.{Pointer}
use Rattle.wb_tree.specs.declared.script.Writable.{Writable}
use Rattle.wb_tree.specs.declared.script.Readable.{Readable}
use Rattle.wb_tree.specs.declared.script.Condition.{Condition}
use Rattle.wb_tree.specs.declared.script.Argument.{Argument}
use Rattle.wb_tree.specs.declared.script.Argument.TheVariants.{Passed, Given}
use Rattle.wb_tree.specs.declared.script.Statement.TheOpen.{Statement-F}
use Rattle.wb_meaning.specs.State.{Value, pointer, number, panics, Process, stops}
use Rattle.wb_meaning.specs.Operands.{number_of, with_pointer}
use Rattle.wb_meaning.specs.Reading.{Source, with_writable, with_readable}
use Rattle.wb_meaning.specs.Statements.{Layer, Meaning, Context, with_arguments, with_condition, statement}
use Rattle.wb_machine.specs.RunState.{RunState, state_of}
use Rattle.wb_machine.specs.LocalValues.{passed}
use Rattle.wb_machine.specs.PointerOperands.{pointer_read, pointer_refusal, first_refusal, of_arguments, of_writable, of_readable, of_condition, operands_refusal}
use Rattle.wb_machine.proofs.effects.StatementEffects.{number_is}
use Rattle.wb_machine.proofs.effects.LeaveEffects.{condition_asked}
use Rattle.wb_machine.proofs.effects.PointerOperands.{through, pointer_asked, one_asked, both_asked, passed_by, refused_by, through_both}
use Rattle.wb_machine.proofs.effects.ReadTexts.{writable_asked, readable_asked, texts_asked}

-- arguments are what the caller's operands are
pub arguments_asked : (script : Script) (h : RunState) (arguments : List Argument) (go : List Value → Process) →
    with_arguments (state_of script h) arguments go ≡ through (first_refusal h (of_arguments arguments)) (state_of script h) (go (map (passed script h) arguments))
unfolding with_arguments
arguments_asked script h [] go = refl
arguments_asked script h (Passed p ∷ rest) go =
    let st = state_of script h in
    let q = pointer_read script h p in
    pointer_asked script h p (λ q. with_arguments st rest (λ vs. go (pointer q ∷ vs)))
    ∙ ap (through (pointer_refusal h p) st) (arguments_asked script h rest (λ vs. go (pointer q ∷ vs)))
    ∙ through_both (pointer_refusal h p) (first_refusal h (of_arguments rest)) st (go (pointer q ∷ map (passed script h) rest))
arguments_asked script h (Given v ∷ rest) go =
    let st = state_of script h in
    arguments_asked script h rest (λ vs. go (number (number_of st v) ∷ vs))
    ∙ ap (λ z. through (first_refusal h (of_arguments rest)) st (go (number z ∷ map (passed script h) rest))) (number_is script h v)

pub arguments_are : (script : Script) (h : RunState) (arguments : List Argument) (go : List Value → Process) → first_refusal h (of_arguments arguments) ≡ None →
    with_arguments (state_of script h) arguments go ≡ go (map (passed script h) arguments)
arguments_are script h arguments go fine = passed_by (state_of script h) _ (arguments_asked script h arguments go) fine

-- an operand is refused, by the way in which a statement asks for its operands
module _ (script : Script) (h : RunState) (panic : Panic) where
  one_refused : (p : Pointer) (go : Ptr → Process) → first_refusal h (p ∷ []) ≡ Some panic → with_pointer (state_of script h) p go ≡ stops (panics panic) (state_of script h)
  one_refused p go e = refused_by (state_of script h) _ (one_asked script h p go) e

  both_refused : (p q : Pointer) (go : Ptr → Ptr → Process) → first_refusal h (p ∷ q ∷ []) ≡ Some panic →
      with_pointer (state_of script h) p (λ a. with_pointer (state_of script h) q (go a)) ≡ stops (panics panic) (state_of script h)
  both_refused p q go e = refused_by (state_of script h) _ (both_asked script h p q go) e

  arguments_refused : (arguments : List Argument) (go : List Value → Process) → first_refusal h (of_arguments arguments) ≡ Some panic →
      with_arguments (state_of script h) arguments go ≡ stops (panics panic) (state_of script h)
  arguments_refused arguments go e = refused_by (state_of script h) _ (arguments_asked script h arguments go) e

  writable_refused : (d : Writable) (go : Base → Process) → first_refusal h (of_writable d) ≡ Some panic → with_writable (state_of script h) d go ≡ stops (panics panic) (state_of script h)
  writable_refused d go e = refused_by (state_of script h) _ (writable_asked script h d go) e

  readable_refused : (t : Readable) (go : Source → Process) → first_refusal h (of_readable t) ≡ Some panic → with_readable (state_of script h) t go ≡ stops (panics panic) (state_of script h)
  readable_refused t go e = refused_by (state_of script h) _ (readable_asked script h t go) e

  texts_refused : (d : Writable) (t : Readable) (go : Base → Source → Process) → first_refusal h (of_writable d ++ of_readable t) ≡ Some panic →
      with_writable (state_of script h) d (λ to. with_readable (state_of script h) t (go to)) ≡ stops (panics panic) (state_of script h)
  texts_refused d t go e = refused_by (state_of script h) _ (texts_asked script h d t go) e

  condition_refused : (c : Condition) (go : Bool → Process) → first_refusal h (of_condition c) ≡ Some panic → with_condition (state_of script h) c go ≡ stops (panics panic) (state_of script h)
  condition_refused c go e = refused_by (state_of script h) _ (condition_asked script h c go) e

ruleset refused_in_turn = (one_refused, both_refused, arguments_refused, writable_refused, readable_refused, texts_refused, condition_refused)

pub statement_refused : (script : Script) (h : RunState) (rec : Meaning) (at : Context) (layer : Layer) (panic : Panic) → operands_refusal h layer ≡ Some panic →
    statement script rec at layer (state_of script h) ≡ stops (panics panic) (state_of script h)
unfolding statement
statement_refused script h rec at (Statement-F.Call index arguments) panic e = arguments_refused script h panic arguments _ e
statement_refused script h rec at _ panic e = search refused_in_turn
