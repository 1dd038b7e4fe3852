-- Statements on objects come to what they mean.
use Rattle.std.proofs.Common.{◌≡◌, ℕ, ◌+◌, ◌-◌, ◌*◌, ◌/◌, ◌≤◌, ◌<◌, true, List, [], None, length, replicate, refl, ap, ◌∙◌, sym, arith}
use Rattle.std.specs.Prelude.{nat_lt}
use Rattle.std.proofs.lemmas.Bool.{ltb-true}
use Rattle.std.proofs.lemmas.List.{length-map}
use Rattle.wb_heap_model.specs.declared.heap.Item.TheVariants as I
use Rattle.wb_heap_model.specs.declared.heap.Kind.TheVariants.{Object}
use Rattle.wb_tree.specs.declared.script.Class.{Class}
use Rattle.wb_tree.specs.declared.script.Pointer.{Pointer}
use Rattle.wb_tree.specs.declared.script.Refusal.{Refusal}
use Rattle.wb_tree.specs.declared.script.Script.{Script}
use Rattle.wb_tree.specs.declared.script.Statement.TheOpen.{Statement-F}
use Rattle.wb_meaning.specs.Attempts.{push}
use Rattle.wb_tree.specs.Bodies.{class_at, payload_of_object}
use Rattle.wb_heap_model.specs.Debug.{Made, answer_in}
use Rattle.wb_heap_model.specs.Heap.{alloc_request, after_alloc}
use Rattle.wb_heap_model.specs.SameRules.{Fits}
use Rattle.wb_tree.specs.Sound.{is_statement, is_target}
use Rattle.wb_meaning.specs.State.{and_then}
use Rattle.wb_heap_model.specs.Contents.{fields}
use Rattle.wb_heap_model.specs.Pointers.{null}
use Rattle.wb_meaning.specs.Statements.{Layer, given_to, new_object, statement}
use Rattle.wb_objects.specs.Objects.{new_words, object_made}
use Rattle.wb_objects.proofs.Made.{new-fields}
use Rattle.wb_machine.specs.RunState.{RunState, state_of, with_debug}
use Rattle.wb_machine.specs.Flow.{IsSimple, flow, is_carried_out}
use Rattle.wb_machine.specs.PointerOperands.{operands_refusal}
use Rattle.wb_machine.specs.Effects.{pointer_read}
use Rattle.wb_machine.specs.CleanupEffects.{IsStackThere, push_effect}
use Rattle.wb_machine.specs.ObjectEffects.{new_effect}
use Rattle.wb_machine.proofs.whole_runs.Fitting.{fits-limit}
use Rattle.wb_machine.proofs.turns.Flows.{allocated_with}
use Rattle.wb_machine.proofs.effects.StatementEffects.{Means, fine_first, pointer_is}
use Rattle.wb_machine.proofs.turns.Scripts.{and_right}
use Rattle.wb_machine.proofs.effects.CellEffects.{answered_alike, fits_made, given_kept, is_ceiling}
use Rattle.wb_machine.proofs.effects.CleanupEffectLemmas.{pushed}

-- the class of an object that a script makes is there
pub class_there : {script : Script} {layer : Layer} (own : IsSimple script layer) (p : Pointer) (class : ℕ) (x : Refusal) → layer ≡ Statement-F.New p class x → class < length script.classes
class_there {script} {layer} own p class x is =
    let sound : is_statement (length script.literals) own.scope (Statement-F.New p class x) ≡ true = sym (ap (is_carried_out (length script.literals) own.scope own.trapped) is) ∙ own.sound in
    let within = ltb-true class (length own.scope.fields) (and_right (is_target own.scope p) (nat_lt class (length own.scope.fields)) sound) in
    omega (arith, within, ap length own.shaped, length-map script.classes (λ (c : Class). length c.fields))

pub new_kept : (script : Script) (h : RunState) (p : Pointer) (class : ℕ) (x : Refusal) → operands_refusal h (Statement-F.New p class x) ≡ None →
    Means script h (Statement-F.New p class x) (new_effect script h p class x)
unfolding statement new_object
new_kept script h p class x ok r f rec at k =
    let c : Class = class_at script class in
    let count : ℕ = length c.fields in
    let bytes : ℕ = payload_of_object c in
    let t = alloc_request h.debug.heap bytes in
    let ws = new_words t.length class count in
    let made : Made = object_made h.debug class c in
    let fits : Fits r h.debug.rule (is_ceiling made.gave) made.debug.attempts = fits_made r h.debug.rule h p x made f in
    let room : 2 + 2 * count ≤ t.length / 4 - 4 = omega arith in
    sym (allocated_with r script h bytes (Object class) ws (fields (replicate count null)) (given_to p x) k (answer_in h.debug t) (ap fields (new-fields t.length class count room))
    (answered_alike r h.debug t (after_alloc h.debug.heap t (Object class) ws) (answer_in h.debug t) refl fits)
    (fits-limit r h.debug.rule _ _ fits)
    ∙ sym (given_kept r script (with_debug h made.debug) p x made.gave k))
    ∙ sym (ap (λ y. flow r (and_then y k) h) (pointer_is script h p (λ _. new_object script p class x (state_of script h)) (fine_first h p [] ok)))

pub push_object_kept : (script : Script) (h : RunState) (p : Pointer) (ws : List ℕ) → IsStackThere h →
    IsStackThere (push_effect h (I.Delete (pointer_read script h p)) ws).state → operands_refusal h (Statement-F.PushObject p) ≡ None →
    Means script h (Statement-F.PushObject p) (push_effect h (I.Delete (pointer_read script h p)) ws)
unfolding statement
push_object_kept script h p ws at now ok r f rec at' k =
    pushed r script h (I.Delete (pointer_read script h p)) ws at f now k
    ∙ ap (λ x. flow r (and_then x k) h) (sym (pointer_is script h p (λ q. push (I.Delete q) (state_of script h)) (fine_first h p [] ok)))
