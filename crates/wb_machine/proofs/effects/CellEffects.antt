-- Statements that allocate and release cells come to what they mean.
use Rattle.std.proofs.Common.{◌≡◌, ℕ, Bool, true, false, List, refl, ap, ◌∙◌, sym, arith, cond, Option, Some, None, []}
use Rattle.std.specs.Prelude.{option_map}
use Rattle.wb_basics.specs.declared.limits.TheConstants.{LARGEST_REQUEST}
use Rattle.wb_heap_model.specs.declared.heap.TheConstants.Panic.{BAD_CELL, NUMBER_OUT_OF_RANGE}
use Rattle.wb_heap_model.specs.declared.heap.Ptr.{Ptr}
use Rattle.wb_heap_model.specs.declared.heap.Rule.{Rule}
use Rattle.wb_heap_model.specs.declared.heap.Kind.TheVariants.{Raw}
use Rattle.wb_heap_model.specs.declared.heap.Answer.{Answer}
use Rattle.wb_heap_model.specs.declared.heap.Gave.{Gave}
use Rattle.wb_heap_model.specs.declared.heap.Gave.TheVariants.{Granted, Denied, Ceiling}
use Rattle.wb_tree.specs.declared.script.Script.{Script}
use Rattle.wb_tree.specs.declared.script.Holder.TheVariants as H
use Rattle.wb_tree.specs.declared.script.Pointer.{Pointer}
use Rattle.wb_tree.specs.declared.script.Pointer.TheVariants as P
use Rattle.wb_tree.specs.declared.script.Number.{Number}
use Rattle.wb_tree.specs.declared.script.Refusal.{Refusal}
use Rattle.wb_tree.specs.declared.script.Refusal.TheVariants.{GivesNull, Leaves}
use Rattle.wb_tree.specs.declared.script.Statement.TheOpen.{Statement-F}
use Rattle.wb_heap_model.specs.Row.{Cell, cell_at, without}
use Rattle.wb_heap_model.specs.Rules.{Request, answer_to}
use Rattle.wb_heap_model.specs.Heap.{is_cleanup, AfterAnswer, alloc_request, after_alloc}
use Rattle.wb_heap_model.specs.LimitedHeap.{zero_words}
use Rattle.wb_heap_model.specs.Contents.{Content}
use Rattle.wb_meaning.specs.State.{State, goes_on, ends, and_then, with_some}
use Rattle.wb_meaning.specs.Operands.{number_of, set_row, within}
use Rattle.wb_meaning.specs.Statements.{statement, given_to, alloc_raw, of_script, released, release, done, fresh_words}
use Rattle.wb_heap_model.specs.Pointers.{is_null}
use Rattle.wb_heap_model.specs.Debug.{Debug, Made, number_of_next, made_by, answer_in, alloc_made, with_row}
use Rattle.wb_heap_model.specs.SameRules.{Fits}
use Rattle.wb_machine.specs.RunState.{RunState, field_count, read_cell, state_of, with_debug}
use Rattle.wb_machine.specs.Flow.{flow, ended_by, is_stop, FitsStep}
use Rattle.wb_machine.specs.PointerOperands.{operands_refusal}
use Rattle.wb_machine.specs.Effects.{Effect, gone_on, panicked, released_found, pointer_read, number_read, given_effect, made_effect, alloc_within, alloc_effect, free_effect}
use Rattle.wb_machine.proofs.kept.Rows.{read_without, read_cell_at, read_fresh}
use Rattle.wb_machine.proofs.turns.Flows.{followed, allocated}
use Rattle.wb_machine.proofs.whole_runs.Fitting.{fits-limit, fits-answer, fits-ended}
use Rattle.wb_machine.proofs.effects.StatementEffects.{Means, ComesTo, number_is, pointer_is, stored_is, fine_first}

-- no answer was given
abbrev pub is_ceiling : Gave → Bool
is_ceiling (Granted p) = false
is_ceiling Denied = false
is_ceiling Ceiling = true

-- a target gets what an attempt gave
pub given_kept : (r : Rule) (script : Script) (h : RunState) (p : Pointer) (x : Refusal) (gave : Gave) →
    ComesTo r script h (followed gave (given_to p x) (state_of script h)) (given_effect h p x gave)
unfolding flow given_to and_then
given_kept r script h p x (Granted q) k = sym (stored_is script h p q r (k goes_on))
given_kept r script h p GivesNull Denied k = sym (stored_is script h p _ r (k goes_on))
given_kept r script h p Leaves Denied k = refl
given_kept r script h p x Ceiling k = refl

-- a rule that fits what a target was given fits the attempt
pub fits_made : (r own : Rule) (h : RunState) (p : Pointer) (x : Refusal) (made : Made) →
    Fits r own (is_stop (made_effect h p x made).ending) (made_effect h p x made).state.debug.attempts → Fits r own (is_ceiling made.gave) made.debug.attempts
fits_made r own h p x made f = by p x made.gave f
  where
    by : (p : Pointer) (x : Refusal) (gave : Gave) →
        Fits r own (is_stop (given_effect (with_debug h made.debug) p x gave).ending) (given_effect (with_debug h made.debug) p x gave).state.debug.attempts →
        Fits r own (is_ceiling gave) made.debug.attempts
    by (P.Held (H.Local i)) x (Granted q) f = f
    by (P.Held H.This) x (Granted q) f = f
    by (P.Field holder class i) x (Granted q) f = f
    by (P.Held (H.Local i)) GivesNull Denied f = f
    by (P.Held H.This) GivesNull Denied f = f
    by (P.Field holder class i) GivesNull Denied f = f
    by p Leaves Denied f = f
    by p x Ceiling f = f

-- under a rule that fits, an attempt is answered as under the machine's own
pub answered_alike : (r : Rule) (d : Debug) (t : Request) (after : ℕ → Answer → AfterAnswer (List ℕ)) (o : Option Answer) → answer_in d t ≡ o →
    Fits r d.rule (is_ceiling (made_by d t after o).gave) (made_by d t after o).debug.attempts → answer_to r (number_of_next d) t ≡ o
answered_alike r d t after None e f = ap (λ q. answer_to q (number_of_next d) t) (fits-ended r d.rule _ f) ∙ e
answered_alike r d t after (Some w) e f = fits-answer r d.rule _ _ (number_of_next d) t f (omega arith) (omega arith) ∙ e

-- an allocation of a number of bytes
alloc_made_kept : (r : Rule) (script : Script) (h : RunState) (p : Pointer) (x : Refusal) (bytes : ℕ) →
    FitsStep r h (alloc_within h p x (Some bytes)).ending (alloc_within h p x (Some bytes)).state →
    ComesTo r script h (alloc_raw p x bytes (state_of script h)) (alloc_within h p x (Some bytes))
unfolding alloc_raw
alloc_made_kept r script h p x bytes f k =
    let t = alloc_request h.debug.heap bytes in
    let made : Made = alloc_made h.debug bytes Raw in
    let fits : Fits r h.debug.rule (is_ceiling made.gave) made.debug.attempts = fits_made r h.debug.rule h p x made f in
    sym (allocated r script h bytes Raw (fresh_words bytes) (given_to p x) k (answer_in h.debug t) (read_fresh (field_count script) bytes)
    (answered_alike r h.debug t (after_alloc h.debug.heap t Raw (zero_words t.length)) (answer_in h.debug t) refl fits)
    (fits-limit r h.debug.rule _ _ fits)
    ∙ sym (given_kept r script (with_debug h made.debug) p x made.gave k))

-- or of a number that may be out of its range
pub alloc_within_kept : (r : Rule) (script : Script) (h : RunState) (p : Pointer) (x : Refusal) (o : Option ℕ) →
    FitsStep r h (alloc_within h p x o).ending (alloc_within h p x o).state →
    ComesTo r script h (with_some o NUMBER_OUT_OF_RANGE (state_of script h) (λ bytes. alloc_raw p x bytes (state_of script h))) (alloc_within h p x o)
unfolding with_some
alloc_within_kept r script h p x None f k = refl
alloc_within_kept r script h p x (Some bytes) f k = alloc_made_kept r script h p x bytes f k

pub alloc_kept : (script : Script) (h : RunState) (p : Pointer) (v : Number) (x : Refusal) →
    operands_refusal h (Statement-F.Alloc p v x) ≡ None → Means script h (Statement-F.Alloc p v x) (alloc_effect h p x (number_read h v))
unfolding statement
alloc_kept script h p v x ok r f rec at k =
    let st = state_of script h in
    alloc_within_kept r script h p x (within LARGEST_REQUEST (number_read h v)) f k
    ∙ sym (ap (λ y. flow r (and_then y k) h) (pointer_is script h p (λ _. with_some (within LARGEST_REQUEST (number_of st v)) NUMBER_OUT_OF_RANGE st (λ bytes. alloc_raw p x bytes st)) (fine_first h p [] ok))
    ∙ ap (λ z. flow r (and_then (with_some (within LARGEST_REQUEST z) NUMBER_OUT_OF_RANGE st (λ bytes. alloc_raw p x bytes st)) k) h) (number_is script h v))

-- the release of a pointer
pub release_kept : (r : Rule) (script : Script) (h : RunState) (p : Ptr) → ComesTo r script h (release p (state_of script h)) (free_effect h p)
unfolding release released flow
release_kept r script h p k = by (is_null p)
  where
    st : State
    st = state_of script h

    after : RunState
    after = with_debug h (with_row h.debug (without p h.debug.heap.row))

    of_kind : (c : Cell (List ℕ)) (b : Bool) →
        ComesTo r script h (released (cond b None (Some (read_cell script c))) p st) (cond b (panicked h BAD_CELL) (gone_on after))
    of_kind c true k = refl
    of_kind c false k = ap (λ (row : List (Cell Content)). flow r (and_then (ends goes_on (set_row st row)) k) h) (read_without script p h.debug.heap.row)

    found : (o : Option (Cell (List ℕ))) → ComesTo r script h (released (of_script (option_map (read_cell script) o)) p st) (released_found h p o)
    found None k = refl
    found (Some c) k = of_kind c (is_cleanup c.head.kind) k

    effect : Bool → Effect
    effect b = cond b (gone_on h) (released_found h p (cell_at p h.debug.heap.row))

    by : (b : Bool) → flow r (and_then (ended_by (effect b).ending (state_of script (effect b).state)) k) (effect b).state
        ≡ flow r (and_then (elim b [ true ↦ done st | false ↦ released (of_script (cell_at p st.heap.row)) p st ]) k) h
    by true = refl
    by false =
        found (cell_at p h.debug.heap.row) k ∙ ap (λ o. flow r (and_then (released (of_script o) p st) k) h) (sym (read_cell_at script p h.debug.heap.row))

pub free_kept : (script : Script) (h : RunState) (p : Pointer) →
    operands_refusal h (Statement-F.Free p) ≡ None → Means script h (Statement-F.Free p) (free_effect h (pointer_read script h p))
unfolding statement
free_kept script h p ok r f rec at k =
    release_kept r script h (pointer_read script h p) k
    ∙ ap (λ x. flow r (and_then x k) h) (sym (pointer_is script h p (λ q. release q (state_of script h)) (fine_first h p [] ok)))
