-- Reallocations come to what they mean.
use Rattle.std.proofs.Common.{◌≡◌, ℕ, ℤ, Bool, true, false, List, refl, ap, ◌∙◌, sym, cond, Option, Some, None, [], ◌∷◌}
use Rattle.std.specs.Prelude.{nat_lt, option_map}
use Rattle.wb_basics.specs.declared.limits.TheConstants.{LARGEST_REQUEST}
use Rattle.wb_heap_model.specs.declared.heap.TheConstants.Panic.{NUMBER_OUT_OF_RANGE, BAD_CELL, WRONG_KIND}
use Rattle.wb_heap_model.specs.declared.heap.Ptr.{Ptr}
use Rattle.wb_heap_model.specs.declared.heap.Rule.{Rule}
use Rattle.wb_heap_model.specs.declared.heap.Kind.{Kind}
use Rattle.wb_heap_model.specs.declared.heap.Kind.TheVariants.{Raw, Object, Text, Cleanup}
use Rattle.wb_tree.specs.declared.script.Script.{Script}
use Rattle.wb_tree.specs.declared.script.Pointer.{Pointer}
use Rattle.wb_tree.specs.declared.script.Number.{Number}
use Rattle.wb_tree.specs.declared.script.Refusal.{Refusal}
use Rattle.wb_tree.specs.declared.script.Statement.TheOpen.{Statement-F}
use Rattle.wb_heap_model.specs.Row.{Cell, cell_at, cell_length}
use Rattle.wb_heap_model.specs.CellRow.{resized_words}
use Rattle.wb_heap_model.specs.Heap.{realloc_request, after_realloc}
use Rattle.wb_meaning.specs.State.{and_then, require, with_some}
use Rattle.wb_meaning.specs.Operands.{number_of, within, with_pointer}
use Rattle.wb_meaning.specs.Attempts.{reallocate_longer, reallocate}
use Rattle.wb_meaning.specs.Statements.{statement, given_to, is_raw, realloc_raw, realloc_of}
use Rattle.wb_heap_model.specs.Pointers.{is_null}
use Rattle.wb_heap_model.specs.Debug.{Made, answer_in, longer_made, shorter_made}
use Rattle.wb_heap_model.specs.SameRules.{Fits}
use Rattle.wb_machine.specs.RunState.{RunState, read_cell, state_of, with_debug}
use Rattle.wb_machine.specs.Flow.{FitsStep, flow}
use Rattle.wb_machine.specs.PointerOperands.{operands_refusal}
use Rattle.wb_machine.specs.Effects.{Effect, panicked, pointer_read, number_read, made_effect, alloc_effect, realloc_within, realloc_found, realloc_effect}
use Rattle.wb_machine.proofs.kept.Rows.{read_cell_at}
use Rattle.wb_machine.proofs.turns.Flows.{ReadsResized, resized_content, made_longer, made_shorter}
use Rattle.wb_machine.proofs.whole_runs.Fitting.{fits-limit}
use Rattle.wb_machine.proofs.effects.StatementEffects.{Means, ComesTo, number_is, pointer_is, fine_first, fine_rest}
use Rattle.wb_machine.proofs.effects.CellEffects.{is_ceiling, given_kept, fits_made, answered_alike, alloc_within_kept}

-- a rule that fits once this was carried out
abbrev pub FitsAfter : Rule → RunState → Effect → Type 0
FitsAfter r h c = FitsStep r h c.ending c.state

-- to a cell that is longer, and to one that isn't
pub resized_kept : (r : Rule) (script : Script) (h : RunState) (p : Pointer) (x : Refusal) (c : Cell (List ℕ)) (bytes : ℕ) (b : Bool) → ReadsResized script c.head.kind bytes c.content →
    FitsAfter r h (made_effect h p x (cond b (longer_made h.debug c bytes) (shorter_made h.debug c bytes))) →
    ComesTo r script h (reallocate_longer b (read_cell script c) bytes (state_of script h) (state_of script h) (given_to p x))
    (made_effect h p x (cond b (longer_made h.debug c bytes) (shorter_made h.debug c bytes)))
resized_kept r script h p x c bytes true reads f k =
    let t = realloc_request h.debug.heap c.head bytes in
    let made : Made = longer_made h.debug c bytes in
    let fits : Fits r h.debug.rule (is_ceiling made.gave) made.debug.attempts = fits_made r h.debug.rule h p x made f in
    sym (made_longer r script h c bytes (given_to p x) k (answer_in h.debug t) reads
    (answered_alike r h.debug t (after_realloc h.debug.heap t c.head (resized_words t.length c.content)) (answer_in h.debug t) refl fits) (fits-limit r h.debug.rule _ _ fits)
    ∙ sym (given_kept r script (with_debug h made.debug) p x made.gave k))
resized_kept r script h p x c bytes false reads f k =
    let made : Made = shorter_made h.debug c bytes in
    sym (made_shorter r script h c bytes (given_to p x) k reads ∙ sym (given_kept r script (with_debug h made.debug) p x made.gave k))

-- a reallocation of a cell to a number of bytes, which may be out of its range
within_kept : (r : Rule) (script : Script) (h : RunState) (p : Pointer) (x : Refusal) (c : Cell (List ℕ)) (o : Option ℕ) → c.head.kind ≡ Raw →
    FitsAfter r h (realloc_within h p x c o) →
    ComesTo r script h (with_some o NUMBER_OUT_OF_RANGE (state_of script h) (λ bytes. reallocate (read_cell script c) bytes (state_of script h) (state_of script h) (given_to p x)))
    (realloc_within h p x c o)
unfolding with_some reallocate flow
within_kept r script h p x c None raw f k = refl
within_kept r script h p x c (Some bytes) raw f k =
    resized_kept r script h p x c bytes (nat_lt c.head.length (cell_length bytes)) (resized_content script c.head.kind bytes c.content raw) f k

-- of a cell of any kind, and of a pointer that names none
found_kept : (r : Rule) (script : Script) (h : RunState) (p : Pointer) (x : Refusal) (z : ℤ) (o : Option (Cell (List ℕ))) →
    FitsAfter r h (realloc_found h p x z o) →
    ComesTo r script h (with_some (option_map (read_cell script) o) BAD_CELL (state_of script h) (λ c.
    require (is_raw c.head.kind) WRONG_KIND (state_of script h) (λ st.
    with_some (within LARGEST_REQUEST z) NUMBER_OUT_OF_RANGE st (λ bytes. reallocate c bytes st st (given_to p x))))) (realloc_found h p x z o)
unfolding with_some require flow
found_kept r script h p x z None f k = refl
found_kept r script h p x z (Some c) f k = by c.head.kind refl f k
  where
    effect : Kind → Effect
    effect kind = cond (is_raw kind) (realloc_within h p x c (within LARGEST_REQUEST z)) (panicked h WRONG_KIND)

    by : (kind : Kind) → c.head.kind ≡ kind → FitsAfter r h (effect kind) →
        ComesTo r script h (require (is_raw kind) WRONG_KIND (state_of script h) (λ st.
        with_some (within LARGEST_REQUEST z) NUMBER_OUT_OF_RANGE st (λ bytes. reallocate (read_cell script c) bytes st st (given_to p x)))) (effect kind)
    by Raw raw f = within_kept r script h p x c (within LARGEST_REQUEST z) raw f
    by (Object class) raw f = λ k. refl
    by Text raw f = λ k. refl
    by Cleanup raw f = λ k. refl

-- of a pointer that may be null
of_kept : (r : Rule) (script : Script) (h : RunState) (p : Pointer) (x : Refusal) (q : Ptr) (z : ℤ) →
    FitsAfter r h (realloc_effect h p x q z) → ComesTo r script h (realloc_of (is_null q) p x q z (state_of script h)) (realloc_effect h p x q z)
unfolding realloc_of realloc_raw
of_kept r script h p x q z f k = by (is_null q) f k
  where
    by : (b : Bool) → FitsAfter r h (cond b (alloc_effect h p x z) (realloc_found h p x z (cell_at q h.debug.heap.row))) →
        ComesTo r script h (realloc_of b p x q z (state_of script h)) (cond b (alloc_effect h p x z) (realloc_found h p x z (cell_at q h.debug.heap.row)))
    by true f = alloc_within_kept r script h p x (within LARGEST_REQUEST z) f
    by false f = λ k.
        found_kept r script h p x z (cell_at q h.debug.heap.row) f k
        ∙ ap (λ o. flow r (and_then (with_some o BAD_CELL (state_of script h) (λ c. require (is_raw c.head.kind) WRONG_KIND (state_of script h) (λ st.
        with_some (within LARGEST_REQUEST z) NUMBER_OUT_OF_RANGE st (λ bytes. reallocate c bytes st st (given_to p x))))) k) h) (sym (read_cell_at script q h.debug.heap.row))

pub realloc_kept : (script : Script) (h : RunState) (p q : Pointer) (v : Number) (x : Refusal) →
    operands_refusal h (Statement-F.Realloc p q v x) ≡ None → Means script h (Statement-F.Realloc p q v x) (realloc_effect h p x (pointer_read script h q) (number_read h v))
unfolding statement
realloc_kept script h p q v x ok r f rec at k =
    let st = state_of script h in
    let target = fine_first h p (q ∷ []) ok in
    let source = fine_first h q [] (fine_rest h p (q ∷ []) ok) in
    of_kept r script h p x (pointer_read script h q) (number_read h v) f k
    ∙ sym (ap (λ y. flow r (and_then y k) h)
    (pointer_is script h p (λ _. with_pointer st q (λ old. realloc_of (is_null old) p x old (number_of st v) st)) target
    ∙ pointer_is script h q (λ old. realloc_of (is_null old) p x old (number_of st v) st) source)
    ∙ ap (λ z. flow r (and_then (realloc_of (is_null (pointer_read script h q)) p x (pointer_read script h q) z st) k) h) (number_is script h v))
