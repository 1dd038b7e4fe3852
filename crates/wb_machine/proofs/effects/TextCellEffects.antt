-- Statements that allocate and reallocate texts come to what they mean.
use Rattle.std.proofs.Common.{◌≡◌, ℕ, ℤ, ◌+◌, ◌-◌, ◌*◌, ◌/◌, ◌≤◌, Bool, true, false, List, [], length, refl, ap, ◌∙◌, sym, arith, cond, Option, Some, None, ◌∷◌}
use Rattle.std.specs.Prelude.{nat_le, nat_lt, option_map}
use Rattle.std.proofs.lemmas.Bool.{leb-true}
use Rattle.wb_basics.specs.declared.limits.TheConstants.{MOST_UNITS}
use Rattle.wb_heap_model.specs.declared.heap.TheConstants.Panic.{NUMBER_OUT_OF_RANGE, SHORTER_THAN_TEXT, NULL_OR_STALE, WRONG_KIND}
use Rattle.wb_heap_model.specs.declared.heap.Rule.{Rule}
use Rattle.wb_heap_model.specs.declared.heap.Kind.{Kind}
use Rattle.wb_heap_model.specs.declared.heap.Kind.TheVariants.{Raw, Object, Text, Cleanup}
use Rattle.wb_tree.specs.declared.script.Script.{Script}
use Rattle.wb_tree.specs.declared.script.Pointer.{Pointer}
use Rattle.wb_tree.specs.declared.script.Number.{Number}
use Rattle.wb_tree.specs.declared.script.Refusal.{Refusal}
use Rattle.wb_tree.specs.declared.script.Refusal.TheVariants.{GivesNull}
use Rattle.wb_tree.specs.declared.script.Statement.TheOpen.{Statement-F}
use Rattle.wb_heap_model.specs.Row.{Cell, cell_at, cell_length}
use Rattle.wb_heap_model.specs.CellRow.{resized_words}
use Rattle.wb_heap_model.specs.Heap.{alloc_request, after_alloc}
use Rattle.wb_heap_model.specs.LimitedHeap.{zero_words}
use Rattle.wb_heap_model.specs.Spelling.{read_as}
use Rattle.wb_heap_model.specs.Contents.{Content, units}
use Rattle.wb_meaning.specs.State.{State, Process, and_then, require, with_some}
use Rattle.wb_meaning.specs.Operands.{number_of, within, units_of, with_cell, with_pointer}
use Rattle.wb_meaning.specs.Attempts.{allocate, reallocate}
use Rattle.wb_meaning.specs.Statements.{statement, given_to, realloc_text}
use Rattle.wb_heap_model.specs.Debug.{Made, answer_in, alloc_made, realloc_made}
use Rattle.wb_heap_model.specs.TextCells.{IsText, text_in}
use Rattle.wb_heap_model.proofs.TextCells.{text-read, zeros-text, resized-text}
use Rattle.wb_heap_model.specs.SameRules.{Fits}
use Rattle.wb_machine.specs.RunState.{RunState, field_count, read_cell, state_of, with_debug}
use Rattle.wb_machine.specs.Flow.{flow}
use Rattle.wb_machine.specs.PointerOperands.{operands_refusal}
use Rattle.wb_machine.specs.Effects.{Effect, panicked, pointer_read, number_read, made_effect}
use Rattle.wb_machine.specs.TextEffects.{unless_panics, new_text_within, new_text_effect, realloc_text_within, realloc_text_found, realloc_text_effect}
use Rattle.wb_machine.specs.TextOperands.{is_text}
use Rattle.wb_machine.specs.TextInvariant.{IsTextCell, AreTexts}
use Rattle.wb_machine.proofs.kept.Rows.{read_cell_at}
use Rattle.wb_machine.proofs.turns.Flows.{ReadsResized, allocated}
use Rattle.wb_machine.proofs.whole_runs.Fitting.{fits-limit}
use Rattle.wb_machine.proofs.effects.StatementEffects.{Means, ComesTo, number_is, pointer_is, fine_first, fine_rest}
use Rattle.wb_machine.proofs.effects.CellEffects.{is_ceiling, given_kept, fits_made, answered_alike}
use Rattle.wb_machine.proofs.effects.ReallocationEffects.{FitsAfter, resized_kept}
use Rattle.wb_machine.proofs.kept.TextInvariant.{text_cell_at}

-- a fresh cell reads as the empty text
read_empty : (script : Script) (n : ℕ) → read_as (field_count script) Text (zero_words (cell_length (4 + 2 * n))) ≡ units []
read_empty script n =
    let words = zero_words (cell_length (4 + 2 * n)) in
    let empty : IsText words [] = zeros-text (cell_length (4 + 2 * n) / 4 - 4) (omega arith) in
    ap units (text-read words [] empty).text

new_text_made : (r : Rule) (script : Script) (h : RunState) (p : Pointer) (x : Refusal) (o : Option ℕ) → FitsAfter r h (new_text_within h p x o) →
    ComesTo r script h (with_some o NUMBER_OUT_OF_RANGE (state_of script h) (λ n. allocate (4 + 2 * n) Text (units []) (state_of script h) (given_to p x))) (new_text_within h p x o)
unfolding with_some
new_text_made r script h p x None f k = refl
new_text_made r script h p x (Some n) f k =
    let t = alloc_request h.debug.heap (4 + 2 * n) in
    let made : Made = alloc_made h.debug (4 + 2 * n) Text in
    let fits : Fits r h.debug.rule (is_ceiling made.gave) made.debug.attempts = fits_made r h.debug.rule h p x made f in
    sym (allocated r script h (4 + 2 * n) Text (units []) (given_to p x) k (answer_in h.debug t) (read_empty script n)
    (answered_alike r h.debug t (after_alloc h.debug.heap t Text (zero_words t.length)) (answer_in h.debug t) refl fits)
    (fits-limit r h.debug.rule _ _ fits)
    ∙ sym (given_kept r script (with_debug h made.debug) p x made.gave k))

pub new_text_kept : (script : Script) (h : RunState) (p : Pointer) (v : Number) (x : Refusal) →
    operands_refusal h (Statement-F.NewText p v x) ≡ None → Means script h (Statement-F.NewText p v x) (new_text_effect h p x (number_read h v))
unfolding statement
new_text_kept script h p v x ok r f rec at k =
    let st = state_of script h in
    new_text_made r script h p x (within MOST_UNITS (number_read h v)) f k
    ∙ sym (ap (λ y. flow r (and_then y k) h) (pointer_is script h p (λ _. with_some (within MOST_UNITS (number_of st v)) NUMBER_OUT_OF_RANGE st (λ n. allocate (4 + 2 * n) Text (units []) st (given_to p x))) (fine_first h p [] ok))
    ∙ ap (λ z. flow r (and_then (with_some (within MOST_UNITS z) NUMBER_OUT_OF_RANGE st (λ n. allocate (4 + 2 * n) Text (units []) st (given_to p x))) k) h) (number_is script h v))

-- a text that has room in a cell of another length
text_resized_reads : (script : Script) (kind : Kind) (n : ℕ) (ws : List ℕ) → kind ≡ Text → IsText ws (text_in ws) → length (text_in ws) ≤ n → ReadsResized script kind (4 + 2 * n) ws
text_resized_reads script Text n ws text is fits =
    let to = cell_length (4 + 2 * n) in
    let made : IsText (resized_words to ws) (text_in ws) = resized-text to ws (text_in ws) is (omega arith) (omega (arith, fits)) in
    ap units (text-read (resized_words to ws) (text_in ws) made).text
text_resized_reads script Raw n ws text is fits = cc
text_resized_reads script (Object class) n ws text is fits = cc
text_resized_reads script Cleanup n ws text is fits = cc

-- to a number of units, which may be out of its range
remade_kept : (r : Rule) (script : Script) (h : RunState) (p : Pointer) (c : Cell (List ℕ)) (o : Option ℕ) → c.head.kind ≡ Text →
    IsText c.content (text_in c.content) → FitsAfter r h (realloc_text_within h p c o) →
    ComesTo r script h (with_some o NUMBER_OUT_OF_RANGE (state_of script h) (λ n. realloc_text p (read_cell script c) (text_in c.content) n (state_of script h))) (realloc_text_within h p c o)
unfolding with_some realloc_text reallocate require flow
remade_kept r script h p c None text is f k = refl
remade_kept r script h p c (Some n) text is f k = by (nat_le (length (text_in c.content)) n) refl f k
  where
    st : State
    st = state_of script h

    after : Bool → Effect
    after b = cond b (made_effect h p GivesNull (realloc_made h.debug c (4 + 2 * n))) (panicked h SHORTER_THAN_TEXT)

    by : (b : Bool) → nat_le (length (text_in c.content)) n ≡ b → FitsAfter r h (after b) →
        ComesTo r script h (require b SHORTER_THAN_TEXT st (λ st. reallocate (read_cell script c) (4 + 2 * n) st st (given_to p GivesNull))) (after b)
    by false e f k = refl
    by true e f k =
        resized_kept r script h p GivesNull c (4 + 2 * n) (nat_lt c.head.length (cell_length (4 + 2 * n)))
        (text_resized_reads script c.head.kind n c.content text is (leb-true (length (text_in c.content)) n e)) f k

-- of a cell of any kind, and of a pointer that names none
remade_found : (r : Rule) (script : Script) (h : RunState) (p : Pointer) (z : ℤ) (o : Option (Cell (List ℕ))) →
    ((c : Cell (List ℕ)) → o ≡ Some c → IsTextCell c) → FitsAfter r h (realloc_text_found h p z o) →
    ComesTo r script h (with_some (option_map (read_cell script) o) NULL_OR_STALE (state_of script h) (λ c. with_some (units_of c.head.kind c.content) WRONG_KIND (state_of script h) (λ us.
    with_some (within MOST_UNITS z) NUMBER_OUT_OF_RANGE (state_of script h) (λ n. realloc_text p c us n (state_of script h))))) (realloc_text_found h p z o)
unfolding with_some
remade_found r script h p z None texts f k = refl
remade_found r script h p z (Some c) texts f k = by c.head.kind (texts c refl) refl f k
  where
    st : State
    st = state_of script h

    after : Kind → Effect
    after kind = unless_panics h (cond (is_text kind) None (Some WRONG_KIND)) (realloc_text_within h p c (within MOST_UNITS z))

    by : (kind : Kind) → (kind ≡ Text → IsText c.content (text_in c.content)) → c.head.kind ≡ kind → FitsAfter r h (after kind) →
        ComesTo r script h (with_some (units_of kind (read_as (field_count script) kind c.content)) WRONG_KIND st (λ us.
        with_some (within MOST_UNITS z) NUMBER_OUT_OF_RANGE st (λ n. realloc_text p (read_cell script c) us n st))) (after kind)
    by Text is e f k = remade_kept r script h p c (within MOST_UNITS z) e (is refl) f k
    by Raw is e f k = refl
    by (Object class) is e f k = refl
    by Cleanup is e f k = refl

pub realloc_text_kept : (script : Script) (h : RunState) (p q : Pointer) (v : Number) → AreTexts h.debug.heap.row →
    operands_refusal h (Statement-F.ReallocText p q v) ≡ None → Means script h (Statement-F.ReallocText p q v) (realloc_text_effect h p (pointer_read script h q) (number_read h v))
unfolding statement with_cell
realloc_text_kept script h p q v texts ok r f rec at k =
    let st = state_of script h in
    let row = h.debug.heap.row in
    let old = pointer_read script h q in
    let from : Option (Cell Content) → ℤ → Process = λ o z. with_some o NULL_OR_STALE st (λ c. with_some (units_of c.head.kind c.content) WRONG_KIND st (λ us.
    with_some (within MOST_UNITS z) NUMBER_OUT_OF_RANGE st (λ n. realloc_text p c us n st))) in
    let target = fine_first h p (q ∷ []) ok in
    let source = fine_first h q [] (fine_rest h p (q ∷ []) ok) in
    remade_found r script h p (number_read h v) (cell_at old row) (λ c e. text_cell_at old row c texts e) f k
    ∙ ap (λ o. flow r (and_then (from o (number_read h v)) k) h) (sym (read_cell_at script old row))
    ∙ sym (ap (λ x. flow r (and_then x k) h) (pointer_is script h p (λ _. with_pointer st q (λ old. from (cell_at old st.heap.row) (number_of st v))) target
    ∙ pointer_is script h q (λ old. from (cell_at old st.heap.row) (number_of st v)) source)
    ∙ ap (λ z. flow r (and_then (from (cell_at old st.heap.row) z) k) h) (number_is script h v))
