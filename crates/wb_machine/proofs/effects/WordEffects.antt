-- Statements on the words of cells come to what they mean.
use Rattle.std.proofs.Common.{◌≡◌, ℕ, zero, suc, ℤ, pos, List, [], ◌∷◌, map, slice_set, w32, FitsSigned, refl, ap, ◌∙◌, sym, cond, Option, Some, None}
use Rattle.std.specs.Prelude.{option_map, slice_get, slice_index, unwrap_or}
use Rattle.std.specs.Int.{cast_unsigned}
use Rattle.std.proofs.lemmas.List.{map-set}
use Rattle.wb_heap_model.specs.declared.heap.TheConstants.Panic.{NUMBER_OUT_OF_RANGE, NULL_OR_STALE, WRONG_KIND, BAD_CELL}
use Rattle.wb_heap_model.specs.declared.heap.Ptr.{Ptr}
use Rattle.wb_heap_model.specs.declared.heap.Kind.{Kind}
use Rattle.wb_heap_model.specs.declared.heap.Kind.TheVariants.{Raw, Object, Text, Cleanup}
use Rattle.wb_heap_model.specs.declared.heap.Rule.{Rule}
use Rattle.wb_tree.specs.declared.script.Script.{Script}
use Rattle.wb_tree.specs.declared.script.Pointer.{Pointer}
use Rattle.wb_tree.specs.declared.script.Number.{Number}
use Rattle.wb_tree.specs.declared.script.Statement.TheOpen.{Statement-F}
use Rattle.wb_heap_model.specs.Row.{Cell, cell_at, changed, usable_of}
use Rattle.wb_heap_model.specs.CellRow.{content_or_nil, payload_of, with_payload}
use Rattle.wb_heap_model.specs.Spelling.{signed, read_as}
use Rattle.wb_heap_model.specs.Contents.{Content, words}
use Rattle.wb_meaning.specs.State.{number, State, goes_on, Process, ends, and_then, with_some, set_local}
use Rattle.wb_meaning.specs.Operands.{number_of, set_row, raw_words_of, with_cell}
use Rattle.wb_meaning.specs.Statements.{statement, done, is_raw, index_in, with_words}
use Rattle.wb_machine.specs.RunState.{RunState, field_count, read_cell, read_row, state_of}
use Rattle.wb_machine.specs.Flow.{flow}
use Rattle.wb_machine.specs.PointerOperands.{operands_refusal}
use Rattle.wb_machine.specs.Effects.{panicked, pointer_read, number_read, word_stored, store_found, store_effect, word_loaded, load_found, load_effect, usable_found, usable_effect}
use Rattle.wb_machine.proofs.kept.Rows.{read_cell_at, read_changed, signed_word}
use Rattle.wb_machine.proofs.effects.StatementEffects.{Means, ComesTo, number_is, pointer_is, fine_first}

-- the process of a store, from the words of a cell on, from the cell on, and from the pointer on
abbrev in_words : State → Ptr → ℕ → ℤ → ℤ → List ℤ → Process
in_words st p usable x z ws =
    with_some (index_in usable x) NUMBER_OUT_OF_RANGE st (λ k. done (set_row st (changed p (λ _. words (slice_set ws k z)) st.heap.row)))

abbrev in_cell : State → Ptr → ℤ → ℤ → Option (Cell Content) → Process
in_cell st p x z o =
    with_some o NULL_OR_STALE st (λ c. with_some (raw_words_of c.head.kind c.content) WRONG_KIND st (in_words st p (usable_of c.head) x z))

-- the row with the word, read
row_stored : (script : Script) (p : Ptr) (row : List (Cell (List ℕ))) (c : Cell (List ℕ)) (k : ℕ) (z : ℤ) → FitsSigned w32 z → cell_at p row ≡ Some c → c.head.kind ≡ Raw →
    read_row script (with_payload p (slice_set (payload_of p row) k (cast_unsigned w32 z)) row)
    ≡ changed p (λ _. words (slice_set (map signed c.content) k z)) (read_row script row)
row_stored script p row c k z fits found raw =
    let same : map signed (slice_set (payload_of p row) k (cast_unsigned w32 z)) ≡ slice_set (map signed c.content) k z =
    ap (λ o. map signed (slice_set (content_or_nil o) k (cast_unsigned w32 z))) found
    ∙ map-set signed c.content k (cast_unsigned w32 z) ∙ ap (slice_set (map signed c.content) k) (signed_word z fits) in
    read_changed script p (slice_set (payload_of p row) k (cast_unsigned w32 z)) row c found raw
    ∙ ap (λ ws. changed p (λ _. words ws) (read_row script row)) same

-- a word of a Raw cell
word_kept : (r : Rule) (script : Script) (h : RunState) (p : Ptr) (c : Cell (List ℕ)) (z : ℤ) (o : Option ℕ) → FitsSigned w32 z →
    cell_at p h.debug.heap.row ≡ Some c → c.head.kind ≡ Raw →
    ComesTo r script h (with_some o NUMBER_OUT_OF_RANGE (state_of script h) (λ i. done (set_row (state_of script h)
    (changed p (λ _. words (slice_set (map signed c.content) i z)) (read_row script h.debug.heap.row))))) (word_stored h p o (cast_unsigned w32 z))
unfolding flow with_some
word_kept r script h p c z None fits found raw k = refl
word_kept r script h p c z (Some i) fits found raw k =
    ap (λ (row : List (Cell Content)). flow r (and_then (ends goes_on (set_row (state_of script h) row)) k) h) (row_stored script p h.debug.heap.row c i z fits found raw)

-- a cell of any kind, and a pointer that names none
found_kept : (r : Rule) (script : Script) (h : RunState) (p : Ptr) (x z : ℤ) (o : Option (Cell (List ℕ))) → FitsSigned w32 z → cell_at p h.debug.heap.row ≡ o →
    ComesTo r script h (in_cell (state_of script h) p x z (option_map (read_cell script) o)) (store_found h p x (cast_unsigned w32 z) o)
unfolding flow with_some
found_kept r script h p x z None fits found k = refl
found_kept r script h p x z (Some c) fits found k = by c.head.kind refl k
  where
    by : (kind : Kind) → c.head.kind ≡ kind →
        ComesTo r script h (with_some (raw_words_of kind (read_as (field_count script) kind c.content)) WRONG_KIND (state_of script h)
        (in_words (state_of script h) p (usable_of c.head) x z))
        (cond (is_raw kind) (word_stored h p (index_in (usable_of c.head) x) (cast_unsigned w32 z)) (panicked h WRONG_KIND))
    by Raw raw = word_kept r script h p c z (index_in (usable_of c.head) x) fits found raw
    by (Object class) raw = λ k. refl
    by Text raw = λ k. refl
    by Cleanup raw = λ k. refl

pub store_kept : (script : Script) (h : RunState) (p : Pointer) (v w : Number) → FitsSigned w32 (number_read h w) →
    operands_refusal h (Statement-F.Store p v w) ≡ None →
    Means script h (Statement-F.Store p v w) (store_effect h (pointer_read script h p) (number_read h v) (number_read h w))
unfolding statement with_words with_cell
store_kept script h p v w fits ok r f rec at k =
    let st = state_of script h in
    let q = pointer_read script h p in
    let x = number_read h v in
    let z = number_read h w in
    let named = fine_first h p [] ok in
    found_kept r script h q x z (cell_at q h.debug.heap.row) fits refl k
    ∙ ap (λ o. flow r (and_then (in_cell st q x z o) k) h) (sym (read_cell_at script q h.debug.heap.row))
    ∙ sym (ap (λ y. flow r (and_then y k) h) (pointer_is script h p (λ q. in_cell st q (number_of st v) (number_of st w) (cell_at q st.heap.row)) named)
    ∙ ap (λ y. flow r (and_then (in_cell st q y (number_of st w) (cell_at q st.heap.row)) k) h) (number_is script h v)
    ∙ ap (λ y. flow r (and_then (in_cell st q x y (cell_at q st.heap.row)) k) h) (number_is script h w))

-- the process of a load, from the words of a cell on, and from the cell on
abbrev from_words : State → ℕ → ℕ → ℤ → List ℤ → Process
from_words st x usable i ws = with_some (index_in usable i) NUMBER_OUT_OF_RANGE st (λ k. done (set_local st x (number (unwrap_or (slice_get ws k) (pos 0)))))

abbrev from_cell : State → ℕ → ℤ → Option (Cell Content) → Process
from_cell st x i o = with_some o NULL_OR_STALE st (λ c. with_some (raw_words_of c.head.kind c.content) WRONG_KIND st (from_words st x (usable_of c.head) i))

-- a word that is loaded reads as the number that the cell holds
word_read : (ws : List ℕ) (k : ℕ) → signed (slice_index ws k) ≡ unwrap_or (slice_get (map signed ws) k) (pos 0)
word_read [] k = refl
word_read (w ∷ ws) zero = refl
word_read (w ∷ ws) (suc k) = word_read ws k

-- a word of a Raw cell
loaded_kept : (r : Rule) (script : Script) (h : RunState) (x : ℕ) (p : Ptr) (c : Cell (List ℕ)) (o : Option ℕ) → cell_at p h.debug.heap.row ≡ Some c →
    ComesTo r script h (with_some o NUMBER_OUT_OF_RANGE (state_of script h) (λ k. done (set_local (state_of script h) x (number (unwrap_or (slice_get (map signed c.content) k) (pos 0))))))
    (word_loaded h x p o)
unfolding flow with_some
loaded_kept r script h x p c None found k = refl
loaded_kept r script h x p c (Some i) found k =
    ap (λ z. flow r (and_then (done (set_local (state_of script h) x (number z))) k) h)
    (ap (λ o. signed (slice_index (content_or_nil o) i)) found ∙ word_read c.content i)

-- a cell of any kind, and a pointer that names none
load_found_kept : (r : Rule) (script : Script) (h : RunState) (x : ℕ) (p : Ptr) (i : ℤ) (o : Option (Cell (List ℕ))) → cell_at p h.debug.heap.row ≡ o →
    ComesTo r script h (from_cell (state_of script h) x i (option_map (read_cell script) o)) (load_found h x p i o)
unfolding flow with_some
load_found_kept r script h x p i None found k = refl
load_found_kept r script h x p i (Some c) found k = by c.head.kind refl k
  where
    by : (kind : Kind) → c.head.kind ≡ kind →
        ComesTo r script h (with_some (raw_words_of kind (read_as (field_count script) kind c.content)) WRONG_KIND (state_of script h) (from_words (state_of script h) x (usable_of c.head) i))
        (cond (is_raw kind) (word_loaded h x p (index_in (usable_of c.head) i)) (panicked h WRONG_KIND))
    by Raw raw = loaded_kept r script h x p c (index_in (usable_of c.head) i) found
    by (Object class) raw = λ k. refl
    by Text raw = λ k. refl
    by Cleanup raw = λ k. refl

pub load_kept : (script : Script) (h : RunState) (x : ℕ) (p : Pointer) (v : Number) →
    operands_refusal h (Statement-F.Load x p v) ≡ None → Means script h (Statement-F.Load x p v) (load_effect h x (pointer_read script h p) (number_read h v))
unfolding statement with_words with_cell
load_kept script h x p v ok r f rec at k =
    let st = state_of script h in
    let q = pointer_read script h p in
    let named = fine_first h p [] ok in
    load_found_kept r script h x q (number_read h v) (cell_at q h.debug.heap.row) refl k
    ∙ ap (λ o. flow r (and_then (from_cell st x (number_read h v) o) k) h) (sym (read_cell_at script q h.debug.heap.row))
    ∙ sym (ap (λ y. flow r (and_then y k) h) (pointer_is script h p (λ q. from_cell st x (number_of st v) (cell_at q st.heap.row)) named)
    ∙ ap (λ y. flow r (and_then (from_cell st x y (cell_at q st.heap.row)) k) h) (number_is script h v))

-- the usable bytes of a cell
usable_found_kept : (r : Rule) (script : Script) (h : RunState) (x : ℕ) (o : Option (Cell (List ℕ))) →
    ComesTo r script h (with_some (option_map (read_cell script) o) BAD_CELL (state_of script h) (λ c. done (set_local (state_of script h) x (number (pos (usable_of c.head))))))
    (usable_found h x o)
unfolding flow with_some
usable_found_kept r script h x None k = refl
usable_found_kept r script h x (Some c) k = refl

pub usable_kept : (script : Script) (h : RunState) (x : ℕ) (p : Pointer) →
    operands_refusal h (Statement-F.AllocLen x p) ≡ None → Means script h (Statement-F.AllocLen x p) (usable_effect h x (pointer_read script h p))
unfolding statement
usable_kept script h x p ok r f rec at k =
    let st = state_of script h in
    let q = pointer_read script h p in
    let go : Option (Cell Content) → Process = λ o. with_some o BAD_CELL st (λ c. done (set_local st x (number (pos (usable_of c.head))))) in
    usable_found_kept r script h x (cell_at q h.debug.heap.row) k
    ∙ ap (λ o. flow r (and_then (go o) k) h) (sym (read_cell_at script q h.debug.heap.row))
    ∙ sym (ap (λ y. flow r (and_then y k) h) (pointer_is script h p (λ q. go (cell_at q st.heap.row)) (fine_first h p [] ok)))
