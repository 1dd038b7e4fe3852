-- Statements that change texts come to what they mean.
use Rattle.std.proofs.Common.{◌≡◌, ℕ, List, [], ◌∷◌, length, Bool, true, false, refl, ap, ◌∙◌, sym, subst, cond, Option, Some, None, Ok, Err}
use Rattle.std.specs.Prelude.{not}
use Rattle.wb_heap_model.specs.declared.heap.TheConstants.Panic.{NUMBER_OUT_OF_RANGE}
use Rattle.wb_heap_model.specs.declared.heap.Kind.{Kind}
use Rattle.wb_heap_model.specs.declared.heap.Kind.TheVariants.{Raw, Object, Text, Cleanup}
use Rattle.wb_heap_model.specs.declared.heap.Panic.{Panic}
use Rattle.wb_heap_model.specs.declared.heap.Ptr.{Ptr}
use Rattle.wb_heap_model.specs.declared.heap.Rule.{Rule}
use Rattle.wb_tree.specs.declared.script.Script.{Script}
use Rattle.wb_tree.specs.declared.script.Number.{Number}
use Rattle.wb_tree.specs.declared.script.Writable.{Writable}
use Rattle.wb_tree.specs.declared.script.Readable.{Readable}
use Rattle.wb_tree.specs.declared.script.Statement.TheOpen.{Statement-F}
use Rattle.wb_heap_model.specs.declared.text.Base.{Base}
use Rattle.wb_heap_model.specs.declared.text.Base.TheVariants as B
use Rattle.wb_heap_model.specs.Row.{Cell, is_at, cell_at, changed}
use Rattle.wb_heap_model.specs.CellRow.{content_or_nil, payload_of, with_payload}
use Rattle.wb_heap_model.specs.Spelling.{read_as}
use Rattle.wb_heap_model.specs.Contents.{Content, units}
use Rattle.wb_meaning.specs.State.{State, panics, goes_on, Process, ends, stops, and_then, with_some, require}
use Rattle.wb_meaning.specs.Operands.{number_of, not_negative, set_row}
use Rattle.wb_heap_model.specs.Texts.{Edited, delete_text, set_length_text, insert_text}
use Rattle.wb_heap_model.specs.TextCells.{text_words, text_in}
use Rattle.wb_meaning.specs.Reading.{base_of, with_writable, with_readable, with_units, with_room, write, set_units, is_same_base}
use Rattle.wb_meaning.specs.Statements.{Layer, statement}
use Rattle.wb_hbuf.specs.declared.sources.Edit.{Edit}
use Rattle.wb_hbuf.specs.declared.sources.Edit.TheVariants.{Copy, Append}
use Rattle.wb_hbuf.specs.Sources.{edit_text}
use Rattle.wb_machine.specs.declared.pieces.Ending.{Ending}
use Rattle.wb_machine.specs.RunState.{RunState, field_count, read_cell, read_row, state_of}
use Rattle.wb_machine.specs.Flow.{flow, ended_by, IsSameFlow, IsCarriedAnywhere, IsCarriedOut}
use Rattle.wb_machine.specs.PointerOperands.{operands_refusal, first_refusal, of_writable, of_readable}
use Rattle.wb_machine.specs.Effects.{number_read}
use Rattle.wb_machine.specs.TextOperands.{base_named, base_refusal, base_text, base_max, is_writable_base, window_read, window_units}
use Rattle.wb_machine.specs.TextEffects.{HasPanicked, IsWritten, UnlessRefused, WithNumber, IsEditedBy, IsInsertedBy, IsDeletedBy, IsLengthSet}
use Rattle.wb_machine.proofs.effects.StatementEffects.{number_is, fine_left, fine_right}
use Rattle.wb_machine.proofs.effects.ReadTexts.{through, source_named, readable_is, writable_is, named_writable, room_is, shown}
use Rattle.wb_heap_model.proofs.TextCellsHeap.{found-changed}
use Rattle.wb_machine.proofs.kept.TextInvariant.{found_text}

-- the state after a statement comes to what is left of it
abbrev pub Comes : Rule → Script → RunState → Ending → RunState → Process → Type 0
Comes r script h ending g p = IsSameFlow r (ended_by ending (state_of script g)) g p h

pub comes_as : (r : Rule) (script : Script) (h : RunState) (ending : Ending) (g : RunState) (p q : Process) → q ≡ p → Comes r script h ending g p → Comes r script h ending g q
comes_as r script h ending g p q same comes k = comes k ∙ ap (λ x. flow r (and_then x k) h) (sym same)

panicked_comes : (r : Rule) (script : Script) (h : RunState) (panic : Panic) (ending : Ending) (g : RunState) → HasPanicked h panic ending g →
    Comes r script h ending g (stops (panics panic) (state_of script h))
panicked_comes r script h panic ending g is k =
    ap (λ e. flow r (and_then (ended_by e (state_of script g)) k) g) is.0 ∙ ap (λ x. flow r (and_then (stops (panics panic) (state_of script x)) k) x) is.1

-- past a refusal
through_comes : (r : Rule) (script : Script) (h : RunState) (ending : Ending) (g : RunState) (o : Option Panic) (p : Process) (X : Type 0) → UnlessRefused h o ending g X →
    (o ≡ None → X → Comes r script h ending g p) → Comes r script h ending g (through o (state_of script h) p)
through_comes r script h ending g (Some panic) p X is next = panicked_comes r script h panic ending g is
through_comes r script h ending g None p X is next = next refl is

-- past a number
number_comes : (r : Rule) (script : Script) (h : RunState) (ending : Ending) (g : RunState) (o : Option ℕ) (p : ℕ → Process) (X : ℕ → Type 0) → WithNumber h o ending g X →
    ((n : ℕ) → X n → Comes r script h ending g (p n)) → Comes r script h ending g (with_some o NUMBER_OUT_OF_RANGE (state_of script h) p)
unfolding with_some
number_comes r script h ending g None p X is next = panicked_comes r script h NUMBER_OUT_OF_RANGE ending g is
number_comes r script h ending g (Some n) p X is next = next n is

-- another text in a cell
read_text_changed : (script : Script) (p : Ptr) (ws us : List ℕ) (row : List (Cell (List ℕ))) (c : Cell (List ℕ)) → cell_at p row ≡ Some c → c.head.kind ≡ Text → text_in ws ≡ us →
    read_row script (with_payload p ws row) ≡ changed p (set_units us) (read_row script row)
read_text_changed script p ws us [] c e text reads = cc
read_text_changed script p ws us (d ∷ ds) c e text reads = go (is_at p d.head) e (λ e. read_text_changed script p ws us ds c e text reads)
  where
    here : (k : Kind) → k ≡ Text → read_as (field_count script) k ws ≡ set_units us (read_as (field_count script) k d.content)
    here Text is = ap units reads
    here Raw is = cc
    here (Object class) is = cc
    here Cleanup is = cc

    go : (b : Bool) → cond b (Some d) (cell_at p ds) ≡ Some c →
        (cell_at p ds ≡ Some c → read_row script (with_payload p ws ds) ≡ changed p (set_units us) (read_row script ds)) →
        read_row script (cond b (record d { content = ws } ∷ ds) (d ∷ with_payload p ws ds))
        ≡ cond b (record (read_cell script d) { content = set_units us (read_cell script d).content } ∷ read_row script ds)
        (read_cell script d ∷ changed p (set_units us) (read_row script ds))
    go true e rest =
        let same : d ≡ c = cc in
        ap (λ content. record { head = d.head; content = content } ∷ read_row script ds) (here d.head.kind (ap (λ (x : Cell (List ℕ)). x.head.kind) same ∙ text))
    go false e rest = ap (λ r. read_cell script d ∷ r) (rest e)

-- what was written is what the edit writes
written_comes : (r : Rule) (script : Script) (h : RunState) (to : Base) (e : Edited) (ending : Ending) (g : RunState) → base_refusal h to ≡ None → IsWritten h to e ending g →
    is_writable_base to ≡ true → Comes r script h ending g (write e (state_of script h) to (base_max h to))
unfolding write flow
written_comes r script h to (Err panic) ending g fine is ok k = panicked_comes r script h panic ending g is k
written_comes r script h B.Nothing (Ok us) ending g fine is ok k = cc
written_comes r script h (B.Literal i) (Ok us) ending g fine is ok k = cc
written_comes r script h (B.Local i) (Ok us) ending g fine is ok k =
    ap (λ e. flow r (and_then (ended_by e (state_of script g)) k) g) is.0 ∙ ap (λ x. flow r (and_then (ends goes_on (state_of script x)) k) x) is.1
written_comes r script h (B.Cell p) (Ok us) ending g fine is ok k =
    let row = h.debug.heap.row in
    let ws = text_words (length (payload_of p row)) us in
    let found = found_text (cell_at p row) fine in
    let after : cell_at p (with_payload p ws row) ≡ Some (record found.0 { content = ws }) = found-changed p ws row found.0 found.1 in
    let reads : text_in ws ≡ us = sym (ap (λ o. text_in (content_or_nil o)) after) ∙ sym (ap (λ (x : RunState). text_in (payload_of p x.debug.heap.row)) is.1) ∙ is.2 in
    ap (λ e. flow r (and_then (ended_by e (state_of script g)) k) g) is.0 ∙ ap (λ x. flow r (and_then (ends goes_on (state_of script x)) k) x) is.1
    ∙ ap (λ (cells : List (Cell Content)). flow r (and_then (ends goes_on (set_row (state_of script h) cells)) k) h) (read_text_changed script p ws us row found.0 found.1 found.2 reads)

-- a copy, or what is appended, comes to what its process makes of the text
edited_comes : (r : Rule) (script : Script) (h : RunState) (d : Writable) (t : Readable) (change : Edit) (ending : Ending) (g : RunState) →
    first_refusal h (of_writable d) ≡ None → first_refusal h (of_readable t) ≡ None →
    IsEditedBy script.literals h (base_named script h d) (window_read script h t) change ending g →
    Comes r script h ending g (with_writable (state_of script h) d (λ to. with_readable (state_of script h) t (λ from.
    with_room (state_of script h) to (λ max old. with_units script.literals (state_of script h) from (λ us. write (edit_text change max old us) (state_of script h) to max)))))
edited_comes r script h d t change ending g writable readable is =
    let st = state_of script h in
    let to = base_named script h d in
    let v = window_read script h t in
    let s = source_named script h t in
    let ok = named_writable script h d in
    let made : Process = write (edit_text change (base_max h to) (base_text script.literals h to) (window_units script.literals h v)) st to (base_max h to) in
    comes_as r script h ending g (through (base_refusal h to) st (through (base_refusal h v.base) st made)) _
    (writable_is script h d (λ to. with_readable st t (λ from. with_room st to (λ max old. with_units script.literals st from (λ us. write (edit_text change max old us) st to max)))) writable
    ∙ readable_is script h t (λ from. with_room st to (λ max old. with_units script.literals st from (λ us. write (edit_text change max old us) st to max))) readable
    ∙ room_is script h to (λ max old. with_units script.literals st s (λ us. write (edit_text change max old us) st to max)) ok
    ∙ ap (through (base_refusal h to) st) ((shown script h t).units (λ us. write (edit_text change (base_max h to) (base_text script.literals h to) us) st to (base_max h to))))
    (through_comes r script h ending g (base_refusal h to) _ _ is (λ fine is.
    through_comes r script h ending g (base_refusal h v.base) made _ is (λ there is.
    written_comes r script h to _ ending g fine is ok)))

pub copy_kept : (script : Script) (h : RunState) (d : Writable) (t : Readable) (ending : Ending) (g : RunState) →
    IsEditedBy script.literals h (base_named script h d) (window_read script h t) Copy ending g → operands_refusal h (Statement-F.Copy d t) ≡ None →
    IsCarriedAnywhere script (Statement-F.Copy d t) h ending g
unfolding statement
copy_kept script h d t ending g is ok r f rec at =
    edited_comes r script h d t Copy ending g (fine_left h (of_writable d) (of_readable t) ok) (fine_right h (of_writable d) (of_readable t) ok) is

pub append_kept : (script : Script) (h : RunState) (d : Writable) (t : Readable) (ending : Ending) (g : RunState) →
    IsEditedBy script.literals h (base_named script h d) (window_read script h t) Append ending g → operands_refusal h (Statement-F.Append d t) ≡ None →
    IsCarriedAnywhere script (Statement-F.Append d t) h ending g
unfolding statement
append_kept script h d t ending g is ok r f rec at =
    edited_comes r script h d t Append ending g (fine_left h (of_writable d) (of_readable t) ok) (fine_right h (of_writable d) (of_readable t) ok) is

-- past the question whether a text is put into itself
apart_comes : (r : Rule) (script : Script) (h : RunState) (ending : Ending) (g : RunState) (b : Bool) (p : State → Process) (X : Type 0) →
    UnlessRefused h (cond b (Some NUMBER_OUT_OF_RANGE) None) ending g X → (X → Comes r script h ending g (p (state_of script h))) →
    Comes r script h ending g (require (not b) NUMBER_OUT_OF_RANGE (state_of script h) p)
unfolding require
apart_comes r script h ending g true p X is next = panicked_comes r script h NUMBER_OUT_OF_RANGE ending g is
apart_comes r script h ending g false p X is next = next is

pub insert_kept : (script : Script) (h : RunState) (d : Writable) (z : Number) (t : Readable) (ending : Ending) (g : RunState) →
    IsInsertedBy script.literals h (base_named script h d) (window_read script h t) (number_read h z) ending g → operands_refusal h (Statement-F.Insert d z t) ≡ None →
    IsCarriedAnywhere script (Statement-F.Insert d z t) h ending g
unfolding statement
insert_kept script h d z t ending g is ok r f rec at =
    let st = state_of script h in
    let to = base_named script h d in
    let v = window_read script h t in
    let s = source_named script h t in
    let writable = named_writable script h d in
    let put : Base → List ℕ → ℕ → List ℕ → ℕ → Process = λ from us max old n.
    require (not (is_same_base to from)) NUMBER_OUT_OF_RANGE st (λ st. write (insert_text max old n us) st to max) in
    let made : Process = with_some (not_negative (number_read h z)) NUMBER_OUT_OF_RANGE st (put v.base (window_units script.literals h v) (base_max h to) (base_text script.literals h to)) in
    comes_as r script h ending g (through (base_refusal h to) st (through (base_refusal h v.base) st made)) _
    (writable_is script h d (λ to. with_readable st t (λ from. with_room st to (λ max old. with_units script.literals st from (λ us.
    with_some (not_negative (number_of st z)) NUMBER_OUT_OF_RANGE st (λ n. require (not (is_same_base to (base_of from))) NUMBER_OUT_OF_RANGE st (λ st. write (insert_text max old n us) st to max))))))
    (fine_left h (of_writable d) (of_readable t) ok)
    ∙ readable_is script h t (λ from. with_room st to (λ max old. with_units script.literals st from (λ us. with_some (not_negative (number_of st z)) NUMBER_OUT_OF_RANGE st (put (base_of from) us max old))))
    (fine_right h (of_writable d) (of_readable t) ok)
    ∙ room_is script h to (λ max old. with_units script.literals st s (λ us. with_some (not_negative (number_of st z)) NUMBER_OUT_OF_RANGE st (put (base_of s) us max old))) writable
    ∙ ap (through (base_refusal h to) st) ((shown script h t).units (λ us. with_some (not_negative (number_of st z)) NUMBER_OUT_OF_RANGE st (put (base_of s) us (base_max h to) (base_text script.literals h to)))
    ∙ ap (λ y. through (base_refusal h v.base) st (with_some (not_negative y) NUMBER_OUT_OF_RANGE st (put (base_of s) (window_units script.literals h v) (base_max h to) (base_text script.literals h to)))) (number_is script h z)
    ∙ ap (λ b. through (base_refusal h v.base) st (with_some (not_negative (number_read h z)) NUMBER_OUT_OF_RANGE st (put b (window_units script.literals h v) (base_max h to) (base_text script.literals h to)))) (shown script h t).base))
    (through_comes r script h ending g (base_refusal h to) _ _ is (λ fine is.
    through_comes r script h ending g (base_refusal h v.base) made _ is (λ there is.
    number_comes r script h ending g (not_negative (number_read h z)) _ _ is (λ n is.
    apart_comes r script h ending g (is_same_base to v.base) _ _ is (λ is.
    written_comes r script h to _ ending g fine is writable)))))

-- a text that can be changed has no literals in it
text_alone : (literals : List (List ℕ)) (h : RunState) (to : Base) → is_writable_base to ≡ true → base_text literals h to ≡ base_text [] h to
text_alone literals h B.Nothing ok = refl
text_alone literals h (B.Literal i) ok = cc
text_alone literals h (B.Local i) ok = refl
text_alone literals h (B.Cell p) ok = refl

pub delete_kept : (script : Script) (h : RunState) (d : Writable) (z y : Number) (ending : Ending) (g : RunState) →
    IsDeletedBy h (base_named script h d) (number_read h z) (number_read h y) ending g → operands_refusal h (Statement-F.DeleteText d z y) ≡ None →
    IsCarriedAnywhere script (Statement-F.DeleteText d z y) h ending g
unfolding statement
delete_kept script h d z y ending g is ok r f rec at =
    let st = state_of script h in
    let to = base_named script h d in
    let writable = named_writable script h d in
    let cut : ℕ → List ℕ → ℕ → ℕ → Process = λ max old n m. write (delete_text old n m) st to max in
    let made : Process = with_some (not_negative (number_read h z)) NUMBER_OUT_OF_RANGE st (λ n. with_some (not_negative (number_read h y)) NUMBER_OUT_OF_RANGE st (cut (base_max h to) (base_text [] h to) n)) in
    comes_as r script h ending g (through (base_refusal h to) st made) _
    (writable_is script h d (λ to. with_room st to (λ max old. with_some (not_negative (number_of st z)) NUMBER_OUT_OF_RANGE st (λ n.
    with_some (not_negative (number_of st y)) NUMBER_OUT_OF_RANGE st (λ m. write (delete_text old n m) st to max)))) ok
    ∙ room_is script h to (λ max old. with_some (not_negative (number_of st z)) NUMBER_OUT_OF_RANGE st (λ n. with_some (not_negative (number_of st y)) NUMBER_OUT_OF_RANGE st (cut max old n))) writable
    ∙ ap (λ old. through (base_refusal h to) st (with_some (not_negative (number_of st z)) NUMBER_OUT_OF_RANGE st (λ n. with_some (not_negative (number_of st y)) NUMBER_OUT_OF_RANGE st (cut (base_max h to) old n))))
    (text_alone script.literals h to writable)
    ∙ ap (λ x. through (base_refusal h to) st (with_some (not_negative x) NUMBER_OUT_OF_RANGE st (λ n. with_some (not_negative (number_of st y)) NUMBER_OUT_OF_RANGE st (cut (base_max h to) (base_text [] h to) n)))) (number_is script h z)
    ∙ ap (λ x. through (base_refusal h to) st (with_some (not_negative (number_read h z)) NUMBER_OUT_OF_RANGE st (λ n. with_some (not_negative x) NUMBER_OUT_OF_RANGE st (cut (base_max h to) (base_text [] h to) n)))) (number_is script h y))
    (through_comes r script h ending g (base_refusal h to) made _ is (λ fine is.
    number_comes r script h ending g (not_negative (number_read h z)) _ _ is (λ n is.
    number_comes r script h ending g (not_negative (number_read h y)) _ _ is (λ m is.
    written_comes r script h to _ ending g fine is writable))))

pub length_set_kept : (script : Script) (h : RunState) (d : Writable) (z : Number) (ending : Ending) (g : RunState) →
    IsLengthSet h (base_named script h d) (number_read h z) ending g → operands_refusal h (Statement-F.SetLength d z) ≡ None →
    IsCarriedAnywhere script (Statement-F.SetLength d z) h ending g
unfolding statement
length_set_kept script h d z ending g is ok r f rec at =
    let st = state_of script h in
    let to = base_named script h d in
    let writable = named_writable script h d in
    let cut : ℕ → List ℕ → ℕ → Process = λ max old n. write (set_length_text max old n) st to max in
    let made : Process = with_some (not_negative (number_read h z)) NUMBER_OUT_OF_RANGE st (cut (base_max h to) (base_text [] h to)) in
    comes_as r script h ending g (through (base_refusal h to) st made) _
    (writable_is script h d (λ to. with_room st to (λ max old. with_some (not_negative (number_of st z)) NUMBER_OUT_OF_RANGE st (λ n. write (set_length_text max old n) st to max)))
    ok
    ∙ room_is script h to (λ max old. with_some (not_negative (number_of st z)) NUMBER_OUT_OF_RANGE st (cut max old)) writable
    ∙ ap (λ old. through (base_refusal h to) st (with_some (not_negative (number_of st z)) NUMBER_OUT_OF_RANGE st (cut (base_max h to) old))) (text_alone script.literals h to writable)
    ∙ ap (λ x. through (base_refusal h to) st (with_some (not_negative x) NUMBER_OUT_OF_RANGE st (cut (base_max h to) (base_text [] h to)))) (number_is script h z))
    (through_comes r script h ending g (base_refusal h to) made _ is (λ fine is.
    number_comes r script h ending g (not_negative (number_read h z)) _ _ is (λ n is.
    written_comes r script h to _ ending g fine is writable)))

-- what was carried out is what the statement makes
pub effect_as : {floor : ℕ} (script : Script) (h g : RunState) (ending : Ending) (layer : Layer) → operands_refusal h layer ≡ None → (was : Layer) → layer ≡ was →
    (operands_refusal h was ≡ None → IsCarriedAnywhere script was h ending g) → IsCarriedOut script floor layer h ending g
effect_as script h g ending layer fine was is means r f rec at over =
    subst (λ (l : Layer). IsCarriedAnywhere script l h ending g) (sym is) (means (sym (ap (operands_refusal h) is) ∙ fine)) r f rec at
