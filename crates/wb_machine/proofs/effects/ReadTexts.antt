-- Text operands come to what they mean.
use Rattle.std.proofs.Common.{◌≡◌, ℕ, ◌-◌, List, ◌++◌, length, true, refl, ap, ◌∙◌, sym, arith, cond, Option, Some, None, take, drop, replicate}
use Rattle.std.specs.Prelude.{option_map}
use Rattle.std.proofs.lemmas.List.{take_all, append-nil}
use Rattle.wb_heap_model.specs.declared.heap.TheConstants.Panic.{NULL_OR_STALE, WRONG_KIND}
use Rattle.wb_heap_model.specs.declared.heap.Kind.{Kind}
use Rattle.wb_heap_model.specs.declared.heap.Kind.TheVariants.{Raw, Object, Text, Cleanup}
use Rattle.wb_heap_model.specs.declared.heap.Ptr.{Ptr}
use Rattle.wb_tree.specs.declared.script.Script.{Script}
use Rattle.wb_tree.specs.declared.script.Writable.{Writable}
use Rattle.wb_tree.specs.declared.script.Writable.TheVariants.{OwnBuffer, InCell}
use Rattle.wb_tree.specs.declared.script.Readable.{Readable}
use Rattle.wb_tree.specs.declared.script.Readable.TheVariants.{Of, ViewOf, Quoted}
use Rattle.wb_heap_model.specs.declared.text.Base.{Base}
use Rattle.wb_heap_model.specs.declared.text.Base.TheVariants as B
use Rattle.wb_heap_model.specs.declared.text.View.{View}
use Rattle.wb_heap_model.specs.Row.{Cell, cell_at, usable_of}
use Rattle.wb_heap_model.specs.CellRow.{content_or_nil}
use Rattle.wb_heap_model.specs.Spelling.{read_as}
use Rattle.wb_heap_model.specs.Contents.{Content}
use Rattle.wb_meaning.specs.State.{Value, pointer, number, buffer, view, State, Process, with_some}
use Rattle.wb_meaning.specs.Operands.{with_cell, units_of}
use Rattle.wb_heap_model.specs.Texts.{units_of_part, max_units}
use Rattle.wb_heap_model.specs.TextCells.{text_in, text_at, usable_or_none}
use Rattle.wb_meaning.specs.Reading.{Source, whole, part, base_of, position_of, view_in, with_writable, with_readable, with_text_cell, with_base, with_units, with_room}
use Rattle.wb_machine.specs.RunState.{RunState, field_count, read_cell, state_of, value_in}
use Rattle.wb_machine.specs.LocalValues.{window_in}
use Rattle.wb_machine.specs.TextOperands.{base_named, is_text, text_refusal, base_refusal, base_text, base_max, is_writable_base, window_units, whole_of, window_read}
use Rattle.wb_heap_model.proofs.TextCells.{length-exactly}
use Rattle.wb_machine.proofs.kept.Rows.{read_cell_at}
use Rattle.wb_machine.specs.PointerOperands.{first_refusal, of_writable, of_readable}
pub use Rattle.wb_machine.proofs.effects.PointerOperands.{through}
use Rattle.wb_machine.proofs.effects.PointerOperands.{one_asked, passed_by, refusal_append, through_both}

-- the text of a cell
cell_is : (script : Script) (h : RunState) (p : Ptr) (go : ℕ → List ℕ → Process) →
    with_text_cell (state_of script h) p (λ c us. go (usable_of c.head) us)
    ≡ through (text_refusal (cell_at p h.debug.heap.row)) (state_of script h) (go (usable_or_none (cell_at p h.debug.heap.row)) (text_at p h.debug))
unfolding with_text_cell with_cell with_some
cell_is script h p go = ap from (read_cell_at script p h.debug.heap.row) ∙ found (cell_at p h.debug.heap.row)
  where
    st : State
    st = state_of script h

    from : Option (Cell Content) → Process
    from o = with_some o NULL_OR_STALE st (λ c. with_some (units_of c.head.kind c.content) WRONG_KIND st (λ us. go (usable_of c.head) us))

    kind : (k : Kind) (u : ℕ) (ws : List ℕ) →
        with_some (units_of k (read_as (field_count script) k ws)) WRONG_KIND st (go u) ≡ through (cond (is_text k) None (Some WRONG_KIND)) st (go u (text_in ws))
    kind Text u ws = refl
    kind Raw u ws = refl
    kind (Object class) u ws = refl
    kind Cleanup u ws = refl

    found : (o : Option (Cell (List ℕ))) → from (option_map (read_cell script) o) ≡ through (text_refusal o) st (go (usable_or_none o) (text_in (content_or_nil o)))
    found None = refl
    found (Some c) = kind c.head.kind (usable_of c.head) c.content

base_is : (script : Script) (h : RunState) (base : Base) (go : List ℕ → Process) →
    with_base script.literals (state_of script h) base go ≡ through (base_refusal h base) (state_of script h) (go (base_text script.literals h base))
unfolding with_base
base_is script h B.Nothing go = refl
base_is script h (B.Literal i) go = refl
base_is script h (B.Local i) go = refl
base_is script h (B.Cell p) go = cell_is script h p (λ u us. go us)

-- the maximum and the text of what can be changed
pub room_is : (script : Script) (h : RunState) (base : Base) (go : ℕ → List ℕ → Process) → is_writable_base base ≡ true →
    with_room (state_of script h) base go ≡ through (base_refusal h base) (state_of script h) (go (base_max h base) (base_text script.literals h base))
unfolding with_room
room_is script h B.Nothing go ok = cc
room_is script h (B.Literal i) go ok = cc
room_is script h (B.Local i) go ok = refl
room_is script h (B.Cell p) go ok = cell_is script h p (λ u us. go (max_units u) us)

pub named_writable : (script : Script) (h : RunState) (d : Writable) → is_writable_base (base_named script h d) ≡ true
named_writable script h (OwnBuffer i) = refl
named_writable script h (InCell p) = refl

pub writable_asked : (script : Script) (h : RunState) (d : Writable) (go : Base → Process) →
    with_writable (state_of script h) d go ≡ through (first_refusal h (of_writable d)) (state_of script h) (go (base_named script h d))
unfolding with_writable
writable_asked script h (OwnBuffer i) go = refl
writable_asked script h (InCell p) go = one_asked script h p (λ at. go (B.Cell at))

pub writable_is : (script : Script) (h : RunState) (d : Writable) (go : Base → Process) → first_refusal h (of_writable d) ≡ None →
    with_writable (state_of script h) d go ≡ go (base_named script h d)
writable_is script h d go fine = passed_by (state_of script h) _ (writable_asked script h d go) fine

-- what a readable text is a part of
abbrev pub source_named : Script → RunState → Readable → Source
source_named script h (Of d) = whole (base_named script h d)
source_named script h (ViewOf i) = view_in (value_in h.locals i)
source_named script h (Quoted i) = whole (B.Literal i)

pub readable_asked : (script : Script) (h : RunState) (t : Readable) (go : Source → Process) →
    with_readable (state_of script h) t go ≡ through (first_refusal h (of_readable t)) (state_of script h) (go (source_named script h t))
unfolding with_readable
readable_asked script h (Of d) go = writable_asked script h d (λ b. go (whole b))
readable_asked script h (ViewOf i) go = refl
readable_asked script h (Quoted i) go = refl

pub readable_is : (script : Script) (h : RunState) (t : Readable) (go : Source → Process) → first_refusal h (of_readable t) ≡ None →
    with_readable (state_of script h) t go ≡ go (source_named script h t)
readable_is script h t go fine = passed_by (state_of script h) _ (readable_asked script h t go) fine

-- a text that is changed, and the one that it is changed by
pub texts_asked : (script : Script) (h : RunState) (d : Writable) (t : Readable) (go : Base → Source → Process) →
    with_writable (state_of script h) d (λ to. with_readable (state_of script h) t (go to))
    ≡ through (first_refusal h (of_writable d ++ of_readable t)) (state_of script h) (go (base_named script h d) (source_named script h t))
texts_asked script h d t go =
    let st = state_of script h in
    let rest = go (base_named script h d) (source_named script h t) in
    writable_asked script h d (λ to. with_readable st t (go to))
    ∙ ap (through (first_refusal h (of_writable d)) st) (readable_asked script h t (go (base_named script h d)))
    ∙ through_both (first_refusal h (of_writable d)) (first_refusal h (of_readable t)) st rest
    ∙ ap (λ o. through o st rest) (sym (refusal_append h (of_writable d) (of_readable t)))

whole_units : (us : List ℕ) → units_of_part us 0 (length us) ≡ us
whole_units us =
    let none : length us - length us ≡ 0 = omega arith in
    ap (λ n. take (length us) us ++ replicate n 0) none ∙ append-nil (take (length us) us) ∙ take_all (length us) us (omega arith)

-- a part of a text is what a view shows
pub record IsShown (script : Script) (h : RunState) (s : Source) (v : View) : Type 0 where
  pub base : base_of s ≡ v.base
  pub position : position_of s ≡ v.position
  pub count : length (window_units script.literals h v) ≡ v.length
  pub units : (go : List ℕ → Process) → with_units script.literals (state_of script h) s go
      ≡ through (base_refusal h v.base) (state_of script h) (go (window_units script.literals h v))

whole_shown : (script : Script) (h : RunState) (base : Base) → IsShown script h (whole base) (whole_of script.literals h base)
unfolding with_units
whole_shown script h base =
    let us = base_text script.literals h base in
    record {
      base = refl;
      position = refl;
      count = ap length (whole_units us);
      units = λ go. base_is script h base go ∙ ap (λ ts. through (base_refusal h base) (state_of script h) (go ts)) (sym (whole_units us));
    }

view_shown : (script : Script) (h : RunState) (v : View) → IsShown script h (part v) v
unfolding with_units
view_shown script h v = record {
  base = refl;
  position = refl;
  count = length-exactly v.length (drop v.position (base_text script.literals h v.base));
  units = λ go. base_is script h v.base (λ us. go (units_of_part us v.position v.length));
}

value_shown : (script : Script) (h : RunState) (v : Value) → IsShown script h (view_in v) (window_in v)
value_shown script h (view v) = view_shown script h v
value_shown script h (pointer p) = whole_shown script h B.Nothing
value_shown script h (number z) = whole_shown script h B.Nothing
value_shown script h (buffer max t) = whole_shown script h B.Nothing

pub shown : (script : Script) (h : RunState) (t : Readable) → IsShown script h (source_named script h t) (window_read script h t)
shown script h (Of d) = whole_shown script h (base_named script h d)
shown script h (ViewOf i) = value_shown script h (value_in h.locals i)
shown script h (Quoted i) = whole_shown script h (B.Literal i)
