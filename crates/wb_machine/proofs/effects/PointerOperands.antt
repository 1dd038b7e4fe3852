-- Pointer operands come to what they mean: what is refused, what is read, and what is written.
use Rattle.std.proofs.Common.{◌≡◌, ℕ, zero, suc, ◌+◌, ◌<◌, length, take, get_or, arith, Bool, true, false, cond, List, [], ◌∷◌, ◌++◌, Option, Some, None, Ok, Err, refl, sym, ap, ◌∙◌}
use Rattle.std.specs.Prelude.{nat_eq, option_map, slice_get, unwrap_or}
use Rattle.std.proofs.lemmas.Bool.{eqb-true}
use Rattle.wb_heap_model.specs.declared.heap.TheConstants.Panic.{NULL_OR_STALE, WRONG_KIND}
use Rattle.wb_heap_model.specs.declared.heap.Panic.{Panic}
use Rattle.wb_heap_model.specs.declared.heap.Ptr.{Ptr}
use Rattle.wb_heap_model.specs.declared.heap.Rule.{Rule}
use Rattle.wb_heap_model.specs.declared.heap.Kind.{Kind}
use Rattle.wb_heap_model.specs.declared.heap.Kind.TheVariants.{Raw, Object, Text, Cleanup}
use Rattle.wb_tree.specs.declared.script.Script.{Script}
use Rattle.wb_tree.specs.declared.script.Argument.{Argument}
use Rattle.wb_tree.specs.declared.script.Argument.TheVariants.{Passed, Given}
use Rattle.wb_tree.specs.declared.script.Holder.TheVariants as H
use Rattle.wb_tree.specs.declared.script.Pointer.{Pointer}
use Rattle.wb_tree.specs.declared.script.Pointer.TheVariants.{Held, Field}
use Rattle.wb_heap_model.specs.Row.{Cell, cell_at}
use Rattle.wb_heap_model.specs.Spelling.{fields_in, read_as}
use Rattle.wb_heap_model.specs.Contents.{Content}
use Rattle.wb_meaning.specs.State.{State, panics, Process, stops, with_some}
use Rattle.wb_heap_model.specs.Pointers.{null}
use Rattle.wb_meaning.specs.Operands.{fields_of, set_row, with_cell, with_fields, with_pointer, set_pointer}
use Rattle.wb_objects.specs.Objects.{words_of_cell, words_found}
use Rattle.wb_machine.specs.RunState.{RunState, field_count, read_cell, state_of}
use Rattle.wb_machine.specs.Flow.{flow}
use Rattle.wb_machine.specs.Effects.{pointer_stored}
use Rattle.wb_machine.specs.PointerOperands.{holder_pointer_in, field_among, pointer_read, refusal_in, pointer_refusal, or_else, first_refusal, of_arguments}
use Rattle.wb_machine.proofs.kept.ObjectFields.{read_row_with_field}
use Rattle.wb_machine.proofs.kept.Rows.{read_cell_at}

-- a refusal, or what follows
abbrev pub through : Option Panic → State → Process → Process
through (Some panic) st p = stops (panics panic) st
through None st p = p

-- the field of an object
field_is : (script : Script) (h : RunState) (p : Ptr) (class i : ℕ) (go : Ptr → Process) →
    with_fields (state_of script h) p class (λ ps. go (unwrap_or (slice_get ps i) null))
    ≡ through (refusal_in (words_found h.debug p class)) (state_of script h) (go (field_among (field_count script class) i (words_found h.debug p class)))
unfolding with_fields with_cell with_some
field_is script h p class i go = ap from (read_cell_at script p h.debug.heap.row) ∙ found (cell_at p h.debug.heap.row)
  where
    st : State
    st = state_of script h

    from : Option (Cell Content) → Process
    from o = with_some o NULL_OR_STALE st (λ c. with_some (fields_of c.head.kind c.content class) WRONG_KIND st (λ ps. go (unwrap_or (slice_get ps i) null)))

    same : (k : ℕ) (ws : List ℕ) (b : Bool) → nat_eq k class ≡ b →
        with_some (cond b (Some (fields_in (field_count script k) ws)) None) WRONG_KIND st (λ ps. go (unwrap_or (slice_get ps i) null))
        ≡ through (refusal_in (cond b (Ok ws) (Err WRONG_KIND))) st (go (field_among (field_count script class) i (cond b (Ok ws) (Err WRONG_KIND))))
    same k ws true e = ap (λ n. go (unwrap_or (slice_get (fields_in (field_count script n) ws) i) null)) (eqb-true k class e)
    same k ws false e = refl

    kind : (k : Kind) (c : Cell (List ℕ)) →
        with_some (fields_of k (read_as (field_count script) k c.content) class) WRONG_KIND st (λ ps. go (unwrap_or (slice_get ps i) null))
        ≡ through (refusal_in (words_of_cell class (Some (record c { head = record c.head { kind = k } })))) st
        (go (field_among (field_count script class) i (words_of_cell class (Some (record c { head = record c.head { kind = k } })))))
    kind (Object k) c = same k c.content (nat_eq k class) refl
    kind Raw c = refl
    kind Text c = refl
    kind Cleanup c = refl

    found : (o : Option (Cell (List ℕ))) → from (option_map (read_cell script) o) ≡ through (refusal_in (words_of_cell class o)) st (go (field_among (field_count script class) i (words_of_cell class o)))
    found None = refl
    found (Some c) = kind c.head.kind c

-- a pointer operand
pub pointer_asked : (script : Script) (h : RunState) (p : Pointer) (go : Ptr → Process) →
    with_pointer (state_of script h) p go ≡ through (pointer_refusal h p) (state_of script h) (go (pointer_read script h p))
unfolding with_pointer
pointer_asked script h (Held (H.Local i)) go = refl
pointer_asked script h (Held H.This) go = refl
pointer_asked script h (Field (H.Local i) class n) go = field_is script h (holder_pointer_in h (H.Local i)) class n go
pointer_asked script h (Field H.This class n) go = field_is script h h.this class n go

-- one that isn't refused is its pointer
pub pointer_is : (script : Script) (h : RunState) (p : Pointer) (go : Ptr → Process) → pointer_refusal h p ≡ None →
    with_pointer (state_of script h) p go ≡ go (pointer_read script h p)
pointer_is script h p go fine = pointer_asked script h p go ∙ ap (λ o. through o (state_of script h) (go (pointer_read script h p))) fine

-- a pointer operand that is written
pub stored_is : (script : Script) (h : RunState) (p : Pointer) (q : Ptr) (r : Rule) (k : State → Process) →
    flow r (k (set_pointer (state_of script h) p q)) h ≡ flow r (k (state_of script (pointer_stored h p q))) (pointer_stored h p q)
unfolding flow
stored_is script h (Held (H.Local i)) q r k = refl
stored_is script h (Held H.This) q r k = refl
stored_is script h (Field (H.Local i) class n) q r k =
    ap (λ (row : List (Cell Content)). flow r (k (set_row (state_of script h) row)) h) (sym (read_row_with_field script (holder_pointer_in h (H.Local i)) n q h.debug.heap.row))
stored_is script h (Field H.This class n) q r k =
    ap (λ (row : List (Cell Content)). flow r (k (set_row (state_of script h) row)) h) (sym (read_row_with_field script h.this n q h.debug.heap.row))

-- refusals, one after the other
pub or_none : (o : Option Panic) → or_else o None ≡ o
or_none (Some panic) = refl
or_none None = refl

pub or_left : (o u : Option Panic) → or_else o u ≡ None → o ≡ None
or_left (Some panic) u e = cc
or_left None u e = refl

pub or_right : (o u : Option Panic) → or_else o u ≡ None → u ≡ None
or_right (Some panic) u e = cc
or_right None u e = e

pub or_assoc : (o u w : Option Panic) → or_else (or_else o u) w ≡ or_else o (or_else u w)
or_assoc (Some panic) u w = refl
or_assoc None u w = refl

pub refusal_append : (h : RunState) (ps qs : List Pointer) → first_refusal h (ps ++ qs) ≡ or_else (first_refusal h ps) (first_refusal h qs)
refusal_append h [] qs = refl
refusal_append h (p ∷ ps) qs = ap (or_else (pointer_refusal h p)) (refusal_append h ps qs) ∙ sym (or_assoc (pointer_refusal h p) (first_refusal h ps) (first_refusal h qs))

-- the first of operands that aren't refused, and the rest
pub fine_first : (h : RunState) (p : Pointer) (ps : List Pointer) → first_refusal h (p ∷ ps) ≡ None → pointer_refusal h p ≡ None
fine_first h p ps fine = or_left (pointer_refusal h p) (first_refusal h ps) fine

pub fine_rest : (h : RunState) (p : Pointer) (ps : List Pointer) → first_refusal h (p ∷ ps) ≡ None → first_refusal h ps ≡ None
fine_rest h p ps fine = or_right (pointer_refusal h p) (first_refusal h ps) fine

pub fine_left : (h : RunState) (ps qs : List Pointer) → first_refusal h (ps ++ qs) ≡ None → first_refusal h ps ≡ None
fine_left h ps qs fine = or_left (first_refusal h ps) (first_refusal h qs) (sym (refusal_append h ps qs) ∙ fine)

pub fine_right : (h : RunState) (ps qs : List Pointer) → first_refusal h (ps ++ qs) ≡ None → first_refusal h qs ≡ None
fine_right h ps qs fine = or_right (first_refusal h ps) (first_refusal h qs) (sym (refusal_append h ps qs) ∙ fine)

-- what is refused first, and what follows, is refused together
pub through_both : (o u : Option Panic) (st : State) (p : Process) → through o st (through u st p) ≡ through (or_else o u) st p
through_both (Some panic) u st p = refl
through_both None u st p = refl

-- arguments, one after the other
of_first : (h : RunState) (a : Argument) (rest : List Argument) →
    first_refusal h (of_arguments (a ∷ rest)) ≡ or_else (first_refusal h (of_arguments (a ∷ []))) (first_refusal h (of_arguments rest))
of_first h (Passed p) rest = sym (or_assoc (pointer_refusal h p) None (first_refusal h (of_arguments rest)))
of_first h (Given v) rest = refl

pub argument_fine : (h : RunState) (arguments : List Argument) (i : ℕ) (some : Argument) → i < length arguments → first_refusal h (of_arguments (take i arguments)) ≡ None →
    first_refusal h (of_arguments (get_or arguments i some ∷ [])) ≡ None → first_refusal h (of_arguments (take (i + 1) arguments)) ≡ None
argument_fine h [] i some within before fine = absurd (omega (arith, within))
argument_fine h (a ∷ rest) zero some within before fine = fine
argument_fine h (a ∷ rest) (suc i) some within before fine =
    let both = sym (of_first h a (take i rest)) ∙ before in
    let next : suc i + 1 ≡ suc (i + 1) = omega arith in
    ap (λ n. first_refusal h (of_arguments (take n (a ∷ rest)))) next ∙ of_first h a (take (i + 1) rest) ∙ ap (λ o. or_else o (first_refusal h (of_arguments (take (i + 1) rest)))) (or_left (first_refusal h (of_arguments (a ∷ []))) _ both)
    ∙ argument_fine h rest i some (omega (arith, within)) (or_right (first_refusal h (of_arguments (a ∷ []))) _ both) fine

pub argument_refusal : (h : RunState) (arguments : List Argument) (i : ℕ) (some : Argument) (panic : Panic) → i < length arguments → first_refusal h (of_arguments (take i arguments)) ≡ None →
    first_refusal h (of_arguments (get_or arguments i some ∷ [])) ≡ Some panic → first_refusal h (of_arguments arguments) ≡ Some panic
argument_refusal h [] i some panic within before refused = absurd (omega (arith, within))
argument_refusal h (a ∷ rest) zero some panic within before refused = of_first h a rest ∙ ap (λ o. or_else o (first_refusal h (of_arguments rest))) refused
argument_refusal h (a ∷ rest) (suc i) some panic within before refused =
    let both = sym (of_first h a (take i rest)) ∙ before in
    of_first h a rest ∙ ap (λ o. or_else o (first_refusal h (of_arguments rest))) (or_left (first_refusal h (of_arguments (a ∷ []))) _ both)
    ∙ argument_refusal h rest i some panic (omega (arith, within)) (or_right (first_refusal h (of_arguments (a ∷ []))) _ both) refused

-- one operand, and one after the other
pub one_asked : (script : Script) (h : RunState) (p : Pointer) (go : Ptr → Process) →
    with_pointer (state_of script h) p go ≡ through (first_refusal h (p ∷ [])) (state_of script h) (go (pointer_read script h p))
one_asked script h p go = pointer_asked script h p go ∙ ap (λ o. through o (state_of script h) (go (pointer_read script h p))) (sym (or_none (pointer_refusal h p)))

pub both_asked : (script : Script) (h : RunState) (p q : Pointer) (go : Ptr → Ptr → Process) →
    with_pointer (state_of script h) p (λ a. with_pointer (state_of script h) q (go a))
    ≡ through (first_refusal h (p ∷ q ∷ [])) (state_of script h) (go (pointer_read script h p) (pointer_read script h q))
both_asked script h p q go =
    pointer_asked script h p (λ a. with_pointer (state_of script h) q (go a))
    ∙ ap (through (pointer_refusal h p) (state_of script h)) (one_asked script h q (go (pointer_read script h p)))
    ∙ through_both (pointer_refusal h p) (first_refusal h (q ∷ [])) (state_of script h) (go (pointer_read script h p) (pointer_read script h q))

-- what was asked was refused, or was not
pub refused_by : {o : Option Panic} {panic : Panic} {x : Process} (st : State) (p : Process) → x ≡ through o st p → o ≡ Some panic → x ≡ stops (panics panic) st
refused_by st p asked e = asked ∙ ap (λ o. through o st p) e

pub passed_by : {o : Option Panic} {x : Process} (st : State) (p : Process) → x ≡ through o st p → o ≡ None → x ≡ p
passed_by st p asked e = asked ∙ ap (λ o. through o st p) e
