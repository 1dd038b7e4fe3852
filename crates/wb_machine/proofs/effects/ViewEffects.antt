-- Statements that read texts come to what they mean.
use Rattle.std.proofs.Common.{◌≡◌, ℕ, ◌+◌, ℤ, pos, List, length, refl, ap, ◌∙◌, sym, Option, Some, None, Result, Ok, Err}
use Rattle.std.specs.Prelude.{ok_or}
use Rattle.wb_heap_model.specs.declared.heap.TheConstants.Panic.{NUMBER_OUT_OF_RANGE}
use Rattle.wb_heap_model.specs.declared.heap.Panic.{Panic}
use Rattle.wb_heap_model.specs.declared.heap.Rule.{Rule}
use Rattle.wb_tree.specs.declared.script.Script.{Script}
use Rattle.wb_tree.specs.declared.script.Number.{Number}
use Rattle.wb_tree.specs.declared.script.Writable.{Writable}
use Rattle.wb_tree.specs.declared.script.Readable.{Readable}
use Rattle.wb_tree.specs.declared.script.Statement.TheOpen.{Statement-F}
use Rattle.wb_heap_model.specs.declared.text.View.{View}
use Rattle.wb_meaning.specs.State.{number, view, goes_on, Process, ends, and_then, with_some, set_local}
use Rattle.wb_meaning.specs.Operands.{number_of, not_negative}
use Rattle.wb_heap_model.specs.Texts.{Part, left_part, right_part, mid_part, view_of_part, printed}
use Rattle.wb_meaning.specs.Reading.{Source, base_of, position_of, with_readable, with_units, with_room, write_view}
use Rattle.wb_meaning.specs.Statements.{statement, done, print_line}
use Rattle.wb_machine.specs.RunState.{RunState, state_of}
use Rattle.wb_machine.specs.Flow.{flow}
use Rattle.wb_machine.specs.PointerOperands.{operands_refusal, first_refusal, of_readable}
use Rattle.wb_machine.specs.Effects.{Effect, gone_on, stored, number_read, line_printed}
use Rattle.wb_machine.specs.TextOperands.{base_named, base_refusal, base_max, unless_gone, window_read, window_found, window_units}
use Rattle.wb_machine.specs.TextEffects.{unless_panics, part_stored, when_fine, count_read, left_read, right_read, mid_read, with_window, length_effect, max_effect, print_effect}
use Rattle.wb_machine.proofs.effects.StatementEffects.{Means, ComesTo, number_is}
use Rattle.wb_machine.proofs.effects.ReadTexts.{through, source_named, readable_is, writable_is, named_writable, room_is, shown}

-- a process that is the same comes to the same
same_process : (r : Rule) (script : Script) (h : RunState) (p q : Process) (c : Effect) → q ≡ p → ComesTo r script h p c → ComesTo r script h q c
same_process r script h p q c same comes k = comes k ∙ ap (λ x. flow r (and_then x k) h) (sym same)

-- past a refusal
through_kept : (r : Rule) (script : Script) (h : RunState) (o : Option Panic) (p : Process) (c : Effect) → ComesTo r script h p c → ComesTo r script h (through o (state_of script h) p) (unless_panics h o c)
through_kept r script h (Some panic) p c comes k = refl
through_kept r script h None p c comes k = comes k

-- past a number, for a part
part_of_statement_at : (r : Rule) (script : Script) (h : RunState) (w : ℕ) (o : Option ℕ) (p : ℕ → Process) (go : ℕ → Result View Panic) →
    ((n : ℕ) → ComesTo r script h (p n) (part_stored h w (go n))) →
    ComesTo r script h (with_some o NUMBER_OUT_OF_RANGE (state_of script h) p) (part_stored h w (when_fine (ok_or o NUMBER_OUT_OF_RANGE) go))
unfolding with_some
part_of_statement_at r script h w None p go comes k = refl
part_of_statement_at r script h w (Some n) p go comes k = comes n k

-- past a base that may be gone, for a part
part_through : (r : Rule) (script : Script) (h : RunState) (w : ℕ) (o : Option Panic) (v : View) (p : Process) (go : View → Result View Panic) →
    ComesTo r script h p (part_stored h w (go v)) → ComesTo r script h (through o (state_of script h) p) (part_stored h w (when_fine (unless_gone o v) go))
part_through r script h w (Some panic) v p go comes k = refl
part_through r script h w None v p go comes k = comes k

-- a part becomes a view, or is refused
part_kept : (r : Rule) (script : Script) (h : RunState) (w : ℕ) (s : Source) (v : View) (o : Result Part Panic) → base_of s ≡ v.base → position_of s ≡ v.position →
    ComesTo r script h (write_view o (state_of script h) w s) (part_stored h w (view_of_part v o))
unfolding write_view flow
part_kept r script h w s v (Err panic) base position k = refl
part_kept r script h w s v (Ok p) base position k =
    ap (λ b. flow r (and_then (ends goes_on (set_local (state_of script h) w (view (record { base = b; position = v.position + p.from; length = p.count })))) k) h) (sym base)
    ∙ ap (λ n. flow r (and_then (ends goes_on (set_local (state_of script h) w (view (record { base = base_of s; position = n + p.from; length = p.count })))) k) h) (sym position)

-- a text that is read, for what follows from its units
read_kept : (r : Rule) (script : Script) (h : RunState) (t : Readable) (go : Source → List ℕ → Process) (c : Effect) → first_refusal h (of_readable t) ≡ None →
    ComesTo r script h (go (source_named script h t) (window_units script.literals h (window_read script h t))) c →
    ComesTo r script h (with_readable (state_of script h) t (λ from. with_units script.literals (state_of script h) from (go from))) (with_window h (window_read script h t) c)
read_kept r script h t go c ok comes =
    let st = state_of script h in
    let v = window_read script h t in
    same_process r script h (through (base_refusal h v.base) st (go (source_named script h t) (window_units script.literals h v))) _ (with_window h v c)
    (readable_is script h t (λ from. with_units script.literals st from (go from)) ok ∙ (shown script h t).units (go (source_named script h t)))
    (through_kept r script h (base_refusal h v.base) _ c comes)

-- the same for a part of it
read_part_kept : (r : Rule) (script : Script) (h : RunState) (w : ℕ) (t : Readable) (go : Source → List ℕ → Process) (part : View → Result View Panic) →
    first_refusal h (of_readable t) ≡ None →
    ComesTo r script h (go (source_named script h t) (window_units script.literals h (window_read script h t))) (part_stored h w (part (window_read script h t))) →
    ComesTo r script h (with_readable (state_of script h) t (λ from. with_units script.literals (state_of script h) from (go from)))
    (part_stored h w (when_fine (window_found script h t) part))
read_part_kept r script h w t go part ok comes =
    let st = state_of script h in
    let v = window_read script h t in
    same_process r script h (through (base_refusal h v.base) st (go (source_named script h t) (window_units script.literals h v))) _ (part_stored h w (when_fine (unless_gone (base_refusal h v.base) v) part))
    (readable_is script h t (λ from. with_units script.literals st from (go from)) ok ∙ (shown script h t).units (go (source_named script h t)))
    (part_through r script h w (base_refusal h v.base) v _ part comes)

-- a number local gets a number
stored_kept : (r : Rule) (script : Script) (h : RunState) (x : ℕ) (z : ℤ) → ComesTo r script h (done (set_local (state_of script h) x (number z))) (gone_on (stored h x (number z)))
unfolding flow
stored_kept r script h x z k = refl

line_kept : (r : Rule) (script : Script) (h : RunState) (line : List ℕ) → ComesTo r script h (print_line line (state_of script h)) (gone_on (line_printed h line))
unfolding flow
line_kept r script h line k = refl

pub length_kept : (script : Script) (h : RunState) (x : ℕ) (t : Readable) → operands_refusal h (Statement-F.GetLength x t) ≡ None →
    Means script h (Statement-F.GetLength x t) (length_effect script h x t)
unfolding statement
length_kept script h x t ok r f rec at =
    let st = state_of script h in
    let v = window_read script h t in
    read_kept r script h t (λ from us. done (set_local st x (number (pos (length us))))) (gone_on (stored h x (number (pos v.length))))
    ok
    (same_process r script h (done (set_local st x (number (pos v.length)))) _ (gone_on (stored h x (number (pos v.length)))) (ap (λ n. done (set_local st x (number (pos n)))) (shown script h t).count) (stored_kept r script h x (pos v.length)))

pub print_kept : (script : Script) (h : RunState) (t : Readable) → operands_refusal h (Statement-F.PrintText t) ≡ None →
    Means script h (Statement-F.PrintText t) (print_effect script h t)
unfolding statement
print_kept script h t ok r f rec at =
    read_kept r script h t (λ from us. print_line (printed us) (state_of script h)) (gone_on (line_printed h (printed (window_units script.literals h (window_read script h t))))) ok
    (line_kept r script h (printed (window_units script.literals h (window_read script h t))))

-- a part of a text that is read, by its length
part_of_kept : (r : Rule) (script : Script) (h : RunState) (w : ℕ) (t : Readable) (part : ℕ → Result Part Panic) →
    ComesTo r script h (write_view (part (length (window_units script.literals h (window_read script h t)))) (state_of script h) w (source_named script h t))
    (part_stored h w (view_of_part (window_read script h t) (part (window_read script h t).length)))
part_of_kept r script h w t part =
    let v = window_read script h t in
    let is = shown script h t in
    same_process r script h (write_view (part v.length) (state_of script h) w (source_named script h t)) _ _ (ap (λ n. write_view (part n) (state_of script h) w (source_named script h t)) is.count)
    (part_kept r script h w (source_named script h t) v (part v.length) is.base is.position)

pub left_kept : (script : Script) (h : RunState) (w : ℕ) (t : Readable) (z : Number) → operands_refusal h (Statement-F.Left w t z) ≡ None →
    Means script h (Statement-F.Left w t z) (part_stored h w (left_read script h t z))
unfolding statement
left_kept script h w t z ok r f rec at =
    let st = state_of script h in
    let us = window_units script.literals h (window_read script h t) in
    let v = window_read script h t in
    let s = source_named script h t in
    read_part_kept r script h w t (λ from us. with_some (not_negative (number_of st z)) NUMBER_OUT_OF_RANGE st (λ n. write_view (left_part (length us) n) st w from))
    (λ v. when_fine (count_read h z) (λ n. view_of_part v (left_part v.length n)))
    ok
    (same_process r script h (with_some (not_negative (number_read h z)) NUMBER_OUT_OF_RANGE st (λ n. write_view (left_part (length us) n) st w s)) _ _
    (ap (λ y. with_some (not_negative y) NUMBER_OUT_OF_RANGE st (λ n. write_view (left_part (length us) n) st w s)) (number_is script h z))
    (part_of_statement_at r script h w (not_negative (number_read h z)) (λ n. write_view (left_part (length us) n) st w s) (λ n. view_of_part v (left_part v.length n))
    (λ n. part_of_kept r script h w t (λ len. left_part len n))))

pub right_kept : (script : Script) (h : RunState) (w : ℕ) (t : Readable) (z : Number) → operands_refusal h (Statement-F.Right w t z) ≡ None →
    Means script h (Statement-F.Right w t z) (part_stored h w (right_read script h t z))
unfolding statement
right_kept script h w t z ok r f rec at =
    let st = state_of script h in
    let us = window_units script.literals h (window_read script h t) in
    let v = window_read script h t in
    let s = source_named script h t in
    read_part_kept r script h w t (λ from us. with_some (not_negative (number_of st z)) NUMBER_OUT_OF_RANGE st (λ n. write_view (right_part (length us) n) st w from))
    (λ v. when_fine (count_read h z) (λ n. view_of_part v (right_part v.length n)))
    ok
    (same_process r script h (with_some (not_negative (number_read h z)) NUMBER_OUT_OF_RANGE st (λ n. write_view (right_part (length us) n) st w s)) _ _
    (ap (λ y. with_some (not_negative y) NUMBER_OUT_OF_RANGE st (λ n. write_view (right_part (length us) n) st w s)) (number_is script h z))
    (part_of_statement_at r script h w (not_negative (number_read h z)) (λ n. write_view (right_part (length us) n) st w s) (λ n. view_of_part v (right_part v.length n))
    (λ n. part_of_kept r script h w t (λ len. right_part len n))))

pub mid_kept : (script : Script) (h : RunState) (w : ℕ) (t : Readable) (z y : Number) → operands_refusal h (Statement-F.Mid w t z y) ≡ None →
    Means script h (Statement-F.Mid w t z y) (part_stored h w (mid_read script h t z y))
unfolding statement
mid_kept script h w t z y ok r f rec at =
    let st = state_of script h in
    let us = window_units script.literals h (window_read script h t) in
    let v = window_read script h t in
    let s = source_named script h t in
    let part : ℕ → ℕ → Process = λ n m. write_view (mid_part (length us) n m) st w s in
    read_part_kept r script h w t (λ from us. with_some (not_negative (number_of st z)) NUMBER_OUT_OF_RANGE st (λ n. with_some (not_negative (number_of st y)) NUMBER_OUT_OF_RANGE st (λ m. write_view (mid_part (length us) n m) st w from)))
    (λ v. when_fine (count_read h z) (λ n. when_fine (count_read h y) (λ m. view_of_part v (mid_part v.length n m))))
    ok
    (same_process r script h (with_some (not_negative (number_read h z)) NUMBER_OUT_OF_RANGE st (λ n. with_some (not_negative (number_read h y)) NUMBER_OUT_OF_RANGE st (part n))) _ _
    (ap (λ x. with_some (not_negative x) NUMBER_OUT_OF_RANGE st (λ n. with_some (not_negative (number_of st y)) NUMBER_OUT_OF_RANGE st (part n))) (number_is script h z)
    ∙ ap (λ x. with_some (not_negative (number_read h z)) NUMBER_OUT_OF_RANGE st (λ n. with_some (not_negative x) NUMBER_OUT_OF_RANGE st (part n))) (number_is script h y))
    (part_of_statement_at r script h w (not_negative (number_read h z)) _ (λ n. when_fine (count_read h y) (λ m. view_of_part v (mid_part v.length n m))) (λ n.
    part_of_statement_at r script h w (not_negative (number_read h y)) (part n) (λ m. view_of_part v (mid_part v.length n m)) (λ m. part_of_kept r script h w t (λ len. mid_part len n m)))))

-- the maximum of a text that can be changed
pub max_kept : (script : Script) (h : RunState) (x : ℕ) (d : Writable) → operands_refusal h (Statement-F.GetMaximum x d) ≡ None →
    Means script h (Statement-F.GetMaximum x d) (max_effect h x (base_named script h d))
unfolding statement
max_kept script h x d ok r f rec at =
    let st = state_of script h in
    let to = base_named script h d in
    same_process r script h (through (base_refusal h to) st (done (set_local st x (number (pos (base_max h to)))))) _ _
    (writable_is script h d (λ to. with_room st to (λ max us. done (set_local st x (number (pos max))))) ok
    ∙ room_is script h to (λ max us. done (set_local st x (number (pos max)))) (named_writable script h d))
    (through_kept r script h (base_refusal h to) _ _ (stored_kept r script h x (pos (base_max h to))))
