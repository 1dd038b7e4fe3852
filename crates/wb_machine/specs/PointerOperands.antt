-- Pointer operands: what they are, what refuses them before a statement is carried out, and what is left of a cell whose field
-- is written.
use Rattle.std.specs.Prelude.{ℕ, ◌+◌, ◌*◌, List, [], ◌∷◌, ◌++◌, Bool, true, false, ◌&&◌, nat_le, if◌then◌else◌, Option, Some, None, Result, Ok, Err, length, slice_get, unwrap_or}
use Rattle.wb_heap_model.specs.declared.heap.Ptr.{Ptr}
use Rattle.wb_heap_model.specs.declared.heap.Kind.{Kind}
use Rattle.wb_heap_model.specs.declared.heap.Kind.TheVariants.{Object}
use Rattle.wb_heap_model.specs.declared.heap.Panic.{Panic}
use Rattle.wb_tree.specs.declared.script.Script.{Script}
use Rattle.wb_tree.specs.declared.script.Argument.{Argument}
use Rattle.wb_tree.specs.declared.script.Argument.TheVariants.{Passed, Given}
use Rattle.wb_tree.specs.declared.script.Holder.{Holder}
use Rattle.wb_tree.specs.declared.script.Holder.TheVariants as H
use Rattle.wb_tree.specs.declared.script.Pointer.{Pointer}
use Rattle.wb_tree.specs.declared.script.Pointer.TheVariants.{Held, Field}
use Rattle.wb_tree.specs.declared.script.Writable.{Writable}
use Rattle.wb_tree.specs.declared.script.Writable.TheVariants.{OwnBuffer, InCell}
use Rattle.wb_tree.specs.declared.script.Readable.{Readable}
use Rattle.wb_tree.specs.declared.script.Readable.TheVariants.{Of, ViewOf, Quoted}
use Rattle.wb_tree.specs.declared.script.Condition.{Condition}
use Rattle.wb_tree.specs.declared.script.Condition.TheVariants.{IsNull, NotNull, Equal, Less}
use Rattle.wb_tree.specs.declared.script.Statement.TheOpen.{Statement-F}
use Rattle.wb_heap_model.specs.Row.{Cell, cell_at}
use Rattle.wb_heap_model.specs.CellRow.{with_payload}
use Rattle.wb_heap_model.specs.Spelling.{fields_in}
use Rattle.wb_heap_model.specs.Pointers.{null}
use Rattle.wb_meaning.specs.State.{pointer_in}
use Rattle.wb_meaning.specs.Statements.{Layer}
use Rattle.wb_heap_model.specs.Debug.{Debug}
use Rattle.wb_objects.specs.Objects.{words_found, with_field}
use Rattle.wb_machine.specs.RunState.{Values, RunState, field_count, value_in}

-- what a holder holds, in a body of this object and with these locals
abbrev pub holder_pointer_over : Ptr → Values → Holder → Ptr
holder_pointer_over this locals (H.Local i) = pointer_in (value_in locals i)
holder_pointer_over this locals H.This = this

abbrev pub holder_pointer_in : RunState → Holder → Ptr
holder_pointer_in h holder = holder_pointer_over h.this h.locals holder

-- a field among so many, of an object with these words; null where it isn't among them, and where the object was refused
abbrev pub field_among : ℕ → ℕ → Result (List ℕ) Panic → Ptr
field_among count i (Ok ws) = unwrap_or (slice_get (fields_in count ws) i) null
field_among count i (Err panic) = null

-- the pointer of an operand, over a heap, the object of a body and its locals
abbrev pub pointer_over : Script → Debug → Ptr → Values → Pointer → Ptr
pointer_over script d this locals (Held holder) = holder_pointer_over this locals holder
pointer_over script d this locals (Field holder class i) = field_among (field_count script class) i (words_found d (holder_pointer_over this locals holder) class)

-- the pointer of an operand
abbrev pub pointer_read : Script → RunState → Pointer → Ptr
pointer_read script h p = pointer_over script h.debug h.this h.locals p

abbrev pub is_object : Kind → Bool
is_object (Object class) = true
is_object _ = false

-- the words of a cell once a field holds another pointer; those of a cell that is no object, or has no room for it, stay
abbrev pub words_with_field : ℕ → Ptr → Option (Cell (List ℕ)) → List ℕ
words_with_field i q None = []
words_with_field i q (Some c) = if is_object c.head.kind && nat_le (4 + 2 * i) (length c.content) then with_field i q c.content else c.content

-- the cells once a field of one of them holds another pointer
abbrev pub row_with_field : Ptr → ℕ → Ptr → List (Cell (List ℕ)) → List (Cell (List ℕ))
row_with_field p i q row = with_payload p (words_with_field i q (cell_at p row)) row

abbrev pub refusal_in : {A : Type 0} → Result A Panic → Option Panic
refusal_in (Ok a) = None
refusal_in (Err panic) = Some panic

-- what is refused of an operand: only the holder of a field may name no cell, or no object of the field's class
abbrev pub pointer_refusal : RunState → Pointer → Option Panic
pointer_refusal h (Held holder) = None
pointer_refusal h (Field holder class i) = refusal_in (words_found h.debug (holder_pointer_in h holder) class)

-- the first of two refusals
abbrev pub or_else : Option Panic → Option Panic → Option Panic
or_else (Some panic) o = Some panic
or_else None o = o

-- the first refusal among operands
abbrev pub first_refusal : RunState → List Pointer → Option Panic
first_refusal h [] = None
first_refusal h (p ∷ ps) = or_else (pointer_refusal h p) (first_refusal h ps)

-- the pointer operands of a text, of what an `if` asks, and of arguments
abbrev pub of_writable : Writable → List Pointer
of_writable (OwnBuffer i) = []
of_writable (InCell p) = p ∷ []

abbrev pub of_readable : Readable → List Pointer
of_readable (Of d) = of_writable d
of_readable (ViewOf i) = []
of_readable (Quoted i) = []

abbrev pub of_condition : Condition → List Pointer
of_condition (IsNull p) = p ∷ []
of_condition (NotNull p) = p ∷ []
of_condition (Equal v w) = []
of_condition (Less v w) = []

abbrev pub of_arguments : List Argument → List Pointer
of_arguments [] = []
of_arguments (Passed p ∷ rest) = p ∷ of_arguments rest
of_arguments (Given v ∷ rest) = of_arguments rest

-- the pointer operands of a statement, from left to right as they are in its text, its target among them
abbrev pub operands_of : Layer → List Pointer
operands_of (Statement-F.Alloc p v x) = p ∷ []
operands_of (Statement-F.Realloc p q v x) = p ∷ q ∷ []
operands_of (Statement-F.Free p) = p ∷ []
operands_of (Statement-F.AllocLen x p) = p ∷ []
operands_of (Statement-F.Store p v w) = p ∷ []
operands_of (Statement-F.Load x p v) = p ∷ []
operands_of (Statement-F.New p class x) = p ∷ []
operands_of (Statement-F.Construct p) = p ∷ []
operands_of (Statement-F.Delete p) = p ∷ []
operands_of (Statement-F.Set p q) = p ∷ q ∷ []
operands_of (Statement-F.SetNull p) = p ∷ []
operands_of (Statement-F.Push p) = p ∷ []
operands_of (Statement-F.PushObject p) = p ∷ []
operands_of (Statement-F.PushOperation p operation) = p ∷ []
operands_of (Statement-F.PopCheck p) = p ∷ []
operands_of (Statement-F.LeaveIfNull p) = p ∷ []
operands_of (Statement-F.Call index arguments) = of_arguments arguments
operands_of (Statement-F.CallTo x index arguments) = of_arguments arguments
operands_of (Statement-F.ReturnPointer p) = p ∷ []
operands_of (Statement-F.NewText p v x) = p ∷ []
operands_of (Statement-F.ReallocText p q v) = p ∷ q ∷ []
operands_of (Statement-F.Copy d t) = of_writable d ++ of_readable t
operands_of (Statement-F.Append d t) = of_writable d ++ of_readable t
operands_of (Statement-F.Insert d v t) = of_writable d ++ of_readable t
operands_of (Statement-F.DeleteText d v w) = of_writable d
operands_of (Statement-F.SetLength d v) = of_writable d
operands_of (Statement-F.Left x t v) = of_readable t
operands_of (Statement-F.Right x t v) = of_readable t
operands_of (Statement-F.Mid x t v w) = of_readable t
operands_of (Statement-F.GetLength x t) = of_readable t
operands_of (Statement-F.GetMaximum x d) = of_writable d
operands_of (Statement-F.PrintText t) = of_readable t
operands_of (Statement-F.If c first) = of_condition c
operands_of (Statement-F.IfElse c first other) = of_condition c
operands_of _ = []

-- what refuses a statement for its operands: the first refusal among them, before a cell is asked for or a range
abbrev pub operands_refusal : RunState → Layer → Option Panic
operands_refusal h layer = first_refusal h (operands_of layer)
