-- The first line of each statement of a tree: its kind, and its operands with what their names stand for.
use Rattle.std.specs.Prelude.{ℕ, List, [], ◌∷◌, Option, Some, None, map}
use Rattle.wb_tree.specs.declared.script_lines.LineKind.TheVariants as line_kind
use Rattle.wb_tree.specs.declared.script_lines.LineKind.{LineKind}
use Rattle.wb_tree.specs.declared.script_lines.Referent.{Referent}
use Rattle.wb_tree.specs.declared.script_lines.Referent.TheVariants as referent
use Rattle.wb_tree.specs.declared.script_lines.Operand.{Operand}
use Rattle.wb_tree.specs.declared.script_lines.Operand.TheVariants.{Name, Number, Literal, Keyword}
use Rattle.wb_tree.specs.declared.script_lines.Operand.TheVariants as spelled
use Rattle.wb_tree.specs.declared.script.Parameter.{Parameter}
use Rattle.wb_tree.specs.declared.script.Parameter.TheVariants as parameter
use Rattle.wb_tree.specs.declared.script.Argument.{Argument}
use Rattle.wb_tree.specs.declared.script.Argument.TheVariants.{Passed, Given}
use Rattle.wb_tree.specs.declared.script.Condition.{Condition}
use Rattle.wb_tree.specs.declared.script.Condition.TheVariants.{IsNull, NotNull, Equal, Less}
use Rattle.wb_tree.specs.declared.script.Holder.{Holder}
use Rattle.wb_tree.specs.declared.script.Holder.TheVariants as H
use Rattle.wb_tree.specs.declared.script.Pointer.{Pointer}
use Rattle.wb_tree.specs.declared.script.Pointer.TheVariants.{Held, Field}
use Rattle.wb_tree.specs.declared.script.Number as N
use Rattle.wb_tree.specs.declared.script.Number.TheVariants.{Constant, Variable}
use Rattle.wb_tree.specs.declared.script.Writable.{Writable}
use Rattle.wb_tree.specs.declared.script.Writable.TheVariants.{OwnBuffer, InCell}
use Rattle.wb_tree.specs.declared.script.Readable.{Readable}
use Rattle.wb_tree.specs.declared.script.Readable.TheVariants.{Of, ViewOf, Quoted}
use Rattle.wb_tree.specs.declared.script.Refusal.TheVariants.{GivesNull, Leaves}
use Rattle.wb_tree.specs.declared.script.Statement.TheOpen.{Statement-F}

-- The operand that spells a pointer, a number, a text, a class, a procedure or a parameter; `None` if no line spells it.
abbrev pub Spelled : Type 0
Spelled = Option (Operand Referent)

-- what a holder of a pointer is named as
abbrev pub holder_referent : Holder → Referent
holder_referent (H.Local i) = referent.Pointer i
holder_referent H.This = referent.This

abbrev pub pointer_operand : Pointer → Spelled
pointer_operand (Held holder) = Some (Name (holder_referent holder))
pointer_operand (Field holder class i) = Some (spelled.Field (holder_referent holder) (referent.Field class i))

abbrev pub variable_operand : ℕ → Spelled
variable_operand i = Some (Name (referent.Number i))

abbrev pub number_operand : N.Number → Spelled
number_operand (Constant z) = Some (Number z)
number_operand (Variable i) = variable_operand i

abbrev pub writable_operand : Writable → Spelled
writable_operand (OwnBuffer i) = Some (Name (referent.Buffer i))
writable_operand (InCell p) = pointer_operand p

abbrev pub view_operand : ℕ → Spelled
view_operand i = Some (Name (referent.View i))

abbrev pub text_operand : Readable → Spelled
text_operand (Of w) = writable_operand w
text_operand (ViewOf i) = view_operand i
text_operand (Quoted i) = Some (Literal (referent.Literal i))

abbrev pub class_operand : ℕ → Spelled
class_operand i = Some (Name (referent.Class i))

abbrev pub procedure_operand : ℕ → Spelled
procedure_operand i = Some (Name (referent.Procedure i))

abbrev pub operation_operand : ℕ → Spelled
operation_operand i = Some (Name (referent.Operation i))

abbrev pub argument_operand : Argument → Spelled
argument_operand (Passed p) = pointer_operand p
argument_operand (Given v) = number_operand v

abbrev pub keyword_operand : Spelled
keyword_operand = Some Keyword

-- the line kind of the line that sets a pointer
abbrev pub set_line_kind : Pointer → LineKind
set_line_kind (Held holder) = line_kind.Set
set_line_kind (Field holder class i) = line_kind.SetField

-- the line kind of a line, and its operands from left to right
abbrev pub Spelling : Type 0
Spelling = LineKind × List Spelled

-- how the line of an `if` is spelled
abbrev pub condition_spelling : Condition → Spelling
condition_spelling (IsNull p) = (line_kind.IfNull, keyword_operand ∷ pointer_operand p ∷ [])
condition_spelling (NotNull p) = (line_kind.IfSome, keyword_operand ∷ pointer_operand p ∷ [])
condition_spelling (Equal v w) = (line_kind.IfEqual, keyword_operand ∷ number_operand v ∷ number_operand w ∷ [])
condition_spelling (Less v w) = (line_kind.IfLess, keyword_operand ∷ number_operand v ∷ number_operand w ∷ [])

-- How the line is spelled that a statement begins with, whatever is inside it.
abbrev pub statement_spelling : {A B : Type 0} → Statement-F A B → Spelling
statement_spelling (Statement-F.Alloc p v GivesNull) = (line_kind.Alloc, pointer_operand p ∷ number_operand v ∷ [])
statement_spelling (Statement-F.Alloc p v Leaves) = (line_kind.AllocL, pointer_operand p ∷ number_operand v ∷ [])
statement_spelling (Statement-F.Realloc p q v GivesNull) = (line_kind.Realloc, pointer_operand p ∷ pointer_operand q ∷ number_operand v ∷ [])
statement_spelling (Statement-F.Realloc p q v Leaves) = (line_kind.ReallocL, pointer_operand p ∷ pointer_operand q ∷ number_operand v ∷ [])
statement_spelling (Statement-F.Free p) = (line_kind.Free, pointer_operand p ∷ [])
statement_spelling (Statement-F.AllocLen x p) = (line_kind.AllocLen, variable_operand x ∷ pointer_operand p ∷ [])
statement_spelling (Statement-F.Store p v w) = (line_kind.Store, pointer_operand p ∷ number_operand v ∷ number_operand w ∷ [])
statement_spelling (Statement-F.Load x p v) = (line_kind.Load, variable_operand x ∷ pointer_operand p ∷ number_operand v ∷ [])
statement_spelling (Statement-F.New p class GivesNull) = (line_kind.New, pointer_operand p ∷ class_operand class ∷ [])
statement_spelling (Statement-F.New p class Leaves) = (line_kind.NewLeave, pointer_operand p ∷ class_operand class ∷ [])
statement_spelling (Statement-F.Construct p) = (line_kind.Construct, pointer_operand p ∷ [])
statement_spelling (Statement-F.Delete p) = (line_kind.Delete, pointer_operand p ∷ [])
statement_spelling (Statement-F.Set p q) = (set_line_kind p, pointer_operand p ∷ pointer_operand q ∷ [])
statement_spelling (Statement-F.SetNumber x v) = (line_kind.Set, variable_operand x ∷ number_operand v ∷ [])
statement_spelling (Statement-F.SetNull p) = (line_kind.Null, pointer_operand p ∷ [])
statement_spelling (Statement-F.Add x v) = (line_kind.Add, variable_operand x ∷ number_operand v ∷ [])
statement_spelling (Statement-F.Push p) = (line_kind.Push, pointer_operand p ∷ [])
statement_spelling (Statement-F.PushObject p) = (line_kind.PushObj, pointer_operand p ∷ [])
statement_spelling (Statement-F.PushOperation p n) = (line_kind.PushOp, pointer_operand p ∷ operation_operand n ∷ [])
statement_spelling (Statement-F.Pop v) = (line_kind.Pop, number_operand v ∷ [])
statement_spelling (Statement-F.PopDestroy v) = (line_kind.PopDestroy, number_operand v ∷ [])
statement_spelling (Statement-F.PopCheck p) = (line_kind.PopCheck, pointer_operand p ∷ [])
statement_spelling Statement-F.Mark = (line_kind.Mark, [])
statement_spelling (Statement-F.MarkEnd v) = (line_kind.MarkEnd, number_operand v ∷ [])
statement_spelling (Statement-F.Check v) = (line_kind.Check, number_operand v ∷ [])
statement_spelling (Statement-F.CheckAll v) = (line_kind.CheckAll, number_operand v ∷ [])
statement_spelling (Statement-F.FailNext v) = (line_kind.FailNext, number_operand v ∷ [])
statement_spelling (Statement-F.FailEvery v) = (line_kind.FailEvery, number_operand v ∷ [])
statement_spelling Statement-F.FailNone = (line_kind.FailNone, [])
statement_spelling (Statement-F.NewText p v GivesNull) = (line_kind.HNew, pointer_operand p ∷ number_operand v ∷ [])
statement_spelling (Statement-F.NewText p v Leaves) = (line_kind.HNewL, pointer_operand p ∷ number_operand v ∷ [])
statement_spelling (Statement-F.ReallocText p q v) = (line_kind.HRealloc, pointer_operand p ∷ pointer_operand q ∷ number_operand v ∷ [])
statement_spelling (Statement-F.Copy d t) = (line_kind.Copy, writable_operand d ∷ text_operand t ∷ [])
statement_spelling (Statement-F.Append d t) = (line_kind.Append, writable_operand d ∷ text_operand t ∷ [])
statement_spelling (Statement-F.Insert d v t) = (line_kind.Insert, writable_operand d ∷ number_operand v ∷ text_operand t ∷ [])
statement_spelling (Statement-F.DeleteText d v w) = (line_kind.DelText, writable_operand d ∷ number_operand v ∷ number_operand w ∷ [])
statement_spelling (Statement-F.SetLength d v) = (line_kind.SetLength, writable_operand d ∷ number_operand v ∷ [])
statement_spelling (Statement-F.Left y t v) = (line_kind.Left, view_operand y ∷ text_operand t ∷ number_operand v ∷ [])
statement_spelling (Statement-F.Right y t v) = (line_kind.Right, view_operand y ∷ text_operand t ∷ number_operand v ∷ [])
statement_spelling (Statement-F.Mid y t v w) = (line_kind.Mid, view_operand y ∷ text_operand t ∷ number_operand v ∷ number_operand w ∷ [])
statement_spelling (Statement-F.GetLength x t) = (line_kind.GetLen, variable_operand x ∷ text_operand t ∷ [])
statement_spelling (Statement-F.GetMaximum x d) = (line_kind.GetMax, variable_operand x ∷ writable_operand d ∷ [])
statement_spelling (Statement-F.PrintText t) = (line_kind.Print, text_operand t ∷ [])
statement_spelling (Statement-F.PrintNumber v) = (line_kind.Print, number_operand v ∷ [])
statement_spelling Statement-F.NoteHeap = (line_kind.Heap, [])
statement_spelling Statement-F.NoteAvailable = (line_kind.Available, [])
statement_spelling Statement-F.NoteCompress = (line_kind.Compress, [])
statement_spelling (Statement-F.Leave v) = (line_kind.Leave, number_operand v ∷ [])
statement_spelling (Statement-F.LeaveIfError v) = (line_kind.LeaveIfError, number_operand v ∷ [])
statement_spelling (Statement-F.LeaveIfNull p) = (line_kind.LeaveIfNull, pointer_operand p ∷ [])
statement_spelling (Statement-F.Call n arguments) = (line_kind.Call, procedure_operand n ∷ map argument_operand arguments)
statement_spelling (Statement-F.CallTo x n arguments) = (line_kind.CallTo, pointer_operand (Held (H.Local x)) ∷ procedure_operand n ∷ map argument_operand arguments)
statement_spelling Statement-F.Return = (line_kind.Return, [])
statement_spelling (Statement-F.ReturnPointer p) = (line_kind.ReturnPointer, pointer_operand p ∷ [])
statement_spelling (Statement-F.If c first) = condition_spelling c
statement_spelling (Statement-F.IfElse c first other) = condition_spelling c
statement_spelling (Statement-F.Repeat v body) = (line_kind.Repeat, number_operand v ∷ [])
statement_spelling (Statement-F.Trap x body) = (line_kind.Trap, variable_operand x ∷ [])

-- the line kind of that line, and the line
abbrev pub statement_kind : {A B : Type 0} → Statement-F A B → LineKind
statement_kind s = (statement_spelling s).0

-- the one parameter of an operation, a pointer without a class
abbrev pub its_parameters : List Parameter
its_parameters = parameter.OfPointer None ∷ []
