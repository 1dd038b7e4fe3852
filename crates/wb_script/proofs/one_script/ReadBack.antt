-- What lines say of a script, read from the last to the first.
use Rattle.std.proofs.Common.{◌≡◌, refl, ap, ℕ, List, [], ◌∷◌, ◌++◌, Option, Some, None, map}
use Rattle.std.specs.Prelude.{unwrap_or}
use Rattle.wb_tree.specs.declared.script_lines.LineKind.TheVariants as line_kind
use Rattle.wb_tree.specs.declared.script_lines.Referent.{Referent}
use Rattle.wb_tree.specs.declared.script_lines.Referent.TheVariants as referent
use Rattle.wb_tree.specs.declared.script_lines.Operand.{Operand}
use Rattle.wb_tree.specs.declared.script_lines.Operand.TheVariants.{Name, Number, Size}
use Rattle.wb_tree.specs.declared.script_lines.Form.TheVariants.{Line}
use Rattle.wb_tree.specs.declared.script.Body.{Body}
use Rattle.wb_tree.specs.declared.script.Class.{Class}
use Rattle.wb_tree.specs.declared.script.Procedure.{Procedure}
use Rattle.wb_tree.specs.declared.script.Operation.{Operation}
use Rattle.wb_tree.specs.declared.script.Condition.{Condition}
use Rattle.wb_tree.specs.declared.script.Condition.TheVariants.{IsNull, NotNull, Equal, Less}
use Rattle.wb_tree.specs.declared.script.Local.{Local}
use Rattle.wb_tree.specs.declared.script.Local.TheVariants.{OfPointer, OfNumber, OfBuffer, OfView}
use Rattle.wb_tree.specs.declared.script.Number.TheVariants.{Constant, Variable}
use Rattle.wb_tree.specs.declared.script.Refusal.TheVariants.{GivesNull, Leaves}
use Rattle.wb_tree.specs.declared.script.StatementAt.{StatementAt}
use Rattle.wb_tree.specs.declared.script.Statement.{Statement}
use Rattle.wb_tree.specs.declared.script.Statement.TheOpen.{Statement-F}
use Rattle.wb_tree.specs.declared.script.Statement.TheViews.{roll-Statement}
use Rattle.wb_language.specs.Resolved.{class_in}
use Rattle.wb_language.specs.Trees.{Indexed, Marked, line}
use Rattle.wb_script.proofs.one_script.OperandLaws.{pointer_in, variable_in, number_in, writable_in, view_in, text_in, argument_in, local_in, procedure_in, operation_in, parameters_in}
use Rattle.wb_script.proofs.one_script.OperandLaws as operand

-- the statements of a block that were read, and those after its `else`
pub record Level : Type 0 where
  pub here : List StatementAt
  pub other : Option (List StatementAt)

abbrev pub no_statements : Level
no_statements = record { here = []; other = None }

-- a class, a procedure or an operation
pub data Item : Type 0 where
  class : Class → Item
  procedure : Procedure → Item
  operation : Operation → Item

-- an item as its lines tell it, with the index that its first line has
pub record IndexedItem : Type 0 where
  pub index : ℕ
  pub item : Item

-- What lines say, read from the last to the first: an `end` opens a block, and the block's head closes it. What is read of a class
-- is in its own places until the first line of the class.
pub record Part : Type 0 where
  pub locals : List Local
  pub inner : Level
  pub outer : List Level
  pub fields : List (Option ℕ)
  pub construct : Option Body
  pub destroy : Option Body
  pub items : List IndexedItem

abbrev pub nothing : Part
nothing = record { locals = []; inner = no_statements; outer = []; fields = []; construct = None; destroy = None; items = [] }

-- a `set`, by what its target is
abbrev pub set_in : Operand Referent → Operand Referent → Statement-F Statement StatementAt
set_in (Name (referent.Number i)) source = Statement-F.SetNumber i (number_in source)
set_in target source = Statement-F.Set (pointer_in target) (pointer_in source)

abbrev pub print_in : Operand Referent → Statement-F Statement StatementAt
print_in (Number z) = Statement-F.PrintNumber (Constant z)
print_in (Name (referent.Number i)) = Statement-F.PrintNumber (Variable i)
print_in operand = Statement-F.PrintText (text_in operand)

abbrev pub statement_in : Indexed → Statement-F Statement StatementAt
statement_in (Line line_kind.Alloc (a ∷ b ∷ [])) = Statement-F.Alloc (pointer_in a) (number_in b) GivesNull
statement_in (Line line_kind.AllocL (a ∷ b ∷ [])) = Statement-F.Alloc (pointer_in a) (number_in b) Leaves
statement_in (Line line_kind.Realloc (a ∷ b ∷ c ∷ [])) = Statement-F.Realloc (pointer_in a) (pointer_in b) (number_in c) GivesNull
statement_in (Line line_kind.ReallocL (a ∷ b ∷ c ∷ [])) = Statement-F.Realloc (pointer_in a) (pointer_in b) (number_in c) Leaves
statement_in (Line line_kind.Leave (a ∷ [])) = Statement-F.Leave (number_in a)
statement_in (Line line_kind.LeaveIfError (a ∷ [])) = Statement-F.LeaveIfError (number_in a)
statement_in (Line line_kind.LeaveIfNull (a ∷ [])) = Statement-F.LeaveIfNull (pointer_in a)
statement_in (Line line_kind.Call (a ∷ operands)) = Statement-F.Call (procedure_in a) (map argument_in operands)
statement_in (Line line_kind.CallTo (a ∷ b ∷ operands)) = Statement-F.CallTo (local_in a) (procedure_in b) (map argument_in operands)
statement_in (Line line_kind.PushOp (a ∷ b ∷ [])) = Statement-F.PushOperation (pointer_in a) (operation_in b)
statement_in (Line line_kind.ReturnPointer (a ∷ [])) = Statement-F.ReturnPointer (pointer_in a)
statement_in (Line line_kind.HNewL (a ∷ b ∷ [])) = Statement-F.NewText (pointer_in a) (number_in b) Leaves
statement_in (Line line_kind.Free (a ∷ [])) = Statement-F.Free (pointer_in a)
statement_in (Line line_kind.AllocLen (a ∷ b ∷ [])) = Statement-F.AllocLen (variable_in a) (pointer_in b)
statement_in (Line line_kind.Store (a ∷ b ∷ c ∷ [])) = Statement-F.Store (pointer_in a) (number_in b) (number_in c)
statement_in (Line line_kind.Load (a ∷ b ∷ c ∷ [])) = Statement-F.Load (variable_in a) (pointer_in b) (number_in c)
statement_in (Line line_kind.Null (a ∷ [])) = Statement-F.SetNull (pointer_in a)
statement_in (Line line_kind.Add (a ∷ b ∷ [])) = Statement-F.Add (variable_in a) (number_in b)
statement_in (Line line_kind.Push (a ∷ [])) = Statement-F.Push (pointer_in a)
statement_in (Line line_kind.Pop (a ∷ [])) = Statement-F.Pop (number_in a)
statement_in (Line line_kind.PopDestroy (a ∷ [])) = Statement-F.PopDestroy (number_in a)
statement_in (Line line_kind.PopCheck (a ∷ [])) = Statement-F.PopCheck (pointer_in a)
statement_in (Line line_kind.Mark []) = Statement-F.Mark
statement_in (Line line_kind.MarkEnd (a ∷ [])) = Statement-F.MarkEnd (number_in a)
statement_in (Line line_kind.Check (a ∷ [])) = Statement-F.Check (number_in a)
statement_in (Line line_kind.CheckAll (a ∷ [])) = Statement-F.CheckAll (number_in a)
statement_in (Line line_kind.FailNext (a ∷ [])) = Statement-F.FailNext (number_in a)
statement_in (Line line_kind.FailEvery (a ∷ [])) = Statement-F.FailEvery (number_in a)
statement_in (Line line_kind.FailNone []) = Statement-F.FailNone
statement_in (Line line_kind.Heap []) = Statement-F.NoteHeap
statement_in (Line line_kind.Available []) = Statement-F.NoteAvailable
statement_in (Line line_kind.Compress []) = Statement-F.NoteCompress
statement_in (Line line_kind.HNew (a ∷ b ∷ [])) = Statement-F.NewText (pointer_in a) (number_in b) GivesNull
statement_in (Line line_kind.HRealloc (a ∷ b ∷ c ∷ [])) = Statement-F.ReallocText (pointer_in a) (pointer_in b) (number_in c)
statement_in (Line line_kind.Copy (a ∷ b ∷ [])) = Statement-F.Copy (writable_in a) (text_in b)
statement_in (Line line_kind.Append (a ∷ b ∷ [])) = Statement-F.Append (writable_in a) (text_in b)
statement_in (Line line_kind.Insert (a ∷ b ∷ c ∷ [])) = Statement-F.Insert (writable_in a) (number_in b) (text_in c)
statement_in (Line line_kind.DelText (a ∷ b ∷ c ∷ [])) = Statement-F.DeleteText (writable_in a) (number_in b) (number_in c)
statement_in (Line line_kind.SetLength (a ∷ b ∷ [])) = Statement-F.SetLength (writable_in a) (number_in b)
statement_in (Line line_kind.Left (a ∷ b ∷ c ∷ [])) = Statement-F.Left (view_in a) (text_in b) (number_in c)
statement_in (Line line_kind.Right (a ∷ b ∷ c ∷ [])) = Statement-F.Right (view_in a) (text_in b) (number_in c)
statement_in (Line line_kind.Mid (a ∷ b ∷ c ∷ e ∷ [])) = Statement-F.Mid (view_in a) (text_in b) (number_in c) (number_in e)
statement_in (Line line_kind.GetLen (a ∷ b ∷ [])) = Statement-F.GetLength (variable_in a) (text_in b)
statement_in (Line line_kind.GetMax (a ∷ b ∷ [])) = Statement-F.GetMaximum (variable_in a) (writable_in b)
statement_in (Line line_kind.New (a ∷ b ∷ [])) = Statement-F.New (pointer_in a) (operand.class_in b) GivesNull
statement_in (Line line_kind.NewLeave (a ∷ b ∷ [])) = Statement-F.New (pointer_in a) (operand.class_in b) Leaves
statement_in (Line line_kind.Construct (a ∷ [])) = Statement-F.Construct (pointer_in a)
statement_in (Line line_kind.Delete (a ∷ [])) = Statement-F.Delete (pointer_in a)
statement_in (Line line_kind.PushObj (a ∷ [])) = Statement-F.PushObject (pointer_in a)
statement_in (Line line_kind.Set (a ∷ b ∷ [])) = set_in a b
statement_in (Line line_kind.SetField (a ∷ b ∷ [])) = Statement-F.Set (pointer_in a) (pointer_in b)
statement_in (Line line_kind.Print (a ∷ [])) = print_in a
statement_in _ = Statement-F.Return

-- an `if`, by whether an `else` was read
abbrev pub choice_with : Condition → List StatementAt → Option (List StatementAt) → Statement-F Statement StatementAt
choice_with condition here None = Statement-F.If condition here
choice_with condition here (Some following) = Statement-F.IfElse condition here following

abbrev pub choice : Condition → Level → Statement-F Statement StatementAt
choice condition level = choice_with condition level.here level.other

-- the part with one more statement before the others
abbrev pub with_statement : ℕ → Statement-F Statement StatementAt → Part → Part
with_statement number s part = record part { inner = record part.inner { here = record { line = number; statement = roll-Statement s } ∷ part.inner.here } }

-- a new block inside the others, and out of the innermost again
abbrev pub opened : Part → Part
opened part = record part { inner = no_statements; outer = part.inner ∷ part.outer }

abbrev pub left : List Level → Part → Part
left [] part = record part { inner = no_statements }
left (level ∷ outer) part = record part { inner = level; outer = outer }

abbrev pub closed : Part → Part
closed part = left part.outer part

abbrev pub index_in : List (Operand Referent) → ℕ
index_in (Name (referent.Declared index) ∷ operands) = index
index_in _ = 0

-- the body that was read
abbrev pub body_read : Part → Body
body_read part = record { locals = part.locals; statements = part.inner.here }

-- out of a body, by its first line
abbrev pub out_of_body : Part → Part
out_of_body part = record (closed part) { locals = [] }

-- the item that was read, by its first line
abbrev pub begun : ℕ → Item → Part → Part
begun index item part = record {
  locals = [];
  inner = (closed part).inner;
  outer = (closed part).outer;
  fields = [];
  construct = None;
  destroy = None;
  items = record { index = index; item = item } ∷ part.items;
}

abbrev pub class_read : ℕ → ℕ → Part → Item
class_read number extra part = Item.class (record { line = number; extra = extra; fields = part.fields; construct = part.construct; destroy = part.destroy })

abbrev pub procedure_read : ℕ → List (Operand Referent) → Part → Item
procedure_read number operands part = Item.procedure (record { line = number; parameters = parameters_in operands; body = body_read part })

abbrev pub operation_read : ℕ → Part → Item
operation_read number part = Item.operation (record { line = number; body = body_read part })

abbrev pub with_line : ℕ → Indexed → Part → Part
with_line number (Line line_kind.Class (Name (referent.Declared index) ∷ Size extra ∷ [])) part = begun index (class_read number extra part) part
with_line number (Line line_kind.Field operands) part = record part { fields = None ∷ part.fields }
with_line number (Line line_kind.ClassField (name ∷ Name owner ∷ [])) part = record part { fields = class_in owner ∷ part.fields }
with_line number (Line line_kind.Constructor operands) part = record (out_of_body part) { construct = Some (body_read part) }
with_line number (Line line_kind.Destructor operands) part = record (out_of_body part) { destroy = Some (body_read part) }
with_line number (Line line_kind.Proc operands) part = begun (index_in operands) (procedure_read number operands part) part
with_line number (Line line_kind.Op operands) part = begun (index_in operands) (operation_read number part) part
with_line number (Line line_kind.Ptr operands) part = record part { locals = OfPointer None ∷ part.locals }
with_line number (Line line_kind.ClassPtr (name ∷ Name owner ∷ [])) part = record part { locals = OfPointer (class_in owner) ∷ part.locals }
with_line number (Line line_kind.Int operands) part = record part { locals = OfNumber ∷ part.locals }
with_line number (Line line_kind.Buf (name ∷ Size max ∷ [])) part = record part { locals = OfBuffer max ∷ part.locals }
with_line number (Line line_kind.View operands) part = record part { locals = OfView ∷ part.locals }
with_line number (Line line_kind.End operands) part = opened part
with_line number (Line line_kind.Else operands) part = record part { inner = record { here = []; other = Some part.inner.here } }
with_line number (Line line_kind.IfNull (word ∷ a ∷ [])) part = with_statement number (choice (IsNull (pointer_in a)) part.inner) (closed part)
with_line number (Line line_kind.IfSome (word ∷ a ∷ [])) part = with_statement number (choice (NotNull (pointer_in a)) part.inner) (closed part)
with_line number (Line line_kind.IfEqual (word ∷ a ∷ b ∷ [])) part = with_statement number (choice (Equal (number_in a) (number_in b)) part.inner) (closed part)
with_line number (Line line_kind.IfLess (word ∷ a ∷ b ∷ [])) part = with_statement number (choice (Less (number_in a) (number_in b)) part.inner) (closed part)
with_line number (Line line_kind.Repeat (a ∷ [])) part = with_statement number (Statement-F.Repeat (number_in a) part.inner.here) (closed part)
with_line number (Line line_kind.Trap (a ∷ [])) part = with_statement number (Statement-F.Trap (variable_in a) part.inner.here) (closed part)
with_line number line part = with_statement number (statement_in line) part

abbrev pub with_lines : List Marked → Part → Part
with_lines [] part = part
with_lines (line ∷ lines) part = with_line (unwrap_or line.0 0) line.1 (with_lines lines part)

pub with_lines-append : (lines more : List Marked) (part : Part) → with_lines (lines ++ more) part ≡ with_lines lines (with_lines more part)
with_lines-append [] more part = refl
with_lines-append (line ∷ lines) more part = ap (with_line (unwrap_or line.0 0) line.1) (with_lines-append lines more part)
