-- Which trees are scripts: those that keep the checks and the limits of the lines that the reader knows. Whoever runs a
-- script asks for such a tree, and the reader gives no other.
use Rattle.std.specs.Prelude.{ℕ, zero, suc, ◌+◌, pos, negsuc, List, Bool, true, false, not, ◌&&◌, is_some, nat_eq, nat_le, nat_lt, Option, Some, None, [], ◌∷◌, ◌++◌, length, map, slice_get}
use Rattle.std.specs.List.{list_all}
use Rattle.wb_basics.specs.declared.limits.TheConstants.{LONGEST_LITERAL, LARGEST_BUFFER, NINE_DIGITS, MOST_CLASSES, MOST_FIELDS, MOST_EXTRA, MOST_LOCALS, MOST_PROCEDURES, DEEPEST_BLOCK, MOST_PARAMETERS}
use Rattle.wb_tree.specs.Spellings.{its_parameters}
use Rattle.wb_tree.specs.Quiet.{is_quiet}
use Rattle.wb_tree.specs.declared.script.Script.{Script}
use Rattle.wb_tree.specs.declared.script.Body.{Body}
use Rattle.wb_tree.specs.declared.script.Class.{Class}
use Rattle.wb_tree.specs.declared.script.Procedure.{Procedure}
use Rattle.wb_tree.specs.declared.script.Operation.{Operation}
use Rattle.wb_tree.specs.declared.script.Parameter.{Parameter}
use Rattle.wb_tree.specs.declared.script.Parameter.TheVariants as parameter
use Rattle.wb_tree.specs.declared.script.Argument.{Argument}
use Rattle.wb_tree.specs.declared.script.Argument.TheVariants.{Passed, Given}
use Rattle.wb_tree.specs.declared.script.Local.{Local}
use Rattle.wb_tree.specs.declared.script.Local.TheVariants.{OfPointer, OfNumber, OfBuffer, OfView}
use Rattle.wb_tree.specs.declared.script.Holder.{Holder}
use Rattle.wb_tree.specs.declared.script.Holder.TheVariants as H
use Rattle.wb_tree.specs.declared.script.Pointer.{Pointer}
use Rattle.wb_tree.specs.declared.script.Pointer.TheVariants.{Held, Field}
use Rattle.wb_tree.specs.declared.script.Number.{Number}
use Rattle.wb_tree.specs.declared.script.Number.TheVariants.{Constant, Variable}
use Rattle.wb_tree.specs.declared.script.Writable.{Writable}
use Rattle.wb_tree.specs.declared.script.Writable.TheVariants.{OwnBuffer, InCell}
use Rattle.wb_tree.specs.declared.script.Readable.{Readable}
use Rattle.wb_tree.specs.declared.script.Readable.TheVariants.{Of, ViewOf, Quoted}
use Rattle.wb_tree.specs.declared.script.Condition.{Condition}
use Rattle.wb_tree.specs.declared.script.Condition.TheVariants.{IsNull, NotNull, Equal, Less}
use Rattle.wb_tree.specs.declared.script.StatementAt.{StatementAt}
use Rattle.wb_tree.specs.declared.script.Statement.{Statement}
use Rattle.wb_tree.specs.declared.script.Statement.TheOpen.{Statement-F}
use Rattle.wb_tree.specs.declared.script.Statement.TheViews.{out-Statement}

-- What the statements of a body may name beside numbers and texts: its locals, its parameters first; the class of `self`, in the
-- body of a class; and how many fields each class of the script has.
pub record Scope : Type 0 where
  pub locals : List Local
  pub this : Option ℕ
  pub fields : List ℕ

-- one of a number of classes, where there is one
abbrev pub is_class_among : ℕ → Option ℕ → Bool
is_class_among classes (Some class) = nat_lt class classes
is_class_among classes None = true

-- A pointer's class is one of so many. A buffer's maximum is within its limit.
abbrev pub is_local : ℕ → Local → Bool
is_local classes (OfPointer class) = is_class_among classes class
is_local classes OfNumber = true
is_local classes (OfBuffer max) = nat_le max LARGEST_BUFFER
is_local classes OfView = true

abbrev pub is_pointer_local : Option Local → Bool
is_pointer_local (Some (OfPointer class)) = true
is_pointer_local _ = false

abbrev pub is_number_local : Option Local → Bool
is_number_local (Some OfNumber) = true
is_number_local _ = false

abbrev pub is_buffer_local : Option Local → Bool
is_buffer_local (Some (OfBuffer max)) = true
is_buffer_local _ = false

abbrev pub is_view_local : Option Local → Bool
is_view_local (Some OfView) = true
is_view_local _ = false

-- the class that a pointer local is declared with
abbrev pub class_of_local : Option Local → Option ℕ
class_of_local (Some (OfPointer class)) = class
class_of_local _ = None

-- the class of what a local or `self` is declared to point to
abbrev pub class_of_holder : Scope → Holder → Option ℕ
class_of_holder scope (H.Local i) = class_of_local (slice_get scope.locals i)
class_of_holder scope H.This = scope.this

abbrev pub is_class : ℕ → Option ℕ → Bool
is_class class (Some k) = nat_eq class k
is_class class None = false

-- an index among so many
abbrev pub is_index : ℕ → Option ℕ → Bool
is_index i (Some count) = nat_lt i count
is_index i None = false

-- a local that holds a pointer, `self`, or a field of one of these by its class
abbrev pub is_pointer : Scope → Pointer → Bool
is_pointer scope (Held (H.Local i)) = is_pointer_local (slice_get scope.locals i)
is_pointer scope (Held H.This) = is_some scope.this
is_pointer scope (Field holder class i) = is_class class (class_of_holder scope holder) && is_index i (slice_get scope.fields class)

-- a pointer that a statement writes: `self` is none
abbrev pub is_target : Scope → Pointer → Bool
is_target scope (Held H.This) = false
is_target scope p = is_pointer scope p

-- a local that holds a number
abbrev pub is_variable : List Local → ℕ → Bool
is_variable locals i = is_number_local (slice_get locals i)

-- one to nine digits, or a local that holds a number
abbrev pub is_number : List Local → Number → Bool
is_number locals (Constant (pos n)) = nat_le n NINE_DIGITS
is_number locals (Constant (negsuc n)) = nat_lt n NINE_DIGITS
is_number locals (Variable i) = is_variable locals i

-- a text of a local's own, or the cell of a pointer
abbrev pub is_writable : Scope → Writable → Bool
is_writable scope (OwnBuffer i) = is_buffer_local (slice_get scope.locals i)
is_writable scope (InCell p) = is_pointer scope p

-- a local that holds a view
abbrev pub is_view : List Local → ℕ → Bool
is_view locals i = is_view_local (slice_get locals i)

abbrev pub is_readable : ℕ → Scope → Readable → Bool
is_readable literals scope (Of w) = is_writable scope w
is_readable literals scope (ViewOf i) = is_view scope.locals i
is_readable literals scope (Quoted i) = nat_lt i literals

-- what an `if` asks
abbrev pub is_condition : Scope → Condition → Bool
is_condition scope (IsNull p) = is_pointer scope p
is_condition scope (NotNull p) = is_pointer scope p
is_condition scope (Equal v w) = is_number scope.locals v && is_number scope.locals w
is_condition scope (Less v w) = is_number scope.locals v && is_number scope.locals w

-- a statement with no other inside it and that begins no body, but for the ends of bodies, over a scope and a number of literals
abbrev pub is_statement : ℕ → Scope → Statement-F Statement StatementAt → Bool
is_statement literals scope (Statement-F.Alloc p v refusal) = is_target scope p && is_number scope.locals v
is_statement literals scope (Statement-F.Realloc p q v refusal) = is_target scope p && (is_pointer scope q && is_number scope.locals v)
is_statement literals scope (Statement-F.Free p) = is_pointer scope p
is_statement literals scope (Statement-F.AllocLen x p) = is_variable scope.locals x && is_pointer scope p
is_statement literals scope (Statement-F.Store p v w) = is_pointer scope p && (is_number scope.locals v && is_number scope.locals w)
is_statement literals scope (Statement-F.Load x p v) = is_variable scope.locals x && (is_pointer scope p && is_number scope.locals v)
is_statement literals scope (Statement-F.New p class refusal) = is_target scope p && nat_lt class (length scope.fields)
is_statement literals scope (Statement-F.Set p q) = is_target scope p && is_pointer scope q
is_statement literals scope (Statement-F.SetNumber x v) = is_variable scope.locals x && is_number scope.locals v
is_statement literals scope (Statement-F.SetNull p) = is_target scope p
is_statement literals scope (Statement-F.Add x v) = is_variable scope.locals x && is_number scope.locals v
is_statement literals scope (Statement-F.Push p) = is_pointer scope p
is_statement literals scope (Statement-F.PushObject p) = is_pointer scope p
is_statement literals scope (Statement-F.Pop v) = is_number scope.locals v
is_statement literals scope (Statement-F.PopDestroy v) = is_number scope.locals v
is_statement literals scope (Statement-F.PopCheck p) = is_pointer scope p
is_statement literals scope (Statement-F.Leave v) = is_number scope.locals v
is_statement literals scope (Statement-F.LeaveIfError v) = is_number scope.locals v
is_statement literals scope (Statement-F.LeaveIfNull p) = is_pointer scope p
is_statement literals scope Statement-F.Mark = true
is_statement literals scope (Statement-F.MarkEnd v) = is_number scope.locals v
is_statement literals scope (Statement-F.Check v) = is_number scope.locals v
is_statement literals scope (Statement-F.CheckAll v) = is_number scope.locals v
is_statement literals scope (Statement-F.FailNext v) = is_number scope.locals v
is_statement literals scope (Statement-F.FailEvery v) = is_number scope.locals v
is_statement literals scope Statement-F.FailNone = true
is_statement literals scope (Statement-F.NewText p v refusal) = is_target scope p && is_number scope.locals v
is_statement literals scope (Statement-F.ReallocText p q v) = is_target scope p && (is_pointer scope q && is_number scope.locals v)
is_statement literals scope (Statement-F.Copy d t) = is_writable scope d && is_readable literals scope t
is_statement literals scope (Statement-F.Append d t) = is_writable scope d && is_readable literals scope t
is_statement literals scope (Statement-F.Insert d v t) = is_writable scope d && (is_number scope.locals v && is_readable literals scope t)
is_statement literals scope (Statement-F.DeleteText d v w) = is_writable scope d && (is_number scope.locals v && is_number scope.locals w)
is_statement literals scope (Statement-F.SetLength d v) = is_writable scope d && is_number scope.locals v
is_statement literals scope (Statement-F.Left x t v) = is_view scope.locals x && (is_readable literals scope t && is_number scope.locals v)
is_statement literals scope (Statement-F.Right x t v) = is_view scope.locals x && (is_readable literals scope t && is_number scope.locals v)
is_statement literals scope (Statement-F.Mid x t v w) = is_view scope.locals x && (is_readable literals scope t && (is_number scope.locals v && is_number scope.locals w))
is_statement literals scope (Statement-F.GetLength x t) = is_variable scope.locals x && is_readable literals scope t
is_statement literals scope (Statement-F.GetMaximum x d) = is_variable scope.locals x && is_writable scope d
is_statement literals scope (Statement-F.PrintText t) = is_readable literals scope t
is_statement literals scope (Statement-F.PrintNumber v) = is_number scope.locals v
is_statement literals scope Statement-F.NoteHeap = true
is_statement literals scope Statement-F.NoteAvailable = true
is_statement literals scope Statement-F.NoteCompress = true
is_statement literals scope _ = false

-- the same and the end of a body, which isn't in a TRAP
abbrev pub is_simple : ℕ → Scope → Bool → Statement-F Statement StatementAt → Bool
is_simple literals scope trapped Statement-F.Return = not trapped
is_simple literals scope trapped (Statement-F.ReturnPointer p) = not trapped && is_pointer scope p
is_simple literals scope trapped layer = is_statement literals scope layer

-- what a script declares that all its statements may name: how many literals, how many fields each class has, the parameters of
-- each procedure, and how many operations
pub record Declared : Type 0 where
  pub literals : ℕ
  pub fields : List ℕ
  pub signatures : List (List Parameter)
  pub operations : ℕ

-- a parameter gets an argument of its own kind
abbrev pub is_passed : Scope → Parameter → Argument → Bool
is_passed scope (parameter.OfPointer class) (Passed p) = is_pointer scope p
is_passed scope parameter.OfNumber (Given v) = is_number scope.locals v
is_passed scope _ _ = false

-- each parameter gets one
abbrev pub are_passed : Scope → List Parameter → List Argument → Bool
are_passed scope [] [] = true
are_passed scope (p ∷ ps) (a ∷ arguments) = is_passed scope p a && are_passed scope ps arguments
are_passed scope _ _ = false

-- a procedure with these parameters is called with these arguments
abbrev pub is_called : Scope → Option (List Parameter) → List Argument → Bool
is_called scope (Some parameters) arguments = are_passed scope parameters arguments
is_called scope None arguments = false

abbrev pub is_call : List (List Parameter) → Scope → ℕ → List Argument → Bool
is_call signatures scope index arguments = is_called scope (slice_get signatures index) arguments

-- a statement with what is inside it, in a TRAP or not; `inside` says which blocks may be there
abbrev pub is_nested : Declared → Scope → Bool → (Bool → List StatementAt → Bool) → Statement-F Statement StatementAt → Bool
is_nested declared scope trapped inside (Statement-F.Call n arguments) = is_call declared.signatures scope n arguments
is_nested declared scope trapped inside (Statement-F.CallTo x n arguments) = is_pointer_local (slice_get scope.locals x) && is_call declared.signatures scope n arguments
is_nested declared scope trapped inside (Statement-F.Construct p) = is_pointer scope p
is_nested declared scope trapped inside (Statement-F.Delete p) = is_pointer scope p
is_nested declared scope trapped inside (Statement-F.PushOperation p n) = is_pointer scope p && nat_lt n declared.operations
is_nested declared scope trapped inside (Statement-F.If c first) = is_condition scope c && inside trapped first
is_nested declared scope trapped inside (Statement-F.IfElse c first other) = is_condition scope c && (inside trapped first && inside trapped other)
is_nested declared scope trapped inside (Statement-F.Repeat v body) = is_number scope.locals v && inside trapped body
is_nested declared scope trapped inside (Statement-F.Trap x body) = is_variable scope.locals x && inside true body
is_nested declared scope trapped inside layer = is_simple declared.literals scope trapped layer

-- statements, with fewer blocks inside one another than this
abbrev pub are_within : Declared → Scope → ℕ → Bool → List StatementAt → Bool
are_within declared scope zero trapped statements = false
are_within declared scope (suc depth) trapped statements =
    list_all (λ s. is_nested declared scope trapped (are_within declared scope depth) (out-Statement s.statement)) statements

-- the statements of a body
abbrev pub are_statements : Declared → Scope → List StatementAt → Bool
are_statements declared scope statements = are_within declared scope (suc DEEPEST_BLOCK) false statements

-- a parameter is a local that its caller gives a value
abbrev pub is_parameter : ℕ → Parameter → Bool
is_parameter classes (parameter.OfPointer class) = is_class_among classes class
is_parameter classes parameter.OfNumber = true

abbrev pub local_of_parameter : Parameter → Local
local_of_parameter (parameter.OfPointer class) = OfPointer class
local_of_parameter parameter.OfNumber = OfNumber

-- the locals of a procedure: its parameters, and then those that its body declares
abbrev pub locals_of : List Parameter → List Local → List Local
locals_of parameters locals = map local_of_parameter parameters ++ locals

-- a body over its scope
abbrev pub is_body : Declared → Scope → List StatementAt → Bool
is_body declared scope statements =
    list_all (is_local (length scope.fields)) scope.locals && nat_le (length scope.locals) MOST_LOCALS && are_statements declared scope statements

-- the scope of a body after these parameters, in a class or in none
abbrev pub scope_of : Declared → Option ℕ → List Parameter → Body → Scope
scope_of declared this parameters body = record { locals = locals_of parameters body.locals; this = this; fields = declared.fields }

abbrev pub is_procedure : Declared → Procedure → Bool
is_procedure declared p =
    list_all (is_parameter (length declared.fields)) p.parameters && nat_le (length p.parameters) MOST_PARAMETERS
    && is_body declared (scope_of declared None p.parameters p.body) p.body.statements

-- an operation
abbrev pub is_operation : Declared → Operation → Bool
is_operation declared o = is_body declared (scope_of declared None its_parameters o.body) o.body.statements

-- a body of a class, where it has it
abbrev pub is_own_body : Declared → ℕ → Option Body → Bool
is_own_body declared class (Some body) = is_body declared (scope_of declared (Some class) [] body) body.statements
is_own_body declared class None = true

-- the class with an index
abbrev pub is_class_of : Declared → ℕ → Class → Bool
is_class_of declared index c =
    (nat_le (length c.fields) MOST_FIELDS && nat_le c.extra MOST_EXTRA) && list_all (is_class_among (length declared.fields)) c.fields
    && (is_own_body declared index c.construct && is_own_body declared index c.destroy)

-- classes, from an index on
abbrev pub are_classes : Declared → ℕ → List Class → Bool
are_classes declared index [] = true
are_classes declared index (c ∷ classes) = is_class_of declared index c && are_classes declared (suc index) classes

-- what may be between quotes
abbrev pub is_quotable : ℕ → Bool
is_quotable byte = nat_le 32 byte && nat_le byte 126 && not (nat_eq byte 34)

-- the text of a literal: no more bytes than a script has
abbrev pub is_literal_text : List ℕ → Bool
is_literal_text text = list_all is_quotable text && nat_le (length text) LONGEST_LITERAL

-- how many fields each class has
abbrev pub fields_declared : List Class → List ℕ
fields_declared classes = map (λ c. length c.fields) classes

abbrev pub signatures_of : List Procedure → List (List Parameter)
signatures_of procedures = map (λ p. p.parameters) procedures

abbrev pub declared_in : Script → Declared
declared_in script = record {
  literals = length script.literals;
  fields = fields_declared script.classes;
  signatures = signatures_of script.procedures;
  operations = length script.operations;
}

-- a procedure that takes nothing
abbrev pub is_entry : Option (List Parameter) → Bool
is_entry (Some []) = true
is_entry _ = false

-- so many classes, procedures and operations as there may be, and a procedure to begin with
abbrev pub are_few : Script → Bool
are_few script =
    nat_le (length script.classes) MOST_CLASSES
    && (nat_le (length script.procedures + length script.operations) MOST_PROCEDURES && is_entry (slice_get (signatures_of script.procedures) script.main))

-- a tree that keeps the checks and the limits of lines, but for which lines may leave
abbrev pub is_sound_script : Script → Bool
is_sound_script script =
    are_few script
    && (are_classes (declared_in script) 0 script.classes
    && (list_all (is_procedure (declared_in script)) script.procedures
    && (list_all (is_operation (declared_in script)) script.operations && list_all is_literal_text script.literals)))

-- a script: such a tree, whose operations and destructors cannot leave
abbrev pub is_script : Script → Bool
is_script script = is_sound_script script && is_quiet script
