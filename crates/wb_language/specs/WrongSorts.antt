-- Which line is wrong in the sort of something that it names, or has no place where it is, said of the lines of a script.
use Rattle.std.specs.Prelude.{◌≡◌, ◌⊎◌, ◌≤◌, List, [], ◌∷◌, ◌++◌, Bool, true, false, Some}
use Rattle.std.specs.List.{list_any}
use Rattle.wb_tree.specs.declared.script_lines.ItemKind.{ItemKind}
use Rattle.wb_tree.specs.declared.script_lines.ItemKind.TheVariants as item
use Rattle.wb_tree.specs.declared.script_lines.LineKind.{LineKind}
use Rattle.wb_tree.specs.declared.script_lines.LineKind.TheVariants as line_kind
use Rattle.wb_tree.specs.declared.script_lines.LocalKind.{LocalKind}
use Rattle.wb_tree.specs.declared.script_lines.LocalKind.TheVariants as kind
use Rattle.wb_tree.specs.declared.script_lines.OperandPlace.{OperandPlace}
use Rattle.wb_tree.specs.declared.script_lines.OperandPlace.TheVariants as operand_place
use Rattle.wb_tree.specs.declared.script_lines.OperandKind.{OperandKind}
use Rattle.wb_tree.specs.declared.script_lines.OperandKind.TheVariants as operand_kind
use Rattle.wb_tree.specs.declared.script_lines.ParameterType.{ParameterType}
use Rattle.wb_tree.specs.declared.script_lines.ParameterType.TheVariants as parameter_type
use Rattle.wb_tree.specs.declared.script_lines.Operand.{Operand}
use Rattle.wb_tree.specs.declared.script_lines.Operand.TheVariants.{Name, Field, Number, Size, Literal, Parameter, Keyword}
use Rattle.wb_tree.specs.declared.script_lines.Form.{Form}
use Rattle.wb_tree.specs.declared.script_lines.Form.TheVariants.{Line}
use Rattle.wb_language.specs.DeclaredAgain.{Space, begins_space, declares_in}
use Rattle.wb_language.specs.Forms.{role_of_form}
use Rattle.wb_language.specs.Kinds.{ends_body, is_trap, misuses_main, returns_pointer, same}
use Rattle.wb_language.specs.LineKinds.{is_pointer_kind, takes}
use Rattle.wb_language.specs.MissedFields.{DeclareField, IsClassNamed, IsClassOf, IsHeldAs}
use Rattle.wb_language.specs.Names.{Text, item_kind_in, line_kind_in, parameters_in}
use Rattle.wb_language.specs.PassedLimits.{count_of, is_block_role, is_end_role, is_in_no_body}
use Rattle.wb_language.specs.Resolved.{is_this}
use Rattle.wb_language.specs.Undeclared.{IsDeclared, used_in}

-- the first line that declares a name in the script's own space is this one, and begins one of a kind
abbrev pub IsItemNamed : List (Form Text) → Text → ItemKind → Form Text → Type 0
IsItemNamed forms name kind head =
    (earlier following : List (Form Text)) × (forms ≡ earlier ++ head ∷ following) × (declares_in Space.of_script name head ≡ true) × (list_any (declares_in Space.of_script name) earlier ≡ false) × (item_kind_in head ≡ Some kind)

-- the sort of what a name of the script's own space names
abbrev pub sort_of_item : ItemKind → OperandKind
sort_of_item item.Class = operand_kind.Class
sort_of_item item.Procedure = operand_kind.Procedure
sort_of_item item.Operation = operand_kind.Operation

-- and of a local or a parameter
abbrev pub sort_of_local : LocalKind Text → OperandKind
sort_of_local (kind.Pointer class) = operand_kind.Pointer
sort_of_local kind.Number = operand_kind.Variable
sort_of_local kind.Buffer = operand_kind.Buffer
sort_of_local kind.View = operand_kind.View

abbrev pub NamesItem : List (Form Text) → Text → OperandKind → Type 0
NamesItem forms name sort = (kind : ItemKind) × (head : Form Text) × (sort ≡ sort_of_item kind) × IsItemNamed forms name kind head

-- `self` in a body of a class, or what the first declaration of the name in its body holds
abbrev pub NamesLocal : List (Form Text) → Text → OperandKind → Type 0
NamesLocal before name sort =
    ((is_this name ≡ true) × (sort ≡ operand_kind.This) × IsDeclared before name)
    ⊎ ((is_this name ≡ false) × (kind : LocalKind Text) × (sort ≡ sort_of_local kind) × IsHeldAs before name kind)

-- what a name names in a place of a line: something new, an item of the script's own space, or a local of the body
abbrev pub NamesSort : List (Form Text) → List (Form Text) → OperandPlace → Text → OperandKind → Type 0
NamesSort forms before operand_place.Declared name sort = sort ≡ operand_kind.Declared
NamesSort forms before operand_place.Class name sort = NamesItem forms name sort
NamesSort forms before operand_place.Procedure name sort = NamesItem forms name sort
NamesSort forms before operand_place.Operation name sort = NamesItem forms name sort
NamesSort forms before _ name sort = NamesLocal before name sort

-- the class of a parameter is one
abbrev pub TakesSort : List (Form Text) → ParameterType Text → Type 0
TakesSort forms (parameter_type.OfClass class) = (following : List (Form Text)) × IsClassNamed forms class following
TakesSort forms _ = Unit {0}

-- the sort of an operand in a place of a line, after these lines
abbrev pub IsOfSort : List (Form Text) → List (Form Text) → OperandPlace → Operand Text → OperandKind → Type 0
IsOfSort forms before place (Name name) sort = NamesSort forms before place name sort
IsOfSort forms before place (Field base field) sort = (sort ≡ operand_kind.Field) × (following : List (Form Text)) × IsClassOf forms before base following × DeclareField following field
IsOfSort forms before place (Number z) sort = sort ≡ operand_kind.Number
IsOfSort forms before place (Size n) sort = sort ≡ operand_kind.Size
IsOfSort forms before place (Literal text) sort = sort ≡ operand_kind.Literal
IsOfSort forms before place (Parameter name type) sort = (sort ≡ operand_kind.Parameter) × TakesSort forms type
IsOfSort forms before place Keyword sort = sort ≡ operand_kind.Keyword

-- an operand is of a sort that a place of a line takes
abbrev pub IsTaken : List (Form Text) → List (Form Text) → OperandPlace → OperandPlace → Operand Text → Type 0
IsTaken forms before taker place operand = (sort : OperandKind) × IsOfSort forms before place operand sort × (takes taker sort ≡ true)

-- an operand with its place
abbrev pub placed : OperandPlace → Operand Text → List (OperandPlace × Operand Text)
placed place operand = (place, operand) ∷ []

-- an operand of the line is of no sort that its place takes
abbrev pub HasWrongOperand : List (Form Text) → List (Form Text) → Form Text → Type 0
HasWrongOperand forms before form =
    (place : OperandPlace) × (operand : Operand Text) × (first last : List (OperandPlace × Operand Text)) × (used_in placed form ≡ first ++ (place, operand) ∷ last) × (IsTaken forms before place place operand → ⊥)

-- One side of a `set` is a pointer and the other is none.
abbrev pub SidesDiffer : List (Form Text) → List (Form Text) → Form Text → Type 0
SidesDiffer forms before form =
    (target source : Operand Text) × (written read : OperandKind) × (form ≡ Line line_kind.Set (target ∷ source ∷ [])) × IsOfSort forms before operand_place.Target target written
    × IsOfSort forms before operand_place.Source source read × (same (is_pointer_kind written) (is_pointer_kind read) ≡ false)

-- what an argument must be, by the parameter that it is for
abbrev pub place_for : ParameterType Text → OperandPlace
place_for parameter_type.Number = operand_place.Value
place_for _ = operand_place.Pointer

-- there is an argument for each parameter, of a sort that it takes
abbrev pub ArgumentsFit : List (Form Text) → List (Form Text) → List (ParameterType Text) → List (Operand Text) → Type 0
ArgumentsFit forms before [] [] = Unit {0}
ArgumentsFit forms before (parameter ∷ parameters) (argument ∷ arguments) = IsTaken forms before (place_for parameter) operand_place.Argument argument × ArgumentsFit forms before parameters arguments
ArgumentsFit forms before _ _ = ⊥

-- a call's procedure, and then its arguments
abbrev pub called_by : LineKind → List (Operand Text) → List (Operand Text)
called_by line_kind.Call operands = operands
called_by line_kind.CallTo (target ∷ operands) = operands
called_by _ _ = []

-- The arguments of a call don't fit the parameters of the procedure that it names.
abbrev pub CallsWrongly : List (Form Text) → List (Form Text) → Form Text → Type 0
CallsWrongly forms before form =
    (line_kind : LineKind) × (operands arguments : List (Operand Text)) × (procedure : Text) × (head : Form Text) × (form ≡ Line line_kind operands) × (called_by line_kind operands ≡ Name procedure ∷ arguments)
    × IsItemNamed forms procedure item.Procedure head × (ArgumentsFit forms before (parameters_in head) arguments → ⊥)

-- A block is still open after these lines that follow its head: they are all in its body, and no first part of them has more ends than
-- heads of blocks. So its own end isn't among them.
abbrev pub LeaveOpen : List (Form Text) → Type 0
LeaveOpen inside = (list_any (λ form. is_in_no_body (role_of_form form)) inside ≡ false) × ((first last : List (Form Text)) → inside ≡ first ++ last → count_of is_end_role first ≤ count_of is_block_role first)

-- the head of a TRAP's block
abbrev pub heads_trap : Form Text → Bool
heads_trap form = list_any is_trap (line_kind_in form)

-- after these lines a TRAP's block is open
abbrev pub IsInTrap : List (Form Text) → Type 0
IsInTrap before = (earlier inside : List (Form Text)) × (head : Form Text) × (before ≡ earlier ++ head ∷ inside) × (heads_trap head ≡ true) × LeaveOpen inside

-- the head of an operation or of a body of a class
abbrev pub heads_no_procedure : Form Text → Bool
heads_no_procedure (Line line_kind.Op operands) = true
heads_no_procedure (Line line_kind.Constructor operands) = true
heads_no_procedure (Line line_kind.Destructor operands) = true
heads_no_procedure _ = false

-- the body that is open after these lines is none of a procedure
abbrev pub IsInNoProcedure : List (Form Text) → Type 0
IsInNoProcedure before = (outside inside : List (Form Text)) × (head : Form Text) × (before ≡ outside ++ head ∷ inside) × (heads_no_procedure head ≡ true) × (list_any (begins_space Space.of_body) inside ≡ false)

-- The line is wrong after these lines: an operand is of another sort than its place takes, as a field of a pointer without a class, a field as
-- the target of `callto`, or `self` where it would be written; the sides of a `set` differ; the arguments of a call don't fit; `main` has
-- parameters, or is a class or an operation; a `return` is inside a TRAP; or one with a pointer is outside of a procedure.
pub data IsWrong (forms before : List (Form Text)) (form : Form Text) : Type 0 where
  operand : HasWrongOperand forms before form → IsWrong forms before form
  sides : SidesDiffer forms before form → IsWrong forms before form
  arguments : CallsWrongly forms before form → IsWrong forms before form
  main : misuses_main form ≡ true → IsWrong forms before form
  trapped : list_any ends_body (line_kind_in form) ≡ true → IsInTrap before → IsWrong forms before form
  outside : list_any returns_pointer (line_kind_in form) ≡ true → IsInNoProcedure before → IsWrong forms before form
