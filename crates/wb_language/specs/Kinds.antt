-- Which operands are of the kinds that their lines take.
use Rattle.std.specs.Prelude.{List, [], ◌∷◌, Bool, true, false, not, ◌&&◌, ◌||◌, Option, Some, None, codes, length}
use Rattle.std.specs.List.{list_any}
use Rattle.wb_tree.specs.declared.script_lines.LineKind.{LineKind}
use Rattle.wb_tree.specs.declared.script_lines.LineKind.TheVariants as line_kind
use Rattle.wb_tree.specs.declared.script_lines.ItemKind.TheVariants as item
use Rattle.wb_tree.specs.declared.script_lines.OperandPlace.{OperandPlace}
use Rattle.wb_tree.specs.declared.script_lines.OperandPlace.TheVariants as operand_place
use Rattle.wb_tree.specs.declared.script_lines.BodyKind.{BodyKind}
use Rattle.wb_tree.specs.declared.script_lines.BodyKind.TheVariants as of
use Rattle.wb_tree.specs.declared.script_lines.ParameterType.{ParameterType}
use Rattle.wb_tree.specs.declared.script_lines.ParameterType.TheVariants as parameter_type
use Rattle.wb_tree.specs.declared.script_lines.Referent.{Referent}
use Rattle.wb_tree.specs.declared.script_lines.Referent.TheVariants as referent
use Rattle.wb_tree.specs.declared.script_lines.Operand.{Operand}
use Rattle.wb_tree.specs.declared.script_lines.Operand.TheVariants.{Name, Field, Number, Size, Literal, Parameter, Keyword}
use Rattle.wb_tree.specs.declared.script_lines.Form.{Form}
use Rattle.wb_tree.specs.declared.script_lines.Form.TheVariants.{Line}
use Rattle.wb_tree.specs.declared.script_lines.OperandKind.{OperandKind}
use Rattle.wb_tree.specs.declared.script_lines.OperandKind.TheVariants as operand_kind
use Rattle.wb_language.specs.LineKinds.{operand_places_for, takes, is_pointer_kind, may_leave_in}
use Rattle.wb_language.specs.Names.{Text, NamesSoFar, Declaration, first_name, is_among, parameters_in, line_kind_in, item_of_kind}
use Rattle.wb_language.specs.Resolved.{resolved_line}

abbrev pub operand_kind_of_name : Referent → OperandKind
operand_kind_of_name (referent.Declared index) = operand_kind.Declared
operand_kind_of_name (referent.Pointer index) = operand_kind.Pointer
operand_kind_of_name (referent.Number index) = operand_kind.Variable
operand_kind_of_name (referent.Buffer index) = operand_kind.Buffer
operand_kind_of_name (referent.View index) = operand_kind.View
operand_kind_of_name referent.This = operand_kind.This
operand_kind_of_name (referent.Class index) = operand_kind.Class
operand_kind_of_name (referent.Procedure index) = operand_kind.Procedure
operand_kind_of_name (referent.Operation index) = operand_kind.Operation
operand_kind_of_name _ = operand_kind.Nothing

-- a field of a class
abbrev pub operand_kind_of_field : Referent → OperandKind
operand_kind_of_field (referent.Field class index) = operand_kind.Field
operand_kind_of_field _ = operand_kind.Nothing

abbrev pub operand_kind_of_class : Referent → OperandKind
operand_kind_of_class (referent.Class index) = operand_kind.Parameter
operand_kind_of_class _ = operand_kind.Nothing

-- a parameter's class is one
abbrev pub operand_kind_of_type : ParameterType Referent → OperandKind
operand_kind_of_type (parameter_type.OfClass class) = operand_kind_of_class class
operand_kind_of_type _ = operand_kind.Parameter

abbrev pub operand_kind_of : Operand Referent → OperandKind
operand_kind_of (Name referent) = operand_kind_of_name referent
operand_kind_of (Field base field) = operand_kind_of_field field
operand_kind_of (Number z) = operand_kind.Number
operand_kind_of (Size n) = operand_kind.Size
operand_kind_of (Literal text) = operand_kind.Literal
operand_kind_of (Parameter name kind) = operand_kind_of_type kind
operand_kind_of Keyword = operand_kind.Keyword

-- an operand is of an operand kind that its place takes
abbrev pub is_right : OperandPlace → Operand Referent → Bool
is_right operand_place operand = takes operand_place (operand_kind_of operand)

abbrev pub are_right : List OperandPlace → List (Operand Referent) → Bool
are_right (operand_place ∷ operand_places) (operand ∷ operands) = is_right operand_place operand && are_right operand_places operands
are_right _ _ = true

abbrev pub same : Bool → Bool → Bool
same true b = b
same false b = not b

-- A `set` has two pointers, or none.
abbrev pub sides_agree : LineKind → List (Operand Referent) → Bool
sides_agree line_kind.Set (target ∷ source ∷ []) = same (is_pointer_kind (operand_kind_of target)) (is_pointer_kind (operand_kind_of source))
sides_agree _ _ = true

-- an argument of the kind that a parameter wants
abbrev pub is_given : ParameterType Text → Operand Referent → Bool
is_given parameter_type.Number operand = is_right operand_place.Value operand
is_given _ operand = is_right operand_place.Pointer operand

-- one for each parameter
abbrev pub are_given : List (ParameterType Text) → List (Operand Referent) → Bool
are_given [] [] = true
are_given (parameter ∷ parameters) (operand ∷ operands) = is_given parameter operand && are_given parameters operands
are_given _ _ = false

abbrev pub is_given_to : Option Declaration → List (Operand Referent) → Bool
is_given_to (Some i) operands = are_given i.parameters operands
is_given_to None operands = false

-- a procedure, and then its arguments
abbrev pub call_agrees : List Declaration → List (Operand Referent) → Bool
call_agrees items (Name (referent.Procedure index) ∷ operands) = is_given_to (item_of_kind item.Procedure items index) operands
call_agrees items _ = true

-- A call gives what the procedure takes.
abbrev pub arguments_agree : List Declaration → LineKind → List (Operand Referent) → Bool
arguments_agree items line_kind.Call operands = call_agrees items operands
arguments_agree items line_kind.CallTo (target ∷ operands) = call_agrees items operands
arguments_agree items _ _ = true

abbrev pub is_right_line : List Declaration → Form Referent → Bool
is_right_line items (Line line_kind operands) = are_right (operand_places_for line_kind (length operands)) operands && (sides_agree line_kind operands && arguments_agree items line_kind operands)
is_right_line items _ = true

abbrev pub is_nothing : {X : Type 0} → List X → Bool
is_nothing [] = true
is_nothing (x ∷ xs) = false

abbrev pub is_class_line_kind : LineKind → Bool
is_class_line_kind line_kind.Class = true
is_class_line_kind _ = false

-- a line that gives `main` parameters, or makes it an operation, which has one, or a class
abbrev pub misuses_main : Form Text → Bool
misuses_main form = is_among (first_name form) (codes "main") && (not (is_nothing (parameters_in form)) || list_any is_class_line_kind (line_kind_in form))

abbrev pub ends_body : LineKind → Bool
ends_body line_kind.Return = true
ends_body line_kind.ReturnPointer = true
ends_body _ = false

abbrev pub is_trap : LineKind → Bool
is_trap line_kind.Trap = true
is_trap _ = false

-- a `return` inside a TRAP
abbrev pub returns_in_trap : NamesSoFar → Form Text → Bool
returns_in_trap known form = list_any ends_body (line_kind_in form) && list_any is_trap known.blocks

abbrev pub is_of_procedure : BodyKind → Bool
is_of_procedure of.Procedure = true
is_of_procedure _ = false

abbrev pub returns_pointer : LineKind → Bool
returns_pointer line_kind.ReturnPointer = true
returns_pointer _ = false

-- a `return` with a pointer outside of a procedure
abbrev pub returns_outside : NamesSoFar → Form Text → Bool
returns_outside known form = list_any returns_pointer (line_kind_in form) && not (is_of_procedure known.body)

-- a line with an operand of another kind than it takes, or that has no place where it is
abbrev pub has_wrong_kind : List Declaration → NamesSoFar → Form Text → Bool
has_wrong_kind items known form =
    not (is_right_line items (resolved_line items known form)) || (misuses_main form || (returns_in_trap known form || returns_outside known form))

-- a line of an operation or of a destructor that may leave
abbrev pub may_leave : NamesSoFar → Form Text → Bool
may_leave known form = list_any (may_leave_in known.body) (line_kind_in form)
