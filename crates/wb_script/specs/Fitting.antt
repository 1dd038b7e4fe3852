-- Which operands fit their lines, in a scope and among what the script declares.
use Rattle.std.specs.Prelude.{◌≡◌, ℕ, List, [], ◌∷◌, Bool, true, false, ◌&&◌, if◌then◌else◌, nat_lt, is_some, Option, Some, None, IsTrue, MatchOption, length, slice_get}
use Rattle.wb_tree.specs.declared.script_lines.LineKind.{LineKind}
use Rattle.wb_tree.specs.declared.script_lines.LineKind.TheVariants as line_kind
use Rattle.wb_tree.specs.declared.script_lines.OperandPlace.{OperandPlace}
use Rattle.wb_tree.specs.declared.script_lines.OperandPlace.TheVariants as operand_place
use Rattle.wb_tree.specs.declared.script_lines.Referent.{Referent}
use Rattle.wb_tree.specs.declared.script_lines.Referent.TheVariants as referent
use Rattle.wb_tree.specs.declared.script_lines.Operand.{Operand}
use Rattle.wb_tree.specs.declared.script_lines.Operand.TheVariants.{Name, Field, Number, Size, Literal, Parameter, Keyword}
use Rattle.wb_tree.specs.declared.script_lines.ParameterType.{ParameterType}
use Rattle.wb_tree.specs.declared.script_lines.ParameterType.TheVariants.{OfClass}
use Rattle.wb_tree.specs.declared.script.Holder.TheVariants as H
use Rattle.wb_tree.specs.declared.script.Pointer.TheVariants as P
use Rattle.wb_tree.specs.declared.script.Parameter as model
use Rattle.wb_tree.specs.declared.script.Parameter.TheVariants as parameter
use Rattle.wb_tree.specs.declared.script.Number.TheVariants.{Constant}
use Rattle.wb_language.specs.LineKinds.{operand_places_for, takes}
use Rattle.wb_language.specs.Kinds.{operand_kind_of}
use Rattle.wb_tree.specs.Spellings.{Spelled}
use Rattle.wb_tree.specs.Sound.{Scope, Declared, is_pointer, is_pointer_local, is_buffer_local, is_view, is_variable, is_number}

-- what a name stands for is there
abbrev pub is_name_there : Scope → Referent → Bool
is_name_there scope (referent.Pointer index) = is_pointer_local (slice_get scope.locals index)
is_name_there scope referent.This = is_some scope.this
is_name_there scope (referent.Number index) = is_variable scope.locals index
is_name_there scope (referent.Buffer index) = is_buffer_local (slice_get scope.locals index)
is_name_there scope (referent.View index) = is_view scope.locals index
is_name_there scope (referent.Class index) = nat_lt index (length scope.fields)
is_name_there scope _ = true

-- a field of the class that what holds a pointer is declared with
abbrev pub is_field_there : Scope → Referent → Referent → Bool
is_field_there scope (referent.Pointer index) (referent.Field class i) = is_pointer scope (P.Field (H.Local index) class i)
is_field_there scope referent.This (referent.Field class i) = is_pointer scope (P.Field H.This class i)
is_field_there scope _ _ = false

-- a parameter's class is there
abbrev pub is_parameter_type_there : Scope → ParameterType Referent → Bool
is_parameter_type_there scope (OfClass (referent.Class index)) = nat_lt index (length scope.fields)
is_parameter_type_there scope (OfClass _) = false
is_parameter_type_there scope _ = true

-- What an operand names is there, but for procedures and operations; a number has nine digits at most.
abbrev pub is_there : ℕ → Scope → Operand Referent → Bool
is_there literals scope (Name referent) = is_name_there scope referent
is_there literals scope (Field base field) = is_field_there scope base field
is_there literals scope (Number z) = is_number scope.locals (Constant z)
is_there literals scope (Size n) = true
is_there literals scope (Literal (referent.Literal index)) = nat_lt index literals
is_there literals scope (Literal _) = false
is_there literals scope (Parameter referent.Parameter kind) = is_parameter_type_there scope kind
is_there literals scope (Parameter _ kind) = false
is_there literals scope Keyword = true

-- an operand is of an operand kind that its place takes, and what it names is there, in a scope and among a number of literals
abbrev pub operand_fits : ℕ → Scope → OperandPlace → Operand Referent → Bool
operand_fits literals scope operand_place operand = takes operand_place (operand_kind_of operand) && is_there literals scope operand

abbrev pub operand_places_fit : ℕ → Scope → List OperandPlace → List (Operand Referent) → Bool
operand_places_fit literals scope [] [] = true
operand_places_fit literals scope (operand_place ∷ operand_places) (operand ∷ operands) = operand_fits literals scope operand_place operand && operand_places_fit literals scope operand_places operands
operand_places_fit literals scope _ _ = false

-- two pointers, the first a local, or the name of a number and a number
abbrev pub sides_fit : ℕ → Scope → Operand Referent → Operand Referent → Bool
sides_fit literals scope target source =
    if operand_fits literals scope operand_place.Receiver target then operand_fits literals scope operand_place.Pointer source
    else (operand_fits literals scope operand_place.Variable target && operand_fits literals scope operand_place.Value source)

-- an operand is an argument for a parameter
abbrev pub argument_fits : ℕ → Scope → model.Parameter → Operand Referent → Bool
argument_fits literals scope (parameter.OfPointer class) operand = operand_fits literals scope operand_place.Pointer operand
argument_fits literals scope parameter.OfNumber operand = operand_fits literals scope operand_place.Value operand

-- one for each
abbrev pub arguments_fit : ℕ → Scope → List model.Parameter → List (Operand Referent) → Bool
arguments_fit literals scope [] [] = true
arguments_fit literals scope (p ∷ ps) (operand ∷ operands) = argument_fits literals scope p operand && arguments_fit literals scope ps operands
arguments_fit literals scope _ _ = false

abbrev pub fit_signature : ℕ → Scope → Option (List model.Parameter) → List (Operand Referent) → Bool
fit_signature literals scope (Some parameters) operands = arguments_fit literals scope parameters operands
fit_signature literals scope None operands = false

-- a procedure of the script, and arguments for its parameters
abbrev pub call_fits : Declared → Scope → List (Operand Referent) → Bool
call_fits declared scope (Name (referent.Procedure index) ∷ operands) = fit_signature declared.literals scope (slice_get declared.signatures index) operands
call_fits declared scope _ = false

-- an operation of the script
abbrev pub is_operation_there : Declared → Operand Referent → Bool
is_operation_there declared (Name (referent.Operation index)) = nat_lt index declared.operations
is_operation_there declared _ = false

-- a pointer, and an operation of the script
abbrev pub item_fits : Declared → Scope → List (Operand Referent) → Bool
item_fits declared scope (pointer ∷ operation ∷ []) = operand_fits declared.literals scope operand_place.Pointer pointer && is_operation_there declared operation
item_fits declared scope _ = false

abbrev pub operands_fit : Declared → Scope → LineKind → List (Operand Referent) → Bool
operands_fit declared scope line_kind.PushOp operands = item_fits declared scope operands
operands_fit declared scope line_kind.Set (target ∷ source ∷ []) = sides_fit declared.literals scope target source
operands_fit declared scope line_kind.Call operands = call_fits declared scope operands
operands_fit declared scope line_kind.CallTo (target ∷ operands) = operand_fits declared.literals scope operand_place.Receiver target && call_fits declared scope operands
operands_fit declared scope k operands = operand_places_fit declared.literals scope (operand_places_for k (length operands)) operands

-- What an operand spells in a place of a line, in a scope and among a number of literals: a thing that it is the operand
-- of and that is sound, where it fits, and else nothing.
abbrev pub IsSpelled : {A : Type 0} → (A → Spelled) → (A → Bool) → ℕ → Scope → OperandPlace → Operand Referent → Option A → Type 0
IsSpelled operand_of is_sound literals scope operand_place operand result =
    MatchOption result
    (operand_fits literals scope operand_place operand ≡ false)
    (λ a. (operand_of a ≡ Some operand) × IsTrue (is_sound a) × (operand_fits literals scope operand_place operand ≡ true))
