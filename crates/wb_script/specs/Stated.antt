-- The statement that a line of a body is, and what the first line of a block begins.
use Rattle.std.specs.Prelude.{◌≡◌, ℕ, List, [], ◌∷◌, Bool, true, false, ◌&&◌, not, Option, Some, nat_lt, IsTrue, MatchOption, map, slice_get}
use Rattle.std.specs.Borrow.{Bor}
use Rattle.std.specs.List.{list_any}
use Rattle.wb_tree.specs.declared.script_lines.LineKind.{LineKind}
use Rattle.wb_tree.specs.declared.script_lines.LineKind.TheVariants as line_kind
use Rattle.wb_tree.specs.declared.script_lines.Keyword.{Keyword}
use Rattle.wb_tree.specs.declared.script_lines.Role.{Role}
use Rattle.wb_tree.specs.declared.script_lines.Role.TheVariants.{Plain}
use Rattle.wb_tree.specs.declared.script_lines.OperandPlace.{OperandPlace}
use Rattle.wb_tree.specs.declared.script_lines.OperandPlace.TheVariants as operand_place
use Rattle.wb_tree.specs.declared.script_lines.Referent.{Referent}
use Rattle.wb_tree.specs.declared.script_lines.Operand.{Operand}
use Rattle.wb_tree.specs.declared.script_lines.ParameterType.{ParameterType}
use Rattle.wb_tree.specs.declared.script_lines.Operand.TheVariants.{Field}
use Rattle.wb_tree.specs.declared.script_lines.Form.TheVariants.{Line}
use Rattle.wb_tree.specs.declared.script.Parameter.{Parameter}
use Rattle.wb_tree.specs.declared.script.Argument.{Argument}
use Rattle.wb_tree.specs.declared.script.StatementAt.{StatementAt}
use Rattle.wb_tree.specs.declared.script.Statement.{Statement}
use Rattle.wb_tree.specs.declared.script.Statement.TheViews.{out-Statement}
use Rattle.wb_tree.specs.declared.script.Holder.{Holder}
use Rattle.wb_tree.specs.declared.script.Holder.TheVariants as H
use Rattle.wb_tree.specs.declared.script.Pointer.{Pointer}
use Rattle.wb_tree.specs.declared.script.Pointer.TheVariants.{Held}
use Rattle.wb_tree.specs.declared.script.Number.{Number}
use Rattle.wb_tree.specs.declared.script.Refusal.{Refusal}
use Rattle.wb_tree.specs.declared.script.Refusal.TheVariants.{GivesNull, Leaves}
use Rattle.wb_language.specs.Forms.{renamed_parameter_type}
use Rattle.wb_language.specs.LineKinds.{is_pointer_kind, role_of}
use Rattle.wb_language.specs.Kinds.{is_trap, operand_kind_of_name}
use Rattle.wb_language.specs.Names as names
use Rattle.wb_language.specs.Names.{Text}
use Rattle.wb_tree.specs.Sound as model
use Rattle.wb_tree.specs.Sound.{Declared, is_pointer_local, is_pointer, is_target, is_number, is_statement, is_simple, is_nested, are_passed, is_call}
use Rattle.wb_tree.specs.Spellings.{Spelled, argument_operand, holder_referent, keyword_operand, set_line_kind, pointer_operand, number_operand, procedure_operand, operation_operand}
use Rattle.wb_language.specs.Trees.{all_spelled, statement_line, lines_of_statement}
use Rattle.wb_script.specs.declared.tree.scope.Scope.{Scope}
use Rattle.wb_script.specs.declared.tree.blocks.Head.{Head}
use Rattle.wb_script.specs.declared.tree.blocks.OpenBlock.{OpenBlock}
use Rattle.wb_script.specs.declared.tree.calls.Called.{Called}
use Rattle.wb_script.specs.Building.{head_form, head_line_kind, line_kinds_of_blocks, first_part, is_head, may_stand}
use Rattle.wb_lines.specs.BytesOf.{bytes_of_text}
use Rattle.wb_script.specs.BytesOf.{parameter_named}
use Rattle.wb_script.specs.Fitting.{is_name_there, is_field_there, operand_places_fit, operand_fits, arguments_fit, call_fits, is_operation_there, operands_fit}

-- a scope, as what may be named in it
abbrev pub scope_in : Scope → model.Scope
scope_in scope = record { locals = scope.locals.now; this = scope.this; fields = scope.fields.now }

-- the local with an index, where it holds a pointer
abbrev pub IsPointerLocal : model.Scope → ℕ → Option ℕ → Type 0
IsPointerLocal scope index result = MatchOption result (is_pointer_local (slice_get scope.locals index) ≡ false) (λ local. (local ≡ index) × (is_pointer_local (slice_get scope.locals index) ≡ true))

-- a name is that of what holds a pointer, and it is there
abbrev pub holds_pointer : model.Scope → Referent → Bool
holds_pointer scope name = is_pointer_kind (operand_kind_of_name name) && is_name_there scope name

-- what holds a pointer by its name
abbrev pub IsHolderOf : model.Scope → Referent → Option Holder → Type 0
IsHolderOf scope name result =
    MatchOption result (holds_pointer scope name ≡ false) (λ holder. (holder_referent holder ≡ name) × IsTrue (is_pointer scope (Held holder)) × (holds_pointer scope name ≡ true))

-- the field of what a name stands for
abbrev pub IsFieldOf : model.Scope → Referent → Referent → Option Pointer → Type 0
IsFieldOf scope base field result =
    MatchOption result
    (is_field_there scope base field ≡ false)
    (λ p. (pointer_operand p ≡ Some (Field base field)) × IsTrue (is_pointer scope p) × IsTrue (is_target scope p) × (set_line_kind p ≡ line_kind.SetField) × (is_field_there scope base field ≡ true))

-- what a line spells that takes one operand of this operand place
abbrev pub IsOnlySpelled : {A : Type 0} → (A → Spelled) → (A → Bool) → Scope → OperandPlace → List (Operand Referent) → Option A → Type 0
IsOnlySpelled operand_of is_sound scope operand_place operands result =
    MatchOption result
    (operand_places_fit scope.literals (scope_in scope) (operand_place ∷ []) operands ≡ false)
    (λ a. (all_spelled (operand_of a ∷ []) ≡ Some operands) × IsTrue (is_sound a) × (operand_places_fit scope.literals (scope_in scope) (operand_place ∷ []) operands ≡ true))

-- a scope, where no procedure is called and no operation pushed
abbrev pub alone_in : Scope → Declared
alone_in scope = record { literals = scope.literals; fields = scope.fields.now; signatures = []; operations = 0 }

-- The statement of a line: one that has this line and is sound, where the operands fit, and else none.
abbrev pub IsStatementOf : Scope → LineKind → List (Operand Referent) → Option Statement → Type 0
IsStatementOf scope line_kind operands result =
    MatchOption result
    (operands_fit (alone_in scope) (scope_in scope) line_kind operands ≡ false)
    (λ s. (statement_line (out-Statement s) ≡ Line line_kind operands) × IsTrue (is_statement scope.literals (scope_in scope) (out-Statement s)) × (operands_fit (alone_in scope) (scope_in scope) line_kind operands ≡ true))

-- what a line spells that writes a pointer, by a number
abbrev pub IsPairSpelled : Scope → List (Operand Referent) → Option (Pointer × Number) → Type 0
IsPairSpelled scope operands result =
    MatchOption result
    (operand_places_fit scope.literals (scope_in scope) (operand_place.Written ∷ operand_place.Value ∷ []) operands ≡ false)
    (λ r. (all_spelled (pointer_operand r.0 ∷ number_operand r.1 ∷ []) ≡ Some operands) × IsTrue (is_target (scope_in scope) r.0 && is_number scope.locals.now r.1)
    × (operand_places_fit scope.literals (scope_in scope) (operand_place.Written ∷ operand_place.Value ∷ []) operands ≡ true))

-- what a line spells that writes a pointer, by another and a number
abbrev pub IsTripleSpelled : Scope → List (Operand Referent) → Option (Pointer × Pointer × Number) → Type 0
IsTripleSpelled scope operands result =
    MatchOption result
    (operand_places_fit scope.literals (scope_in scope) (operand_place.Written ∷ operand_place.Pointer ∷ operand_place.Value ∷ []) operands ≡ false)
    (λ r. (all_spelled (pointer_operand r.0 ∷ pointer_operand r.1 ∷ number_operand r.2 ∷ []) ≡ Some operands)
    × IsTrue (is_target (scope_in scope) r.0 && (is_pointer (scope_in scope) r.1 && is_number scope.locals.now r.2))
    × (operand_places_fit scope.literals (scope_in scope) (operand_place.Written ∷ operand_place.Pointer ∷ operand_place.Value ∷ []) operands ≡ true))

-- the line kinds of the lines that allocate
abbrev pub alloc_line_kind : Refusal → LineKind
alloc_line_kind GivesNull = line_kind.Alloc
alloc_line_kind Leaves = line_kind.AllocL

abbrev pub realloc_line_kind : Refusal → LineKind
realloc_line_kind GivesNull = line_kind.Realloc
realloc_line_kind Leaves = line_kind.ReallocL

abbrev pub new_text_line_kind : Refusal → LineKind
new_text_line_kind GivesNull = line_kind.HNew
new_text_line_kind Leaves = line_kind.HNewL

abbrev pub new_line_kind : Refusal → LineKind
new_line_kind GivesNull = line_kind.New
new_line_kind Leaves = line_kind.NewLeave

abbrev pub is_plain_role : Role → Bool
is_plain_role Plain = true
is_plain_role _ = false

-- A line of a statement that is no block, names no procedure and no operation, runs no body of a class and doesn't end its own.
abbrev pub is_lasting : LineKind → Bool
is_lasting line_kind.Call = false
is_lasting line_kind.CallTo = false
is_lasting line_kind.PushOp = false
is_lasting line_kind.Construct = false
is_lasting line_kind.Delete = false
is_lasting line_kind.Return = false
is_lasting line_kind.ReturnPointer = false
is_lasting k = is_plain_role (role_of k)

-- the lines of statements that take one pointer and nothing else
abbrev pub takes_pointer : LineKind → Bool
takes_pointer line_kind.Free = true
takes_pointer line_kind.Push = true
takes_pointer line_kind.PushObj = true
takes_pointer line_kind.PopCheck = true
takes_pointer line_kind.LeaveIfNull = true
takes_pointer _ = false

-- the lines of statements that take one number and nothing else
abbrev pub takes_number : LineKind → Bool
takes_number line_kind.Pop = true
takes_number line_kind.PopDestroy = true
takes_number line_kind.Leave = true
takes_number line_kind.LeaveIfError = true
takes_number line_kind.MarkEnd = true
takes_number line_kind.Check = true
takes_number line_kind.CheckAll = true
takes_number line_kind.FailNext = true
takes_number line_kind.FailEvery = true
takes_number _ = false

-- the numbers that a line compares, after this keyword
abbrev pub AreCompared : Scope → Keyword → List (Operand Referent) → Option (Number × Number) → Type 0
AreCompared scope keyword operands result =
    MatchOption result
    (operand_places_fit scope.literals (scope_in scope) (operand_place.Keyword keyword ∷ operand_place.Value ∷ operand_place.Value ∷ []) operands ≡ false)
    (λ r. (all_spelled (keyword_operand ∷ number_operand r.0 ∷ number_operand r.1 ∷ []) ≡ Some operands) × IsTrue (is_number scope.locals.now r.0 && is_number scope.locals.now r.1))

-- what the first line of a block begins
pub record IsHead (scope : Scope) (line_kind : LineKind) (operands : List (Operand Referent)) (head : Head) : Type 0 where
  pub line : head_form head ≡ Line line_kind operands
  pub line_kind_of : head_line_kind head ≡ line_kind
  pub first : first_part head ≡ []
  pub sound : (declared : Declared) (depth : ℕ) (trapped : Bool) → IsTrue (is_head declared (scope_in scope) depth trapped head)

abbrev pub IsHeadOf : Scope → LineKind → List (Operand Referent) → Option Head → Type 0
IsHeadOf scope line_kind operands result = MatchOption result (operands_fit (alone_in scope) (scope_in scope) line_kind operands ≡ false) (IsHead scope line_kind operands)

-- the parameter that takes this, where a class has its index among items
abbrev pub bytes_of_parameter : List names.Declaration → ParameterType (Bor Text) → Parameter
bytes_of_parameter items parameter_type = parameter_named items (renamed_parameter_type bytes_of_text parameter_type)

-- arguments, one for each parameter
abbrev pub ArePassed : Scope → List Parameter → List (Operand Referent) → Option (List Argument) → Type 0
ArePassed scope parameters operands result =
    MatchOption result
    (arguments_fit scope.literals (scope_in scope) parameters operands ≡ false)
    (λ arguments. (all_spelled (map argument_operand arguments) ≡ Some operands) × IsTrue (are_passed (scope_in scope) parameters arguments))

abbrev pub IsCalled : Declared → model.Scope → List (Operand Referent) → Option Called → Type 0
IsCalled declared scope operands result =
    MatchOption result
    (call_fits declared scope operands ≡ false)
    (λ called. (all_spelled (procedure_operand called.procedure ∷ map argument_operand called.arguments) ≡ Some operands) × IsTrue (is_call declared.signatures scope called.procedure called.arguments))

-- the local that a call writes
abbrev pub IsReceiver : Scope → Operand Referent → Option ℕ → Type 0
IsReceiver scope operand result =
    MatchOption result
    (operand_fits scope.literals (scope_in scope) operand_place.Receiver operand ≡ false)
    (λ local. (pointer_operand (Held (H.Local local)) ≡ Some operand) × IsTrue (is_pointer_local (slice_get scope.locals.now local)) × (operand_fits scope.literals (scope_in scope) operand_place.Receiver operand ≡ true))

-- the operation that an operand names
abbrev pub IsOperationOf : Declared → Operand Referent → Option ℕ → Type 0
IsOperationOf declared operand result =
    MatchOption result
    (is_operation_there declared operand ≡ false)
    (λ index. (operation_operand index ≡ Some operand) × IsTrue (nat_lt index declared.operations))

-- a statement with one line, sound in a TRAP or not
pub record IsOneLine (declared : Declared) (scope : model.Scope) (trapped : Bool) (line_kind : LineKind) (operands : List (Operand Referent)) (statement : Statement) : Type 0 where
  pub lines : (number : ℕ) → lines_of_statement statement number ≡ (Some number, Line line_kind operands) ∷ []
  pub sound : (inside : Bool → List StatementAt → Bool) → IsTrue (is_nested declared scope trapped inside (out-Statement statement))

-- a statement that may be anywhere
abbrev pub IsNestedOf : Declared → model.Scope → LineKind → List (Operand Referent) → Option Statement → Type 0
IsNestedOf declared scope line_kind operands result =
    MatchOption result
    (operands_fit declared scope line_kind operands ≡ false)
    (λ s. (trapped : Bool) → IsOneLine declared scope trapped line_kind operands s)

-- a statement inside these blocks
abbrev pub IsStatedWhereFit : Declared → model.Scope → List LineKind → LineKind → List (Operand Referent) → Option Statement → Type 0
IsStatedWhereFit declared scope blocks line_kind operands result =
    MatchOption result
    ((operands_fit declared scope line_kind operands && may_stand blocks line_kind) ≡ false)
    (IsOneLine declared scope (list_any is_trap blocks) line_kind operands)

-- the end of a body inside these blocks
abbrev pub IsReturnOf : Scope → List OpenBlock → LineKind → List (Operand Referent) → Option Statement → Type 0
IsReturnOf scope blocks line_kind operands result =
    MatchOption result
    ((operands_fit (alone_in scope) (scope_in scope) line_kind operands && not (list_any is_trap (line_kinds_of_blocks blocks))) ≡ false)
    (λ s. (statement_line (out-Statement s) ≡ Line line_kind operands) × IsTrue (is_simple scope.literals (scope_in scope) (list_any is_trap (line_kinds_of_blocks blocks)) (out-Statement s)))
