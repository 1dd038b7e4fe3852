-- The lines of a script's tree, with what their names and literals stand for, and with their numbers where the tree keeps them.
use Rattle.std.specs.Prelude.{ℕ, suc, List, [], ◌∷◌, ◌++◌, Option, Some, None, length, map, fold, nat_lt, if◌then◌else◌}
use Rattle.std.specs.List.{flat_map}
use Rattle.wb_tree.specs.declared.script_lines.LineKind.TheVariants as line_kind
use Rattle.wb_tree.specs.declared.script_lines.LineKind.{LineKind}
use Rattle.wb_tree.specs.declared.script_lines.Referent.{Referent}
use Rattle.wb_tree.specs.declared.script_lines.Referent.TheVariants as referent
use Rattle.wb_tree.specs.declared.script_lines.Operand.{Operand}
use Rattle.wb_tree.specs.declared.script_lines.Operand.TheVariants.{Name, Size}
use Rattle.wb_tree.specs.declared.script_lines.ParameterType.TheVariants as parameter_type
use Rattle.wb_tree.specs.declared.script_lines.Operand.TheVariants as spelled
use Rattle.wb_tree.specs.declared.script_lines.Form.{Form}
use Rattle.wb_tree.specs.declared.script_lines.Form.TheVariants.{Skip, Unknown, Line}
use Rattle.wb_tree.specs.declared.script_lines.Role.{Role}
use Rattle.wb_tree.specs.declared.script_lines.Role.TheVariants as role
use Rattle.wb_tree.specs.declared.script.Script.{Script}
use Rattle.wb_tree.specs.declared.script.Body.{Body}
use Rattle.wb_tree.specs.declared.script.Class.{Class}
use Rattle.wb_tree.specs.declared.script.Procedure.{Procedure}
use Rattle.wb_tree.specs.declared.script.Operation.{Operation}
use Rattle.wb_tree.specs.declared.script.Parameter.{Parameter}
use Rattle.wb_tree.specs.declared.script.Parameter.TheVariants as parameter
use Rattle.wb_tree.specs.declared.script.Condition.{Condition}
use Rattle.wb_tree.specs.declared.script.Local.{Local}
use Rattle.wb_tree.specs.declared.script.Local.TheVariants.{OfPointer, OfNumber, OfBuffer, OfView}
use Rattle.wb_tree.specs.declared.script.StatementAt.{StatementAt}
use Rattle.wb_tree.specs.declared.script.Statement.{Statement}
use Rattle.wb_tree.specs.declared.script.Statement.TheOpen.{Statement-F, StatementAt-F}
use Rattle.wb_tree.specs.declared.script.Statement.TheFolds.{fold-Statement}
use Rattle.wb_language.specs.Forms.{role_of_form}
use Rattle.wb_tree.specs.Spellings.{Spelled, Spelling, condition_spelling, statement_spelling, its_parameters}

abbrev pub Indexed : Type 0
Indexed = Form Referent

-- a line, with its number where a tree keeps it
abbrev pub Marked : Type 0
Marked = Option ℕ × Indexed

-- A tree keeps the numbers of the lines that begin an item, and of statements. Declarations, and the ends of things, have none
-- in it.
abbrev pub number_kept : Role → ℕ → Option ℕ
number_kept role.Class number = Some number
number_kept role.Procedure number = Some number
number_kept role.Plain number = Some number
number_kept role.Loop number = Some number
number_kept role.If number = Some number
number_kept _ number = None

abbrev pub mark : ℕ → Indexed → Marked
mark number line = (number_kept (role_of_form line) number, line)

-- a line that counts; blank lines and comments don't
abbrev pub counted : ℕ → Indexed → List Marked
counted number Skip = []
counted number line = mark number line ∷ []

-- The lines that count, where the first of all has this number. Blank lines and comments have numbers too.
abbrev pub counted_from : ℕ → List Indexed → List Marked
counted_from number [] = []
counted_from number (line ∷ lines) = counted number line ++ counted_from (suc number) lines

abbrev pub parameter_operand : Parameter → Spelled
parameter_operand (parameter.OfPointer None) = Some (spelled.Parameter referent.Parameter parameter_type.Pointer)
parameter_operand (parameter.OfPointer (Some class)) = Some (spelled.Parameter referent.Parameter (parameter_type.OfClass (referent.Class class)))
parameter_operand parameter.OfNumber = Some (spelled.Parameter referent.Parameter parameter_type.Number)

abbrev pub and_operand : Spelled → Option (List (Operand Referent)) → Option (List (Operand Referent))
and_operand (Some operand) (Some operands) = Some (operand ∷ operands)
and_operand _ _ = None

abbrev pub all_spelled : List Spelled → Option (List (Operand Referent))
all_spelled [] = Some []
all_spelled (operand ∷ rest) = and_operand operand (all_spelled rest)

abbrev pub line_or_unknown : LineKind → Option (List (Operand Referent)) → Indexed
line_or_unknown line_kind (Some operands) = Line line_kind operands
line_or_unknown line_kind None = Unknown

abbrev pub line : LineKind → List Spelled → Indexed
line k words = line_or_unknown k (all_spelled words)

abbrev pub spelled_line : Spelling → Indexed
spelled_line s = line s.0 s.1

abbrev pub condition_line : Condition → Indexed
condition_line c = spelled_line (condition_spelling c)

abbrev pub statement_line : {A B : Type 0} → Statement-F A B → Indexed
statement_line s = spelled_line (statement_spelling s)

abbrev pub end_line : Marked
end_line = (None, Line line_kind.End [])

abbrev pub else_line : Marked
else_line = (None, Line line_kind.Else [])

abbrev pub lines_joined : {X : Type 0} → List (List X) → List X
lines_joined [] = []
lines_joined (part ∷ parts) = part ++ lines_joined parts

-- the lines after the first of a block, with its end; a statement that is no block has none
abbrev pub lines_inside : {A : Type 0} → Statement-F A (List Marked) → List Marked
lines_inside (Statement-F.If c first) = lines_joined first ++ end_line ∷ []
lines_inside (Statement-F.IfElse c first other) = lines_joined first ++ else_line ∷ (lines_joined other ++ end_line ∷ [])
lines_inside (Statement-F.Repeat v body) = lines_joined body ++ end_line ∷ []
lines_inside (Statement-F.Trap x body) = lines_joined body ++ end_line ∷ []
lines_inside _ = []

-- the lines of a statement with this number, with those of each statement inside it in their places
abbrev pub layer_lines : Statement-F (ℕ → List Marked) (List Marked) → ℕ → List Marked
layer_lines layer number = (Some number, statement_line layer) ∷ lines_inside layer

abbrev pub statement_at_layer : StatementAt-F (ℕ → List Marked) (List Marked) → List Marked
statement_at_layer s = s.statement s.line

abbrev pub lines_of_statement : Statement → ℕ → List Marked
lines_of_statement = fold-Statement (ℕ → List Marked) (List Marked) layer_lines statement_at_layer

abbrev pub statement_at_lines : StatementAt → List Marked
statement_at_lines s = lines_of_statement s.statement s.line

abbrev pub statement_lines : List StatementAt → List Marked
statement_lines statements = flat_map statement_at_lines statements

abbrev pub local_line : ℕ → Local → Indexed
local_line index (OfPointer None) = Line line_kind.Ptr (Name (referent.Declared index) ∷ [])
local_line index (OfPointer (Some class)) = Line line_kind.ClassPtr (Name (referent.Declared index) ∷ Name (referent.Class class) ∷ [])
local_line index OfNumber = Line line_kind.Int (Name (referent.Declared index) ∷ [])
local_line index (OfBuffer max) = Line line_kind.Buf (Name (referent.Declared index) ∷ Size max ∷ [])
local_line index OfView = Line line_kind.View (Name (referent.Declared index) ∷ [])

-- the declarations of locals, from an index on
abbrev pub local_lines : ℕ → List Local → List Marked
local_lines index [] = []
local_lines index (local ∷ locals) = (None, local_line index local) ∷ local_lines (suc index) locals

abbrev pub head_line : ℕ → List Parameter → Indexed
head_line index parameters = line line_kind.Proc (Some (Name (referent.Declared index)) ∷ map parameter_operand parameters)

-- a body after a number of parameters
abbrev pub body_lines : ℕ → Body → List Marked
body_lines parameters body = local_lines parameters body.locals ++ statement_lines body.statements

abbrev pub procedure_head : ℕ → Procedure → Marked
procedure_head index p = (Some p.line, head_line index p.parameters)

abbrev pub procedure_lines : ℕ → Procedure → List Marked
procedure_lines index p = procedure_head index p ∷ (body_lines (length p.parameters) p.body ++ end_line ∷ [])

abbrev pub operation_head : ℕ → Operation → Marked
operation_head index o = (Some o.line, line line_kind.Op (Some (Name (referent.Declared index)) ∷ map parameter_operand its_parameters))

abbrev pub operation_lines : ℕ → Operation → List Marked
operation_lines index o = operation_head index o ∷ (body_lines (length its_parameters) o.body ++ end_line ∷ [])

-- a field without a class, or with one
abbrev pub field_line : ℕ → Option ℕ → Indexed
field_line index None = Line line_kind.Field (Name (referent.Declared index) ∷ [])
field_line index (Some class) = Line line_kind.ClassField (Name (referent.Declared index) ∷ Name (referent.Class class) ∷ [])

-- the fields of a class, from an index on
abbrev pub field_lines : ℕ → List (Option ℕ) → List Marked
field_lines index [] = []
field_lines index (field ∷ fields) = (None, field_line index field) ∷ field_lines (suc index) fields

-- a body of a class, under its head, where the class has it
abbrev pub own_body_lines : LineKind → Option Body → List Marked
own_body_lines begins (Some body) = (None, Line begins []) ∷ (body_lines 0 body ++ end_line ∷ [])
own_body_lines begins None = []

abbrev pub class_head : ℕ → Class → Marked
class_head index c = (Some c.line, Line line_kind.Class (Name (referent.Declared index) ∷ Size c.extra ∷ []))

abbrev pub class_lines : ℕ → Class → List Marked
class_lines index c =
    class_head index c
    ∷ (field_lines 0 c.fields ++ (own_body_lines line_kind.Constructor c.construct ++ (own_body_lines line_kind.Destructor c.destroy ++ end_line ∷ [])))

-- the lines of an item, with the number of the first of them
pub record Lines : Type 0 where
  pub number : ℕ
  pub lines : List Marked

abbrev pub lines_of_class : ℕ → Class → Lines
lines_of_class index c = record { number = c.line; lines = class_lines index c }

abbrev pub lines_of_procedure : ℕ → Procedure → Lines
lines_of_procedure index p = record { number = p.line; lines = procedure_lines index p }

abbrev pub lines_of_operation : ℕ → Operation → Lines
lines_of_operation index o = record { number = o.line; lines = operation_lines index o }

-- each item of a kind by its index
abbrev pub each_from : {A : Type 0} → (ℕ → A → Lines) → ℕ → List A → List Lines
each_from lines index [] = []
each_from lines index (item ∷ items) = lines index item ∷ each_from lines (suc index) items

-- the lines of an item among those of others, by their numbers
abbrev pub in_place : Lines → List Lines → List Lines
in_place item [] = item ∷ []
in_place item (other ∷ others) = if nat_lt other.number item.number then (other ∷ in_place item others) else (item ∷ other ∷ others)

-- the items of two kinds in the order of their lines
abbrev pub in_order : List Lines → List Lines → List Lines
in_order items others = fold (λ found item. in_place item found) others items

abbrev pub all_lines : List Lines → List Marked
all_lines items = flat_map (λ item. item.lines) items

-- the procedures and the operations of a script in the order of their lines
abbrev pub bodies_in_order : Script → List Lines
bodies_in_order script = in_order (each_from lines_of_procedure 0 script.procedures) (each_from lines_of_operation 0 script.operations)

abbrev pub script_lines : Script → List Marked
script_lines script = all_lines (in_order (each_from lines_of_class 0 script.classes) (bodies_in_order script))
