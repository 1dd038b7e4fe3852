-- What a tree in the making stands for, and which lines can be added to it.
use Rattle.std.specs.Prelude.{◌≡◌, ℕ, zero, suc, ◌+◌, ◌-◌, List, [], ◌∷◌, ◌++◌, Bool, true, false, not, ◌&&◌, ◌||◌, nat_eq, nat_lt, nat_le, Option, Some, None, IsTrue, MatchOption, fold, length, map}
use Rattle.std.specs.List.{list_any, flat_map}
use Rattle.wb_basics.specs.declared.limits.TheConstants.{LARGEST_BUFFER, MOST_CLASSES, MOST_FIELDS, MOST_EXTRA, MOST_LOCALS, MOST_PARAMETERS, MOST_PROCEDURES, DEEPEST_BLOCK}
use Rattle.wb_tree.specs.declared.script_lines.ItemKind.{ItemKind}
use Rattle.wb_tree.specs.declared.script_lines.ItemKind.TheVariants as item
use Rattle.wb_tree.specs.declared.script_lines.LineKind.{LineKind}
use Rattle.wb_tree.specs.declared.script_lines.LineKind.TheVariants as line_kind
use Rattle.wb_tree.specs.declared.script_lines.Referent.{Referent}
use Rattle.wb_tree.specs.declared.script_lines.Referent.TheVariants as referent
use Rattle.wb_tree.specs.declared.script_lines.Operand.{Operand}
use Rattle.wb_tree.specs.declared.script_lines.Operand.TheVariants.{Name, Size}
use Rattle.wb_tree.specs.declared.script_lines.ParameterType.{ParameterType}
use Rattle.wb_tree.specs.declared.script_lines.ParameterType.TheVariants as parameter_type
use Rattle.wb_tree.specs.declared.script_lines.Form.TheVariants.{Line}
use Rattle.wb_tree.specs.declared.script_lines.Role.{Role}
use Rattle.wb_tree.specs.declared.script_lines.Role.TheVariants.{Class, Field, Construct, Destroy, Procedure, Declaration, Loop, If, Else}
use Rattle.wb_tree.specs.declared.script.Condition.{Condition}
use Rattle.wb_tree.specs.declared.script.Condition.TheVariants.{IsNull, NotNull, Equal, Less}
use Rattle.wb_tree.specs.declared.script.Parameter as kinds
use Rattle.wb_tree.specs.declared.script.Parameter.TheVariants as parameter
use Rattle.wb_tree.specs.declared.script.Local.{Local}
use Rattle.wb_tree.specs.declared.script.Local.TheVariants.{OfPointer, OfNumber, OfBuffer, OfView}
use Rattle.wb_tree.specs.declared.script.StatementAt.{StatementAt}
use Rattle.wb_tree.specs.declared.script.Statement.{Statement}
use Rattle.wb_tree.specs.declared.script.Statement.TheViews.{out-Statement}
use Rattle.wb_language.specs.Forms.{role_of_form}
use Rattle.wb_language.specs.LineKinds.{role_of}
use Rattle.wb_language.specs.Kinds.{ends_body, is_trap}
use Rattle.wb_language.specs.Resolved.{class_in}
use Rattle.wb_language.specs.Names.{with_one, item_kind_in, parameters_in, blocks_after}
use Rattle.wb_language.specs.Passes.{first_bad, state_after}
use Rattle.wb_tree.specs.Sound.{Declared, Scope, is_condition, is_number, is_variable, is_nested, are_within, local_of_parameter}
use Rattle.wb_language.specs.Trees.{Indexed, Marked, lines_of_statement, line, condition_line, statement_lines, else_line, end_line}
use Rattle.wb_tree.specs.Spellings.{number_operand, variable_operand}
use Rattle.wb_nesting.specs.declared.open.Open.{Open}
use Rattle.wb_nesting.specs.declared.open.Open.TheVariants.{Declarations, Statements, Branch, Block}
use Rattle.wb_script.specs.declared.tree.blocks.Head.{Head}
use Rattle.wb_script.specs.declared.tree.blocks.Head.TheVariants as head
use Rattle.wb_script.specs.declared.tree.blocks.OpenBlock.{OpenBlock}
use Rattle.wb_script.specs.declared.tree.blocks.BlockStack.{BlockStack}
use Rattle.wb_script.specs.Fitting.{operands_fit}
use Rattle.wb_nesting.specs.Machine.{step}

-- the local that a line of a line kind declares
abbrev pub local_of : LineKind → List (Operand Referent) → Option Local
local_of line_kind.Ptr operands = Some (OfPointer None)
local_of line_kind.ClassPtr (name ∷ Name class ∷ []) = Some (OfPointer (class_in class))
local_of line_kind.Int operands = Some OfNumber
local_of line_kind.Buf (name ∷ Size max ∷ []) = Some (OfBuffer max)
local_of line_kind.View operands = Some OfView
local_of _ operands = None

abbrev pub local_in : Indexed → Option Local
local_in (Line line_kind operands) = local_of line_kind operands
local_in _ = None

-- the parameter that takes this
abbrev pub parameter_taking : ParameterType Referent → kinds.Parameter
parameter_taking parameter_type.Pointer = parameter.OfPointer None
parameter_taking parameter_type.Number = parameter.OfNumber
parameter_taking (parameter_type.OfClass class) = parameter.OfPointer (class_in class)

-- the parameters that a line declares
abbrev pub parameters_of : Indexed → List kinds.Parameter
parameters_of line = map parameter_taking (parameters_in line)

-- The classes so far, each by how many fields it has so far, the procedures, each by its parameters, and how many operations; the
-- class of `self` in the body that is open or was the last, its locals, its parameters first; and the line kinds of the blocks that
-- are open in it, the innermost last.
pub record Counts : Type 0 where
  pub classes : List ℕ
  pub procedures : List (List kinds.Parameter)
  pub operations : ℕ
  pub this : Option ℕ
  pub locals : List Local
  pub blocks : List LineKind

abbrev pub nothing_counted : Counts
nothing_counted = record { classes = []; procedures = []; operations = 0; this = None; locals = []; blocks = [] }

-- the scope in which a line is
abbrev pub scope_at : Declared → Counts → Scope
scope_at declared counts = record { locals = counts.locals; this = counts.this; fields = declared.fields }

-- the last one has one more
abbrev pub with_field : List ℕ → List ℕ
with_field [] = []
with_field (count ∷ []) = suc count ∷ []
with_field (count ∷ next ∷ counts) = count ∷ with_field (next ∷ counts)

-- how many the last one has
abbrev pub last_count : List ℕ → ℕ
last_count [] = 0
last_count (count ∷ []) = count
last_count (count ∷ next ∷ counts) = last_count (next ∷ counts)

abbrev pub classes_after : Role → List ℕ → List ℕ
classes_after Class classes = classes ++ 0 ∷ []
classes_after Field classes = with_field classes
classes_after _ classes = classes

abbrev pub procedures_after : Option ItemKind → Indexed → List (List kinds.Parameter) → List (List kinds.Parameter)
procedures_after (Some item.Procedure) line procedures = procedures ++ parameters_of line ∷ []
procedures_after _ line procedures = procedures

abbrev pub operations_after : Option ItemKind → ℕ → ℕ
operations_after (Some item.Operation) operations = operations + 1
operations_after _ operations = operations

-- `self` is of the last class
abbrev pub this_after : Role → List ℕ → Option ℕ → Option ℕ
this_after Construct classes this = Some (length classes - 1)
this_after Destroy classes this = Some (length classes - 1)
this_after Procedure classes this = None
this_after _ classes this = this

abbrev pub locals_after : Role → Indexed → List Local → List Local
locals_after Construct line locals = []
locals_after Destroy line locals = []
locals_after Procedure line locals = map local_of_parameter (parameters_of line)
locals_after Declaration line locals = with_one locals (local_in line)
locals_after _ line locals = locals

abbrev pub counts_with : Role → Indexed → Counts → Counts
counts_with role line counts = record {
  classes = classes_after role counts.classes;
  procedures = procedures_after (item_kind_in line) line counts.procedures;
  operations = operations_after (item_kind_in line) counts.operations;
  this = this_after role counts.classes counts.this;
  locals = locals_after role line counts.locals;
  blocks = blocks_after role line counts.blocks;
}

abbrev pub counts_after : Counts → Indexed → Counts
counts_after counts line = counts_with (role_of_form line) line counts

-- the first operand declares what has this index
abbrev pub declares : ℕ → List (Operand Referent) → Bool
declares index (Name (referent.Declared name) ∷ operands) = nat_eq name index
declares index _ = false

-- a size within a greatest one, where a size is given
abbrev pub is_small : ℕ → List (Operand Referent) → Bool
is_small greatest (name ∷ Size size ∷ []) = nat_le size greatest
is_small greatest _ = true

-- the index of the next procedure or operation
abbrev pub next_index : Option ItemKind → Counts → ℕ
next_index (Some item.Operation) counts = counts.operations
next_index _ counts = length counts.procedures

-- what one of a kind may take: an operation its one pointer
abbrev pub takes_its : Option ItemKind → List kinds.Parameter → Bool
takes_its (Some item.Operation) (parameter.OfPointer None ∷ []) = true
takes_its (Some item.Operation) _ = false
takes_its _ parameters = true

-- a declaration is the next of its kind, and neither it nor a block is one more than there may be
abbrev pub is_due : Role → Counts → Indexed → List (Operand Referent) → Bool
is_due Class counts line operands = declares (length counts.classes) operands && (nat_lt (length counts.classes) MOST_CLASSES && is_small MOST_EXTRA operands)
is_due Field counts line operands = declares (last_count counts.classes) operands && nat_lt (last_count counts.classes) MOST_FIELDS
is_due Procedure counts line operands =
    declares (next_index (item_kind_in line) counts) operands
    && (nat_lt (length counts.procedures + counts.operations) MOST_PROCEDURES && (nat_le (length (parameters_of line)) MOST_PARAMETERS && takes_its (item_kind_in line) (parameters_of line)))
is_due Declaration counts line operands = declares (length counts.locals) operands && (nat_lt (length counts.locals) MOST_LOCALS && is_small LARGEST_BUFFER operands)
is_due Loop counts line operands = nat_lt (length counts.blocks) DEEPEST_BLOCK
is_due If counts line operands = nat_lt (length counts.blocks) DEEPEST_BLOCK
is_due _ counts line operands = true

-- no `return` is in a TRAP
abbrev pub may_stand : List LineKind → LineKind → Bool
may_stand blocks k = not (ends_body k && list_any is_trap blocks)

-- a line has the operands of its line kind and keeps the limits, after lines with these counts
abbrev pub fits : Declared → Counts → Indexed → Bool
fits declared counts (Line line_kind operands) =
    operands_fit declared (scope_at declared counts) line_kind operands && (is_due (role_of line_kind) counts (Line line_kind operands) operands && may_stand counts.blocks line_kind)
fits declared counts _ = true

abbrev pub unfit : Declared → Counts → Indexed → Bool
unfit declared counts line = not (fits declared counts line)

-- all lines fit
abbrev pub AllFit : Declared → List Indexed → Type 0
AllFit declared lines = first_bad counts_after (unfit declared) nothing_counted lines ≡ None

abbrev pub counts_of : List Indexed → Counts
counts_of lines = state_after counts_after nothing_counted lines

-- the line kind of a block
abbrev pub condition_line_kind : Condition → LineKind
condition_line_kind (IsNull p) = line_kind.IfNull
condition_line_kind (NotNull p) = line_kind.IfSome
condition_line_kind (Equal v w) = line_kind.IfEqual
condition_line_kind (Less v w) = line_kind.IfLess

abbrev pub head_line_kind : Head → LineKind
head_line_kind (head.If c) = condition_line_kind c
head_line_kind (head.Else c first) = condition_line_kind c
head_line_kind (head.Repeat v) = line_kind.Repeat
head_line_kind (head.Trap x) = line_kind.Trap

-- the line that a block begins with
abbrev pub head_form : Head → Indexed
head_form (head.If c) = condition_line c
head_form (head.Else c first) = condition_line c
head_form (head.Repeat v) = line line_kind.Repeat (number_operand v ∷ [])
head_form (head.Trap x) = line line_kind.Trap (variable_operand x ∷ [])

-- what is before the `else` of a block, and that line
abbrev pub first_part : Head → List Marked
first_part (head.Else c first) = statement_lines first ++ else_line ∷ []
first_part _ = []

-- the lines of an open block, but for those of the statements that it has so far
abbrev pub head_lines : ℕ → Head → List Marked
head_lines number head = (Some number, head_form head) ∷ first_part head

abbrev pub block_lines : OpenBlock → List Marked
block_lines b = statement_lines b.before ++ head_lines b.line b.head

abbrev pub block_stack_lines : BlockStack → List Marked
block_stack_lines block_stack = flat_map block_lines block_stack.blocks ++ statement_lines block_stack.statements

abbrev pub line_kinds_of_blocks : List OpenBlock → List LineKind
line_kinds_of_blocks blocks = map (λ b. head_line_kind b.head) blocks

-- the place in a block
abbrev pub place_in_block : OpenBlock → Open
place_in_block b = place_after b.head
  where
    place_after : Head → Open
    place_after (head.If c) = Branch
    place_after _ = Block

-- the place in a body that begins with these statements, or with a block
abbrev pub place_in_body : List OpenBlock → List StatementAt → Open
place_in_body [] [] = Declarations
place_in_body _ _ = Statements

-- the places, the innermost first
abbrev pub block_stack_places : BlockStack → List Open
block_stack_places block_stack = fold (λ below b. place_in_block b ∷ below) (place_in_body block_stack.blocks block_stack.statements ∷ []) block_stack.blocks

-- in a TRAP, where these blocks are in one or not
abbrev pub in_trap : Bool → List OpenBlock → Bool
in_trap trapped [] = trapped
in_trap trapped (b ∷ blocks) = in_trap (trapped || is_trap (head_line_kind b.head)) blocks

-- what a block begins with is sound, with fewer blocks inside one another than this
abbrev pub is_head : Declared → Scope → ℕ → Bool → Head → Bool
is_head declared scope depth trapped (head.If c) = is_condition scope c
is_head declared scope depth trapped (head.Else c first) = is_condition scope c && are_within declared scope depth trapped first
is_head declared scope depth trapped (head.Repeat v) = is_number scope.locals v
is_head declared scope depth trapped (head.Trap x) = is_variable scope.locals x

-- statements and the blocks around them are sound, with fewer blocks inside one another than this
abbrev pub AreOpen : Declared → Scope → ℕ → Bool → List OpenBlock → List StatementAt → Type 0
AreOpen declared scope depth trapped [] statements = IsTrue (are_within declared scope depth trapped statements)
AreOpen declared scope zero trapped (b ∷ blocks) statements = ⊥
AreOpen declared scope (suc depth) trapped (b ∷ blocks) statements =
    IsTrue (are_within declared scope (suc depth) trapped b.before) × IsTrue (is_head declared scope depth trapped b.head)
    × AreOpen declared scope depth (trapped || is_trap (head_line_kind b.head)) blocks statements

abbrev pub begins : Role → Bool
begins Loop = true
begins If = true
begins _ = false

abbrev pub begins_block : LineKind → Bool
begins_block k = begins (role_of k)

-- the statement of a block: it has the block's lines, and is sound where the block is
pub record IsWhole (head : Head) (statements : List StatementAt) (statement : Statement) : Type 0 where
  pub lines : (number : ℕ) → lines_of_statement statement number ≡ head_lines number head ++ (statement_lines statements ++ end_line ∷ [])
  pub sound : (declared : Declared) (scope : Scope) (depth : ℕ) (trapped : Bool) → IsTrue (is_head declared scope depth trapped head) → IsTrue (are_within declared scope depth (trapped || is_trap (head_line_kind head)) statements) →
      IsTrue (is_nested declared scope trapped (are_within declared scope depth) (out-Statement statement))

-- the innermost block is a statement of what is around it
pub record ClosesBlock (block_stack next : BlockStack) : Type 0 where
  pub block : OpenBlock
  pub statement : Statement
  pub blocks : block_stack.blocks ≡ next.blocks ++ block ∷ []
  pub statements : next.statements ≡ block.before ++ (record { line = block.line; statement = statement }) ∷ []
  pub whole : IsWhole block.head block_stack.statements statement

-- the innermost block is an `if` whose first part these statements are
pub record BecomesElse (block_stack next : BlockStack) : Type 0 where
  pub below : List OpenBlock
  pub before : List StatementAt
  pub line : ℕ
  pub condition : Condition
  pub blocks : block_stack.blocks ≡ below ++ (record { before = before; line = line; head = head.If condition }) ∷ []
  pub next_blocks : next.blocks ≡ below ++ (record { before = before; line = line; head = head.Else condition block_stack.statements }) ∷ []
  pub statements : next.statements ≡ []

-- what an `else` leaves; `None` if no `if` without one is the innermost block
abbrev pub TurnsToElse : BlockStack → Option BlockStack → Type 0
TurnsToElse block_stack next = MatchOption next (step (block_stack_places block_stack) Else ≡ None) (BecomesElse block_stack)
