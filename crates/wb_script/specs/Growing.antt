-- What an open body and the whole tree in the making stand for, and which lines can be added to them.
use Rattle.std.specs.Prelude.{◌≡◌, ℕ, suc, ◌+◌, List, [], ◌∷◌, ◌++◌, Bool, true, false, ◌&&◌, ◌<◌, ◌≤◌, nat_eq, nat_lt, nat_le, Option, Some, None, IsTrue, MatchOption, length, map}
use Rattle.std.specs.List.{list_all, flat_map}
use Rattle.wb_basics.specs.declared.limits.TheConstants.{MOST_CLASSES, MOST_LOCALS, MOST_PARAMETERS, MOST_PROCEDURES, DEEPEST_BLOCK}
use Rattle.wb_tree.specs.declared.script_lines.LineKind.{LineKind}
use Rattle.wb_tree.specs.declared.script_lines.LineKind.TheVariants as line_kind
use Rattle.wb_tree.specs.declared.script_lines.Referent.{Referent}
use Rattle.wb_tree.specs.declared.script_lines.Referent.TheVariants as referent
use Rattle.wb_tree.specs.declared.script_lines.Operand.{Operand}
use Rattle.wb_tree.specs.declared.script_lines.Operand.TheVariants.{Name, Parameter}
use Rattle.wb_tree.specs.declared.script_lines.ParameterType.TheVariants as parameter_type
use Rattle.wb_tree.specs.declared.script_lines.Form.TheVariants.{Line}
use Rattle.wb_tree.specs.declared.script_lines.Role.TheVariants.{Declaration}
use Rattle.wb_tree.specs.declared.script.Body.{Body}
use Rattle.wb_tree.specs.declared.script.Class.{Class}
use Rattle.wb_tree.specs.declared.script.Parameter as kinds
use Rattle.wb_tree.specs.declared.script.Local.{Local}
use Rattle.wb_tree.specs.declared.script.StatementAt.{StatementAt}
use Rattle.wb_language.specs.Forms.{role_of_form}
use Rattle.wb_language.specs.Names.{parameter_type_of}
use Rattle.wb_tree.specs.Sound.{Declared, Scope, is_local, is_parameter, is_body, is_class_of, are_classes, is_procedure, is_operation, local_of_parameter, locals_of, scope_of, fields_declared, signatures_of}
use Rattle.wb_tree.specs.Spellings.{its_parameters}
use Rattle.wb_language.specs.Trees.{Indexed, Marked, Lines, mark, counted, line, head_line, local_line, local_lines, field_lines, own_body_lines, class_head, end_line, body_lines, parameter_operand, each_from, lines_of_class, lines_of_procedure, lines_of_operation, in_order, all_lines}
use Rattle.wb_nesting.specs.declared.open.Open.{Open}
use Rattle.wb_nesting.specs.declared.open.Open.TheVariants.{Fields, Made, Destroyed}
use Rattle.wb_script.specs.declared.tree.space.Space.{Space}
use Rattle.wb_script.specs.declared.tree.whole.WholeItems.{WholeItems}
use Rattle.wb_script.specs.declared.tree.whole.Owner.{Owner}
use Rattle.wb_script.specs.declared.tree.whole.Owner.TheVariants as of
use Rattle.wb_script.specs.declared.tree.whole.Stage.{Stage}
use Rattle.wb_script.specs.declared.tree.whole.Stage.TheVariants.{Outside, InClass, InBody}
use Rattle.wb_script.specs.declared.tree.whole.Building.{Building}
use Rattle.wb_script.specs.declared.tree.classes.ClassLine.{ClassLine}
use Rattle.wb_script.specs.declared.tree.classes.ClassLine.TheVariants as says
use Rattle.wb_script.specs.declared.tree.bodies.OpenBody.{OpenBody}
use Rattle.wb_script.specs.declared.tree.bodies.BodyProgress.{BodyProgress}
use Rattle.wb_script.specs.declared.tree.bodies.BodyProgress.TheVariants.{Inside, Done}
use Rattle.wb_script.specs.Building.{Counts, AreOpen, counts_after, fits, line_kinds_of_blocks, local_of, block_stack_lines, block_stack_places, parameter_taking}
use Rattle.wb_script.specs.BytesOf.{declared_by}
use Rattle.wb_nesting.specs.Machine.{step, after_line}

-- what the statements of a script may name, whichever body they are in
abbrev pub declared_in_space : Space → Declared
declared_in_space space = declared_by space.literals space.items.now

-- An open body.

abbrev pub scope_in_body : Declared → OpenBody → Scope
scope_in_body declared p = record { locals = p.scope; this = p.this; fields = declared.fields }

-- the lines of an open body after its first
abbrev pub inside_lines : OpenBody → List Marked
inside_lines p = local_lines (length p.parameters) p.locals ++ block_stack_lines p.block_stack

-- with one more statement in the innermost block, or in the body where no block is open
abbrev pub with_statement : OpenBody → StatementAt → OpenBody
with_statement p s = record p { block_stack = record p.block_stack { statements = p.block_stack.statements ++ s ∷ [] } }

-- the counts in an open body, by those of what is whole and around it
abbrev pub counts_in : Counts → OpenBody → Counts
counts_in before p = record before { this = p.this; locals = p.scope; blocks = line_kinds_of_blocks p.block_stack.blocks }

-- what an open body keeps
pub record IsSoundOpen (declared : Declared) (p : OpenBody) : Type 0 where
  pub scope : p.scope ≡ locals_of p.parameters p.locals
  pub locals : IsTrue (list_all (is_local (length declared.fields)) p.scope)
  pub most : length p.scope ≤ MOST_LOCALS
  pub block_stack : AreOpen declared (scope_in_body declared p) (suc DEEPEST_BLOCK) false p.block_stack.blocks p.block_stack.statements

-- a body takes one more local by this line: before its first statement, by its index, and below the limit
pub record TakesLocal (declared : Declared) (p : OpenBody) (line_kind : LineKind) (operands : List (Operand Referent)) (local : Local) : Type 0 where
  pub outside : p.block_stack.blocks ≡ []
  pub first : p.block_stack.statements ≡ []
  pub line : local_line (length p.scope) local ≡ Line line_kind operands
  pub declared_as : local_of line_kind operands ≡ Some local
  pub sound : IsTrue (is_local (length declared.fields) local)
  pub room : length p.scope < MOST_LOCALS

-- the next local, or none, where a line that fits has no place
abbrev pub TakesWhereFit : Declared → OpenBody → LineKind → List (Operand Referent) → Option Local → Type 0
TakesWhereFit declared p line_kind operands result =
    MatchOption result
    ((before : Counts) → IsTrue (fits declared (counts_in before p) (Line line_kind operands)) → step (block_stack_places p.block_stack) Declaration ≡ None)
    (TakesLocal declared p line_kind operands)

-- what a line of an open body leaves: the body, open or whole
abbrev pub progress_lines : BodyProgress → List Marked
progress_lines (Inside p) = inside_lines p
progress_lines (Done parameters body) = body_lines (length parameters) body ++ end_line ∷ []

abbrev pub progress_places : BodyProgress → List Open
progress_places (Inside p) = block_stack_places p.block_stack
progress_places (Done parameters body) = []

abbrev pub progress_counts : Counts → OpenBody → BodyProgress → Counts
progress_counts before p (Inside next) = counts_in before next
progress_counts before p (Done parameters body) = record before { this = p.this; locals = locals_of parameters body.locals; blocks = [] }

-- a body of the same parameters, in the same class
abbrev pub IsOfSame : OpenBody → BodyProgress → Type 0
IsOfSame p (Inside next) = (next.parameters ≡ p.parameters) × (next.this ≡ p.this)
IsOfSame p (Done parameters body) = parameters ≡ p.parameters

abbrev pub IsSoundLeft : Declared → OpenBody → BodyProgress → Type 0
IsSoundLeft declared p (Inside next) = IsSoundOpen declared next
IsSoundLeft declared p (Done parameters body) = IsTrue (is_body declared (scope_of declared p.this parameters body) body.statements)

-- an open body with one more line
pub record Adds (declared : Declared) (number : ℕ) (line : Indexed) (p : OpenBody) (left : BodyProgress) : Type 0 where
  pub lines : progress_lines left ≡ inside_lines p ++ mark number line ∷ []
  pub same : IsOfSame p left
  pub sound : IsSoundLeft declared p left
  pub counts : (before : Counts) → progress_counts before p left ≡ counts_after (counts_in before p) line
  pub places : step (block_stack_places p.block_stack) (role_of_form line) ≡ Some (progress_places left)

-- the same, or nothing, where a line that fits has no place
abbrev pub AddsWhereFit : Declared → ℕ → Indexed → OpenBody → Option BodyProgress → Type 0
AddsWhereFit declared number line p next =
    MatchOption next
    ((before : Counts) → IsTrue (fits declared (counts_in before p) line) → step (block_stack_places p.block_stack) (role_of_form line) ≡ None)
    (Adds declared number line p)

-- what is left where something was added, or nothing
abbrev pub if_added : {X : Type 0} → Bool → X → Option X
if_added true x = Some x
if_added false x = None

-- the body after its first line
abbrev pub new_body : Option ℕ → List kinds.Parameter → OpenBody
new_body this parameters =
    record { parameters = parameters; this = this; locals = []; scope = map local_of_parameter parameters; block_stack = record { blocks = []; statements = [] } }

-- The first lines of items.

-- a parameter as trees have them
abbrev pub is_parameter_operand : ℕ → Operand Referent → Bool
is_parameter_operand classes (Parameter referent.Parameter parameter_type.Pointer) = true
is_parameter_operand classes (Parameter referent.Parameter parameter_type.Number) = true
is_parameter_operand classes (Parameter referent.Parameter (parameter_type.OfClass (referent.Class class))) = nat_lt class classes
is_parameter_operand classes _ = false

abbrev pub are_parameters : ℕ → List (Operand Referent) → Bool
are_parameters classes operands = list_all (is_parameter_operand classes) operands

abbrev pub parameters_of_operands : List (Operand Referent) → List kinds.Parameter
parameters_of_operands operands = map parameter_taking (flat_map parameter_type_of operands)

-- the parameter that an operand declares
abbrev pub IsTaken : ℕ → Operand Referent → Option kinds.Parameter → Type 0
IsTaken classes operand result =
    MatchOption result
    (is_parameter_operand classes operand ≡ false)
    (λ one. (is_parameter_operand classes operand ≡ true) × (parameters_of_operands (operand ∷ []) ≡ one ∷ []))

-- the parameters that operands declare
abbrev pub AreTaken : ℕ → List (Operand Referent) → Option (List kinds.Parameter) → Type 0
AreTaken classes operands result =
    MatchOption result
    (are_parameters classes operands ≡ false)
    (λ found. (are_parameters classes operands ≡ true) × (found ≡ parameters_of_operands operands))

-- operands that declare the procedure with an index
abbrev pub is_procedure_head : ℕ → ℕ → List (Operand Referent) → Bool
is_procedure_head classes index (Name (referent.Declared name) ∷ operands) = nat_eq name index && (nat_le (length operands) MOST_PARAMETERS && are_parameters classes operands)
is_procedure_head classes index _ = false

abbrev pub AreParametersOf : ℕ → ℕ → List (Operand Referent) → Option (List kinds.Parameter) → Type 0
AreParametersOf classes index operands result =
    MatchOption result
    (is_procedure_head classes index operands ≡ false)
    (λ found. (is_procedure_head classes index operands ≡ true) × (found ≡ parameters_of_operands operands))

-- the operation
abbrev pub is_operation_head : ℕ → List (Operand Referent) → Bool
is_operation_head index (Name (referent.Declared name) ∷ Parameter referent.Parameter parameter_type.Pointer ∷ []) = nat_eq name index
is_operation_head index _ = false

-- What is whole.

abbrev pub with_class : WholeItems → Class → WholeItems
with_class b c = record b { classes = b.classes ++ c ∷ [] }

abbrev pub with_procedure : WholeItems → ℕ → List kinds.Parameter → Body → WholeItems
with_procedure b line parameters body = record b { procedures = b.procedures ++ (record { line = line; parameters = parameters; body = body }) ∷ [] }

abbrev pub with_operation : WholeItems → ℕ → Body → WholeItems
with_operation b line body = record b { operations = b.operations ++ (record { line = line; body = body }) ∷ [] }

abbrev pub outside : WholeItems → Building
outside b = record { whole = b; stage = Outside }

abbrev pub in_class : WholeItems → Class → Building
in_class b c = record { whole = b; stage = InClass c }

abbrev pub in_body : WholeItems → Owner → OpenBody → Building
in_body b owner p = record { whole = b; stage = InBody owner p }

-- a body is whole
abbrev pub with_whole_body : WholeItems → Owner → List kinds.Parameter → Body → Building
with_whole_body b (of.Procedure line) parameters body = outside (with_procedure b line parameters body)
with_whole_body b (of.Operation line) parameters body = outside (with_operation b line body)
with_whole_body b (of.Constructor c) parameters body = in_class b (record c { construct = Some body })
with_whole_body b (of.Destructor c) parameters body = in_class b (record c { destroy = Some body })

-- whole items in the order of their lines
abbrev pub items_in_order : WholeItems → List Lines
items_in_order b = in_order (each_from lines_of_class 0 b.classes) (in_order (each_from lines_of_procedure 0 b.procedures) (each_from lines_of_operation 0 b.operations))

-- a class without its end
abbrev pub open_class_lines : ℕ → Class → List Marked
open_class_lines index c = class_head index c ∷ (field_lines 0 c.fields ++ (own_body_lines line_kind.Constructor c.construct ++ own_body_lines line_kind.Destructor c.destroy))

-- what is before an open body, its first line among them
abbrev pub owner_lines : WholeItems → Owner → List kinds.Parameter → List Marked
owner_lines b (of.Procedure number) parameters = (Some number, head_line (length b.procedures) parameters) ∷ []
owner_lines b (of.Operation number) parameters = (Some number, line line_kind.Op (Some (Name (referent.Declared (length b.operations))) ∷ map parameter_operand its_parameters)) ∷ []
owner_lines b (of.Constructor c) parameters = open_class_lines (length b.classes) c ++ (None, Line line_kind.Constructor []) ∷ []
owner_lines b (of.Destructor c) parameters = open_class_lines (length b.classes) c ++ (None, Line line_kind.Destructor []) ∷ []

-- The tree so far.
abbrev pub stage_lines : WholeItems → Stage → List Marked
stage_lines b Outside = []
stage_lines b (InClass c) = open_class_lines (length b.classes) c
stage_lines b (InBody owner p) = owner_lines b owner p.parameters ++ inside_lines p

abbrev pub building_lines : Building → List Marked
building_lines b = all_lines (items_in_order b.whole) ++ stage_lines b.whole b.stage

-- the place after these bodies of a class
abbrev pub place_after : Option Body → Option Body → Open
place_after construct (Some destroy) = Destroyed
place_after (Some construct) None = Made
place_after None None = Fields

abbrev pub class_place : Class → Open
class_place c = place_after c.construct c.destroy

abbrev pub owner_places : Owner → List Open
owner_places (of.Procedure number) = []
owner_places (of.Operation number) = []
owner_places (of.Constructor c) = Made ∷ []
owner_places (of.Destructor c) = Destroyed ∷ []

abbrev pub stage_places : Stage → List Open
stage_places Outside = []
stage_places (InClass c) = class_place c ∷ []
stage_places (InBody owner p) = block_stack_places p.block_stack ++ owner_places owner

abbrev pub building_places : Building → List Open
building_places b = stage_places b.stage

-- the counts of whole items
abbrev pub counts_whole : WholeItems → Counts → Counts
counts_whole b counts = record counts { classes = fields_declared b.classes; procedures = signatures_of b.procedures; operations = length b.operations; blocks = [] }

-- with a class that is open
abbrev pub counts_of_class : WholeItems → Class → Counts → Counts
counts_of_class b c counts = record (counts_whole b counts) { classes = fields_declared b.classes ++ length c.fields ∷ [] }

-- with what an open body is of
abbrev pub counts_owned : WholeItems → Owner → List kinds.Parameter → Counts → Counts
counts_owned b (of.Procedure number) parameters counts = record (counts_whole b counts) { procedures = signatures_of b.procedures ++ parameters ∷ [] }
counts_owned b (of.Operation number) parameters counts = record (counts_whole b counts) { operations = length b.operations + 1 }
counts_owned b (of.Constructor c) parameters counts = counts_of_class b c counts
counts_owned b (of.Destructor c) parameters counts = counts_of_class b c counts

-- The counts so far. Where no body is open, `self` and the locals are those of the last, whichever that is.
abbrev pub AreCountsWhere : WholeItems → Stage → Counts → Type 0
AreCountsWhere b Outside counts = counts ≡ counts_whole b counts
AreCountsWhere b (InClass c) counts = counts ≡ counts_of_class b c counts
AreCountsWhere b (InBody owner p) counts = counts ≡ counts_in (counts_owned b owner p.parameters counts) p

abbrev pub AreCounts : Building → Counts → Type 0
AreCounts b counts = AreCountsWhere b.whole b.stage counts

-- whole items keep what a script's have to keep
pub record AreSound (declared : Declared) (b : WholeItems) : Type 0 where
  pub classes : IsTrue (are_classes declared 0 b.classes)
  pub procedures : IsTrue (list_all (is_procedure declared) b.procedures)
  pub operations : IsTrue (list_all (is_operation declared) b.operations)
  pub few_classes : length b.classes ≤ MOST_CLASSES
  pub few : length b.procedures + length b.operations ≤ MOST_PROCEDURES

-- there is room for one more procedure or operation
abbrev pub has_room : WholeItems → Bool
has_room b = nat_lt (length b.procedures + length b.operations) MOST_PROCEDURES

-- an open class, the next one
pub record IsSoundClass (declared : Declared) (b : WholeItems) (c : Class) : Type 0 where
  pub room : length b.classes < MOST_CLASSES
  pub sound : IsTrue (is_class_of declared (length b.classes) c)

-- what an open body is of can have a body with these parameters where `self` is of this class
abbrev pub IsOwned : Declared → WholeItems → Owner → Option ℕ → List kinds.Parameter → Type 0
IsOwned declared b (of.Procedure number) this parameters =
    IsTrue (has_room b) × (this ≡ None) × IsTrue (list_all (is_parameter (length declared.fields)) parameters && nat_le (length parameters) MOST_PARAMETERS)
IsOwned declared b (of.Operation number) this parameters = IsTrue (has_room b) × (this ≡ None) × (parameters ≡ its_parameters)
IsOwned declared b (of.Constructor c) this parameters =
    IsSoundClass declared b c × (this ≡ Some (length b.classes)) × (parameters ≡ []) × (c.construct ≡ None) × (c.destroy ≡ None)
IsOwned declared b (of.Destructor c) this parameters = IsSoundClass declared b c × (this ≡ Some (length b.classes)) × (parameters ≡ []) × (c.destroy ≡ None)

-- what is there so far keeps what a script's tree has to keep
abbrev pub IsSoundWhere : Declared → WholeItems → Stage → Type 0
IsSoundWhere declared b Outside = AreSound declared b
IsSoundWhere declared b (InClass c) = AreSound declared b × IsSoundClass declared b c
IsSoundWhere declared b (InBody owner p) = AreSound declared b × IsOwned declared b owner p.this p.parameters × IsSoundOpen declared p

pub record IsSound (declared : Declared) (b : Building) : Type 0 where
  pub stands : IsSoundWhere declared b.whole b.stage

-- the first lines of whole items are before the line with this number
pub record AreBelow (number : ℕ) (b : WholeItems) : Type 0 where
  pub classes : IsTrue (list_all (λ c. nat_lt c.line number) b.classes)
  pub procedures : IsTrue (list_all (λ p. nat_lt p.line number) b.procedures)
  pub operations : IsTrue (list_all (λ o. nat_lt o.line number) b.operations)

abbrev pub line_of_owner : Owner → ℕ
line_of_owner (of.Procedure number) = number
line_of_owner (of.Operation number) = number
line_of_owner (of.Constructor c) = c.line
line_of_owner (of.Destructor c) = c.line

-- the same of the open item too, which is the last
abbrev pub IsBelowWhere : ℕ → WholeItems → Stage → Type 0
IsBelowWhere number b Outside = AreBelow number b
IsBelowWhere number b (InClass c) = AreBelow c.line b × (c.line < number)
IsBelowWhere number b (InBody owner p) = AreBelow (line_of_owner owner) b × (line_of_owner owner < number)

pub record IsBelow (number : ℕ) (b : Building) : Type 0 where
  pub stands : IsBelowWhere number b.whole b.stage

-- the tree with one more line
pub record Grows (declared : Declared) (number : ℕ) (line : Indexed) (b next : Building) : Type 0 where
  pub lines : building_lines next ≡ building_lines b ++ counted number line
  pub sound : IsSound declared next
  pub below : IsBelow (number + 1) next
  pub counts : (counts : Counts) → AreCounts b counts → AreCounts next (counts_after counts line)
  pub places : after_line (building_places b) (role_of_form line) ≡ Some (building_places next)

-- the same, or nothing, where a line that fits has no place
abbrev pub GrowsWhereFit : Declared → ℕ → Indexed → Building → Option Building → Type 0
GrowsWhereFit declared number line b next =
    MatchOption next
    ((counts : Counts) → AreCounts b counts → IsTrue (fits declared counts line) → after_line (building_places b) (role_of_form line) ≡ None)
    (Grows declared number line b)

-- what is open after a line that leaves what is whole, or nothing, where a line that fits has no place
abbrev pub OpensWhereFit : Declared → ℕ → Indexed → WholeItems → Option Stage → Type 0
OpensWhereFit declared number line b next =
    MatchOption next
    ((counts : Counts) → AreCounts (outside b) counts → IsTrue (fits declared counts line) → after_line (building_places (outside b)) (role_of_form line) ≡ None)
    (λ stage. Grows declared number line (outside b) (record { whole = b; stage = stage }))

-- the tree after what a line of an open class says
abbrev pub building_after : WholeItems → Class → ClassLine → Building
building_after b c (says.Field field) = in_class b (record c { fields = c.fields ++ field ∷ [] })
building_after b c (says.Constructor p) = in_body b (of.Constructor c) p
building_after b c (says.Destructor p) = in_body b (of.Destructor c) p
building_after b c says.End = outside (with_class b c)

-- what a line says to an open class, or nothing, where a line that fits has no place
abbrev pub SaysWhereFit : Declared → ℕ → Indexed → WholeItems → Class → Option ClassLine → Type 0
SaysWhereFit declared number line b c said =
    MatchOption said
    ((counts : Counts) → AreCounts (in_class b c) counts → IsTrue (fits declared counts line) → after_line (building_places (in_class b c)) (role_of_form line) ≡ None)
    (λ s. Grows declared number line (in_class b c) (building_after b c s))
