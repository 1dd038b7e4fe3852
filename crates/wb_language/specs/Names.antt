-- The names of a script: which lines declare them, what is declared at a line, and which lines declare a name again or
-- pass a limit.
use Rattle.std.specs.Prelude.{ℕ, ◌+◌, ◌-◌, List, [], ◌∷◌, ◌++◌, Option, Some, None, Bool, true, false, ◌||◌, if◌then◌else◌, is_some, nat_le, nat_lt, length, map, slice_get, take}
use Rattle.std.specs.List.{list_any, flat_map}
use Rattle.std.specs.Option.{option_map_or}
use Rattle.std.specs.Str.{bytes_eq}
use Rattle.wb_basics.specs.declared.limits.TheConstants.{MOST_CLASSES, MOST_FIELDS, MOST_EXTRA, MOST_PROCEDURES, MOST_PARAMETERS, MOST_LOCALS, DEEPEST_BLOCK, LARGEST_BUFFER, LONGEST_NAME}
use Rattle.wb_tree.specs.declared.script_lines.LineKind.{LineKind}
use Rattle.wb_tree.specs.declared.script_lines.LineKind.TheVariants as line_kind
use Rattle.wb_tree.specs.declared.script_lines.ItemKind.{ItemKind}
use Rattle.wb_tree.specs.declared.script_lines.ItemKind.TheVariants as item
use Rattle.wb_tree.specs.declared.script_lines.BodyKind.{BodyKind}
use Rattle.wb_tree.specs.declared.script_lines.BodyKind.TheVariants as of
use Rattle.wb_tree.specs.declared.script_lines.ParameterType.{ParameterType}
use Rattle.wb_tree.specs.declared.script_lines.ParameterType.TheVariants as parameter_type
use Rattle.wb_tree.specs.declared.script_lines.LocalKind.{LocalKind}
use Rattle.wb_tree.specs.declared.script_lines.LocalKind.TheVariants as kind
use Rattle.wb_tree.specs.declared.script_lines.Operand.{Operand}
use Rattle.wb_tree.specs.declared.script_lines.Operand.TheVariants.{Name, Field, Size, Literal, Parameter}
use Rattle.wb_tree.specs.declared.script_lines.Form.{Form}
use Rattle.wb_tree.specs.declared.script_lines.Form.TheVariants.{Line}
use Rattle.wb_tree.specs.declared.script_lines.Role.{Role}
use Rattle.wb_tree.specs.declared.script_lines.Role.TheVariants as role
use Rattle.wb_language.specs.Forms.{role_of_form}
use Rattle.wb_language.specs.Passes.{first_bad, first_where}

-- a name, or the text of a literal
abbrev pub Text : Type 0
Text = List ℕ

-- the name that a line's first word spells: the one that a declaration declares
abbrev pub first_name : Form Text → List Text
first_name (Line line_kind (Name name ∷ operands)) = name ∷ []
first_name _ = []

abbrev pub literal_text : Operand Text → List Text
literal_text (Literal text) = text ∷ []
literal_text _ = []

-- the literals of a line, in order
abbrev pub literals_in : Form Text → List Text
literals_in (Line line_kind operands) = flat_map literal_text operands
literals_in _ = []

abbrev pub name_passed : Operand Text → List Text
name_passed (Parameter name kind) = name ∷ []
name_passed _ = []

abbrev pub parameter_type_of : {N : Type 0} → Operand N → List (ParameterType N)
parameter_type_of (Parameter name kind) = kind ∷ []
parameter_type_of _ = []

-- the names of the parameters that a line declares, in order
abbrev pub parameter_names : Form Text → List Text
parameter_names (Line line_kind operands) = flat_map name_passed operands
parameter_names _ = []

-- and what each of them takes
abbrev pub parameters_in : {N : Type 0} → Form N → List (ParameterType N)
parameters_in (Line line_kind operands) = flat_map parameter_type_of operands
parameters_in _ = []

-- Something of the script's own space: a class, with the names of its fields in order, a procedure or an operation, with what its
-- parameters take.
pub record Declaration : Type 0 where
  pub name : Text
  pub kind : ItemKind
  pub parameters : List (ParameterType Text)
  pub fields : List Text

-- what of the script's own space a line of a line kind begins
abbrev pub item_kind_of : LineKind → Option ItemKind
item_kind_of line_kind.Class = Some item.Class
item_kind_of line_kind.Proc = Some item.Procedure
item_kind_of line_kind.Op = Some item.Operation
item_kind_of _ = None

abbrev pub item_kind_in : {N : Type 0} → Form N → Option ItemKind
item_kind_in (Line line_kind operands) = item_kind_of line_kind
item_kind_in _ = None

-- the fields that a class has whose first line these follow, by a line's role and what the lines after it have
abbrev pub fields_with : Role → Form Text → List Text → List Text
fields_with role.Field form others = first_name form ++ others
fields_with role.Skip form others = others
fields_with _ form others = []

abbrev pub following_fields : List (Form Text) → List Text
following_fields [] = []
following_fields (form ∷ forms) = fields_with (role_of_form form) form (following_fields forms)

-- only a class has fields
abbrev pub fields_in_item : ItemKind → List (Form Text) → List Text
fields_in_item item.Class following = following_fields following
fields_in_item _ following = []

abbrev pub declaration_of : Form Text → List (Form Text) → ItemKind → Text → Declaration
declaration_of form following kind name = record { name = name; kind = kind; parameters = parameters_in form; fields = fields_in_item kind following }

abbrev pub items_of_kind : Form Text → List (Form Text) → Option ItemKind → List Declaration
items_of_kind form following (Some kind) = map (declaration_of form following kind) (first_name form)
items_of_kind form following None = []

-- what a line declares in the script's own space, where these lines follow
abbrev pub items_by : Form Text → List (Form Text) → List Declaration
items_by form following = items_of_kind form following (item_kind_in form)

-- the script's own space, from all its lines
abbrev pub items_of : List (Form Text) → List Declaration
items_of [] = []
items_of (form ∷ forms) = items_by form forms ++ items_of forms

abbrev pub names_of : List Declaration → List Text
names_of items = map (λ item. item.name) items

abbrev pub is_same_kind : ItemKind → ItemKind → Bool
is_same_kind item.Class item.Class = true
is_same_kind item.Procedure item.Procedure = true
is_same_kind item.Operation item.Operation = true
is_same_kind _ _ = false

-- those of a kind among items
abbrev pub of_kind : ItemKind → List Declaration → List Declaration
of_kind kind [] = []
of_kind kind (i ∷ items) = if is_same_kind i.kind kind then (i ∷ of_kind kind items) else of_kind kind items

-- the one of a kind with an index
abbrev pub item_of_kind : ItemKind → List Declaration → ℕ → Option Declaration
item_of_kind kind items index = slice_get (of_kind kind items) index

-- how many of a kind are among items
abbrev pub count_among : ItemKind → List Declaration → ℕ
count_among kind items = length (of_kind kind items)

-- the literals of a script, in order
abbrev pub literals_of : List (Form Text) → List Text
literals_of forms = flat_map literals_in forms

abbrev pub second_name : List (Operand Text) → Option Text
second_name (first ∷ Name name ∷ operands) = Some name
second_name _ = None

-- what the local holds that a line declares; a pointer's class is the second word
abbrev pub local_kind_of : LineKind → List (Operand Text) → Option (LocalKind Text)
local_kind_of line_kind.Ptr operands = Some (kind.Pointer None)
local_kind_of line_kind.ClassPtr operands = Some (kind.Pointer (second_name operands))
local_kind_of line_kind.Int operands = Some kind.Number
local_kind_of line_kind.Buf operands = Some kind.Buffer
local_kind_of line_kind.View operands = Some kind.View
local_kind_of _ operands = None

abbrev pub local_kind_in : Form Text → Option (LocalKind Text)
local_kind_in (Line line_kind operands) = local_kind_of line_kind operands
local_kind_in _ = None

-- what a parameter holds
abbrev pub kind_of_parameter : ParameterType Text → LocalKind Text
kind_of_parameter parameter_type.Pointer = kind.Pointer None
kind_of_parameter parameter_type.Number = kind.Number
kind_of_parameter (parameter_type.OfClass class) = kind.Pointer (Some class)

abbrev pub with_one : {X : Type 0} → List X → Option X → List X
with_one xs (Some x) = xs ++ x ∷ []
with_one xs None = xs

abbrev pub without_last : {X : Type 0} → List X → List X
without_last xs = take (length xs - 1) xs

abbrev pub line_kind_in : {N : Type 0} → Form N → List LineKind
line_kind_in (Line line_kind operands) = line_kind ∷ []
line_kind_in _ = []

-- What is before a line: how many classes, procedures and operations of the script's own space, the fields of the class begun
-- last, how many literals; what the body is of that is open or was the last, its locals, its parameters first, each with what it
-- holds; and the line kinds of the blocks that are open, the innermost last.
pub record NamesSoFar : Type 0 where
  pub classes : ℕ
  pub procedures : ℕ
  pub operations : ℕ
  pub fields : List Text
  pub literals : ℕ
  pub body : BodyKind
  pub locals : List Text
  pub kinds : List (LocalKind Text)
  pub blocks : List LineKind

abbrev pub nothing_known : NamesSoFar
nothing_known = record { classes = 0; procedures = 0; operations = 0; fields = []; literals = 0; body = of.Procedure; locals = []; kinds = []; blocks = [] }

-- how many of a kind a line begins
abbrev pub count_begun : ItemKind → Form Text → ℕ
count_begun kind form = count_among kind (items_by form [])

-- the names that a line declares in the space of a body: a procedure's parameters are the first of its own
abbrev pub locals_by : Role → Form Text → List Text
locals_by role.Procedure form = parameter_names form
locals_by role.Declaration form = first_name form
locals_by _ form = []

-- a line that begins a body
abbrev pub begins_body : Role → Bool
begins_body role.Procedure = true
begins_body role.Construct = true
begins_body role.Destroy = true
begins_body _ = false

-- the locals of the body that is open after a line
abbrev pub locals_after : Role → Form Text → List Text → List Text
locals_after role form locals = if begins_body role then locals_by role form else locals ++ locals_by role form

abbrev pub kinds_by : Role → Form Text → List (LocalKind Text)
kinds_by role.Procedure form = map kind_of_parameter (parameters_in form)
kinds_by role.Declaration form = with_one [] (local_kind_in form)
kinds_by _ form = []

abbrev pub kinds_after : Role → Form Text → List (LocalKind Text) → List (LocalKind Text)
kinds_after role form kinds = if begins_body role then kinds_by role form else kinds ++ kinds_by role form

-- the fields of the class begun last
abbrev pub fields_after : Role → Form Text → List Text → List Text
fields_after role.Class form fields = []
fields_after role.Field form fields = fields ++ first_name form
fields_after _ form fields = fields

-- the blocks that are open after a line
abbrev pub blocks_after : {N : Type 0} → Role → Form N → List LineKind → List LineKind
blocks_after role.Class form blocks = []
blocks_after role.Construct form blocks = []
blocks_after role.Destroy form blocks = []
blocks_after role.Procedure form blocks = []
blocks_after role.Loop form blocks = blocks ++ line_kind_in form
blocks_after role.If form blocks = blocks ++ line_kind_in form
blocks_after role.End form blocks = without_last blocks
blocks_after _ form blocks = blocks

-- what the body is of that a line of a line kind begins
abbrev pub body_kind_of : LineKind → Option BodyKind
body_kind_of line_kind.Proc = Some of.Procedure
body_kind_of line_kind.Op = Some of.Operation
body_kind_of line_kind.Constructor = Some of.Constructor
body_kind_of line_kind.Destructor = Some of.Destructor
body_kind_of _ = None

abbrev pub body_in : {N : Type 0} → Form N → Option BodyKind
body_in (Line line_kind operands) = body_kind_of line_kind
body_in _ = None

abbrev pub body_after : Option BodyKind → BodyKind → BodyKind
body_after (Some kind) body = kind
body_after None body = body

abbrev pub known_with : Role → Form Text → NamesSoFar → NamesSoFar
known_with role form known = record {
  classes = known.classes + count_begun item.Class form;
  procedures = known.procedures + count_begun item.Procedure form;
  operations = known.operations + count_begun item.Operation form;
  fields = fields_after role form known.fields;
  literals = known.literals + length (literals_in form);
  body = body_after (body_in form) known.body;
  locals = locals_after role form known.locals;
  kinds = kinds_after role form known.kinds;
  blocks = blocks_after role form known.blocks;
}

-- with one more line
abbrev pub known_after : NamesSoFar → Form Text → NamesSoFar
known_after known form = known_with (role_of_form form) form known

-- the index of the first declaration of a name
abbrev pub first_declaration_of : List Text → Text → Option ℕ
first_declaration_of names name = first_where (λ n. bytes_eq n name) names

-- how many procedures and operations are before a line
abbrev pub bodies_before : NamesSoFar → ℕ
bodies_before known = known.procedures + known.operations

-- and how many items of the script's own space
abbrev pub items_before : NamesSoFar → ℕ
items_before known = known.classes + bodies_before known

-- how many of its kind are before what a line of a line kind declares
abbrev pub names_before : LineKind → NamesSoFar → ℕ
names_before line_kind.Class known = known.classes
names_before line_kind.Field known = length known.fields
names_before line_kind.ClassField known = length known.fields
names_before line_kind.Proc known = known.procedures
names_before line_kind.Op known = known.operations
names_before _ known = length known.locals

-- a name is that of one of the first items of the script's own space
abbrev pub is_item_before : List Text → ℕ → Text → Bool
is_item_before items before name = option_map_or (λ index. nat_lt index before) (first_declaration_of items name) false

-- a name that is declared in the space of a line of this role
abbrev pub is_declared_there : List Text → NamesSoFar → Role → Text → Bool
is_declared_there items known role.Class name = is_item_before items (items_before known) name
is_declared_there items known role.Procedure name = is_item_before items (items_before known) name
is_declared_there items known role.Field name = is_some (first_declaration_of known.fields name)
is_declared_there items known role.Declaration name = is_some (first_declaration_of known.locals name)
is_declared_there items known _ name = false

abbrev pub is_among : List Text → Text → Bool
is_among names name = list_any (λ n. bytes_eq n name) names

-- a name is twice among these
abbrev pub has_double : List Text → Bool
has_double [] = false
has_double (name ∷ names) = is_among names name || has_double names

-- a line that declares a name which is declared in its space, or two parameters with one name
abbrev pub declares_again : List Text → NamesSoFar → Form Text → Bool
declares_again items known form = list_any (is_declared_there items known (role_of_form form)) (first_name form) || has_double (parameter_names form)

-- a declaration or a block where there are as many as there may be
abbrev pub is_one_more : Role → NamesSoFar → Bool
is_one_more role.Class known = nat_le MOST_CLASSES known.classes
is_one_more role.Field known = nat_le MOST_FIELDS (length known.fields)
is_one_more role.Procedure known = nat_le MOST_PROCEDURES (bodies_before known)
is_one_more role.Declaration known = nat_le MOST_LOCALS (length known.locals)
is_one_more role.Loop known = nat_le DEEPEST_BLOCK (length known.blocks)
is_one_more role.If known = nat_le DEEPEST_BLOCK (length known.blocks)
is_one_more _ known = false

abbrev pub is_long_name : Text → Bool
is_long_name name = nat_lt LONGEST_NAME (length name)

abbrev pub has_long_class : ParameterType Text → Bool
has_long_class (parameter_type.OfClass class) = is_long_name class
has_long_class _ = false

-- each half of a field or of a parameter is a name by itself
abbrev pub is_long : Operand Text → Bool
is_long (Name name) = is_long_name name
is_long (Field base field) = is_long_name base || is_long_name field
is_long (Parameter name kind) = is_long_name name || has_long_class kind
is_long _ = false

-- a line with a longer name than names may be
abbrev pub has_long_name : Form Text → Bool
has_long_name (Line line_kind operands) = list_any is_long operands
has_long_name _ = false

-- a buffer with a larger maximum than buffers may have, or a class with more extra bytes than classes
abbrev pub is_large : Form Text → Bool
is_large (Line line_kind.Class (name ∷ Size extra ∷ [])) = nat_lt MOST_EXTRA extra
is_large (Line line_kind.Buf (name ∷ Size max ∷ [])) = nat_lt LARGEST_BUFFER max
is_large _ = false

-- a procedure with more parameters than one may have
abbrev pub has_more_parameters : Form Text → Bool
has_more_parameters form = nat_lt MOST_PARAMETERS (length (parameters_in form))

-- a line that passes a limit
abbrev pub passes_limit : NamesSoFar → Form Text → Bool
passes_limit known form = (has_long_name form || has_more_parameters form) || (is_one_more (role_of_form form) known || is_large form)

-- the index of the first line that a test refuses, by what is before it
abbrev pub first_refused : (NamesSoFar → Form Text → Bool) → List (Form Text) → Option ℕ
first_refused bad forms = first_bad known_after bad nothing_known forms
