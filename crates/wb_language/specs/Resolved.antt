-- The lines of a script with what their names and literals stand for.
use Rattle.std.specs.Prelude.{ℕ, ◌-◌, List, [], ◌∷◌, Option, Some, None, Bool, true, false, ◌||◌, codes, if◌then◌else◌, length, slice_get, take}
use Rattle.std.specs.List.{list_any}
use Rattle.std.specs.Str.{bytes_eq}
use Rattle.wb_tree.specs.declared.script_lines.LineKind.{LineKind}
use Rattle.wb_tree.specs.declared.script_lines.ItemKind.{ItemKind}
use Rattle.wb_tree.specs.declared.script_lines.ItemKind.TheVariants as item
use Rattle.wb_tree.specs.declared.script_lines.BodyKind.{BodyKind}
use Rattle.wb_tree.specs.declared.script_lines.BodyKind.TheVariants as of
use Rattle.wb_tree.specs.declared.script_lines.ParameterType.{ParameterType}
use Rattle.wb_tree.specs.declared.script_lines.ParameterType.TheVariants as parameter_type
use Rattle.wb_tree.specs.declared.script_lines.LocalKind.{LocalKind}
use Rattle.wb_tree.specs.declared.script_lines.LocalKind.TheVariants as kind
use Rattle.wb_tree.specs.declared.script_lines.OperandPlace.{OperandPlace}
use Rattle.wb_tree.specs.declared.script_lines.OperandPlace.TheVariants as operand_place
use Rattle.wb_tree.specs.declared.script_lines.Referent.{Referent}
use Rattle.wb_tree.specs.declared.script_lines.Referent.TheVariants as referent
use Rattle.wb_tree.specs.declared.script_lines.Operand.{Operand}
use Rattle.wb_tree.specs.declared.script_lines.Operand.TheVariants.{Name, Field, Number, Size, Literal, Parameter, Keyword}
use Rattle.wb_tree.specs.declared.script_lines.Form.{Form}
use Rattle.wb_tree.specs.declared.script_lines.Form.TheVariants.{Skip, Unknown, Line}
use Rattle.wb_language.specs.LineKinds.{operand_places_for}
use Rattle.wb_language.specs.Names.{Text, Declaration, NamesSoFar, count_among, item_of_kind, nothing_known, known_after, names_before, names_of, items_of, first_declaration_of}
use Rattle.wb_language.specs.Passes.{each_with}

-- the local with an index, by what it holds
abbrev pub local_referent : ℕ → Option (LocalKind Text) → Referent
local_referent index (Some (kind.Pointer class)) = referent.Pointer index
local_referent index (Some kind.Number) = referent.Number index
local_referent index (Some kind.Buffer) = referent.Buffer index
local_referent index (Some kind.View) = referent.View index
local_referent index None = referent.Nothing

abbrev pub referent_at : List (LocalKind Text) → Option ℕ → Referent
referent_at kinds (Some index) = local_referent index (slice_get kinds index)
referent_at kinds None = referent.Nothing

-- `self` is known in the bodies of classes alone
abbrev pub has_this : BodyKind → Bool
has_this of.Constructor = true
has_this of.Destructor = true
has_this _ = false

abbrev pub is_this : Text → Bool
is_this name = bytes_eq name (codes "self")

abbrev pub this_referent : BodyKind → Referent
this_referent body = if has_this body then referent.This else referent.Nothing

-- what a name stands for in the space of the body: its first declaration's, or `self`
abbrev pub own_referent : NamesSoFar → Text → Referent
own_referent known name = if is_this name then this_referent known.body else referent_at known.kinds (first_declaration_of known.locals name)

-- one of a kind, by its index among these
abbrev pub referent_of_kind : ItemKind → ℕ → Referent
referent_of_kind item.Class index = referent.Class index
referent_of_kind item.Procedure index = referent.Procedure index
referent_of_kind item.Operation index = referent.Operation index

-- an item of the script's own space, after others
abbrev pub item_after : List Declaration → Option Declaration → Referent
item_after before (Some i) = referent_of_kind i.kind (count_among i.kind before)
item_after before None = referent.Nothing

abbrev pub item_at : List Declaration → Option ℕ → Referent
item_at items (Some index) = item_after (take index items) (slice_get items index)
item_at items None = referent.Nothing

-- what a name stands for in the script's own space: its first declaration's
abbrev pub item_referent : List Declaration → Text → Referent
item_referent items name = item_at items (first_declaration_of (names_of items) name)

abbrev pub class_in : Referent → Option ℕ
class_in (referent.Class index) = Some index
class_in _ = None

-- the class with a name, where it is one's
abbrev pub class_named : List Declaration → Text → Option ℕ
class_named items name = class_in (item_referent items name)

abbrev pub class_if_named : List Declaration → Option Text → Option ℕ
class_if_named items (Some name) = class_named items name
class_if_named items None = None

abbrev pub class_of_kind : List Declaration → Option (LocalKind Text) → Option ℕ
class_of_kind items (Some (kind.Pointer class)) = class_if_named items class
class_of_kind items _ = None

abbrev pub class_of_local : List Declaration → List (LocalKind Text) → Option ℕ → Option ℕ
class_of_local items kinds (Some index) = class_of_kind items (slice_get kinds index)
class_of_local items kinds None = None

-- `self` is of the class begun last
abbrev pub class_of_this : NamesSoFar → Option ℕ
class_of_this known = if has_this known.body then Some (known.classes - 1) else None

-- the class that what holds a pointer is declared with; `None` if it is of none
abbrev pub class_of_base : List Declaration → NamesSoFar → Text → Option ℕ
class_of_base items known name =
    if is_this name then class_of_this known else class_of_local items known.kinds (first_declaration_of known.locals name)

abbrev pub fields_of_item : Option Declaration → List Text
fields_of_item (Some i) = i.fields
fields_of_item None = []

-- the fields of the class with an index
abbrev pub fields_of_class : List Declaration → ℕ → List Text
fields_of_class items class = fields_of_item (item_of_kind item.Class items class)

abbrev pub field_at : ℕ → Option ℕ → Referent
field_at class (Some index) = referent.Field class index
field_at class None = referent.Nothing

-- A field is looked up where there is a class, and is the first that has its name.
abbrev pub field_referent : List Declaration → Option ℕ → Text → Referent
field_referent items (Some class) name = field_at class (first_declaration_of (fields_of_class items class) name)
field_referent items None name = referent.Classless

-- A declared name is the next of its kind, and a used one is its first declaration's: that of a class, a procedure or an operation
-- in the script's own space, any other in that of the body.
abbrev pub name_referent : List Declaration → NamesSoFar → LineKind → OperandPlace → Text → Referent
name_referent items known line_kind operand_place.Declared name = referent.Declared (names_before line_kind known)
name_referent items known line_kind operand_place.Class name = item_referent items name
name_referent items known line_kind operand_place.Procedure name = item_referent items name
name_referent items known line_kind operand_place.Operation name = item_referent items name
name_referent items known line_kind _ name = own_referent known name

abbrev pub resolved_parameter_type : List Declaration → ParameterType Text → ParameterType Referent
resolved_parameter_type items parameter_type.Pointer = parameter_type.Pointer
resolved_parameter_type items parameter_type.Number = parameter_type.Number
resolved_parameter_type items (parameter_type.OfClass class) = parameter_type.OfClass (item_referent items class)

-- Literals have their indexes over the whole script; no line has two.
abbrev pub resolved_operand : List Declaration → NamesSoFar → LineKind → OperandPlace → Operand Text → Operand Referent
resolved_operand items known line_kind operand_place (Name name) = Name (name_referent items known line_kind operand_place name)
resolved_operand items known line_kind operand_place (Field base field) = Field (own_referent known base) (field_referent items (class_of_base items known base) field)
resolved_operand items known line_kind operand_place (Number z) = Number z
resolved_operand items known line_kind operand_place (Size n) = Size n
resolved_operand items known line_kind operand_place (Literal text) = Literal (referent.Literal known.literals)
resolved_operand items known line_kind operand_place (Parameter name kind) = Parameter referent.Parameter (resolved_parameter_type items kind)
resolved_operand items known line_kind operand_place Keyword = Keyword

abbrev pub resolved_operands : List Declaration → NamesSoFar → LineKind → List OperandPlace → List (Operand Text) → List (Operand Referent)
resolved_operands items known line_kind (operand_place ∷ operand_places) (operand ∷ operands) = resolved_operand items known line_kind operand_place operand ∷ resolved_operands items known line_kind operand_places operands
resolved_operands items known line_kind _ _ = []

-- a line, by the script's own space and what is before it
abbrev pub resolved_line : List Declaration → NamesSoFar → Form Text → Form Referent
resolved_line items known Skip = Skip
resolved_line items known Unknown = Unknown
resolved_line items known (Line line_kind operands) = Line line_kind (resolved_operands items known line_kind (operand_places_for line_kind (length operands)) operands)

-- the lines, by a script's own space
abbrev pub resolved_among : List Declaration → List (Form Text) → List (Form Referent)
resolved_among items forms = each_with known_after (resolved_line items) nothing_known forms

abbrev pub resolved : List (Form Text) → List (Form Referent)
resolved forms = resolved_among (items_of forms) forms

abbrev pub refers_to_nothing : Referent → Bool
refers_to_nothing referent.Nothing = true
refers_to_nothing _ = false

abbrev pub takes_nothing : ParameterType Referent → Bool
takes_nothing (parameter_type.OfClass class) = refers_to_nothing class
takes_nothing _ = false

abbrev pub means_nothing : Operand Referent → Bool
means_nothing (Name name) = refers_to_nothing name
means_nothing (Field base field) = refers_to_nothing base || refers_to_nothing field
means_nothing (Parameter name kind) = takes_nothing kind
means_nothing _ = false

abbrev pub has_unknown : Form Referent → Bool
has_unknown (Line line_kind operands) = list_any means_nothing operands
has_unknown _ = false

-- a line that uses a name which its space doesn't declare
abbrev pub uses_unknown : List Declaration → NamesSoFar → Form Text → Bool
uses_unknown items known form = has_unknown (resolved_line items known form)
