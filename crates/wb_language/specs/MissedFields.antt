-- A field that its class doesn't declare, said of the lines of a script. The class is the one with which the first declaration of the
-- pointer before the field names it, in the body that the line is in; of `self` it is the one whose body that is.
use Rattle.std.specs.Prelude.{◌≡◌, ◌⊎◌, List, [], ◌∷◌, ◌++◌, Option, Some, None, Bool, true, false, map}
use Rattle.std.specs.List.{flat_map, list_all, list_any}
use Rattle.wb_tree.specs.declared.script_lines.OperandPlace.{OperandPlace}
use Rattle.wb_tree.specs.declared.script_lines.LocalKind.{LocalKind}
use Rattle.wb_tree.specs.declared.script_lines.LocalKind.TheVariants as kind
use Rattle.wb_tree.specs.declared.script_lines.Operand.{Operand}
use Rattle.wb_tree.specs.declared.script_lines.Operand.TheVariants.{Name, Field, Parameter}
use Rattle.wb_tree.specs.declared.script_lines.Form.{Form}
use Rattle.wb_tree.specs.declared.script_lines.Form.TheVariants.{Line}
use Rattle.wb_tree.specs.declared.script_lines.Role.{Role}
use Rattle.wb_tree.specs.declared.script_lines.Role.TheVariants as role
use Rattle.wb_language.specs.DeclaredAgain.{Space, begins_space, declares_in, is_class_role}
use Rattle.wb_language.specs.Forms.{role_of_form}
use Rattle.wb_language.specs.Names.{Text, is_among, kind_of_parameter, local_kind_of}
use Rattle.wb_language.specs.Resolved.{is_this}
use Rattle.wb_language.specs.Undeclared.{IsDeclared, UsesUndeclaredName, used_in}

-- a local or a parameter by its name, with what it holds
abbrev pub Held : Type 0
Held = Text × LocalKind Text

abbrev pub held_by_parameter : Operand Text → List Held
held_by_parameter (Parameter name type) = (name, kind_of_parameter type) ∷ []
held_by_parameter _ = []

abbrev pub held_as : Text → Option (LocalKind Text) → List Held
held_as name (Some kind) = (name, kind) ∷ []
held_as name None = []

-- what a line of a role declares in the space of a body
abbrev pub held_with : Role → Form Text → List Held
held_with role.Procedure (Line line_kind operands) = flat_map held_by_parameter operands
held_with role.Declaration (Line line_kind (Name name ∷ operands)) = held_as name (local_kind_of line_kind (Name name ∷ operands))
held_with _ _ = []

abbrev pub held_by : Form Text → List Held
held_by form = held_with (role_of_form form) form

abbrev pub names_held : List Held → List Text
names_held held = map (λ h. h.0) held

-- the first of these that has a name holds this
abbrev pub IsFirstHeld : List Held → Text → LocalKind Text → Type 0
IsFirstHeld held name kind = (first last : List Held) × (held ≡ first ++ (name, kind) ∷ last) × (is_among (names_held first) name ≡ false)

-- The body that is open after these lines: from the last on that begins a body, or from the first of the script on.
abbrev pub IsOpenBody : List (Form Text) → List (Form Text) → Type 0
IsOpenBody before body =
    (outside inside : List (Form Text)) × (head : Form Text) × (before ≡ outside ++ body) × (body ≡ head ∷ inside) × (list_any (begins_space Space.of_body) inside ≡ false)
    × ((begins_space Space.of_body head ≡ true) ⊎ (outside ≡ []))

-- what the first declaration of a name in the body that is open after these lines says that it holds
abbrev pub IsHeldAs : List (Form Text) → Text → LocalKind Text → Type 0
IsHeldAs before name kind = (body : List (Form Text)) × IsOpenBody before body × IsFirstHeld (flat_map held_by body) name kind

-- These lines follow the head of the class with this name: the first line that declares it in the script's own space is that of a class.
abbrev pub IsClassNamed : List (Form Text) → Text → List (Form Text) → Type 0
IsClassNamed forms name following =
    (earlier : List (Form Text)) × (head : Form Text) × (forms ≡ earlier ++ head ∷ following) × (declares_in Space.of_script name head ≡ true) × (list_any (declares_in Space.of_script name) earlier ≡ false)
    × (is_class_role (role_of_form head) ≡ true)

-- These lines follow the head of the class that is open, or was the last, after the first ones.
abbrev pub IsClassAround : List (Form Text) → List (Form Text) → List (Form Text) → Type 0
IsClassAround forms before following =
    (earlier later : List (Form Text)) × (head : Form Text) × (before ≡ earlier ++ head ∷ later) × (is_class_role (role_of_form head) ≡ true) × (list_any (begins_space Space.of_class) later ≡ false)
    × (forms ≡ earlier ++ head ∷ following)

-- These lines follow the head of the class of what a name before a field is: of `self`, in a body of a class, the class around it;
-- of a pointer the class that its declaration names.
abbrev pub IsClassOf : List (Form Text) → List (Form Text) → Text → List (Form Text) → Type 0
IsClassOf forms before base following =
    ((is_this base ≡ true) × IsDeclared before base × IsClassAround forms before following)
    ⊎ ((is_this base ≡ false) × (class : Text) × IsHeldAs before base (kind.Pointer (Some class)) × IsClassNamed forms class following)

abbrev pub is_field_role : Role → Bool
is_field_role role.Field = true
is_field_role role.Skip = true
is_field_role _ = false

-- a line of the fields of a class, or one that is skipped
abbrev pub is_among_fields : Form Text → Bool
is_among_fields form = is_field_role (role_of_form form)

-- one of the lines of fields that follow the head of a class declares this one
abbrev pub DeclareField : List (Form Text) → Text → Type 0
DeclareField following field = (earlier later : List (Form Text)) × (form : Form Text) × (following ≡ earlier ++ form ∷ later) × (declares_in Space.of_class field form ≡ true) × (list_all is_among_fields earlier ≡ true)

-- a field that an operand names, after the name before it
abbrev pub field_named : OperandPlace → Operand Text → List (Text × Text)
field_named operand_place (Field base field) = (base, field) ∷ []
field_named operand_place operand = []

-- a line of a script, after these, names a field that the class of the pointer before it doesn't declare
abbrev pub MissesField : List (Form Text) → List (Form Text) → Form Text → Type 0
MissesField forms before form =
    (base field : Text) × (first last : List (Text × Text)) × (used_in field_named form ≡ first ++ (base, field) ∷ last) × (following : List (Form Text)) × IsClassOf forms before base following × (DeclareField following field → ⊥)

-- a line uses a name that is declared nowhere in its space
abbrev pub UsesUnknown : List (Form Text) → List (Form Text) → Form Text → Type 0
UsesUnknown forms before form = UsesUndeclaredName forms before form ⊎ MissesField forms before form
