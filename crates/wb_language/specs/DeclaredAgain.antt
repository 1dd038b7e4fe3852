-- What it is to declare a name again, said of the lines of a script: an earlier line of the same space declares it, or two
-- parameters of the line have that name.
use Rattle.std.specs.Prelude.{◌≡◌, ◌⊎◌, List, [], ◌∷◌, ◌++◌, Bool, true, false}
use Rattle.std.specs.List.{list_any}
use Rattle.wb_tree.specs.declared.script_lines.Form.{Form}
use Rattle.wb_tree.specs.declared.script_lines.Role.{Role}
use Rattle.wb_tree.specs.declared.script_lines.Role.TheVariants as role
use Rattle.wb_language.specs.Forms.{role_of_form}
use Rattle.wb_language.specs.Names.{Text, begins_body, first_name, is_among, parameter_names}

-- The spaces of names: that of classes, procedures and operations, the fields of a class, the parameters and locals of a body.
pub data Space : Type 0 where
  of_script : Space
  of_class : Space
  of_body : Space

-- the names that a line of a role declares in a space
abbrev pub names_by : Space → Role → Form Text → List Text
names_by Space.of_script role.Class form = first_name form
names_by Space.of_script role.Procedure form = first_name form
names_by Space.of_class role.Field form = first_name form
names_by Space.of_body role.Procedure form = parameter_names form
names_by Space.of_body role.Declaration form = first_name form
names_by _ _ form = []

-- a line declares a name in a space
abbrev pub declares_in : Space → Text → Form Text → Bool
declares_in space name form = is_among (names_by space (role_of_form form) form) name

abbrev pub is_class_role : Role → Bool
is_class_role role.Class = true
is_class_role _ = false

-- With this line a space begins anew: that of fields with a class, that of a body with its first line.
abbrev pub begins_space : Space → Form Text → Bool
begins_space Space.of_script form = false
begins_space Space.of_class form = is_class_role (role_of_form form)
begins_space Space.of_body form = begins_body (role_of_form form)

-- One of these lines declares a name in a space, and it doesn't begin anew after that one.
abbrev pub IsDeclaredIn : Space → List (Form Text) → Text → Type 0
IsDeclaredIn space lines name =
    (earlier later : List (Form Text)) × (form : Form Text) × (lines ≡ earlier ++ form ∷ later) × (declares_in space name form ≡ true) × (list_any (begins_space space) later ≡ false)

-- a line declares a name that a line before it declares in the same space, which this line doesn't begin anew
abbrev pub DeclaresAnother : List (Form Text) → Form Text → Type 0
DeclaresAnother before form = (space : Space) × (name : Text) × (begins_space space form ≡ false) × (declares_in space name form ≡ true) × IsDeclaredIn space before name

-- two parameters of a line have one name
abbrev pub HasTwoAlike : Form Text → Type 0
HasTwoAlike form = (name : Text) × (first between last : List Text) × (parameter_names form ≡ first ++ name ∷ (between ++ name ∷ last))

abbrev pub DeclaresAgain : List (Form Text) → List (Form Text) → Form Text → Type 0
DeclaresAgain forms before form = DeclaresAnother before form ⊎ HasTwoAlike form
