-- What an unknown name is, said of the lines of a script: a line uses a name that no line of its body declares before it, `self`
-- outside of the bodies of classes, the name of a class, a procedure or an operation that no line of the script declares, or a
-- field that no line of its class declares. By the grammar no declaration is after a line that uses a name, so these are all
-- that the body declares.
use Rattle.std.specs.Prelude.{◌≡◌, ◌⊎◌, ℕ, suc, ◌<◌, List, [], ◌∷◌, ◌++◌, Option, Some, None, Bool, true, false, not, if◌then◌else◌, length}
use Rattle.std.specs.List.{list_all, list_any}
use Rattle.wb_tree.specs.declared.script_lines.OperandPlace.{OperandPlace}
use Rattle.wb_tree.specs.declared.script_lines.OperandPlace.TheVariants as operand_place
use Rattle.wb_tree.specs.declared.script_lines.ParameterType.TheVariants.{OfClass}
use Rattle.wb_tree.specs.declared.script_lines.Operand.{Operand}
use Rattle.wb_tree.specs.declared.script_lines.Operand.TheVariants.{Name, Field, Parameter}
use Rattle.wb_tree.specs.declared.script_lines.Form.{Form}
use Rattle.wb_tree.specs.declared.script_lines.Form.TheVariants.{Line}
use Rattle.wb_tree.specs.declared.script_lines.Role.{Role}
use Rattle.wb_tree.specs.declared.script_lines.Role.TheVariants.{Construct, Destroy}
use Rattle.wb_language.specs.Forms.{role_of_form}
use Rattle.wb_language.specs.LineKinds.{operand_places_for}
use Rattle.wb_language.specs.Names.{Text, Declaration, NamesSoFar, begins_body, is_among, items_of, known_after, names_of, nothing_known, locals_by}
use Rattle.wb_language.specs.Passes.{state_after}
use Rattle.wb_language.specs.Resolved.{class_of_base, fields_of_class, is_this}

-- a name that is looked up in the space of the body
abbrev pub local_used : OperandPlace → Operand Text → List Text
local_used operand_place (Field base field) = base ∷ []
local_used operand_place.Declared operand = []
local_used operand_place.Class operand = []
local_used operand_place.Procedure operand = []
local_used operand_place.Operation operand = []
local_used _ (Name name) = name ∷ []
local_used _ operand = []

-- a name that is looked up in the script's own space
abbrev pub item_used : OperandPlace → Operand Text → List Text
item_used operand_place (Parameter name (OfClass class)) = class ∷ []
item_used operand_place.Class (Name name) = name ∷ []
item_used operand_place.Procedure (Name name) = name ∷ []
item_used operand_place.Operation (Name name) = name ∷ []
item_used _ operand = []

-- what operands use, by what one uses
abbrev pub names_used : {X : Type 0} → (OperandPlace → Operand Text → List X) → List OperandPlace → List (Operand Text) → List X
names_used used (operand_place ∷ operand_places) (operand ∷ operands) = used operand_place operand ++ names_used used operand_places operands
names_used used _ _ = []

-- what a line uses
abbrev pub used_in : {X : Type 0} → (OperandPlace → Operand Text → List X) → Form Text → List X
used_in used (Line line_kind operands) = names_used used (operand_places_for line_kind (length operands)) operands
used_in used _ = []

-- a line that begins no body
abbrev pub stays_inside : Form Text → Bool
stays_inside form = not (begins_body (role_of_form form))

-- the head of a body of a class
abbrev pub is_of_object : Role → Bool
is_of_object Construct = true
is_of_object Destroy = true
is_of_object _ = false

-- A line declares a name in the space of a body; the head of a body of a class declares `self`.
abbrev pub declares : Form Text → Text → Bool
declares form name = if is_this name then is_of_object (role_of_form form) else is_among (locals_by (role_of_form form) form) name

-- The body that is open after these lines declares the name: one of them does, and none after that one begins a body.
abbrev pub IsDeclared : List (Form Text) → Text → Type 0
IsDeclared before name = (earlier later : List (Form Text)) × (form : Form Text) × (before ≡ earlier ++ form ∷ later) × (declares form name ≡ true) × (list_all stays_inside later ≡ true)

-- a line of a script, after these, uses a name that its body doesn't declare, or one that the script doesn't
abbrev pub UsesUndeclaredName : List (Form Text) → List (Form Text) → Form Text → Type 0
UsesUndeclaredName forms before form = (name : Text) ×
    (((is_among (used_in local_used form) name ≡ true) × (IsDeclared before name → ⊥))
    ⊎ ((is_among (used_in item_used form) name ≡ true) × (is_among (names_of (items_of forms)) name ≡ false)))

-- A field isn't one of a class. Where there is no class it isn't looked up.
abbrev pub is_missing : List Declaration → Option ℕ → Text → Bool
is_missing items (Some class) field = not (is_among (fields_of_class items class) field)
is_missing items None field = false

-- an operand that names a field which isn't one of its base's class
abbrev pub field_missed : List Declaration → NamesSoFar → OperandPlace → Operand Text → List Bool
field_missed items known operand_place (Field base field) = is_missing items (class_of_base items known base) field ∷ []
field_missed items known operand_place operand = []

-- a line of a script, after these, uses a field that its class doesn't declare
abbrev pub uses_undeclared_field : List (Form Text) → List (Form Text) → Form Text → Bool
uses_undeclared_field forms before form =
    list_any (λ b. b) (used_in (field_missed (items_of forms) (state_after known_after nothing_known before)) form)

abbrev pub UsesUndeclared : List (Form Text) → List (Form Text) → Form Text → Type 0
UsesUndeclared forms before form = UsesUndeclaredName forms before form ⊎ (uses_undeclared_field forms before form ≡ true)

-- no line before the one with this index uses such a name
abbrev pub UsesDeclaredUpTo : List (Form Text) → ℕ → Type 0
UsesDeclaredUpTo forms n = (before after : List (Form Text)) (form : Form Text) → forms ≡ before ++ form ∷ after → length before < n → UsesUndeclared forms before form → ⊥

-- the line with this index is the first that uses such a name
abbrev pub IsFirstUndeclared : List (Form Text) → ℕ → Type 0
IsFirstUndeclared forms n =
    ((before after : List (Form Text)) × (form : Form Text) × (forms ≡ before ++ form ∷ after) × (length before ≡ n) × UsesUndeclared forms before form) × UsesDeclaredUpTo forms n

-- the line with this number, from 1
abbrev pub IsFirstUndeclaredLine : List (Form Text) → ℕ → Type 0
IsFirstUndeclaredLine forms n = (index : ℕ) × (n ≡ suc index) × IsFirstUndeclared forms index
