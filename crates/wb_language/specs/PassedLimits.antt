-- Which line passes a limit, said of the lines of a script: limit by limit, what is counted of the lines before it.
use Rattle.std.specs.Prelude.{◌≡◌, ℕ, ◌+◌, ◌≤◌, List, ◌∷◌, ◌++◌, Bool, true, false, length}
use Rattle.std.specs.List.{count_by, flat_map, list_any}
use Rattle.wb_basics.specs.declared.limits.TheConstants.{MOST_CLASSES, MOST_FIELDS, MOST_PROCEDURES, MOST_LOCALS, DEEPEST_BLOCK}
use Rattle.wb_tree.specs.declared.script_lines.Form.{Form}
use Rattle.wb_tree.specs.declared.script_lines.Role.{Role}
use Rattle.wb_tree.specs.declared.script_lines.Role.TheVariants as role
use Rattle.wb_language.specs.DeclaredAgain.{Space, names_by, begins_space, is_class_role}
use Rattle.wb_language.specs.Forms.{role_of_form}
use Rattle.wb_language.specs.Names.{Text, has_long_name, has_more_parameters, is_large}

-- how many of the lines have a role that passes a test
abbrev pub count_of : (Role → Bool) → List (Form Text) → ℕ
count_of test lines = count_by (λ form. test (role_of_form form)) lines

-- the first line of a procedure or of an operation
abbrev pub is_procedure_role : Role → Bool
is_procedure_role role.Procedure = true
is_procedure_role _ = false

abbrev pub is_block_role : Role → Bool
is_block_role role.Loop = true
is_block_role role.If = true
is_block_role _ = false

abbrev pub is_end_role : Role → Bool
is_end_role role.End = true
is_end_role _ = false

-- a line that is in no body: it begins a class or a body
abbrev pub is_in_no_body : Role → Bool
is_in_no_body role.Class = true
is_in_no_body role.Construct = true
is_in_no_body role.Destroy = true
is_in_no_body role.Procedure = true
is_in_no_body _ = false

-- Of these lines some, up to the last, declare so many names in a space: after the first of them it doesn't begin anew.
abbrev pub DeclareSoMany : Space → ℕ → List (Form Text) → Type 0
DeclareSoMany space most before =
    (earlier inside : List (Form Text)) × (first : Form Text) × (before ≡ earlier ++ first ∷ inside) × (list_any (begins_space space) inside ≡ false)
    × (most ≤ length (flat_map (λ form. names_by space (role_of_form form) form) (first ∷ inside)))

-- So many blocks are open after these lines: of some of them, up to the last, all in one body, so many more begin a block than
-- end one.
abbrev pub HaveOpenBlocks : ℕ → List (Form Text) → Type 0
HaveOpenBlocks most before =
    (earlier inside : List (Form Text)) × (before ≡ earlier ++ inside) × (list_any (λ form. is_in_no_body (role_of_form form)) inside ≡ false) × (count_of is_end_role inside + most ≤ count_of is_block_role inside)

-- The line passes a limit, after these lines: a name, a procedure's parameters, a class's extra bytes or a buffer are larger than they may
-- be, or it is one more class, procedure or operation, field of its class, local of its body, or block inside others than there may be.
pub data PassesLimit (forms before : List (Form Text)) (form : Form Text) : Type 0 where
  name : has_long_name form ≡ true → PassesLimit forms before form
  parameters : has_more_parameters form ≡ true → PassesLimit forms before form
  size : is_large form ≡ true → PassesLimit forms before form
  class : role_of_form form ≡ role.Class → MOST_CLASSES ≤ count_of is_class_role before → PassesLimit forms before form
  procedure : role_of_form form ≡ role.Procedure → MOST_PROCEDURES ≤ count_of is_procedure_role before → PassesLimit forms before form
  field : role_of_form form ≡ role.Field → DeclareSoMany Space.of_class MOST_FIELDS before → PassesLimit forms before form
  local : role_of_form form ≡ role.Declaration → DeclareSoMany Space.of_body MOST_LOCALS before → PassesLimit forms before form
  block : is_block_role (role_of_form form) ≡ true → HaveOpenBlocks DEEPEST_BLOCK before → PassesLimit forms before form
