-- Which line may leave where nothing may, said of the lines of a script: in the body of an operation or of a destructor, a
-- declaration, a statement or the head of a block that is none of the few which may be there.
use Rattle.std.specs.Prelude.{◌≡◌, List, [], ◌∷◌, ◌++◌, Bool, true, false, not, ◌&&◌, codes}
use Rattle.std.specs.List.{list_any}
use Rattle.wb_tree.specs.declared.script_lines.LineKind.TheVariants as line_kind
use Rattle.wb_tree.specs.declared.script_lines.Form.{Form}
use Rattle.wb_tree.specs.declared.script_lines.Form.TheVariants.{Line}
use Rattle.wb_tree.specs.declared.script_lines.Role.{Role}
use Rattle.wb_tree.specs.declared.script_lines.Role.TheVariants as role
use Rattle.wb_language.specs.DeclaredAgain.{Space, begins_space}
use Rattle.wb_language.specs.LineKinds.{role_of, text_of}
use Rattle.wb_language.specs.Names.{Text, is_among}

-- the words that begin the lines which may be there
abbrev pub quiet_words : List Text
quiet_words =
    codes "ptr" ∷ codes "int" ∷ codes "free" ∷ codes "delete" ∷ codes "set" ∷ codes "null" ∷ codes "add" ∷ codes "alloclen" ∷ codes "load"
    ∷ codes "store" ∷ codes "print" ∷ codes "heap" ∷ codes "available" ∷ codes "compress" ∷ codes "if" ∷ codes "repeat" ∷ []

-- a declaration, a statement, or the head of a block
abbrev pub does_something : Role → Bool
does_something role.Declaration = true
does_something role.Plain = true
does_something role.Loop = true
does_something role.If = true
does_something _ = false

-- a line that does something and begins with none of these words
abbrev pub is_never_quiet : Form Text → Bool
is_never_quiet (Line line_kind operands) = does_something (role_of line_kind) && not (is_among quiet_words (text_of line_kind))
is_never_quiet _ = false

-- the head of an operation or of a destructor
abbrev pub begins_quiet_body : Form Text → Bool
begins_quiet_body (Line line_kind.Op operands) = true
begins_quiet_body (Line line_kind.Destructor operands) = true
begins_quiet_body _ = false

-- The body that is open after these lines is one of an operation or of a destructor: one of them is its head, and none after that
-- one begins a body.
abbrev pub IsInQuietBody : List (Form Text) → Type 0
IsInQuietBody before = (outside inside : List (Form Text)) × (head : Form Text) × (before ≡ outside ++ head ∷ inside) × (begins_quiet_body head ≡ true) × (list_any (begins_space Space.of_body) inside ≡ false)

abbrev pub MayLeaveThere : List (Form Text) → List (Form Text) → Form Text → Type 0
MayLeaveThere forms before form = IsInQuietBody before × (is_never_quiet form ≡ true)
