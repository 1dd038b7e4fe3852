-- How lines are read, with the open blocks, the innermost first.
use Rattle.std.specs.Prelude.{List, [], ◌∷◌, Option, Some, None}
use Rattle.wb_tree.specs.declared.script_lines.Role.{Role}
use Rattle.wb_tree.specs.declared.script_lines.Role.TheVariants.{Skip, Class, Field, Construct, Destroy, Procedure, Declaration, Plain, Loop, If, Else, End}
use Rattle.wb_nesting.specs.declared.open.Open.{Open}
use Rattle.wb_nesting.specs.declared.open.Open.TheVariants.{Fields, Made, Destroyed, Declarations, Statements, Branch, Block}
use Rattle.wb_nesting.specs.declared.open.Move.{Move}
use Rattle.wb_nesting.specs.declared.open.Move.TheVariants.{Close, Stay, Enter}

abbrev pub statement : Open → Role → Option Move
statement place Plain = Some (Stay place)
statement place Loop = Some (Enter place Block)
statement place If = Some (Enter place Branch)
statement place End = Some Close
statement place _ = None

abbrev pub move_of : Option Open → Role → Option Move
move_of None Class = Some (Stay Fields)
move_of None Procedure = Some (Stay Declarations)
move_of (Some Fields) Field = Some (Stay Fields)
move_of (Some Fields) Construct = Some (Enter Made Declarations)
move_of (Some Fields) Destroy = Some (Enter Destroyed Declarations)
move_of (Some Fields) End = Some Close
move_of (Some Made) Destroy = Some (Enter Destroyed Declarations)
move_of (Some Made) End = Some Close
move_of (Some Destroyed) End = Some Close
move_of (Some Declarations) Declaration = Some (Stay Declarations)
move_of (Some Declarations) role = statement Statements role
move_of (Some Statements) role = statement Statements role
move_of (Some Branch) Else = Some (Stay Block)
move_of (Some Branch) role = statement Branch role
move_of (Some Block) role = statement Block role
move_of _ _ = None

-- the open blocks after a move of the innermost, which is not in the list
abbrev pub after : Move → List Open → List Open
after Close below = below
after (Stay place) below = place ∷ below
after (Enter outer inner) below = inner ∷ (outer ∷ below)

abbrev pub moved : Option Move → List Open → Option (List Open)
moved None below = None
moved (Some m) below = Some (after m below)

abbrev pub step : List Open → Role → Option (List Open)
step [] role = moved (move_of None role) []
step (place ∷ below) role = moved (move_of (Some place) role) below

abbrev pub after_line : List Open → Role → Option (List Open)
after_line stack Skip = Some stack
after_line stack role = step stack role
