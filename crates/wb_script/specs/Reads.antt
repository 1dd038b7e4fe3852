-- What the forms of all lines say of a script: no fault, or the first.
use Rattle.std.specs.Prelude.{◌≡◌, ℕ, ◌+◌, List, map}
use Rattle.wb_language.specs.declared.fault.ScriptFault.{ScriptFault}
use Rattle.wb_language.specs.declared.fault.ScriptFault.TheVariants.{Grammar}
use Rattle.wb_tree.specs.declared.script_lines.Form.{Form}
use Rattle.wb_tree.specs.declared.script_lines.Role.{Role}
use Rattle.wb_language.specs.Forms.{role_of_form}
use Rattle.wb_language.specs.Grammar.{IsGrammatical, IsFirstMisfit}
use Rattle.wb_language.specs.Names.{Text}
use Rattle.wb_language.specs.Scripts.{IsLinesFault}

abbrev pub roles_of : List (Form Text) → List Role
roles_of forms = map role_of_form forms

-- the first fault, the line of a grammar fault as an index after which it is
abbrev pub IsFormsFault : List (Form Text) → ScriptFault → Type 0
IsFormsFault forms (Grammar n) = (k : ℕ) × (n ≡ k + 1) × IsFirstMisfit (roles_of forms) k
IsFormsFault forms fault = IsGrammatical (roles_of forms) × IsLinesFault forms fault
