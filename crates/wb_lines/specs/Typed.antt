-- Forms whose operands are of the operand places of their line kinds, as each line's is that is no longer than a script.
use Rattle.std.specs.Prelude.{ℤ, pos, negsuc, nat_le, nat_lt, List, [], ◌∷◌, Bool, true, false, ◌&&◌, IsTrue, length}
use Rattle.std.specs.List.{list_all, list_any}
use Rattle.wb_basics.specs.declared.limits.TheConstants.{NINE_DIGITS}
use Rattle.wb_tree.specs.declared.script_lines.OperandPlace.{OperandPlace}
use Rattle.wb_tree.specs.declared.script_lines.ParameterType.TheVariants as parameter_type
use Rattle.wb_tree.specs.declared.script_lines.Operand.{Operand}
use Rattle.wb_tree.specs.declared.script_lines.Operand.TheVariants.{Name, Field, Number, Size, Literal, Parameter, Keyword}
use Rattle.wb_tree.specs.declared.script_lines.Form.{Form}
use Rattle.wb_tree.specs.declared.script_lines.Form.TheVariants.{Line}
use Rattle.wb_tree.specs.declared.script_lines.WordKind.{WordKind}
use Rattle.wb_tree.specs.declared.script_lines.WordKind.TheVariants as word
use Rattle.wb_language.specs.LineKinds.{operand_places_for, word_kinds}
use Rattle.wb_language.specs.Names.{Text}
use Rattle.wb_tree.specs.Sound.{is_literal_text}

-- at most nine digits
abbrev pub is_short : ℤ → Bool
is_short (pos n) = nat_le n NINE_DIGITS
is_short (negsuc n) = nat_lt n NINE_DIGITS

-- an operand that a word of a kind is
abbrev pub is_word_of : Operand Text → WordKind → Bool
is_word_of (Name name) word.NewName = true
is_word_of (Name name) word.Name = true
is_word_of (Field base field) word.Field = true
is_word_of (Number z) word.Number = is_short z
is_word_of (Size n) word.Size = true
is_word_of (Literal text) word.Literal = is_literal_text text
is_word_of (Parameter name kind) word.Parameter = true
is_word_of (Parameter name parameter_type.Pointer) word.NewPointer = true
is_word_of Keyword (word.Keyword k) = true
is_word_of _ _ = false

abbrev pub is_operand : OperandPlace → Operand Text → Bool
is_operand operand_place operand = list_any (is_word_of operand) (word_kinds operand_place)

abbrev pub are_operands : List OperandPlace → List (Operand Text) → Bool
are_operands [] [] = true
are_operands (operand_place ∷ operand_places) (operand ∷ operands) = is_operand operand_place operand && are_operands operand_places operands
are_operands _ _ = false

abbrev pub is_typed : Form Text → Bool
is_typed (Line line_kind operands) = are_operands (operand_places_for line_kind (length operands)) operands
is_typed _ = true

abbrev pub AreTyped : List (Form Text) → Type 0
AreTyped forms = IsTrue (list_all is_typed forms)
