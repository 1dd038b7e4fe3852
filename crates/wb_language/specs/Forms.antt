-- The form of a line: the first line kind whose text and operand places fit its words.
use Rattle.std.specs.Prelude.{ℕ, ℤ, pos, List, [], ◌∷◌, Option, Some, None, Bool, true, false, ◌==◌, if◌then◌else◌, length, map}
use Rattle.std.specs.Option.{option_map}
use Rattle.std.specs.Str.{bytes_eq}
use Rattle.wb_tree.specs.declared.script_lines.LineKind.{LineKind}
use Rattle.wb_tree.specs.declared.script_lines.OperandPlace.{OperandPlace}
use Rattle.wb_tree.specs.declared.script_lines.WordKind.{WordKind}
use Rattle.wb_tree.specs.declared.script_lines.WordKind.TheVariants as word
use Rattle.wb_tree.specs.declared.script_lines.Operand.{Operand}
use Rattle.wb_tree.specs.declared.script_lines.Operand.TheVariants.{Name, Field, Number, Size, Literal, Parameter, Keyword}
use Rattle.wb_tree.specs.declared.script_lines.Form.{Form}
use Rattle.wb_tree.specs.declared.script_lines.Form.TheVariants.{Skip, Unknown, Line}
use Rattle.wb_tree.specs.declared.script_lines.ParameterType.{ParameterType}
use Rattle.wb_tree.specs.declared.script_lines.ParameterType.TheVariants as parameter_type
use Rattle.wb_tree.specs.declared.script_lines.Role.{Role}
use Rattle.wb_tree.specs.declared.script_lines.Role.TheVariants as role
use Rattle.wb_language.specs.Lines.{words_of}
use Rattle.wb_language.specs.Words.{declared_name, used_name, number_spelled, literal_spelled, base_name, field_name, parameter_name, parameter_type_of_word, text_of_keyword}
use Rattle.wb_language.specs.LineKinds.{line_kinds, text_of, operand_places_for, role_of, word_kinds}

-- the same with other names
abbrev pub renamed_parameter_type : {N M : Type 0} → (N → M) → ParameterType N → ParameterType M
renamed_parameter_type f parameter_type.Pointer = parameter_type.Pointer
renamed_parameter_type f parameter_type.Number = parameter_type.Number
renamed_parameter_type f (parameter_type.OfClass class) = parameter_type.OfClass (f class)

abbrev pub renamed_operand : {N M : Type 0} → (N → M) → Operand N → Operand M
renamed_operand f (Name n) = Name (f n)
renamed_operand f (Field base field) = Field (f base) (f field)
renamed_operand f (Number z) = Number z
renamed_operand f (Size n) = Size n
renamed_operand f (Literal n) = Literal (f n)
renamed_operand f (Parameter n t) = Parameter (f n) (renamed_parameter_type f t)
renamed_operand f Keyword = Keyword

abbrev pub renamed : {N M : Type 0} → (N → M) → Form N → Form M
renamed f Skip = Skip
renamed f Unknown = Unknown
renamed f (Line line_kind operands) = Line line_kind (map (renamed_operand f) operands)

abbrev pub role_of_form : {N : Type 0} → Form N → Role
role_of_form Skip = role.Skip
role_of_form Unknown = role.Unknown
role_of_form (Line line_kind operands) = role_of line_kind

abbrev pub either : Option (Operand (List ℕ)) → Option (Operand (List ℕ)) → Option (Operand (List ℕ))
either (Some operand) other = Some operand
either None other = other

-- a number that isn't negative
abbrev pub size_of : Option ℤ → Option (Operand (List ℕ))
size_of (Some (pos n)) = Some (Size n)
size_of _ = None

-- a parameter, where there is a name and what it takes
abbrev pub parameter_of : Option (List ℕ) → Option (ParameterType (List ℕ)) → Option (Operand (List ℕ))
parameter_of (Some name) (Some kind) = Some (Parameter name kind)
parameter_of _ _ = None

-- a field, where there is what holds a pointer and the field's own name
abbrev pub field_of : Option (List ℕ) → Option (List ℕ) → Option (Operand (List ℕ))
field_of (Some base) (Some field) = Some (Field base field)
field_of _ _ = None

-- the operand that a word of a kind is
abbrev pub operand_as : WordKind → List ℕ → Option (Operand (List ℕ))
operand_as word.NewName text = option_map Name (declared_name text)
operand_as word.Name text = option_map Name (used_name text)
operand_as word.Field text = field_of (base_name text) (field_name text)
operand_as word.Number text = option_map Number (number_spelled text)
operand_as word.Size text = size_of (number_spelled text)
operand_as word.Literal text = option_map Literal (literal_spelled text)
operand_as word.Parameter text = parameter_of (parameter_name text) (parameter_type_of_word text)
operand_as word.NewPointer text = option_map (λ name. Parameter name parameter_type.Pointer) (declared_name text)
operand_as (word.Keyword k) text = if bytes_eq text (text_of_keyword k) then Some Keyword else None

-- the operand by the first of the kinds that the word is of
abbrev pub operand_among : List WordKind → List ℕ → Option (Operand (List ℕ))
operand_among [] text = None
operand_among (kind ∷ kinds) text = either (operand_as kind text) (operand_among kinds text)

-- what a word is in a place of a line
abbrev pub operand_of : OperandPlace → List ℕ → Option (Operand (List ℕ))
operand_of operand_place text = operand_among (word_kinds operand_place) text

abbrev pub onto : Option (Operand (List ℕ)) → Option (List (Operand (List ℕ))) → Option (List (Operand (List ℕ)))
onto None rest = None
onto (Some operand) rest = option_map (λ operands. operand ∷ operands) rest

-- what the words are, one for each operand place
abbrev pub operands_of : List OperandPlace → List (List ℕ) → Option (List (Operand (List ℕ)))
operands_of [] [] = Some []
operands_of (operand_place ∷ operand_places) (word ∷ words) = onto (operand_of operand_place word) (operands_of operand_places words)
operands_of _ _ = None

abbrev pub operands_if : Bool → LineKind → List (List ℕ) → Option (List (Operand (List ℕ)))
operands_if true line_kind words = operands_of (operand_places_for line_kind (length words)) words
operands_if false line_kind words = None

abbrev pub line_or : LineKind → Option (List (Operand (List ℕ))) → Form (List ℕ) → Form (List ℕ)
line_or line_kind (Some operands) form = Line line_kind operands
line_or line_kind None form = form

-- the first line kind that fits a first word and the words after it
abbrev pub form_in : List LineKind → List ℕ → List (List ℕ) → Form (List ℕ)
form_in [] first words = Unknown
form_in (line_kind ∷ rest) first words = line_or line_kind (operands_if (bytes_eq (text_of line_kind) first) line_kind words) (form_in rest first words)

abbrev pub begins_comment : List ℕ → Bool
begins_comment [] = false
begins_comment (byte ∷ bytes) = byte == 35

abbrev pub skipped_or : Bool → Form (List ℕ) → Form (List ℕ)
skipped_or true form = Skip
skipped_or false form = form

-- the form of the words of a line
abbrev pub form_of : List (List ℕ) → Form (List ℕ)
form_of [] = Skip
form_of (first ∷ words) = skipped_or (begins_comment first) (form_in line_kinds first words)

abbrev pub line_form : List ℕ → Form (List ℕ)
line_form line = form_of (words_of line)

abbrev pub forms_of : List (List ℕ) → List (Form (List ℕ))
forms_of lines = map line_form lines
