-- What a word after the line kind of a line is: a name, a number, a literal, a parameter, a word of the line's own.
use Rattle.std.specs.Prelude.{ℕ, suc, ℤ, pos, neg_ℤ, ◌+◌, ◌-◌, ◌*◌, List, [], ◌∷◌, Bool, false, not, ◌&&◌, ◌||◌, ◌==◌, nat_le, if◌then◌else◌, Option, Some, None, codes, drop, fold, length, slice_index, slice_range, take}
use Rattle.std.specs.List.{list_all, list_any}
use Rattle.std.specs.Option.{option_map}
use Rattle.std.specs.Str.{bytes_eq}
use Rattle.wb_tree.specs.declared.script_lines.ParameterType.{ParameterType}
use Rattle.wb_tree.specs.declared.script_lines.ParameterType.TheVariants as parameter_type
use Rattle.wb_tree.specs.declared.script_lines.Keyword as model
use Rattle.wb_tree.specs.declared.script_lines.Keyword.TheVariants as keyword
use Rattle.wb_tree.specs.Sound.{is_quotable}

abbrev pub is_letter : ℕ → Bool
is_letter byte = (nat_le 97 byte && nat_le byte 122) || (nat_le 65 byte && nat_le byte 90)

abbrev pub is_digit : ℕ → Bool
is_digit byte = nat_le 48 byte && nat_le byte 57

abbrev pub is_name_byte : ℕ → Bool
is_name_byte byte = is_letter byte || is_digit byte || byte == 95

-- a letter, then letters, digits and `_`
abbrev pub is_name : List ℕ → Bool
is_name [] = false
is_name (byte ∷ bytes) = is_letter byte && list_all is_name_byte bytes

-- the names that nothing may be declared with
abbrev pub reserved : List (List ℕ)
reserved = codes "self" ∷ codes "ptr" ∷ codes "int" ∷ codes "null" ∷ codes "some" ∷ codes "eq" ∷ codes "less" ∷ []

abbrev pub is_reserved : List ℕ → Bool
is_reserved word = list_any (bytes_eq word) reserved

-- a name that a line declares
abbrev pub declared_name : List ℕ → Option (List ℕ)
declared_name word = if is_name word && not (is_reserved word) then Some word else None

-- a name that a line uses; `self` is one
abbrev pub used_name : List ℕ → Option (List ℕ)
used_name word = if is_name word then Some word else None

-- how many bytes of a word are before the first that is this one
abbrev pub length_before : ℕ → List ℕ → ℕ
length_before byte [] = 0
length_before byte (b ∷ word) = if b == byte then 0 else suc (length_before byte word)

-- what is before it
abbrev pub before_first : ℕ → List ℕ → List ℕ
before_first byte word = take (length_before byte word) word

-- what is after it
abbrev pub after_first_of : ℕ → List ℕ → List ℕ
after_first_of byte word = drop (length_before byte word + 1) word

abbrev pub with_digit : ℕ → ℕ → ℕ
with_digit n byte = 10 * n + (byte - 48)

-- one to nine digits
abbrev pub digits_of : List ℕ → Option ℕ
digits_of word =
    if nat_le 1 (length word) && nat_le (length word) 9 && list_all is_digit word then Some (fold with_digit 0 word) else None

-- digits, or `-` and digits
abbrev pub number_spelled : List ℕ → Option ℤ
number_spelled [] = None
number_spelled (byte ∷ bytes) =
    if byte == 45 then option_map (λ n. neg_ℤ (pos n)) (digits_of bytes) else option_map pos (digits_of (byte ∷ bytes))

-- what stands between the first byte and the last
abbrev pub inside : List ℕ → List ℕ
inside word = slice_range word 1 (length word - 1)

abbrev pub is_literal : List ℕ → Bool
is_literal word =
    nat_le 2 (length word) && slice_index word 0 == 34 && slice_index word (length word - 1) == 34 && list_all is_quotable (inside word)

-- printable bytes without a quote, between two quotes; the text is without these
abbrev pub literal_spelled : List ℕ → Option (List ℕ)
literal_spelled word = if is_literal word then Some (inside word) else None

-- what holds a pointer, before the dot of a field
abbrev pub base_name : List ℕ → Option (List ℕ)
base_name word = used_name (before_first 46 word)

-- the name of a field, after the dot
abbrev pub field_name : List ℕ → Option (List ℕ)
field_name word = used_name (after_first_of 46 word)

-- what a parameter takes, by the word after its colon; any name but `ptr` and `int` is that of a class
abbrev pub parameter_type_after_colon : List ℕ → Option (ParameterType (List ℕ))
parameter_type_after_colon word =
    if bytes_eq word (codes "ptr") then Some parameter_type.Pointer else (if bytes_eq word (codes "int") then Some parameter_type.Number else option_map parameter_type.OfClass (used_name word))

-- a name that a line declares, before the colon
abbrev pub parameter_name : List ℕ → Option (List ℕ)
parameter_name word = declared_name (before_first 58 word)

abbrev pub parameter_type_of_word : List ℕ → Option (ParameterType (List ℕ))
parameter_type_of_word word = parameter_type_after_colon (after_first_of 58 word)

-- the text of a line's own word
abbrev pub text_of_keyword : model.Keyword → List ℕ
text_of_keyword keyword.Null = codes "null"
text_of_keyword keyword.Some = codes "some"
text_of_keyword keyword.Equal = codes "eq"
text_of_keyword keyword.Less = codes "less"
