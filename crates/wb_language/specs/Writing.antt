-- Lines, words and literals as they are written; what is written so is read as it was meant.
use Rattle.std.specs.Prelude.{◌≡◌, ◌≢◌, ◌⊎◌, ℕ, List, [], ◌∷◌, ◌++◌, Bool, true, not, ◌&&◌, ◌==◌, Some}
use Rattle.std.specs.List.{list_all, flat_map}
use Rattle.wb_tree.specs.declared.script_lines.LineKind.{LineKind}
use Rattle.wb_tree.specs.declared.script_lines.Operand.{Operand}
use Rattle.wb_tree.specs.declared.script_lines.Form.TheVariants.{Line}
use Rattle.wb_language.specs.Forms.{line_form}
use Rattle.wb_language.specs.Lines.{is_blank, lines_of, words_of}
use Rattle.wb_tree.specs.Sound.{is_quotable}
use Rattle.wb_language.specs.Words.{literal_spelled}

-- no line feed is in it
abbrev pub is_line : List ℕ → Bool
is_line = list_all (λ byte. not (byte == 10))

abbrev pub ended : List ℕ → List ℕ
ended line = line ++ 10 ∷ []

-- Lines that are each ended by a line feed are read as these lines, and so is a last one that isn't.
abbrev pub ReadsLines : List (List ℕ) → Type 0
ReadsLines lines =
    list_all is_line lines ≡ true →
    (lines_of (flat_map ended lines) ≡ lines)
    × ((last : List ℕ) → last ≢ [] → is_line last ≡ true → lines_of (flat_map ended lines ++ last) ≡ lines ++ last ∷ [])

abbrev pub is_quoted_text : List ℕ → Bool
is_quoted_text = list_all is_quotable

abbrev pub quoted : List ℕ → List ℕ
quoted text = 34 ∷ (text ++ 34 ∷ [])

-- The literals are the quoted texts.
abbrev pub ReadsLiterals : List ℕ → List ℕ → Type 0
ReadsLiterals word text =
    (is_quoted_text text ≡ true → word ≡ quoted text → literal_spelled word ≡ Some text)
    × (literal_spelled word ≡ Some text → (is_quoted_text text ≡ true) × (word ≡ quoted text))

-- neither blanks nor quotes
abbrev pub is_plain : List ℕ → Bool
is_plain = list_all (λ byte. not (is_blank byte) && not (byte == 34))

abbrev pub IsWord : List ℕ → Type 0
IsWord word = ((word ≢ []) × (is_plain word ≡ true)) ⊎ ((text : List ℕ) × (is_quoted_text text ≡ true) × (word ≡ quoted text))

abbrev pub AreWords : List (List ℕ) → Type 0
AreWords [] = Unit {0}
AreWords (word ∷ words) = IsWord word × AreWords words

abbrev pub spaced : List ℕ → List ℕ
spaced word = word ++ 32 ∷ []

-- Words with a blank after each are read as these words.
abbrev pub ReadsWords : List (List ℕ) → Type 0
ReadsWords words = AreWords words → words_of (flat_map spaced words) ≡ words

-- A line that says something is made of words: no quote is in it but around a literal.
abbrev pub IsMadeOfWords : List ℕ → Type 0
IsMadeOfWords line = (line_kind : LineKind) (operands : List (Operand (List ℕ))) → line_form line ≡ Line line_kind operands → AreWords (words_of line)
