-- The literals of a script: what may be in quotes, no longer than a script, and no more than four of a line.
use Rattle.std.proofs.Common.{◌≡◌, refl, ap, ◌∙◌, ℕ, zero, suc, ◌+◌, ◌-◌, ◌*◌, ◌≤◌, List, [], ◌∷◌, ◌++◌, replicate, Bool, true, false, length, IsTrue, length-append, arith}
use Rattle.std.specs.Prelude.{if◌then◌else◌}
use Rattle.std.specs.List.{list_all, list_any, flat_map}
use Rattle.std.proofs.lemmas.List.Folds.{list_all-append}
use Rattle.wb_tree.specs.declared.script_lines.LineKind.{LineKind}
use Rattle.wb_tree.specs.declared.script_lines.LineKind.TheVariants as line_kind
use Rattle.wb_tree.specs.declared.script_lines.OperandPlace.{OperandPlace}
use Rattle.wb_tree.specs.declared.script_lines.OperandPlace.TheVariants as operand_place
use Rattle.wb_tree.specs.declared.script_lines.WordKind.{WordKind}
use Rattle.wb_tree.specs.declared.script_lines.WordKind.TheVariants as word
use Rattle.wb_tree.specs.declared.script_lines.Operand.{Operand}
use Rattle.wb_tree.specs.declared.script_lines.Operand.TheVariants.{Literal}
use Rattle.wb_tree.specs.declared.script_lines.Form.{Form}
use Rattle.wb_tree.specs.declared.script_lines.Form.TheVariants.{Skip, Unknown, Line}
use Rattle.wb_language.specs.LineKinds.{operand_places_of, operand_places_for, word_kinds}
use Rattle.wb_language.specs.Names.{Text, literal_text, literals_in, literals_of}
use Rattle.wb_tree.specs.Sound.{is_literal_text}
use Rattle.wb_lines.specs.Typed.{is_word_of, is_operand, are_operands, is_typed, AreTyped}
use Rattle.wb_lines.proofs.TypedLemmas.{both, either_first}
use Rattle.wb_script.proofs.names.FitLemmas.{both_hold}

quoted_of : (kinds : List WordKind) (text : Text) → list_any (is_word_of (Literal text)) kinds ≡ true → is_literal_text text ≡ true
quoted_of [] text is = let clash : ⊥ = cc in absurd clash
quoted_of (word.Literal ∷ kinds) text is = either_first (is_literal_text text) (list_any (is_word_of (Literal text)) kinds) (quoted_of kinds text) is
quoted_of (_ ∷ kinds) text is = quoted_of kinds text is

abbrev may_quote : List WordKind → Bool
may_quote [] = false
may_quote (word.Literal ∷ kinds) = true
may_quote (_ ∷ kinds) = may_quote kinds

-- how many words may be in quotes
abbrev quotes : List OperandPlace → ℕ
quotes [] = 0
quotes (at ∷ operand_places) = if may_quote (word_kinds at) then suc (quotes operand_places) else quotes operand_places

never_quoted : (kinds : List WordKind) (text : Text) → may_quote kinds ≡ false → list_any (is_word_of (Literal text)) kinds ≡ true → ⊥
never_quoted [] text no_quote is = let clash : ⊥ = cc in clash
never_quoted (word.Literal ∷ kinds) text no_quote is = let clash : ⊥ = cc in clash
never_quoted (_ ∷ kinds) text no_quote is = never_quoted kinds text no_quote is

-- of a line there are no more than operand places that are in quotes, and each may do so
sound_of : (operand_places : List OperandPlace) (operands : List (Operand Text)) → are_operands operand_places operands ≡ true → (list_all is_literal_text (flat_map literal_text operands) ≡ true) × (length (flat_map literal_text operands) ≤ quotes operand_places)
sound_of [] [] typed = (refl, omega arith)
sound_of [] (o ∷ os) typed = let clash : ⊥ = cc in absurd clash
sound_of (at ∷ operand_places) [] typed = let clash : ⊥ = cc in absurd clash
sound_of (at ∷ operand_places) (o ∷ os) typed =
    let (here, rest) = both (is_operand at o) (are_operands operand_places os) typed in
    by_operand o (may_quote (word_kinds at)) refl here (sound_of operand_places os rest)
  where
    by_operand : (o : Operand Text) (b : Bool) → may_quote (word_kinds at) ≡ b → is_operand at o ≡ true → (list_all is_literal_text (flat_map literal_text os) ≡ true) × (length (flat_map literal_text os) ≤ quotes operand_places) →
        (list_all is_literal_text (flat_map literal_text (o ∷ os)) ≡ true) × (length (flat_map literal_text (o ∷ os)) ≤ (if b then suc (quotes operand_places) else quotes operand_places))
    by_operand (Literal text) true may here (sound, few) = (both_hold _ _ (quoted_of (word_kinds at) text here) sound, omega (arith, few))
    by_operand (Literal text) false may here (sound, few) = absurd (never_quoted (word_kinds at) text may here)
    by_operand _ true may here (sound, few) = (sound, omega (arith, few))
    by_operand _ false may here (sound, few) = (sound, few)

-- no further word of a line is in quotes
more_operand_places : (operand_places : List OperandPlace) (operand_place : OperandPlace) (n : ℕ) → may_quote (word_kinds operand_place) ≡ false → quotes (operand_places ++ replicate n operand_place) ≡ quotes operand_places
more_operand_places [] operand_place zero no_quote = refl
more_operand_places [] operand_place (suc n) no_quote = rw no_quote (more_operand_places [] operand_place n no_quote)
more_operand_places (at ∷ operand_places) operand_place n no_quote = ap (λ m. if may_quote (word_kinds at) then suc m else m) (more_operand_places operand_places operand_place n no_quote)

few_operand_places : (k : LineKind) (count : ℕ) → quotes (operand_places_for k count) ≤ 4
few_operand_places line_kind.Proc count = omega (arith, more_operand_places (operand_places_of line_kind.Proc) operand_place.Parameter (count - 1) refl)
few_operand_places line_kind.Call count = omega (arith, more_operand_places (operand_places_of line_kind.Call) operand_place.Argument (count - 1) refl)
few_operand_places line_kind.CallTo count = omega (arith, more_operand_places (operand_places_of line_kind.CallTo) operand_place.Argument (count - 2) refl)
few_operand_places _ count = omega arith

line_sound : (form : Form Text) → is_typed form ≡ true → (list_all is_literal_text (literals_in form) ≡ true) × (length (literals_in form) ≤ 4)
line_sound Skip typed = (refl, omega arith)
line_sound Unknown typed = (refl, omega arith)
line_sound (Line k operands) typed =
    let (sound, few) = sound_of (operand_places_for k (length operands)) operands typed in
    let operand_places = few_operand_places k (length operands) in
    (sound, omega (arith, few, operand_places))

pub literals_sound : (forms : List (Form Text)) → AreTyped forms → IsTrue (list_all is_literal_text (literals_of forms))
literals_sound [] typed = refl
literals_sound (form ∷ forms) typed =
    let (here, rest) = both (is_typed form) (list_all is_typed forms) typed in
    list_all-append is_literal_text (literals_in form) (literals_of forms) ∙ both_hold _ _ (line_sound form here).0 (literals_sound forms rest)

pub few_literals : (forms : List (Form Text)) → AreTyped forms → length (literals_of forms) ≤ 4 * length forms
few_literals [] typed = omega arith
few_literals (form ∷ forms) typed =
    let (here, rest) = both (is_typed form) (list_all is_typed forms) typed in
    let few = (line_sound form here).1 in
    let later = few_literals forms rest in
    let parts : length (literals_of (form ∷ forms)) ≡ length (literals_in form) + length (literals_of forms) = simp length-append in
    omega (arith, few, later, parts)
