-- The steps of loops over the operand places of a line and its words, and over line kinds.
use Rattle.std.proofs.Common.{◌≡◌, ℕ, zero, suc, ◌+◌, ◌<◌, ◌≤◌, List, [], ◌∷◌, ◌++◌, length, drop, Option, Some, None, refl, ap, ◌∙◌, append_assoc, get_or, add-one, drop-cons, arith}
use Rattle.std.specs.Prelude.{slice_get}
use Rattle.std.specs.Borrow.{Bor}
use Rattle.std.specs.Option.{option_and_then, option_map}
use Rattle.std.specs.Str.{bytes_eq}
use Rattle.std.proofs.lemmas.List.{drop_all}
use Rattle.std.proofs.lemmas.Option.{slice_get_within, get_or_from_slice_get}
use Rattle.wb_tree.specs.declared.script_lines.LineKind.{LineKind}
use Rattle.wb_tree.specs.declared.script_lines.OperandPlace.{OperandPlace}
use Rattle.wb_tree.specs.declared.script_lines.Operand.{Operand}
use Rattle.wb_language.specs.Forms.{operand_of, operands_of, onto, operands_if, line_or, form_in}
use Rattle.wb_language.specs.LineKinds.{text_of}
use Rattle.wb_language.specs.Names.{Text}
use Rattle.wb_lines.specs.BytesOf.{bytes_of_texts}

module _ {X : Type 0} where
  -- from an element on
  pub drop_some : (xs : List X) (i : ℕ) (x : X) → slice_get xs i ≡ Some x → drop i xs ≡ x ∷ drop (i + 1) xs
  drop_some xs i x is =
      let within = slice_get_within xs i x is in
      rw (add-one i) (drop-cons xs i x within ∙ ap (λ y. y ∷ drop (suc i) xs) (get_or_from_slice_get xs i x x is))

  -- after the last one
  pub drop_none : (xs : List X) (i : ℕ) → slice_get xs i ≡ None → drop i xs ≡ []
  drop_none [] i is = drop_all i [] (omega arith)
  drop_none (x ∷ xs) zero is = let clash : ⊥ = cc in absurd clash
  drop_none (x ∷ xs) (suc i) is = drop_none xs i is

  pub none_past : (xs : List X) (i : ℕ) → slice_get xs i ≡ None → length xs ≤ i
  none_past [] i is = omega arith
  none_past (x ∷ xs) zero is = let clash : ⊥ = cc in absurd clash
  none_past (x ∷ xs) (suc i) is = let past = none_past xs i is in omega arith

-- words are operands only where there are as many as operand places
pub as_many : (operand_places : List OperandPlace) (words : List (List ℕ)) → (length operand_places ≡ length words → ⊥) → operands_of operand_places words ≡ None
as_many [] [] differ = absurd (differ refl)
as_many [] (word ∷ words) differ = refl
as_many (operand_place ∷ operand_places) [] differ = refl
as_many (operand_place ∷ operand_places) (word ∷ words) differ = ap (onto (operand_of operand_place word)) (as_many operand_places words (λ e. differ (ap suc e))) ∙ none (operand_of operand_place word)
  where
    none : (operand : Option (Operand (List ℕ))) → onto operand None ≡ None
    none None = refl
    none (Some operand) = refl

module _ (operand_places : List OperandPlace) (words : List (Bor Text)) (many : length operand_places ≡ length words) (i : ℕ) (d : Bor Text) (lt : i < length words) where
  abbrev later : Option (List (Operand Text))
  later = operands_of (drop (i + 1) operand_places) (bytes_of_texts (drop (i + 1) words))

  words_here : (o : Option (Operand Text)) → option_and_then (λ operand_place. operand_of operand_place (get_or words i d).now) (slice_get operand_places i) ≡ o → operands_of (drop i operand_places) (bytes_of_texts (drop i words)) ≡ onto o later
  words_here o is = go (slice_get operand_places i) refl is
    where
      go : (at : Option OperandPlace) → slice_get operand_places i ≡ at → option_and_then (λ operand_place. operand_of operand_place (get_or words i d).now) at ≡ o → operands_of (drop i operand_places) (bytes_of_texts (drop i words)) ≡ onto o later
      go None at is = absurd (omega (arith, none_past operand_places i at, many, lt))
      go (Some operand_place) at is = rw (drop_some operand_places i operand_place at, drop-cons words i d lt, add-one i, is) refl

  -- a word that is an operand
  pub operand_here : (found : List (Operand Text)) (operand : Operand Text) → option_and_then (λ operand_place. operand_of operand_place (get_or words i d).now) (slice_get operand_places i) ≡ Some operand →
      option_map (λ (rest : List (Operand Text)). (found ++ operand ∷ []) ++ rest) later ≡ option_map (λ (rest : List (Operand Text)). found ++ rest) (operands_of (drop i operand_places) (bytes_of_texts (drop i words)))
  operand_here found operand is = rw (words_here (Some operand) is) (go later)
    where
      go : (o : Option (List (Operand Text))) → option_map (λ (rest : List (Operand Text)). (found ++ operand ∷ []) ++ rest) o ≡ option_map (λ (rest : List (Operand Text)). found ++ rest) (onto (Some operand) o)
      go None = refl
      go (Some rest) = ap Some (append_assoc found (operand ∷ []) rest)

  -- and one that is none
  pub no_operand_here : (found : List (Operand Text)) → option_and_then (λ operand_place. operand_of operand_place (get_or words i d).now) (slice_get operand_places i) ≡ None → option_map (λ (rest : List (Operand Text)). found ++ rest) (operands_of (drop i operand_places) (bytes_of_texts (drop i words))) ≡ None
  no_operand_here found is = rw (words_here None is) refl

-- the first line kind that fits is one of the line kinds after, or the one here
pub form_here : (line_kinds : List LineKind) (i : ℕ) (d : LineKind) (first : Text) (words : List Text) → i < length line_kinds →
    form_in (drop i line_kinds) first words ≡ line_or (get_or line_kinds i d) (operands_if (bytes_eq (text_of (get_or line_kinds i d)) first) (get_or line_kinds i d) words) (form_in (drop (i + 1) line_kinds) first words)
form_here line_kinds i d first words lt = rw (drop-cons line_kinds i d lt, add-one i) refl
