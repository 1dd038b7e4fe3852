-- The steps of loops over the operand places of a line and what stands for them.
use Rattle.std.proofs.Common.{◌≡◌, ℕ, suc, ◌+◌, ◌<◌, ◌≤◌, List, [], ◌∷◌, length, drop, map, Some, None, Bool, true, false, ◌&&◌, refl, sym, ap, get_or, add-one, drop-cons}
use Rattle.std.specs.Prelude.{slice_get}
use Rattle.std.proofs.lemmas.List.{drop_all}
use Rattle.wb_tree.specs.declared.script_lines.OperandPlace.{OperandPlace}
use Rattle.wb_tree.specs.declared.script_lines.Referent.{Referent}
use Rattle.wb_tree.specs.declared.script_lines.Operand.{Operand}
use Rattle.wb_tree.specs.declared.script_lines.LineKind.{LineKind}
use Rattle.wb_tree.specs.declared.script_lines.ParameterType.{ParameterType}
use Rattle.wb_language.specs.Kinds.{is_right, are_right, is_given, are_given}
use Rattle.wb_language.specs.Names.{Text, Declaration, NamesSoFar}
use Rattle.wb_language.specs.Resolved.{resolved_operand, resolved_operands}
use Rattle.wb_lines.proofs.OperandPlaces.{drop_some, drop_none}

module _ (operand_places : List OperandPlace) (operands : List (Operand Referent)) (i : ℕ) where
  -- whether an operand is right, and the ones after it
  pub right_here : (d : Operand Referent) (operand_place : OperandPlace) (here : Bool) → i < length operands → slice_get operand_places i ≡ Some operand_place → is_right operand_place (get_or operands i d) ≡ here →
      are_right (drop i operand_places) (drop i operands) ≡ (here && are_right (drop (i + 1) operand_places) (drop (i + 1) operands))
  right_here d operand_place here lt at is = rw (drop_some operand_places i operand_place at, drop-cons operands i d lt, add-one i, is) refl

  -- where no operand places are left
  pub right_past : slice_get operand_places i ≡ None → are_right (drop i operand_places) (drop i operands) ≡ true
  right_past none = rw (drop_none operand_places i none) refl

  -- and where no operands are
  pub right_short : length operands ≤ i → are_right (drop i operand_places) (drop i operands) ≡ true
  right_short le = rw (drop_all i operands le) (nothing_right (drop i operand_places))
    where
      nothing_right : (ls : List OperandPlace) → are_right ls [] ≡ true
      nothing_right [] = refl
      nothing_right (l ∷ ls) = refl

module _ {V : Type 0} (view : V → Operand Text) (items : List Declaration) (known : NamesSoFar) (line_kind : LineKind) (operand_places : List OperandPlace) (operands : List V) (i : ℕ) where
  -- the operands from one on
  pub resolved_here : (d : V) (operand_place : OperandPlace) (here : Operand Referent) → i < length operands → slice_get operand_places i ≡ Some operand_place → here ≡ resolved_operand items known line_kind operand_place (view (get_or operands i d)) →
      resolved_operands items known line_kind (drop i operand_places) (map view (drop i operands)) ≡ here ∷ resolved_operands items known line_kind (drop (i + 1) operand_places) (map view (drop (i + 1) operands))
  resolved_here d operand_place here lt at is =
      rw (drop_some operand_places i operand_place at, drop-cons operands i d lt, add-one i) (ap (λ o. o ∷ resolved_operands items known line_kind (drop (suc i) operand_places) (map view (drop (suc i) operands))) (sym is))

  -- where no operand places are left
  pub resolved_past : slice_get operand_places i ≡ None → resolved_operands items known line_kind (drop i operand_places) (map view (drop i operands)) ≡ []
  resolved_past none = rw (drop_none operand_places i none) refl

  -- and where no operands are
  pub resolved_short : length operands ≤ i → resolved_operands items known line_kind (drop i operand_places) (map view (drop i operands)) ≡ []
  resolved_short le = rw (drop_all i operands le) (nothing_resolved (drop i operand_places))
    where
      nothing_resolved : (ls : List OperandPlace) → resolved_operands items known line_kind ls [] ≡ []
      nothing_resolved [] = refl
      nothing_resolved (l ∷ ls) = refl

-- arguments are given only where there are as many as parameters
pub given_differ : (parameters : List (ParameterType Text)) (operands : List (Operand Referent)) → (length parameters ≡ length operands → ⊥) → are_given parameters operands ≡ false
given_differ [] [] differ = absurd (differ refl)
given_differ [] (o ∷ os) differ = refl
given_differ (p ∷ ps) [] differ = refl
given_differ (p ∷ ps) (o ∷ os) differ = rw (given_differ ps os (λ e. differ (ap suc e))) (neither (is_given p o))
  where
    neither : (a : Bool) → (a && false) ≡ false
    neither true = refl
    neither false = refl
