-- The operands of a line, and the sides of a `set`, are wrong where a pass finds them so.
use Rattle.std.proofs.Common.{◌≡◌, suc, List, [], ◌∷◌, ◌++◌, map, length, Bool, true, false, ◌&&◌, refl, sym, ap, subst, ◌∙◌}
use Rattle.std.specs.List.{list_all}
use Rattle.std.proofs.lemmas.Bool.{false≢true}
use Rattle.wb_tree.specs.declared.script_lines.LineKind.{LineKind}
use Rattle.wb_tree.specs.declared.script_lines.LineKind.TheVariants as line_kind
use Rattle.wb_tree.specs.declared.script_lines.OperandPlace.{OperandPlace}
use Rattle.wb_tree.specs.declared.script_lines.OperandPlace.TheVariants as operand_place
use Rattle.wb_tree.specs.declared.script_lines.Referent.{Referent}
use Rattle.wb_tree.specs.declared.script_lines.Operand.{Operand}
use Rattle.wb_tree.specs.declared.script_lines.Form.{Form}
use Rattle.wb_tree.specs.declared.script_lines.Form.TheVariants.{Line}
use Rattle.wb_language.specs.Forms.{role_of_form}
use Rattle.wb_language.specs.Grammar.{IsGrammatical}
use Rattle.wb_language.specs.Kinds.{are_right, operand_kind_of, same, sides_agree}
use Rattle.wb_language.specs.LineKinds.{is_pointer_kind, operand_places_for, takes}
use Rattle.wb_language.specs.Names.{Text, Declaration, NamesSoFar, items_of}
use Rattle.wb_language.specs.Resolved.{resolved_operand, resolved_operands}
use Rattle.wb_language.specs.Undeclared.{names_used, used_in}
use Rattle.wb_language.specs.WrongSorts.{HasWrongOperand, SidesDiffer, placed}
use Rattle.wb_lines.specs.Typed.{are_operands, is_operand, is_typed, AreTyped}
use Rattle.wb_lines.proofs.TypedLemmas.{both}
use Rattle.wb_script.proofs.names.DeclaredHere.{known_following}
use Rattle.wb_script.proofs.said.Sorts.{is_taken, sort_is, taken_there}

not_all : {X : Type 0} (p : X → Bool) (xs : List X) → list_all p xs ≡ false → (first last : List X) × (x : X) × (xs ≡ first ++ x ∷ last) × (p x ≡ false)
not_all p [] is = let clash : ⊥ = cc in absurd clash
not_all p (x ∷ xs) is = go (p x) refl (not_all p xs) is
  where
    go : {X : Type 0} {p : X → Bool} {x : X} {xs : List X} (b : Bool) → p x ≡ b → (list_all p xs ≡ false → (first last : List X) × (y : X) × (xs ≡ first ++ y ∷ last) × (p y ≡ false)) → (b && list_all p xs) ≡ false →
        (first last : List X) × (y : X) × (x ∷ xs ≡ first ++ y ∷ last) × (p y ≡ false)
    go {x = x} {xs = xs} false e later h = ([], xs, x, refl, e)
    go {x = x} true e later h = let (first, last, y, parts, fails) = later h in (x ∷ first, last, y, ap (λ l. x ∷ l) parts, fails)

all_with : {X : Type 0} (p : X → Bool) (first last : List X) (x : X) → p x ≡ false → list_all p (first ++ x ∷ last) ≡ false
all_with p [] last x fails = ap (λ b. b && list_all p last) fails
all_with p (y ∷ first) last x fails = go (p y) (all_with p first last x fails)
  where
    go : {rest : Bool} (b : Bool) → rest ≡ false → (b && rest) ≡ false
    go true e = e
    go false e = refl

pub is_false : (b : Bool) → (b ≡ true → ⊥) → b ≡ false
is_false true never = absurd (never refl)
is_false false never = refl

module _ (forms before rest : List (Form Text)) (grammar : IsGrammatical (map role_of_form forms)) (typed : AreTyped forms) (parts : forms ≡ before ++ rest) where
  abbrev here : NamesSoFar
  here = known_following before

  abbrev items : List Declaration
  items = items_of forms

  abbrev meant : LineKind → OperandPlace → Operand Text → Operand Referent
  meant k place operand = resolved_operand items here k place operand

  abbrev are_meant : LineKind → List OperandPlace → List (Operand Text) → List (Operand Referent)
  are_meant k places operands = resolved_operands items here k places operands

  abbrev spoken : LineKind → List (Operand Text) → List (Operand Referent)
  spoken k operands = are_meant k (operand_places_for k (length operands)) operands

  -- Operands in their places.
  abbrev pub right : LineKind → OperandPlace × Operand Text → Bool
  right k pair = takes pair.0 (operand_kind_of (meant k pair.0 pair.1))

  right_each : (k : LineKind) (places : List OperandPlace) (operands : List (Operand Text)) → are_right places (are_meant k places operands) ≡ list_all (right k) (names_used placed places operands)
  right_each k [] operands = refl
  right_each k (place ∷ places) [] = refl
  right_each k (place ∷ places) (operand ∷ operands) = ap (λ b. right k (place, operand) && b) (right_each k places operands)

  as_long : (k : LineKind) (places : List OperandPlace) (operands : List (Operand Text)) → are_operands places operands ≡ true → length (are_meant k places operands) ≡ length operands
  as_long k [] [] fit = refl
  as_long k [] (o ∷ os) fit = absurd (false≢true fit)
  as_long k (place ∷ places) [] fit = refl
  as_long k (place ∷ places) (o ∷ os) fit = ap suc (as_long k places os (both (is_operand place o) (are_operands places os) fit).1)

  -- all operands of a line are right
  abbrev pub operands_pass : LineKind → List (Operand Text) → Bool
  operands_pass k operands = list_all (right k) (used_in placed (Line k operands))

  pub test_is : (k : LineKind) (operands : List (Operand Text)) → is_typed (Line k operands) ≡ true →
      are_right (operand_places_for k (length (are_meant k (operand_places_for k (length operands)) operands))) (are_meant k (operand_places_for k (length operands)) operands) ≡ operands_pass k operands
  test_is k operands fit =
      let places = operand_places_for k (length operands) in
      ap (λ n. are_right (operand_places_for k n) (are_meant k places operands)) (as_long k places operands fit) ∙ right_each k places operands

  pub wrong_operand : (k : LineKind) (operands : List (Operand Text)) → operands_pass k operands ≡ false → HasWrongOperand forms before (Line k operands)
  wrong_operand k operands fails =
      let (first, last, (place, operand), split, wrong) = not_all (right k) (used_in placed (Line k operands)) fails in
      (place, operand, first, last, split, λ taken. let is = is_taken forms before rest grammar typed parts k place place operand taken in cc (is, wrong))

  pub operand_wrong : (k : LineKind) (operands : List (Operand Text)) → HasWrongOperand forms before (Line k operands) → operands_pass k operands ≡ false
  operand_wrong k operands (place, operand, first, last, split, never) =
      ap (list_all (right k)) split
      ∙ all_with (right k) first last (place, operand) (is_false (right k (place, operand)) (λ e. never (taken_there forms before rest grammar typed parts k place place operand e)))

  -- The sides of a `set`.
  two_right : (k : LineKind) (a b : OperandPlace × Operand Text) → list_all (right k) (a ∷ b ∷ []) ≡ true → (right k a ≡ true) × (right k b ≡ true)
  two_right k a b all = go (right k a) (right k b) all
    where
      go : (x y : Bool) → (x && (y && true)) ≡ true → (x ≡ true) × (y ≡ true)
      go true true h = (refl, refl)
      go true false h = absurd (false≢true h)
      go false y h = absurd (false≢true h)

  pub sides_wrong : (k : LineKind) (operands : List (Operand Text)) → is_typed (Line k operands) ≡ true → operands_pass k operands ≡ true → sides_agree k (are_meant k (operand_places_for k (length operands)) operands) ≡ false → SidesDiffer forms before (Line k operands)
  sides_wrong line_kind.Set [] fit all differ = absurd (false≢true (sym differ))
  sides_wrong line_kind.Set (target ∷ []) fit all differ = absurd (false≢true (sym differ))
  sides_wrong line_kind.Set (target ∷ source ∷ []) fit all differ =
      let (first, second) = two_right line_kind.Set (operand_place.Target, target) (operand_place.Source, source) all in
      let (written, written_is, takes_written) = taken_there forms before rest grammar typed parts line_kind.Set operand_place.Target operand_place.Target target first in
      let (read, read_is, takes_read) = taken_there forms before rest grammar typed parts line_kind.Set operand_place.Source operand_place.Source source second in (
        target,
        source,
        written,
        read,
        refl,
        written_is,
        read_is,
        ap (λ s. same (is_pointer_kind s) (is_pointer_kind read)) (sym (sort_is forms before rest grammar typed parts line_kind.Set operand_place.Target target written written_is))
            ∙ ap (λ s. same (is_pointer_kind (operand_kind_of (meant line_kind.Set operand_place.Target target))) (is_pointer_kind s)) (sym (sort_is forms before rest grammar typed parts line_kind.Set operand_place.Source source read read_is))
            ∙ differ,
      )
  sides_wrong line_kind.Set (target ∷ source ∷ o ∷ os) fit all differ =
      let one = (both (is_operand operand_place.Target target) (are_operands (operand_place.Source ∷ []) (source ∷ o ∷ os)) fit).1 in
      absurd (false≢true (both (is_operand operand_place.Source source) (are_operands [] (o ∷ os)) one).1)
  sides_wrong k operands fit all differ = absurd (false≢true (sym differ))

  abbrev SidesAgreeNot : Form Text → Type 0
  SidesAgreeNot (Line k operands) = sides_agree k (are_meant k (operand_places_for k (length operands)) operands) ≡ false
  SidesAgreeNot _ = Unit {0}

  pub wrong_sides : (k : LineKind) (operands : List (Operand Text)) → SidesDiffer forms before (Line k operands) → sides_agree k (are_meant k (operand_places_for k (length operands)) operands) ≡ false
  wrong_sides k operands (target, source, written, read, form_is, written_is, read_is, differ) = subst SidesAgreeNot (sym form_is) here_is
    where
      here_is : sides_agree line_kind.Set (meant line_kind.Set operand_place.Target target ∷ meant line_kind.Set operand_place.Source source ∷ []) ≡ false
      here_is =
          ap (λ s. same (is_pointer_kind s) (is_pointer_kind (operand_kind_of (meant line_kind.Set operand_place.Source source)))) (sort_is forms before rest grammar typed parts line_kind.Set operand_place.Target target written written_is)
          ∙ ap (λ s. same (is_pointer_kind written) (is_pointer_kind s)) (sort_is forms before rest grammar typed parts line_kind.Set operand_place.Source source read read_is)
          ∙ differ
