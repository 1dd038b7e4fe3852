-- One more line of the tree where nothing is open: the first of a class, of a procedure or of an operation.
use Rattle.std.proofs.Common.{◌≡◌, refl, sym, ap, ◌∙◌, ℕ, ◌<◌, ◌≤◌, List, [], ◌∷◌, ◌++◌, length, Some, None, true, ◌&&◌, nat_eq, nat_le, append-nil, arith}
use Rattle.std.proofs.lemmas.Bool.{false≢true}
use Rattle.std.proofs.lemmas.Bool.Decides.{nat_tests}
use Rattle.wb_basics.specs.declared.limits.TheConstants.{MOST_CLASSES, MOST_EXTRA}
use Rattle.wb_tree.specs.declared.script.Parameter as kinds
use Rattle.wb_tree.specs.declared.script_lines.LineKind.TheVariants as line_kind
use Rattle.wb_tree.specs.declared.script_lines.Referent.{Referent}
use Rattle.wb_tree.specs.declared.script_lines.Referent.TheVariants as referent
use Rattle.wb_tree.specs.declared.script_lines.Operand.{Operand}
use Rattle.wb_tree.specs.declared.script_lines.Operand.TheVariants.{Name, Parameter, Size}
use Rattle.wb_tree.specs.declared.script_lines.ParameterType.TheVariants as parameter_type
use Rattle.wb_tree.specs.declared.script_lines.Form.TheVariants.{Line}
use Rattle.wb_tree.specs.Sound.{Declared}
use Rattle.wb_tree.specs.Spellings.{its_parameters}
use Rattle.wb_language.specs.Trees.{Indexed, Marked, all_lines, and_operand, line_or_unknown}
use Rattle.wb_script.specs.declared.tree.whole.WholeItems.{WholeItems}
use Rattle.wb_script.specs.declared.tree.whole.Owner.TheVariants as of
use Rattle.wb_script.specs.Building.{counts_after}
use Rattle.wb_script.specs.Growing.{AreBelow, AreSound, Grows, are_parameters, has_room, in_body, in_class, is_operation_head, is_procedure_head, items_in_order, new_body, outside, parameters_of_operands}
use Rattle.wb_script.proofs.building.HeadParameters.{new_sound, spelled_parameters}
use Rattle.wb_script.proofs.lists.Tests.{parts, together, within_of}

equal_of : (a b : ℕ) → nat_eq a b ≡ true → a ≡ b
equal_of a b is = grind (arith, nat_tests)

module _ (declared : Declared) (number : ℕ) (b : WholeItems) (sound : AreSound declared b) (below : AreBelow number b) where
  abbrev front : List Marked
  front = all_lines (items_in_order b)

  -- the first line of an item after those that are whole
  first_line : (line : Indexed) → front ++ (Some number, line) ∷ [] ≡ (front ++ []) ++ (Some number, line) ∷ []
  first_line line = ap (λ l. l ++ (Some number, line) ∷ []) (sym (append-nil front))

  pub class_grows : (operands : List (Operand Referent)) (extra : ℕ) → operands ≡ Name (referent.Declared (length b.classes)) ∷ Size extra ∷ [] → nat_le extra MOST_EXTRA ≡ true → length b.classes < MOST_CLASSES →
      Grows declared number (Line line_kind.Class operands) (outside b) (in_class b (record { line = number; extra = extra; fields = []; construct = None; destroy = None }))
  class_grows operands extra is small room = record {
    lines = first_line (Line line_kind.Class (Name (referent.Declared (length b.classes)) ∷ Size extra ∷ [])) ∙ ap (λ o. (front ++ []) ++ (Some number, Line line_kind.Class o) ∷ []) (sym is);
    sound = record { stands = (sound, record { room = room; sound = together _ _ (together _ _ (together _ _ refl small) refl) refl }) };
    below = record { stands = (below, omega arith) };
    counts = λ counts are. ap (λ q. counts_after q (Line line_kind.Class operands)) are;
    places = refl;
  }

  pub procedure_grows : (operands : List (Operand Referent)) → has_room b ≡ true → is_procedure_head (length declared.fields) (length b.procedures) operands ≡ true →
      Grows declared number (Line line_kind.Proc operands) (outside b) (in_body b (of.Procedure number) (new_body None (parameters_of_operands operands)))
  procedure_grows (Name (referent.Declared name) ∷ rest) room is =
      let (named, others) = parts (nat_eq name (length b.procedures)) (nat_le (length rest) 4 && are_parameters (length declared.fields) rest) is in
      let (few, all) = parts (nat_le (length rest) 4) (are_parameters (length declared.fields) rest) others in
      let same : name ≡ length b.procedures = equal_of name (length b.procedures) named in
      let spelled = spelled_parameters (length declared.fields) rest all in
      let operands : List (Operand Referent) = Name (referent.Declared name) ∷ rest in
      let ps : List kinds.Parameter = parameters_of_operands rest in
      let within : length ps ≤ 4 = omega (arith, spelled.many, within_of (length rest) 4 few) in
      record {
        lines =
            ap (λ l. front ++ l) (append-nil ((Some number, line_or_unknown line_kind.Proc (and_operand (Some (Name (referent.Declared (length b.procedures)))) _)) ∷ []))
            ∙ ap (λ o. front ++ (Some number, line_or_unknown line_kind.Proc (and_operand (Some (Name (referent.Declared (length b.procedures)))) o)) ∷ []) spelled.spelled
            ∙ ap (λ n. front ++ (Some number, Line line_kind.Proc (Name (referent.Declared n) ∷ rest)) ∷ []) (sym same)
            ∙ first_line (Line line_kind.Proc operands);
        sound = record {
          stands = (sound, (room, refl, together _ _ spelled.sound (ap (λ n. nat_le n 4) spelled.many ∙ few)), new_sound declared None ps spelled.sound within);
        };
        below = record { stands = (below, omega arith) };
        counts = λ counts are. ap (λ q. counts_after q (Line line_kind.Proc operands)) are;
        places = refl;
      }
  procedure_grows _ room is = absurd (false≢true is)

  pub operation_grows : (operands : List (Operand Referent)) → has_room b ≡ true → is_operation_head (length b.operations) operands ≡ true →
      Grows declared number (Line line_kind.Op operands) (outside b) (in_body b (of.Operation number) (new_body None its_parameters))
  operation_grows (Name (referent.Declared name) ∷ Parameter referent.Parameter parameter_type.Pointer ∷ []) room is =
      let operands : List (Operand Referent) = Name (referent.Declared name) ∷ Parameter referent.Parameter parameter_type.Pointer ∷ [] in
      record {
        lines =
            ap (λ n. front ++ (Some number, Line line_kind.Op (Name (referent.Declared n) ∷ Parameter referent.Parameter parameter_type.Pointer ∷ [])) ∷ []) (sym (equal_of name (length b.operations) is))
            ∙ first_line (Line line_kind.Op operands);
        sound = record { stands = (sound, (room, refl, refl), new_sound declared None its_parameters refl (omega arith)) };
        below = record { stands = (below, omega arith) };
        counts = λ counts are. ap (λ q. counts_after q (Line line_kind.Op operands)) are;
        places = refl;
      }
  operation_grows _ room is = absurd (false≢true is)
