-- The parameters that operands declare, and the body after a first line that has them.
use Rattle.std.proofs.Common.{◌≡◌, refl, sym, ap, subst, ◌∙◌, ℕ, suc, ◌≤◌, List, [], ◌∷◌, ◌++◌, length, map, Option, Some, None, true, IsTrue, append-nil, arith}
use Rattle.std.specs.List.{list_all, flat_map}
use Rattle.std.proofs.lemmas.Grind.{flat_map-append}
use Rattle.std.proofs.lemmas.List.{length-map, map-append}
use Rattle.std.proofs.lemmas.List.Folds.{list_all-append}
use Rattle.wb_tree.specs.declared.script.Parameter as model
use Rattle.wb_tree.specs.declared.script.Parameter.TheVariants as parameter
use Rattle.wb_tree.specs.declared.script_lines.Referent.{Referent}
use Rattle.wb_tree.specs.declared.script_lines.Referent.TheVariants as referent
use Rattle.wb_tree.specs.declared.script_lines.Operand.{Operand}
use Rattle.wb_tree.specs.declared.script_lines.Operand.TheVariants.{Parameter}
use Rattle.wb_tree.specs.declared.script_lines.ParameterType.TheVariants as parameter_type
use Rattle.wb_language.specs.Names.{parameter_type_of}
use Rattle.wb_tree.specs.Sound.{Declared, is_local, is_parameter, local_of_parameter}
use Rattle.wb_language.specs.Trees.{all_spelled, and_operand, parameter_operand}
use Rattle.wb_script.specs.Building.{parameter_taking}
use Rattle.wb_script.specs.Growing.{IsSoundOpen, are_parameters, is_parameter_operand, new_body, parameters_of_operands}
use Rattle.wb_script.proofs.lists.Tests.{parts, together}

-- one more operand
pub taken_more : (operands : List (Operand Referent)) (operand : Operand Referent) → parameters_of_operands (operands ++ operand ∷ []) ≡ parameters_of_operands operands ++ parameters_of_operands (operand ∷ [])
taken_more operands operand =
    ap (map parameter_taking) (flat_map-append parameter_type_of operands (operand ∷ []))
    ∙ map-append parameter_taking (flat_map parameter_type_of operands) (flat_map parameter_type_of (operand ∷ []))

pub all_more : (classes : ℕ) (operands : List (Operand Referent)) (operand : Operand Referent) → are_parameters classes operands ≡ true → is_parameter_operand classes operand ≡ true → are_parameters classes (operands ++ operand ∷ []) ≡ true
all_more classes operands operand all one =
    list_all-append (is_parameter_operand classes) operands (operand ∷ []) ∙ together _ _ all (together _ true one refl)

-- what one operand declares, is spelled by it, and is sound
pub record IsOne (classes : ℕ) (operand : Operand Referent) : Type 0 where
  pub one : model.Parameter
  pub taken_is : parameters_of_operands (operand ∷ []) ≡ one ∷ []
  pub spelled : parameter_operand one ≡ Some operand
  pub sound : IsTrue (is_parameter classes one)

one_of : (classes : ℕ) (operand : Operand Referent) → is_parameter_operand classes operand ≡ true → IsOne classes operand
one_of classes (Parameter referent.Parameter parameter_type.Pointer) is = record { one = parameter.OfPointer None; taken_is = refl; spelled = refl; sound = refl }
one_of classes (Parameter referent.Parameter parameter_type.Number) is = record { one = parameter.OfNumber; taken_is = refl; spelled = refl; sound = refl }
one_of classes (Parameter referent.Parameter (parameter_type.OfClass (referent.Class class))) is = record { one = parameter.OfPointer (Some class); taken_is = refl; spelled = refl; sound = is }
one_of classes _ is = cc

split_first : (operand : Operand Referent) (operands : List (Operand Referent)) → parameters_of_operands (operand ∷ operands) ≡ parameters_of_operands (operand ∷ []) ++ parameters_of_operands operands
split_first operand operands =
    ap (map parameter_taking) (flat_map-append parameter_type_of (operand ∷ []) operands)
    ∙ map-append parameter_taking (flat_map parameter_type_of (operand ∷ [])) (flat_map parameter_type_of operands)

-- parameters are spelled by their operands, are sound, and as many
pub record AreSpelled (classes : ℕ) (operands : List (Operand Referent)) : Type 0 where
  pub spelled : all_spelled (map parameter_operand (parameters_of_operands operands)) ≡ Some operands
  pub sound : IsTrue (list_all (is_parameter classes) (parameters_of_operands operands))
  pub many : length (parameters_of_operands operands) ≡ length operands

pub spelled_parameters : (classes : ℕ) (operands : List (Operand Referent)) → are_parameters classes operands ≡ true → AreSpelled classes operands
spelled_parameters classes [] is = record { spelled = refl; sound = refl; many = refl }
spelled_parameters classes (operand ∷ operands) is =
    let (here, rest) = parts (is_parameter_operand classes operand) (are_parameters classes operands) is in
    let one = one_of classes operand here in
    let more = spelled_parameters classes operands rest in
    let list : parameters_of_operands (operand ∷ operands) ≡ one.one ∷ parameters_of_operands operands = split_first operand operands ∙ ap (λ l. l ++ parameters_of_operands operands) one.taken_is in
    record {
      spelled =
          ap (λ l. all_spelled (map parameter_operand l)) list
          ∙ ap (λ o. and_operand o (all_spelled (map parameter_operand (parameters_of_operands operands)))) one.spelled
          ∙ ap (and_operand (Some operand)) more.spelled;
      sound = subst (λ l. IsTrue (list_all (is_parameter classes) l)) (sym list) (together _ _ one.sound more.sound);
      many = ap length list ∙ ap suc more.many;
    }

-- the locals of sound parameters are sound
one_local : (classes : ℕ) (p : model.Parameter) → is_local classes (local_of_parameter p) ≡ is_parameter classes p
one_local classes (parameter.OfPointer class) = refl
one_local classes parameter.OfNumber = refl

sound_locals : (classes : ℕ) (ps : List model.Parameter) → list_all (is_parameter classes) ps ≡ true → list_all (is_local classes) (map local_of_parameter ps) ≡ true
sound_locals classes [] is = refl
sound_locals classes (p ∷ ps) is =
    let (here, rest) = parts (is_parameter classes p) (list_all (is_parameter classes) ps) is in
    together _ _ (one_local classes p ∙ here) (sound_locals classes ps rest)

-- the body after its first line
pub new_sound : (declared : Declared) (this : Option ℕ) (ps : List model.Parameter) → IsTrue (list_all (is_parameter (length declared.fields)) ps) → length ps ≤ 4 → IsSoundOpen declared (new_body this ps)
new_sound declared this ps sound few = record {
  scope = sym (append-nil (map local_of_parameter ps));
  locals = sound_locals (length declared.fields) ps sound;
  most = omega (arith, few, length-map ps local_of_parameter);
  block_stack = refl;
}
