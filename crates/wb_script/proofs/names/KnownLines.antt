-- No line of a script is one that no script has.
use Rattle.std.proofs.Common.{◌≡◌, refl, sym, ap, ◌∙◌, ℕ, suc, List, [], ◌∷◌, ◌++◌, Bool, true, false, map, Option, Some, None}
use Rattle.std.specs.List.{list_all, flat_map}
use Rattle.std.specs.Option.{option_and_then}
use Rattle.wb_tree.specs.declared.script_lines.LineKind.{LineKind}
use Rattle.wb_tree.specs.declared.script_lines.LineKind.TheVariants as line_kind
use Rattle.wb_tree.specs.declared.script_lines.Form.TheVariants.{Skip, Unknown, Line}
use Rattle.wb_tree.specs.declared.script_lines.Role.{Role}
use Rattle.wb_tree.specs.declared.script_lines.Role.TheVariants as role
use Rattle.wb_language.specs.Forms.{role_of_form}
use Rattle.wb_language.specs.Grammar.{IsGrammatical, content}
use Rattle.wb_language.specs.LineKinds.{role_of}
use Rattle.wb_language.specs.Trees.{Indexed, Marked, counted_from}
use Rattle.wb_nesting.specs.declared.open.Open.{Open}
use Rattle.wb_nesting.specs.declared.open.Open.TheVariants.{Fields, Made, Destroyed, Declarations, Statements, Branch, Block}
use Rattle.wb_nesting.specs.Machine.{step}
use Rattle.wb_nesting.proofs.Runs.{run, items_run}
use Rattle.wb_lines.proofs.TypedLemmas.{both}

abbrev is_said : Role → Bool
is_said role.Unknown = false
is_said _ = true

abbrev pub is_known : Indexed → Bool
is_known Unknown = false
is_known _ = true

abbrev pub is_of_a_script : Marked → Bool
is_of_a_script m = is_known m.1

abbrev role_marked : Marked → Role
role_marked m = role_of_form m.1

pub never_unknown : (stack : List Open) → step stack role.Unknown ≡ None
never_unknown [] = refl
never_unknown (Fields ∷ below) = refl
never_unknown (Made ∷ below) = refl
never_unknown (Destroyed ∷ below) = refl
never_unknown (Declarations ∷ below) = refl
never_unknown (Statements ∷ below) = refl
never_unknown (Branch ∷ below) = refl
never_unknown (Block ∷ below) = refl

-- no run of a script's roles meets an unknown one
run_known : (roles : List Role) (stack last : List Open) → run stack roles ≡ Some last → list_all is_said roles ≡ true
run_known [] stack last is = refl
run_known (role.Unknown ∷ roles) stack last is = let clash : ⊥ = cc (rw (never_unknown stack) at is) in absurd clash
run_known (r ∷ roles) stack last is = go (step stack r) (run_known roles) is
  where
    go : (o : Option (List Open)) → ((next end : List Open) → run next roles ≡ Some end → list_all is_said roles ≡ true) → option_and_then (λ next. run next roles) o ≡ Some last → list_all is_said roles ≡ true
    go None rest e = let clash : ⊥ = cc in absurd clash
    go (Some next) rest e = rest next last e

content_of : (k : LineKind) → content (role_of k) ≡ role_of k ∷ []
content_of line_kind.Proc = refl
content_of _ = refl

-- the lines that count are those whose roles count
contents : (number : ℕ) (lines : List Indexed) → flat_map content (map role_of_form lines) ≡ map role_marked (counted_from number lines)
contents number [] = refl
contents number (Skip ∷ lines) = contents (suc number) lines
contents number (Unknown ∷ lines) = ap (λ l. role.Unknown ∷ l) (contents (suc number) lines)
contents number (Line k operands ∷ lines) = ap (λ l. l ++ flat_map content (map role_of_form lines)) (content_of k) ∙ ap (λ l. role_of k ∷ l) (contents (suc number) lines)

known_by_role : (lines : List Marked) → list_all is_said (map role_marked lines) ≡ true → list_all is_of_a_script lines ≡ true
known_by_role [] said = refl
known_by_role ((number, Skip) ∷ lines) said = known_by_role lines said
known_by_role ((number, Unknown) ∷ lines) said = let clash : ⊥ = cc in absurd clash
known_by_role ((number, Line k operands) ∷ lines) said = known_by_role lines (both (is_said (role_of k)) (list_all is_said (map role_marked lines)) said).1

pub known_lines : (lines : List Indexed) → IsGrammatical (map role_of_form lines) → list_all is_of_a_script (counted_from 1 lines) ≡ true
known_lines lines grammar =
    let said = run_known (flat_map content (map role_of_form lines)) [] [] (items_run grammar) in
    known_by_role (counted_from 1 lines) (ap (list_all is_said) (sym (contents 1 lines)) ∙ said)
