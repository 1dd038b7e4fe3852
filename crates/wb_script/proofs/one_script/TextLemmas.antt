-- From the forms of lines to the lines: the line of a grammar fault, and how many lines there are.
use Rattle.std.proofs.Common.{◌≡◌, ℕ, zero, suc, ◌+◌, ◌-◌, ◌≤◌, List, [], ◌∷◌, ◌++◌, Bool, true, false, length, take, replicate, refl, sym, ap, subst, ◌∙◌, arith, nat_eq, Result, Ok, Err}
use Rattle.std.specs.Prelude.{codes, IfOk, IfErr}
use Rattle.std.proofs.lemmas.List.{map-append, take-map, length-map}
use Rattle.wb_language.specs.declared.fault.ScriptFault.{ScriptFault}
use Rattle.wb_language.specs.declared.fault.ScriptFault.TheVariants.{TooLong, NotAscii, Grammar, UnknownName, DoubleName, WrongKind, MayLeave, NoMain, TooMany, NoMemory}
use Rattle.wb_tree.specs.declared.script_lines.Form.{Form}
use Rattle.wb_tree.specs.declared.script_lines.Role.TheVariants as role
use Rattle.wb_tree.specs.declared.script.Script.{Script}
use Rattle.wb_language.specs.Forms.{role_of_form, line_form, forms_of}
use Rattle.wb_language.specs.Grammar.{IsGrammatical, IsFirstMisfit}
use Rattle.wb_language.specs.LineKinds.{line_kinds}
use Rattle.wb_language.specs.Lines.{lines_of, is_too_long, ends_line, pieces_from, onto_first, quoted_after}
use Rattle.wb_language.specs.Names.{Text}
use Rattle.wb_language.specs.Scripts.{IsGrammarLine, IsPlainText, IsTreeOf, IsScriptOf, IsFaultOf}
use Rattle.wb_script.specs.Reads.{roles_of, IsFormsFault}
use Rattle.wb_lines.proofs.Foreign.{at_most}

-- the text `end` is the line that ends a block
end_role : role_of_form (line_form (codes "end")) ≡ role.End
unfolding line_kinds
end_role = refl

roles-append : (lines more : List Text) → roles_of (forms_of (lines ++ more)) ≡ roles_of (forms_of lines) ++ roles_of (forms_of more)
roles-append lines more = ap roles_of (map-append line_form lines more) ∙ map-append role_of_form (forms_of lines) (forms_of more)

roles-ends : (depth : ℕ) → roles_of (forms_of (replicate depth (codes "end"))) ≡ replicate depth role.End
roles-ends zero = refl
roles-ends (suc depth) = ap (λ r. r ∷ roles_of (forms_of (replicate depth (codes "end")))) end_role ∙ ap (λ l. role.End ∷ l) (roles-ends depth)

roles-take : (n : ℕ) (lines : List Text) → roles_of (forms_of (take n lines)) ≡ take n (roles_of (forms_of lines))
roles-take n lines = ap roles_of (sym (take-map line_form n lines)) ∙ sym (take-map role_of_form n (forms_of lines))

roles-length : (lines : List Text) → length (roles_of (forms_of lines)) ≡ length lines
roles-length lines = simp length-map

grammar_line : (lines : List Text) (k : ℕ) → IsFirstMisfit (roles_of (forms_of lines)) k → IsGrammarLine lines (k + 1)
grammar_line lines k misfit = record {
  counted = omega arith;
  within = omega (arith, misfit.within, roles-length lines);
  before =
      let (depth, whole) = misfit.before in
      let same : k + 1 - 1 ≡ k = omega arith in (
        replicate depth (codes "end"),
        subst IsGrammatical
            (ap (λ l. l ++ replicate depth role.End) (sym (roles-take k lines)) ∙ ap (λ l. roles_of (forms_of (take k lines)) ++ l) (sym (roles-ends depth)) ∙ sym (roles-append (take k lines) (replicate depth (codes "end"))) ∙ ap (λ n. roles_of (forms_of (take n lines ++ replicate depth (codes "end")))) (sym same))
            whole,
      );
  here = λ within (more, whole).
      misfit.here (omega (arith, roles-length lines)) (roles_of (forms_of more), subst IsGrammatical (roles-append (take (k + 1) lines) more ∙ ap (λ l. l ++ roles_of (forms_of more)) (roles-take (k + 1) lines)) whole);
  unfinished = λ e. misfit.unfinished (omega (arith, roles-length lines));
}

fault_of_lines : (bytes : List ℕ) (fault : ScriptFault) → IsPlainText bytes → IsFormsFault (forms_of (lines_of bytes)) fault → IsFaultOf bytes fault
fault_of_lines bytes (Grammar n) text (k, e, misfit) = (text, subst (IsGrammarLine (lines_of bytes)) (sym e) (grammar_line (lines_of bytes) k misfit))
fault_of_lines bytes (UnknownName n) text (grammar, fault) = (record { text = text; grammar = grammar }, fault)
fault_of_lines bytes (DoubleName n) text (grammar, fault) = (record { text = text; grammar = grammar }, fault)
fault_of_lines bytes NoMain text (grammar, fault) = (record { text = text; grammar = grammar }, fault)
fault_of_lines bytes (TooMany n) text (grammar, fault) = (record { text = text; grammar = grammar }, fault)
fault_of_lines bytes TooLong text (grammar, fault) = absurd fault
fault_of_lines bytes (NotAscii n) text (grammar, fault) = absurd fault
fault_of_lines bytes (WrongKind n) text (grammar, fault) = (record { text = text; grammar = grammar }, fault)
fault_of_lines bytes (MayLeave n) text (grammar, fault) = (record { text = text; grammar = grammar }, fault)
fault_of_lines bytes NoMemory text (grammar, fault) = absurd fault

-- no more lines than bytes
onto_longer : (byte : ℕ) (pieces : List Text) (n : ℕ) → length pieces ≤ n → length (onto_first byte pieces) ≤ suc n
onto_longer byte [] n few = omega arith
onto_longer byte (piece ∷ pieces) n few = omega arith

few_pieces : (bytes : List ℕ) (quoted : Bool) → length (pieces_from ends_line quoted bytes) ≤ length bytes
few_pieces [] quoted = omega arith
few_pieces (byte ∷ bytes) quoted = go (nat_eq byte 10) (few_pieces bytes false) (few_pieces bytes (quoted_after quoted byte))
  where
    go : (b : Bool) → length (pieces_from ends_line false bytes) ≤ length bytes → length (pieces_from ends_line (quoted_after quoted byte) bytes) ≤ length bytes →
        length (elim b as (λ _. List (List ℕ)) [ true ↦ [] ∷ pieces_from ends_line false bytes | false ↦ onto_first byte (pieces_from ends_line (quoted_after quoted byte) bytes) ]) ≤ suc (length bytes)
    go true ended on = omega arith
    go false ended on = onto_longer byte (pieces_from ends_line (quoted_after quoted byte) bytes) (length bytes) on

pub few_lines : (bytes : List ℕ) → is_too_long bytes ≡ false → length (lines_of bytes) ≤ 65536
few_lines bytes short = let few = few_pieces bytes false in let bound = at_most bytes short in omega arith

pub faults_of_lines : {E : Type 0} (bytes : List ℕ) (forms : List (Form Text)) (r : Result (Result Script ScriptFault) E) → forms ≡ forms_of (lines_of bytes) → IsPlainText bytes → IfOk r (λ answer. IfErr answer (IsFormsFault forms)) → IfOk r (λ answer. IfErr answer (IsFaultOf bytes))
faults_of_lines bytes forms (Ok (Ok script)) is text told = told
faults_of_lines bytes forms (Ok (Err fault)) is text told = fault_of_lines bytes fault text (subst (λ l. IsFormsFault l fault) is told)
faults_of_lines bytes forms (Err error) is text told = told

pub scripts_of_lines : {E : Type 0} (bytes : List ℕ) (forms : List (Form Text)) (r : Result (Result Script ScriptFault) E) → forms ≡ forms_of (lines_of bytes) → IsPlainText bytes → IfOk r (λ answer. IfOk answer (λ _. IsGrammatical (roles_of forms))) → IfOk r (λ answer. IfOk answer (IsTreeOf forms)) → IfOk r (λ answer. IfOk answer (IsScriptOf bytes))
scripts_of_lines bytes forms (Ok (Ok script)) is text grammar tree = record {
  well_formed = record { text = text; grammar = subst (λ l. IsGrammatical (roles_of l)) is grammar };
  tree = subst (λ l. IsTreeOf l script) is tree;
}
scripts_of_lines bytes forms (Ok (Err fault)) is text grammar tree = tree
scripts_of_lines bytes forms (Err error) is text grammar tree = tree
