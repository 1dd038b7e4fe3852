-- Arguments, one more at a time, which operands are none, and operands that are two.
use Rattle.std.proofs.Common.{◌≡◌, refl, sym, ap, ◌∙◌, ℕ, zero, suc, ◌<◌, ◌≤◌, List, [], ◌∷◌, ◌++◌, length, map, get_or, Option, Some, None, Bool, true, false, ◌&&◌, IsTrue, arith}
use Rattle.std.specs.Borrow.{Bor}
use Rattle.std.specs.Option.{option_map}
use Rattle.std.specs.Prelude.{slice_get}
use Rattle.std.proofs.lemmas.List.{map-append, length-map}
use Rattle.std.proofs.lemmas.Option.{slice_get-map, slice_get_within}
use Rattle.wb_tree.specs.declared.script.Argument.{Argument}
use Rattle.wb_tree.specs.declared.script.Parameter.{Parameter}
use Rattle.wb_tree.specs.declared.script_lines.Referent.{Referent}
use Rattle.wb_tree.specs.declared.script_lines.Operand as model
use Rattle.std.specs.List.{list_any}
use Rattle.wb_tree.specs.declared.script.Statement.{Statement}
use Rattle.wb_tree.specs.declared.script_lines.LineKind.{LineKind}
use Rattle.wb_language.specs.Kinds.{is_trap}
use Rattle.wb_language.specs.Forms.{renamed_parameter_type}
use Rattle.wb_tree.specs.declared.script_lines.ItemKind.TheVariants as kind
use Rattle.wb_basics.specs.declared.limits.TheConstants.{LONGEST_SCRIPT}
use Rattle.wb_language.specs.Names as names
use Rattle.wb_language.specs.Names.{item_of_kind, of_kind}
use Rattle.wb_tree.specs.Sound.{Declared, Scope, is_passed, are_passed}
use Rattle.wb_tree.specs.Spellings.{Spelled, argument_operand}
use Rattle.wb_language.specs.Trees.{and_operand, all_spelled}
use Rattle.wb_script.specs.Fitting.{argument_fits, arguments_fit}
use Rattle.wb_lines.specs.BytesOf.{bytes_of_text}
use Rattle.wb_script.specs.BytesOf.{bytes_of_item, bytes_of_items, parameter_named, signatures_among}
use Rattle.wb_script.specs.Building.{may_stand}
use Rattle.wb_script.specs.Stated.{IsNestedOf, IsStatedWhereFit, bytes_of_parameter}
use Rattle.wb_script.specs.declared.checks.items.Declaration.{Declaration}
use Rattle.wb_script.proofs.names.Indexes.{index_fits}

abbrev Operand : Type 0
Operand = model.Operand Referent

abbrev appended : Option (List Operand) → Operand → Option (List Operand)
appended (Some operands) o = Some (operands ++ o ∷ [])
appended None o = None

onto_appended : (w o : Operand) (rest : Option (List Operand)) → and_operand (Some w) (appended rest o) ≡ appended (and_operand (Some w) rest) o
onto_appended w o None = refl
onto_appended w o (Some operands) = refl

all_spelled-last : (words : List Spelled) (o : Operand) → all_spelled (words ++ Some o ∷ []) ≡ appended (all_spelled words) o
all_spelled-last [] o = refl
all_spelled-last (None ∷ words) o = refl
all_spelled-last (Some w ∷ words) o = ap (and_operand (Some w)) (all_spelled-last words o) ∙ onto_appended w o (all_spelled words)

pub spelled_more : (given : List Argument) (a : Argument) (operands : List Operand) (o : Operand) → all_spelled (map argument_operand given) ≡ Some operands → argument_operand a ≡ Some o → all_spelled (map argument_operand (given ++ a ∷ [])) ≡ Some (operands ++ o ∷ [])
spelled_more given a operands o before is =
    ap all_spelled (map-append argument_operand given (a ∷ []))
    ∙ ap (λ w. all_spelled (map argument_operand given ++ w ∷ [])) is
    ∙ all_spelled-last (map argument_operand given) o
    ∙ ap (λ r. appended r o) before

parts : (a b : Bool) → IsTrue (a && b) → IsTrue a × IsTrue b
parts true b is = (refl, is)
parts false b is = let clash : ⊥ = cc in absurd clash

both : (a b : Bool) → IsTrue a → IsTrue b → IsTrue (a && b)
both true b here there = there
both false b here there = let clash : ⊥ = cc in absurd clash

never : (a b : Bool) → b ≡ false → (a && b) ≡ false
never true b e = e
never false b e = refl

-- what is taken stands for parameters
module _ {A : Type 0} (parameter_of : A → Parameter) where
  pub passed_more : (scope : Scope) (taken : List A) (given : List Argument) (t : A) (a : Argument) → IsTrue (are_passed scope (map parameter_of taken) given) → IsTrue (is_passed scope (parameter_of t) a) → IsTrue (are_passed scope (map parameter_of (taken ++ t ∷ [])) (given ++ a ∷ []))
  passed_more scope [] [] t a before is = both (is_passed scope (parameter_of t) a) true is refl
  passed_more scope [] (b ∷ given) t a before is = let clash : ⊥ = cc in absurd clash
  passed_more scope (q ∷ taken) [] t a before is = let clash : ⊥ = cc in absurd clash
  passed_more scope (q ∷ taken) (b ∷ given) t a before is =
      let split = parts (is_passed scope (parameter_of q) b) (are_passed scope (map parameter_of taken) given) before in
      both (is_passed scope (parameter_of q) b) (are_passed scope (map parameter_of (taken ++ t ∷ [])) (given ++ a ∷ [])) split.0 (passed_more scope taken given t a split.1 is)

  pub arguments_differ : (literals : ℕ) (scope : Scope) (taken : List A) (operands : List Operand) → (length taken ≡ length operands → ⊥) → arguments_fit literals scope (map parameter_of taken) operands ≡ false
  arguments_differ literals scope [] [] differ = absurd (differ refl)
  arguments_differ literals scope [] (o ∷ operands) differ = refl
  arguments_differ literals scope (t ∷ taken) [] differ = refl
  arguments_differ literals scope (t ∷ taken) (o ∷ operands) differ =
      never (argument_fits literals scope (parameter_of t) o) (arguments_fit literals scope (map parameter_of taken) operands) (arguments_differ literals scope taken operands (λ e. differ (ap suc e)))

  pub one_differs : (literals : ℕ) (scope : Scope) (taken : List A) (operands : List Operand) (i : ℕ) (t : A) (d : Operand) → i < length taken → i < length operands →
      t ≡ get_or taken i t → argument_fits literals scope (parameter_of t) (get_or operands i d) ≡ false → arguments_fit literals scope (map parameter_of taken) operands ≡ false
  one_differs literals scope [] operands i t d lt below here misfit = absurd (omega arith)
  one_differs literals scope (q ∷ taken) [] i t d lt below here misfit = absurd (omega arith)
  one_differs literals scope (q ∷ taken) (r ∷ operands) zero t d lt below here misfit =
      ap (λ b. b && arguments_fit literals scope (map parameter_of taken) operands) (ap (λ x. argument_fits literals scope (parameter_of x) r) (sym here) ∙ misfit)
  one_differs literals scope (q ∷ taken) (r ∷ operands) (suc i) t d lt below here misfit =
      never (argument_fits literals scope (parameter_of q) r) (arguments_fit literals scope (map parameter_of taken) operands) (one_differs literals scope taken operands i t d (omega arith) (omega arith) here misfit)

mapped_twice : {A B C : Type 0} (g : B → C) (f : A → B) (xs : List A) → map g (map f xs) ≡ map (λ x. g (f x)) xs
mapped_twice g f [] = refl
mapped_twice g f (x ∷ xs) = ap (λ l. g (f x) ∷ l) (mapped_twice g f xs)

-- what a procedure takes, by the one that has its index
pub signature_there : (items : List Declaration) (index : ℕ) (o : Option (Bor Declaration)) → option_map (λ i. bytes_of_item i.now) o ≡ item_of_kind kind.Procedure (bytes_of_items items) index →
    option_map (λ i. map (bytes_of_parameter (bytes_of_items items)) i.now.parameters) o ≡ slice_get (signatures_among (bytes_of_items items)) index
signature_there items index o is = lent o ∙ ap (option_map signature) is ∙ sym (slice_get-map signature (of_kind kind.Procedure (bytes_of_items items)) index)
  where
    signature : names.Declaration → List Parameter
    signature i = map (parameter_named (bytes_of_items items)) i.parameters

    lent : (o : Option (Bor Declaration)) → option_map (λ i. map (bytes_of_parameter (bytes_of_items items)) i.now.parameters) o ≡ option_map signature (option_map (λ i. bytes_of_item i.now) o)
    lent None = refl
    lent (Some i) = ap Some (sym (mapped_twice (parameter_named (bytes_of_items items)) (renamed_parameter_type bytes_of_text) i.now.parameters))

-- no more than so many procedures
pub signature_within : (items : List Declaration) (index : ℕ) (parameters : List Parameter) → length items ≤ LONGEST_SCRIPT → Some parameters ≡ slice_get (signatures_among (bytes_of_items items)) index → index < 65536
signature_within items index parameters few is =
    index_fits kind.Procedure items index few
    (omega (arith, slice_get_within (signatures_among (bytes_of_items items)) index parameters (sym is), length-map (of_kind kind.Procedure (bytes_of_items items)) (λ i. map (parameter_named (bytes_of_items items)) i.parameters)))

-- a list of two is its elements
pub two_items : {X : Type 0} (xs : List X) (d : X) → 2 ≤ length xs → length xs < 3 → xs ≡ get_or xs 0 d ∷ get_or xs 1 d ∷ []
two_items [] d least below = absurd (omega arith)
two_items (x ∷ []) d least below = absurd (omega arith)
two_items (x ∷ y ∷ []) d least below = refl
two_items (x ∷ y ∷ z ∷ xs) d least below = absurd (omega arith)

-- a statement that may be anywhere is inside these blocks
pub stands_inside : (declared : Declared) (scope : Scope) (blocks : List LineKind) (k : LineKind) (operands : List Operand) (result : Option Statement) → may_stand blocks k ≡ true → IsNestedOf declared scope k operands result → IsStatedWhereFit declared scope blocks k operands result
stands_inside declared scope blocks k operands None stands misfit = ap (λ b. b && may_stand blocks k) misfit
stands_inside declared scope blocks k operands (Some s) stands line = line (list_any is_trap blocks)
