-- A pass refuses the lines that are wrong in the sort of something, or have no place where they are.
use Rattle.std.proofs.Common.{◌≡◌, ℕ, ◌<◌, List, [], ◌∷◌, ◌++◌, map, length, Bool, true, false, not, ◌&&◌, ◌||◌, refl, sym, ap, subst, ◌∙◌}
use Rattle.std.specs.List.{list_all, list_any}
use Rattle.std.proofs.lemmas.Bool.{false≢true}
use Rattle.std.proofs.lemmas.List.Folds.{list_all-append}
use Rattle.wb_language.specs.declared.fault.ScriptFault.{ScriptFault}
use Rattle.wb_language.specs.declared.fault.ScriptFault.TheVariants.{WrongKind}
use Rattle.wb_tree.specs.declared.script.Script.{Script}
use Rattle.wb_tree.specs.declared.script_lines.LineKind.{LineKind}
use Rattle.wb_tree.specs.declared.script_lines.LineKind.TheVariants as line_kind
use Rattle.wb_tree.specs.declared.script_lines.OperandPlace.{OperandPlace}
use Rattle.wb_tree.specs.declared.script_lines.Referent.{Referent}
use Rattle.wb_tree.specs.declared.script_lines.Operand.{Operand}
use Rattle.wb_tree.specs.declared.script_lines.Form.{Form}
use Rattle.wb_tree.specs.declared.script_lines.Form.TheVariants.{Skip, Unknown, Line}
use Rattle.wb_language.specs.FaultOrder.{number_of_fault}
use Rattle.wb_language.specs.FirstLines.{IsFirstLine, IsOfNoLine}
use Rattle.wb_language.specs.Forms.{forms_of, role_of_form}
use Rattle.wb_language.specs.Grammar.{IsGrammatical}
use Rattle.wb_language.specs.Kinds.{arguments_agree, ends_body, has_wrong_kind, is_of_procedure, is_right_line, is_trap, misuses_main, returns_pointer, sides_agree}
use Rattle.wb_language.specs.LineKinds.{operand_places_for}
use Rattle.wb_language.specs.Lines.{lines_of}
use Rattle.wb_language.specs.Names.{Text, Declaration, NamesSoFar, items_of, line_kind_in}
use Rattle.wb_language.specs.Resolved.{resolved_line, resolved_operand, resolved_operands}
use Rattle.wb_language.specs.Scripts.{IsFaultOf, IsScriptOf}
use Rattle.wb_language.specs.WrongSorts.{CallsWrongly, HasWrongOperand, IsInNoProcedure, IsWrong, SidesDiffer, heads_no_procedure}
use Rattle.wb_lines.specs.Typed.{is_typed, AreTyped}
use Rattle.wb_lines.proofs.TypedLemmas.{both}
use Rattle.wb_script.proofs.names.DeclaredHere.{known_following}
use Rattle.wb_script.proofs.one_script.NameLaws.{typed_lines}
use Rattle.wb_script.proofs.said.LaterFaults.{none_wrong}
use Rattle.wb_script.proofs.said.FirstSaid.{AreRefused, first_said, none_said}
use Rattle.wb_script.proofs.said.OpenTraps.{trap_before, trap_is_open}
use Rattle.wb_script.proofs.said.QuietLines.{body_known, body_of, heads_body}
use Rattle.wb_script.proofs.said.SinceLines.{AreSince, lines_since, since_head, they_are_since}
use Rattle.wb_script.proofs.said.CallArguments.{arguments_wrong, wrong_arguments}
use Rattle.wb_script.proofs.said.RightOperands.{operands_pass, test_is, wrong_operand, operand_wrong, sides_wrong, wrong_sides}

module _ (forms before rest : List (Form Text)) (grammar : IsGrammatical (map role_of_form forms)) (typed : AreTyped forms) (parts : forms ≡ before ++ rest) where
  abbrev here : NamesSoFar
  here = known_following before

  abbrev items : List Declaration
  items = items_of forms

  abbrev meant : LineKind → OperandPlace → Operand Text → Operand Referent
  meant k place operand = resolved_operand items here k place operand

  abbrev are_meant : LineKind → List OperandPlace → List (Operand Text) → List (Operand Referent)
  are_meant k places operands = resolved_operands items here k places operands

  abbrev spoken : LineKind → List (Operand Text) → List (Operand Referent)
  spoken k operands = are_meant k (operand_places_for k (length operands)) operands

  abbrev test : LineKind → List (Operand Text) → Bool
  test k operands = operands_pass forms before rest grammar typed parts k operands

  -- A `return` with a pointer outside of a procedure.
  no_procedure : {lines since : List (Form Text)} → AreSince heads_body lines since → is_of_procedure (body_of since) ≡ false → IsInNoProcedure lines
  no_procedure AreSince.no_lines is = absurd (false≢true (sym is))
  no_procedure (AreSince.last_lines earlier inside (Line line_kind.Op operands) stays_in first) is = (earlier, inside, Line line_kind.Op operands, refl, refl, stays_in)
  no_procedure (AreSince.last_lines earlier inside (Line line_kind.Constructor operands) stays_in first) is = (earlier, inside, Line line_kind.Constructor operands, refl, refl, stays_in)
  no_procedure (AreSince.last_lines earlier inside (Line line_kind.Destructor operands) stays_in first) is = (earlier, inside, Line line_kind.Destructor operands, refl, refl, stays_in)
  no_procedure (AreSince.last_lines earlier inside (Line k operands) stays_in first) is = absurd (false≢true (sym is))
  no_procedure (AreSince.last_lines earlier inside Skip stays_in first) is = absurd (false≢true (sym is))
  no_procedure (AreSince.last_lines earlier inside Unknown stays_in first) is = absurd (false≢true (sym is))

  in_no_procedure : is_of_procedure here.body ≡ false → IsInNoProcedure before
  in_no_procedure is = no_procedure (they_are_since heads_body before) (ap is_of_procedure (sym (body_known before)) ∙ is)

  heads_other : (head : Form Text) → heads_no_procedure head ≡ true → (heads_body head ≡ true) × (is_of_procedure (body_of (head ∷ [])) ≡ false)
  heads_other (Line line_kind.Op operands) is = (refl, refl)
  heads_other (Line line_kind.Constructor operands) is = (refl, refl)
  heads_other (Line line_kind.Destructor operands) is = (refl, refl)
  heads_other (Line k operands) is = absurd (false≢true is)
  heads_other Skip is = absurd (false≢true is)
  heads_other Unknown is = absurd (false≢true is)

  of_no_procedure : IsInNoProcedure before → is_of_procedure here.body ≡ false
  of_no_procedure (outside, inside, head, split, heads, stays_in) =
      let (begins, other) = heads_other head heads in
      ap is_of_procedure (body_known before ∙ ap (λ l. body_of (lines_since heads_body l)) split ∙ ap body_of (since_head heads_body outside inside head begins stays_in)) ∙ other

  -- Together.
  abbrev trapped_here : Form Text → Bool
  trapped_here form = list_any ends_body (line_kind_in form) && list_any is_trap here.blocks

  abbrev outside_here : Form Text → Bool
  outside_here form = list_any returns_pointer (line_kind_in form) && not (is_of_procedure here.body)

  abbrev Tests : Form Text → Bool → Type 0
  Tests form right = (not right || (misuses_main form || (trapped_here form || outside_here form))) ≡ true

  not_right : (form : Form Text) (b : Bool) → not b ≡ true → b ≡ false
  not_right form true is = absurd (false≢true is)
  not_right form false is = refl

  by_place : (form : Form Text) → (misuses_main form || (trapped_here form || outside_here form)) ≡ true → IsWrong forms before form
  by_place form is = go (misuses_main form) (list_any ends_body (line_kind_in form)) (list_any is_trap here.blocks) (list_any returns_pointer (line_kind_in form)) (is_of_procedure here.body) refl refl refl refl refl is
    where
      go : (a b c d e : Bool) → misuses_main form ≡ a → list_any ends_body (line_kind_in form) ≡ b → list_any is_trap here.blocks ≡ c → list_any returns_pointer (line_kind_in form) ≡ d → is_of_procedure here.body ≡ e →
          (a || ((b && c) || (d && not e))) ≡ true → IsWrong forms before form
      go true b c d e ea eb ec ed ee h = IsWrong.main ea
      go false true true d e ea eb ec ed ee h = IsWrong.trapped eb (trap_before before ec)
      go false true false true false ea eb ec ed ee h = IsWrong.outside ed (in_no_procedure ee)
      go false true false true true ea eb ec ed ee h = absurd (false≢true h)
      go false true false false e ea eb ec ed ee h = absurd (false≢true h)
      go false false c true false ea eb ec ed ee h = IsWrong.outside ed (in_no_procedure ee)
      go false false c true true ea eb ec ed ee h = absurd (false≢true h)
      go false false c false e ea eb ec ed ee h = absurd (false≢true h)

  wrong_line : (form : Form Text) → is_typed form ≡ true → has_wrong_kind items here form ≡ true → IsWrong forms before form
  wrong_line Skip fit is = by_place Skip is
  wrong_line Unknown fit is = by_place Unknown is
  wrong_line (Line k operands) fit is = go (test k operands) (sides_agree k (spoken k operands)) (arguments_agree items k (spoken k operands)) refl refl refl
      (ap (λ b. not (b && (sides_agree k (spoken k operands) && arguments_agree items k (spoken k operands))) || (misuses_main (Line k operands) || (trapped_here (Line k operands) || outside_here (Line k operands)))) (sym (test_is forms before rest grammar typed parts k operands fit)) ∙ is)
    where
      go : (a b c : Bool) → test k operands ≡ a → sides_agree k (spoken k operands) ≡ b → arguments_agree items k (spoken k operands) ≡ c →
          (not (a && (b && c)) || (misuses_main (Line k operands) || (trapped_here (Line k operands) || outside_here (Line k operands)))) ≡ true → IsWrong forms before (Line k operands)
      go false b c ea eb ec h = IsWrong.operand (wrong_operand forms before rest grammar typed parts k operands ea)
      go true false c ea eb ec h = IsWrong.sides (sides_wrong forms before rest grammar typed parts k operands fit ea eb)
      go true true false ea eb ec h = IsWrong.arguments (arguments_wrong forms before rest grammar typed parts k operands fit ec)
      go true true true ea eb ec h = by_place (Line k operands) h

  first_true : (a b : Bool) → a ≡ true → (a || b) ≡ true
  first_true true b is = refl
  first_true false b is = absurd (false≢true is)

  second_true : (a b : Bool) → b ≡ true → (a || b) ≡ true
  second_true true b is = refl
  second_true false b is = is

  abbrev misplaced : Form Text → Bool
  misplaced form = misuses_main form || (trapped_here form || outside_here form)

  one_fails : (k : LineKind) (operands : List (Operand Text)) → is_typed (Line k operands) ≡ true → (test k operands && (sides_agree k (spoken k operands) && arguments_agree items k (spoken k operands))) ≡ false → has_wrong_kind items here (Line k operands) ≡ true
  one_fails k operands fit fails =
      first_true (not (is_right_line items (resolved_line items here (Line k operands)))) (misplaced (Line k operands))
      (ap not (ap (λ b. b && (sides_agree k (spoken k operands) && arguments_agree items k (spoken k operands))) (test_is forms before rest grammar typed parts k operands fit) ∙ fails))

  and_false : (a b : Bool) → b ≡ false → (a && b) ≡ false
  and_false true b is = is
  and_false false b is = refl

  line_is_wrong : (form : Form Text) → is_typed form ≡ true → IsWrong forms before form → has_wrong_kind items here form ≡ true
  line_is_wrong form fit (IsWrong.operand wrong) = go form fit wrong
    where
      go : (form : Form Text) → is_typed form ≡ true → HasWrongOperand forms before form → has_wrong_kind items here form ≡ true
      go Skip fit (place, operand, first, last, split, never) = absurd (not_empty first split)
        where
          not_empty : (first : List (OperandPlace × Operand Text)) → [] ≡ first ++ (place, operand) ∷ last → ⊥
          not_empty [] e = cc
          not_empty (x ∷ xs) e = cc
      go Unknown fit (place, operand, first, last, split, never) = absurd (not_empty first split)
        where
          not_empty : (first : List (OperandPlace × Operand Text)) → [] ≡ first ++ (place, operand) ∷ last → ⊥
          not_empty [] e = cc
          not_empty (x ∷ xs) e = cc
      go (Line k operands) fit wrong = one_fails k operands fit (ap (λ b. b && (sides_agree k (spoken k operands) && arguments_agree items k (spoken k operands))) (operand_wrong forms before rest grammar typed parts k operands wrong))
  line_is_wrong form fit (IsWrong.sides wrong) = go form fit wrong
    where
      go : (form : Form Text) → is_typed form ≡ true → SidesDiffer forms before form → has_wrong_kind items here form ≡ true
      go Skip fit (target, source, written, read, form_is, written_is, read_is, differ) = let clash : ⊥ = cc in absurd clash
      go Unknown fit (target, source, written, read, form_is, written_is, read_is, differ) = let clash : ⊥ = cc in absurd clash
      go (Line k operands) fit wrong = one_fails k operands fit (and_false (test k operands) (sides_agree k (spoken k operands) && arguments_agree items k (spoken k operands)) (ap (λ b. b && arguments_agree items k (spoken k operands)) (wrong_sides forms before rest grammar typed parts k operands wrong)))
  line_is_wrong form fit (IsWrong.arguments wrong) = go form fit wrong
    where
      go : (form : Form Text) → is_typed form ≡ true → CallsWrongly forms before form → has_wrong_kind items here form ≡ true
      go Skip fit (k, operands, arguments, procedure, head, form_is, called, named, never) = let clash : ⊥ = cc in absurd clash
      go Unknown fit (k, operands, arguments, procedure, head, form_is, called, named, never) = let clash : ⊥ = cc in absurd clash
      go (Line k operands) fit wrong =
          one_fails k operands fit
          (and_false (test k operands) (sides_agree k (spoken k operands) && arguments_agree items k (spoken k operands)) (and_false (sides_agree k (spoken k operands)) (arguments_agree items k (spoken k operands)) (wrong_arguments forms before rest grammar typed parts k operands wrong)))
  line_is_wrong form fit (IsWrong.main misused) = second_true (not (is_right_line items (resolved_line items here form))) (misplaced form) (first_true (misuses_main form) (trapped_here form || outside_here form) misused)
  line_is_wrong form fit (IsWrong.trapped ends trap) =
      second_true (not (is_right_line items (resolved_line items here form))) (misplaced form)
      (second_true (misuses_main form) (trapped_here form || outside_here form)
      (first_true (trapped_here form) (outside_here form) (ap (λ b. b && list_any is_trap here.blocks) ends ∙ trap_is_open before trap)))
  line_is_wrong form fit (IsWrong.outside returns other) =
      second_true (not (is_right_line items (resolved_line items here form))) (misplaced form)
      (second_true (misuses_main form) (trapped_here form || outside_here form)
      (second_true (trapped_here form) (outside_here form) (ap (λ b. b && not (is_of_procedure here.body)) returns ∙ ap not (of_no_procedure other))))

refused_wrong : (forms : List (Form Text)) → IsGrammatical (map role_of_form forms) → AreTyped forms → AreRefused IsWrong (has_wrong_kind (items_of forms)) forms
refused_wrong forms grammar typed before after form whole =
    let split : AreTyped (before ++ form ∷ after) = subst AreTyped whole typed in
    let later = (both (list_all is_typed before) (list_all is_typed (form ∷ after)) (sym (list_all-append is_typed before (form ∷ after)) ∙ split)).1 in
    let fit = (both (is_typed form) (list_all is_typed after) later).0 in
    (wrong_line forms before (form ∷ after) grammar typed whole form fit, line_is_wrong forms before (form ∷ after) grammar typed whole form fit)

pub wrong_is_wrong : (bytes : List ℕ) (n : ℕ) → IsFaultOf bytes (WrongKind n) → IsFirstLine IsWrong (forms_of (lines_of bytes)) n
wrong_is_wrong bytes n (formed, (known, once, is)) =
    let forms = forms_of (lines_of bytes) in
    first_said IsWrong (has_wrong_kind (items_of forms)) forms (refused_wrong forms formed.grammar (typed_lines bytes formed.text.short)) n is

pub script_right : (bytes : List ℕ) (script : Script) → IsScriptOf bytes script → IsOfNoLine IsWrong (forms_of (lines_of bytes))
script_right bytes script is =
    let forms = forms_of (lines_of bytes) in
    none_said IsWrong (has_wrong_kind (items_of forms)) forms (refused_wrong forms is.well_formed.grammar (typed_lines bytes is.well_formed.text.short)) is.tree.named.right

pub none_wrong_later : (bytes : List ℕ) (fault : ScriptFault) → IsFaultOf bytes fault → 6 < number_of_fault fault → IsOfNoLine IsWrong (forms_of (lines_of bytes))
none_wrong_later bytes fault is later =
    let (formed, none) = none_wrong bytes fault is later in
    let forms = forms_of (lines_of bytes) in
    none_said IsWrong (has_wrong_kind (items_of forms)) forms (refused_wrong forms formed.grammar (typed_lines bytes formed.text.short)) none
