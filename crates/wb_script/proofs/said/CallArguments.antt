-- The arguments of a call are wrong where a pass finds them so.
use Rattle.std.proofs.Common.{◌≡◌, ℕ, suc, ◌-◌, List, [], ◌∷◌, ◌++◌, map, length, take, replicate, Option, Some, None, Bool, true, false, ◌&&◌, refl, sym, ap, subst, ◌∙◌, arith}
use Rattle.std.specs.Prelude.{slice_get}
use Rattle.std.proofs.lemmas.Bool.{false≢true}
use Rattle.wb_tree.specs.declared.script_lines.ItemKind.{ItemKind}
use Rattle.wb_tree.specs.declared.script_lines.ItemKind.TheVariants as item
use Rattle.wb_tree.specs.declared.script_lines.LineKind.{LineKind}
use Rattle.wb_tree.specs.declared.script_lines.LineKind.TheVariants as line_kind
use Rattle.wb_tree.specs.declared.script_lines.OperandPlace.{OperandPlace}
use Rattle.wb_tree.specs.declared.script_lines.OperandPlace.TheVariants as operand_place
use Rattle.wb_tree.specs.declared.script_lines.ParameterType.{ParameterType}
use Rattle.wb_tree.specs.declared.script_lines.ParameterType.TheVariants as parameter_type
use Rattle.wb_tree.specs.declared.script_lines.Referent.{Referent}
use Rattle.wb_tree.specs.declared.script_lines.Operand.{Operand}
use Rattle.wb_tree.specs.declared.script_lines.Operand.TheVariants.{Name}
use Rattle.wb_tree.specs.declared.script_lines.Form.{Form}
use Rattle.wb_tree.specs.declared.script_lines.Form.TheVariants.{Line}
use Rattle.wb_language.specs.Forms.{role_of_form}
use Rattle.wb_language.specs.Grammar.{IsGrammatical}
use Rattle.wb_language.specs.Kinds.{are_given, arguments_agree, call_agrees, is_given, is_given_to, operand_kind_of}
use Rattle.wb_language.specs.LineKinds.{operand_places_for, takes}
use Rattle.wb_language.specs.Names.{Text, Declaration, NamesSoFar, count_among, first_declaration_of, is_same_kind, item_of_kind, items_of, names_of, parameters_in}
use Rattle.wb_language.specs.Resolved.{item_after, item_at, item_referent, referent_of_kind, resolved_operand, resolved_operands}
use Rattle.wb_language.specs.WrongSorts.{ArgumentsFit, CallsWrongly, IsItemNamed, called_by, place_for}
use Rattle.wb_lines.specs.Typed.{is_operand, is_typed, AreTyped}
use Rattle.wb_lines.proofs.TypedLemmas.{both}
use Rattle.wb_script.proofs.names.DeclaredHere.{known_following}
use Rattle.wb_script.proofs.names.FoundItems.{item_here, same_as_itself}
use Rattle.wb_script.proofs.said.ClassFields.{begins_item, first_item, item_first}
use Rattle.wb_script.proofs.said.Sorts.{is_taken, taken_there}
use Rattle.wb_script.proofs.said.RightOperands.{is_false}

module _ (forms before rest : List (Form Text)) (grammar : IsGrammatical (map role_of_form forms)) (typed : AreTyped forms) (parts : forms ≡ before ++ rest) where
  abbrev here : NamesSoFar
  here = known_following before

  abbrev items : List Declaration
  items = items_of forms

  abbrev meant : LineKind → OperandPlace → Operand Text → Operand Referent
  meant k place operand = resolved_operand items here k place operand

  abbrev are_meant : LineKind → List OperandPlace → List (Operand Text) → List (Operand Referent)
  are_meant k places operands = resolved_operands items here k places operands

  abbrev spoken : LineKind → List (Operand Text) → List (Operand Referent)
  spoken k operands = are_meant k (operand_places_for k (length operands)) operands

  -- Arguments.
  abbrev passed : LineKind → List (Operand Text) → List (Operand Referent)
  passed k arguments = map (meant k operand_place.Argument) arguments

  given_place : (p : ParameterType Text) (operand : Operand Referent) → is_given p operand ≡ takes (place_for p) (operand_kind_of operand)
  given_place parameter_type.Number operand = refl
  given_place parameter_type.Pointer operand = refl
  given_place (parameter_type.OfClass class) operand = refl

  and_both : (a b : Bool) → a ≡ true → b ≡ true → (a && b) ≡ true
  and_both true b is other = other
  and_both false b is other = is

  fit_given : (k : LineKind) (parameters : List (ParameterType Text)) (arguments : List (Operand Text)) → ArgumentsFit forms before parameters arguments → are_given parameters (passed k arguments) ≡ true
  fit_given k [] [] fit = refl
  fit_given k [] (a ∷ others) fit = absurd fit
  fit_given k (p ∷ ps) [] fit = absurd fit
  fit_given k (p ∷ ps) (a ∷ others) (taken, fit) =
      and_both (is_given p (meant k operand_place.Argument a)) (are_given ps (passed k others))
      (given_place p (meant k operand_place.Argument a) ∙ is_taken forms before rest grammar typed parts k (place_for p) operand_place.Argument a taken) (fit_given k ps others fit)

  given_fit : (k : LineKind) (parameters : List (ParameterType Text)) (arguments : List (Operand Text)) → are_given parameters (passed k arguments) ≡ true → ArgumentsFit forms before parameters arguments
  given_fit k [] [] given = tt
  given_fit k [] (a ∷ others) given = absurd (false≢true given)
  given_fit k (p ∷ ps) [] given = absurd (false≢true given)
  given_fit k (p ∷ ps) (a ∷ others) given =
      let (first, later) = both (is_given p (meant k operand_place.Argument a)) (are_given ps (passed k others)) given in
      (taken_there forms before rest grammar typed parts k (place_for p) operand_place.Argument a (sym (given_place p (meant k operand_place.Argument a)) ∙ first), given_fit k ps others later)

  -- a call of what a name names
  abbrev WrongCall : Text → List (Operand Text) → Type 0
  WrongCall procedure arguments = (head : Form Text) × IsItemNamed forms procedure item.Procedure head × (ArgumentsFit forms before (parameters_in head) arguments → ⊥)

  call_wrong : (k : LineKind) (procedure : Text) (arguments : List (Operand Text)) → call_agrees items (Name (item_referent items procedure) ∷ passed k arguments) ≡ false → WrongCall procedure arguments
  call_wrong k procedure arguments is = go (first_declaration_of (names_of items) procedure) refl is
    where
      by_kind : (n : ℕ) (i : Declaration) (kind : ItemKind) → i.kind ≡ kind → slice_get items n ≡ Some i → call_agrees items (Name (referent_of_kind kind (count_among kind (take n items))) ∷ passed k arguments) ≡ false →
          (kind ≡ item.Procedure) × (are_given i.parameters (passed k arguments) ≡ false)
      by_kind n i item.Class of_kind there h = absurd (false≢true (sym h))
      by_kind n i item.Operation of_kind there h = absurd (false≢true (sym h))
      by_kind n i item.Procedure of_kind there h =
          let found = item_here item.Procedure items n i there (ap (λ k. is_same_kind k item.Procedure) of_kind) in
          (refl, ap (λ o. is_given_to o (passed k arguments)) (sym found) ∙ h)

      go : (o : Option ℕ) → first_declaration_of (names_of items) procedure ≡ o → call_agrees items (Name (item_at items o) ∷ passed k arguments) ≡ false → WrongCall procedure arguments
      go None at h = absurd (false≢true (sym h))
      go (Some n) at h =
          let (earlier, following, head, i, (split, declares, none), found) = first_item forms procedure n at in
          let begins = begins_item head following i found.begun in
          let (kind, given) = by_kind n i i.kind refl found.there (ap (λ o. call_agrees items (Name (item_after (take n items) o) ∷ passed k arguments)) (sym found.there) ∙ h) in (
            head,
            (earlier, following, split, declares, none, begins.same_kind ∙ ap Some kind),
            λ fit. let wanted = ap (λ ps. are_given ps (passed k arguments)) (sym begins.parameters) in let right_ones = fit_given k (parameters_in head) arguments fit in cc (given, wanted, right_ones),
          )

  wrong_call : (k : LineKind) (procedure : Text) (arguments : List (Operand Text)) → WrongCall procedure arguments → call_agrees items (Name (item_referent items procedure) ∷ passed k arguments) ≡ false
  wrong_call k procedure arguments (head, (earlier, following, split, declares, none, of_kind), never) =
      let unfit = is_false (are_given (parameters_in head) (passed k arguments)) (λ e. never (given_fit k (parameters_in head) arguments e)) in
      subst (λ l. call_agrees (items_of l) (Name (item_referent (items_of l) procedure) ∷ passed k arguments) ≡ false) (sym split) (in_lines unfit)
    where
      in_lines : are_given (parameters_in head) (passed k arguments) ≡ false → call_agrees (items_of (earlier ++ head ∷ following)) (Name (item_referent (items_of (earlier ++ head ∷ following)) procedure) ∷ passed k arguments) ≡ false
      in_lines unfit =
          let lines = earlier ++ head ∷ following in
          let (n, i, found) = item_first earlier following head procedure declares none in
          let begins = begins_item head following i found.begun in
          let kind : i.kind ≡ item.Procedure = cc (begins.same_kind, of_kind) in
          let own = item_here i.kind (items_of lines) n i found.there (same_as_itself i.kind) in
          let index : item_of_kind item.Procedure (items_of lines) (count_among item.Procedure (take n (items_of lines))) ≡ Some i = ap (λ k. item_of_kind k (items_of lines) (count_among k (take n (items_of lines)))) (sym kind) ∙ own in
          ap (λ o. call_agrees (items_of lines) (Name (item_at (items_of lines) o) ∷ passed k arguments)) found.found
          ∙ ap (λ o. call_agrees (items_of lines) (Name (item_after (take n (items_of lines)) o) ∷ passed k arguments)) found.there
          ∙ ap (λ kind. call_agrees (items_of lines) (Name (referent_of_kind kind (count_among kind (take n (items_of lines)))) ∷ passed k arguments)) kind
          ∙ ap (λ o. is_given_to o (passed k arguments)) index
          ∙ ap (λ ps. are_given ps (passed k arguments)) begins.parameters
          ∙ unfit

  -- arguments all have the same place
  argument_each : (k : LineKind) (n : ℕ) (arguments : List (Operand Text)) → n ≡ length arguments → are_meant k (replicate n operand_place.Argument) arguments ≡ passed k arguments
  argument_each k n [] long = subst (λ m. are_meant k (replicate m operand_place.Argument) [] ≡ []) (sym long) refl
  argument_each k n (a ∷ others) long = subst (λ m. are_meant k (replicate m operand_place.Argument) (a ∷ others) ≡ passed k (a ∷ others)) (sym long) (ap (λ l. meant k operand_place.Argument a ∷ l) (argument_each k (length others) others refl))

  call_spoken : (procedure : Text) (arguments : List (Operand Text)) → spoken line_kind.Call (Name procedure ∷ arguments) ≡ Name (item_referent items procedure) ∷ passed line_kind.Call arguments
  call_spoken procedure arguments = ap (λ l. Name (item_referent items procedure) ∷ l) (argument_each line_kind.Call (suc (length arguments) - 1) arguments (omega arith))

  callto_spoken : (target : Operand Text) (procedure : Text) (arguments : List (Operand Text)) →
      spoken line_kind.CallTo (target ∷ Name procedure ∷ arguments) ≡ meant line_kind.CallTo operand_place.Receiver target ∷ Name (item_referent items procedure) ∷ passed line_kind.CallTo arguments
  callto_spoken target procedure arguments =
      ap (λ l. meant line_kind.CallTo operand_place.Receiver target ∷ Name (item_referent items procedure) ∷ l) (argument_each line_kind.CallTo (suc (suc (length arguments)) - 2) arguments (omega arith))

  pub arguments_wrong : (k : LineKind) (operands : List (Operand Text)) → is_typed (Line k operands) ≡ true → arguments_agree items k (spoken k operands) ≡ false → CallsWrongly forms before (Line k operands)
  arguments_wrong line_kind.Call [] fit is = absurd (false≢true (sym is))
  arguments_wrong line_kind.Call (Name procedure ∷ arguments) fit is =
      let (head, named, never) = call_wrong line_kind.Call procedure arguments (ap (call_agrees items) (sym (call_spoken procedure arguments)) ∙ is) in
      (line_kind.Call, Name procedure ∷ arguments, arguments, procedure, head, refl, refl, named, never)
  arguments_wrong line_kind.Call (_ ∷ arguments) fit is = absurd (false≢true fit)
  arguments_wrong line_kind.CallTo [] fit is = absurd (false≢true (sym is))
  arguments_wrong line_kind.CallTo (target ∷ []) fit is = absurd (false≢true (sym is))
  arguments_wrong line_kind.CallTo (target ∷ Name procedure ∷ arguments) fit is =
      let (head, named, never) = call_wrong line_kind.CallTo procedure arguments (ap (arguments_agree items line_kind.CallTo) (sym (callto_spoken target procedure arguments)) ∙ is) in
      (line_kind.CallTo, target ∷ Name procedure ∷ arguments, arguments, procedure, head, refl, refl, named, never)
  arguments_wrong line_kind.CallTo (target ∷ _ ∷ arguments) fit is = absurd (false≢true (both (is_operand operand_place.Receiver target) false fit).1)
  arguments_wrong k operands fit is = absurd (false≢true (sym is))

  abbrev ArgumentsAgreeNot : Form Text → Type 0
  ArgumentsAgreeNot (Line k operands) = arguments_agree items k (spoken k operands) ≡ false
  ArgumentsAgreeNot _ = Unit {0}

  pub wrong_arguments : (k : LineKind) (operands : List (Operand Text)) → CallsWrongly forms before (Line k operands) → arguments_agree items k (spoken k operands) ≡ false
  wrong_arguments k operands (j, own, arguments, procedure, head, form_is, called, named, never) = subst ArgumentsAgreeNot (sym form_is) (by j own called)
    where
      call : (os : List (Operand Text)) → os ≡ Name procedure ∷ arguments → arguments_agree items line_kind.Call (spoken line_kind.Call os) ≡ false
      call os is = subst (λ l. call_agrees items (spoken line_kind.Call l) ≡ false) (sym is) (ap (call_agrees items) (call_spoken procedure arguments) ∙ wrong_call line_kind.Call procedure arguments (head, named, never))

      callto : (target : Operand Text) (os : List (Operand Text)) → os ≡ Name procedure ∷ arguments → arguments_agree items line_kind.CallTo (spoken line_kind.CallTo (target ∷ os)) ≡ false
      callto target os is =
          subst (λ l. arguments_agree items line_kind.CallTo (spoken line_kind.CallTo (target ∷ l)) ≡ false) (sym is)
          (ap (arguments_agree items line_kind.CallTo) (callto_spoken target procedure arguments) ∙ wrong_call line_kind.CallTo procedure arguments (head, named, never))

      by : (j : LineKind) (own : List (Operand Text)) → called_by j own ≡ Name procedure ∷ arguments → arguments_agree items j (spoken j own) ≡ false
      by line_kind.Call own is = call own is
      by line_kind.CallTo [] is = let clash : ⊥ = cc in absurd clash
      by line_kind.CallTo (target ∷ os) is = callto target os is
      by j own is = let clash : ⊥ = cc in absurd clash
