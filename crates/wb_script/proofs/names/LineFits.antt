-- The operands of a line fit where no check refuses them.
use Rattle.std.proofs.Common.{◌≡◌, refl, sym, ap, ◌∙◌, ℕ, ◌-◌, ◌+◌, ◌≤◌, List, [], ◌∷◌, true, false, not, ◌&&◌, length, map, replicate, length-append, arith}
use Rattle.std.specs.List.{list_all, flat_map}
use Rattle.wb_tree.specs.declared.script_lines.LineKind.{LineKind}
use Rattle.wb_tree.specs.declared.script_lines.LineKind.TheVariants as line_kind
use Rattle.wb_tree.specs.declared.script_lines.OperandPlace.{OperandPlace}
use Rattle.wb_tree.specs.declared.script_lines.OperandPlace.TheVariants as operand_place
use Rattle.wb_tree.specs.declared.script_lines.Referent.{Referent}
use Rattle.wb_tree.specs.declared.script_lines.Referent.TheVariants as referent
use Rattle.wb_tree.specs.declared.script_lines.Operand.{Operand}
use Rattle.wb_tree.specs.declared.script_lines.Operand.TheVariants.{Name}
use Rattle.wb_tree.specs.declared.script_lines.OperandKind.{OperandKind}
use Rattle.wb_tree.specs.declared.script_lines.OperandKind.TheVariants as operand_kind
use Rattle.wb_tree.specs.declared.script_lines.Form.TheVariants.{Line}
use Rattle.wb_language.specs.LineKinds.{operand_places_for, takes, is_pointer_kind}
use Rattle.wb_language.specs.Kinds.{operand_kind_of_name, operand_kind_of, is_right, are_right, same, sides_agree, arguments_agree, call_agrees, is_right_line}
use Rattle.wb_language.specs.Names.{Text, NamesSoFar, Declaration, literal_text, literals_in}
use Rattle.wb_language.specs.Resolved.{own_referent, item_referent, class_of_this, resolved_operand, resolved_operands, resolved_line}
use Rattle.wb_tree.specs.Sound.{Scope, Declared}
use Rattle.wb_script.specs.Fitting.{is_name_there, is_there, operand_places_fit, sides_fit, call_fits, operands_fit}
use Rattle.wb_script.specs.BytesOf.{fields_among}
use Rattle.wb_lines.specs.Typed.{is_operand, are_operands}
use Rattle.wb_script.proofs.names.FitLemmas.{kind_held, kind_known, both_hold, never, declared_among, operation_there, signature_fits, resolved_many, stands_apart, operand_places_inside, operand_places_apart, own_there, resolved_there, all_there, operand_places_fit_resolved}
use Rattle.wb_lines.proofs.TypedLemmas.{both}

-- a number that a `set` may read is a value
source_value : (s : OperandKind) → takes operand_place.Source s ≡ true → not (is_pointer_kind s) ≡ true → takes operand_place.Value s ≡ true
source_value operand_kind.Number takes other = refl
source_value operand_kind.Variable takes other = refl
source_value operand_kind.Pointer takes other = let clash : ⊥ = cc in absurd clash
source_value operand_kind.This takes other = let clash : ⊥ = cc in absurd clash
source_value operand_kind.Field takes other = let clash : ⊥ = cc in absurd clash
source_value _ takes other = let clash : ⊥ = cc in absurd clash

-- the sides of a `set`: two pointers, or a number's name and a number
sides_fit_right : (literals : ℕ) (scope : Scope) (m : Referent) (source : Operand Referent) → is_name_there scope m ≡ true → is_there literals scope source ≡ true → takes operand_place.Target (operand_kind_of_name m) ≡ true → takes operand_place.Source (operand_kind_of source) ≡ true →
    same (is_pointer_kind (operand_kind_of_name m)) (is_pointer_kind (operand_kind_of source)) ≡ true → sides_fit literals scope (Name m) source ≡ true
sides_fit_right literals scope (referent.Pointer i) source here there target right agree = rw here (both_hold _ _ agree there)
sides_fit_right literals scope (referent.Number i) source here there target right agree = both_hold _ _ here (both_hold _ _ (source_value (operand_kind_of source) right agree) there)
sides_fit_right literals scope _ source here there target right agree = let clash : ⊥ = cc in absurd clash

module _ (literals : ℕ) (items : List Declaration) (known : NamesSoFar) (scope : Scope) (kinds_are : map (kind_known items) known.kinds ≡ map kind_held scope.locals) (fields_are : scope.fields ≡ fields_among items) where
  abbrev declared : Declared
  declared = declared_among literals items

  abbrev line_resolved : LineKind → List (Operand Text) → List (Operand Referent)
  line_resolved k operands = resolved_operands items known k (operand_places_for k (length operands)) operands

  right_operand_kinds : (k : LineKind) (operands : List (Operand Text)) → are_operands (operand_places_for k (length operands)) operands ≡ true → is_right_line items (resolved_line items known (Line k operands)) ≡ true → are_right (operand_places_for k (length operands)) (line_resolved k operands) ≡ true
  right_operand_kinds k operands typed right =
      ap (λ n. are_right (operand_places_for k n) (line_resolved k operands)) (sym (resolved_many items known k (operand_places_for k (length operands)) operands typed))
      ∙ (both (are_right (operand_places_for k (length (line_resolved k operands))) (line_resolved k operands)) (sides_agree k (line_resolved k operands) && arguments_agree items k (line_resolved k operands)) right).0

  module _ (this_is : scope.this ≡ class_of_this known) where
    -- an operand of a line of a body
    there_inside : (own : LineKind) (at : OperandPlace) (operand : Operand Text) → is_operand at operand ≡ true → is_right at (resolved_operand items known own at operand) ≡ true → known.literals + length (literal_text operand) ≤ literals →
        is_there literals scope (resolved_operand items known own at operand) ≡ true
    there_inside own at operand typed right room = resolved_there literals items known scope kinds_are fields_are own false (λ e. this_is) at operand typed refl right room

    set_fits_line : (target source : Operand Text) → are_operands (operand_places_for line_kind.Set 2) (target ∷ source ∷ []) ≡ true → is_right_line items (resolved_line items known (Line line_kind.Set (target ∷ source ∷ []))) ≡ true →
        known.literals + length (literals_in (Line line_kind.Set (target ∷ source ∷ []))) ≤ literals → operands_fit declared scope line_kind.Set (line_resolved line_kind.Set (target ∷ source ∷ [])) ≡ true
    set_fits_line (Name n) source typed right room =
        let (typed_here, typed_rest) = both (is_operand operand_place.Target (Name n)) (is_operand operand_place.Source source && true) typed in
        let m = own_referent known n in
        let other = resolved_operand items known line_kind.Set operand_place.Source source in
        let (operand_kinds, sides) = both (is_right operand_place.Target (Name m) && (is_right operand_place.Source other && true)) (same (is_pointer_kind (operand_kind_of_name m)) (is_pointer_kind (operand_kind_of other)) && true) right in
        let (right_target, right_rest) = both (is_right operand_place.Target (Name m)) (is_right operand_place.Source other && true) operand_kinds in
        let right_source = (both (is_right operand_place.Source other) true right_rest).0 in
        let typed_source = (both (is_operand operand_place.Source source) true typed_rest).0 in
        let parts : length (flat_map literal_text (Name n ∷ source ∷ [])) ≡ length (literal_text source) + 0 = length-append (literal_text source) [] in
        sides_fit_right literals scope m other
        (own_there literals items known scope kinds_are fields_are line_kind.Set false (λ e. this_is) n refl)
        (there_inside line_kind.Set operand_place.Source source typed_source right_source (omega (arith, parts, room)))
        right_target right_source (both _ true sides).0
    set_fits_line _ source typed right room = let clash : ⊥ = cc in absurd clash

    -- a call of a procedure that is there, with arguments that its parameters take
    call_fits_resolved : (own : LineKind) (n : ℕ) (operands : List (Operand Text)) → are_operands (operand_place.Procedure ∷ replicate n operand_place.Argument) operands ≡ true →
        are_right (operand_place.Procedure ∷ replicate n operand_place.Argument) (resolved_operands items known own (operand_place.Procedure ∷ replicate n operand_place.Argument) operands) ≡ true →
        call_agrees items (resolved_operands items known own (operand_place.Procedure ∷ replicate n operand_place.Argument) operands) ≡ true → known.literals + length (flat_map literal_text operands) ≤ literals →
        call_fits declared scope (resolved_operands items known own (operand_place.Procedure ∷ replicate n operand_place.Argument) operands) ≡ true
    call_fits_resolved own n [] typed right call room = let clash : ⊥ = cc in absurd clash
    call_fits_resolved own n (Name name ∷ operands) typed right call room =
        let operand_places = replicate n operand_place.Argument in
        let typed_rest = (both (is_operand operand_place.Procedure (Name name)) (are_operands operand_places operands) typed).1 in
        let right_rest = (both (is_right operand_place.Procedure (Name (item_referent items name))) (are_right operand_places (resolved_operands items known own operand_places operands)) right).1 in
        let there = all_there literals items known scope kinds_are fields_are own false (λ e. this_is) operand_places operands typed_rest (operand_places_inside operand_places) right_rest room in
        by_referent (item_referent items name) (resolved_operands items known own operand_places operands) (both (is_right operand_place.Procedure (Name (item_referent items name))) _ right).0 call there
      where
        by_referent : (m : Referent) (rest : List (Operand Referent)) → is_right operand_place.Procedure (Name m) ≡ true → call_agrees items (Name m ∷ rest) ≡ true → list_all (is_there literals scope) rest ≡ true → call_fits declared scope (Name m ∷ rest) ≡ true
        by_referent (referent.Procedure index) rest right call there = signature_fits literals scope items index rest call there
        by_referent _ rest right call there = let clash : ⊥ = cc in absurd clash
    call_fits_resolved own n (_ ∷ operands) typed right call room = let clash : ⊥ = cc in absurd clash

    call_fits_line : (operands : List (Operand Text)) → are_operands (operand_places_for line_kind.Call (length operands)) operands ≡ true → is_right_line items (resolved_line items known (Line line_kind.Call operands)) ≡ true →
        known.literals + length (literals_in (Line line_kind.Call operands)) ≤ literals → operands_fit declared scope line_kind.Call (line_resolved line_kind.Call operands) ≡ true
    call_fits_line [] typed right room = let clash : ⊥ = cc in absurd clash
    call_fits_line (o ∷ os) typed right room =
        let line = line_resolved line_kind.Call (o ∷ os) in
        let call = (both (are_right (operand_places_for line_kind.Call (length line)) line) (call_agrees items line) right).1 in
        call_fits_resolved line_kind.Call (length (o ∷ os) - 1) (o ∷ os) typed (right_operand_kinds line_kind.Call (o ∷ os) typed right) call room

    callto_fits_line : (operands : List (Operand Text)) → are_operands (operand_places_for line_kind.CallTo (length operands)) operands ≡ true → is_right_line items (resolved_line items known (Line line_kind.CallTo operands)) ≡ true →
        known.literals + length (literals_in (Line line_kind.CallTo operands)) ≤ literals → operands_fit declared scope line_kind.CallTo (line_resolved line_kind.CallTo operands) ≡ true
    callto_fits_line [] typed right room = let clash : ⊥ = cc in absurd clash
    callto_fits_line (t ∷ []) typed right room = absurd (never (is_operand operand_place.Receiver t) typed)
    callto_fits_line (t ∷ o ∷ os) typed right room =
        let more = replicate (length (t ∷ o ∷ os) - 2) operand_place.Argument in
        let line = line_resolved line_kind.CallTo (t ∷ o ∷ os) in
        let rest = resolved_operands items known line_kind.CallTo (operand_place.Procedure ∷ more) (o ∷ os) in
        let call = (both (are_right (operand_places_for line_kind.CallTo (length line)) line) (call_agrees items rest) right).1 in
        let (typed_here, typed_rest) = both (is_operand operand_place.Receiver t) (are_operands (operand_place.Procedure ∷ more) (o ∷ os)) typed in
        let (right_here, right_rest) = both (is_right operand_place.Receiver (resolved_operand items known line_kind.CallTo operand_place.Receiver t)) (are_right (operand_place.Procedure ∷ more) rest) (right_operand_kinds line_kind.CallTo (t ∷ o ∷ os) typed right) in
        let parts : length (flat_map literal_text (t ∷ o ∷ os)) ≡ length (literal_text t) + length (flat_map literal_text (o ∷ os)) = simp length-append in
        both_hold _ _
        (both_hold _ _ right_here (there_inside line_kind.CallTo operand_place.Receiver t typed_here right_here (omega (arith, parts, room))))
        (call_fits_resolved line_kind.CallTo (length (t ∷ o ∷ os) - 2) (o ∷ os) typed_rest right_rest call (omega (arith, parts, room)))

    -- a pointer, and an operation that is there
    item_fits_line : (pointer operation : Operand Text) → are_operands (operand_places_for line_kind.PushOp 2) (pointer ∷ operation ∷ []) ≡ true → is_right_line items (resolved_line items known (Line line_kind.PushOp (pointer ∷ operation ∷ []))) ≡ true →
        known.literals + length (literals_in (Line line_kind.PushOp (pointer ∷ operation ∷ []))) ≤ literals → operands_fit declared scope line_kind.PushOp (line_resolved line_kind.PushOp (pointer ∷ operation ∷ [])) ≡ true
    item_fits_line pointer (Name name) typed right room =
        let (typed_here, typed_rest) = both (is_operand operand_place.Pointer pointer) true typed in
        let (right_here, right_rest) = both (is_right operand_place.Pointer (resolved_operand items known line_kind.PushOp operand_place.Pointer pointer)) (are_right (operand_place.Operation ∷ []) (Name (item_referent items name) ∷ [])) (right_operand_kinds line_kind.PushOp (pointer ∷ Name name ∷ []) typed right) in
        let parts : length (flat_map literal_text (pointer ∷ Name name ∷ [])) ≡ length (literal_text pointer) + 0 = simp length-append in
        both_hold _ _
        (both_hold _ _ right_here (there_inside line_kind.PushOp operand_place.Pointer pointer typed_here right_here (omega (arith, parts, room))))
        (operation_there literals items name (both (is_right operand_place.Operation (Name (item_referent items name))) true right_rest).0)
    item_fits_line pointer _ typed right room = absurd (never (is_operand operand_place.Pointer pointer) typed)

  -- In a body, what `self` is of is known.
  pub operands_fit_resolved : (k : LineKind) → (stands_apart k ≡ false → scope.this ≡ class_of_this known) → (operands : List (Operand Text)) → are_operands (operand_places_for k (length operands)) operands ≡ true →
      is_right_line items (resolved_line items known (Line k operands)) ≡ true → known.literals + length (literals_in (Line k operands)) ≤ literals → operands_fit declared scope k (line_resolved k operands) ≡ true
  operands_fit_resolved line_kind.Set this_is [] typed right room = let clash : ⊥ = cc in absurd clash
  operands_fit_resolved line_kind.Set this_is (target ∷ []) typed right room = absurd (never (is_operand operand_place.Target target) typed)
  operands_fit_resolved line_kind.Set this_is (target ∷ source ∷ []) typed right room = set_fits_line (this_is refl) target source typed right room
  operands_fit_resolved line_kind.Set this_is (target ∷ source ∷ o ∷ os) typed right room = absurd (never (is_operand operand_place.Source source) (both (is_operand operand_place.Target target) _ typed).1)
  operands_fit_resolved line_kind.PushOp this_is [] typed right room = let clash : ⊥ = cc in absurd clash
  operands_fit_resolved line_kind.PushOp this_is (pointer ∷ []) typed right room = absurd (never (is_operand operand_place.Pointer pointer) typed)
  operands_fit_resolved line_kind.PushOp this_is (pointer ∷ operation ∷ []) typed right room = item_fits_line (this_is refl) pointer operation typed right room
  operands_fit_resolved line_kind.PushOp this_is (pointer ∷ operation ∷ o ∷ os) typed right room = absurd (never (is_operand operand_place.Operation operation) (both (is_operand operand_place.Pointer pointer) _ typed).1)
  operands_fit_resolved line_kind.Call this_is operands typed right room = call_fits_line (this_is refl) operands typed right room
  operands_fit_resolved line_kind.CallTo this_is operands typed right room = callto_fits_line (this_is refl) operands typed right room
  operands_fit_resolved k this_is operands typed right room =
      ap (λ n. operand_places_fit literals scope (operand_places_for k n) (line_resolved k operands)) (resolved_many items known k (operand_places_for k (length operands)) operands typed)
      ∙ operand_places_fit_resolved literals items known scope kinds_are fields_are k (stands_apart k) this_is (operand_places_for k (length operands)) operands typed (operand_places_apart k (length operands)) (right_operand_kinds k operands typed right) room
