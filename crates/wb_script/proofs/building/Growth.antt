-- One more line of the tree, inside a body and after one.
use Rattle.std.proofs.Common.{◌≡◌, refl, sym, ap, subst, ◌∙◌, ℕ, ◌+◌, ◌<◌, ◌≤◌, List, [], ◌∷◌, ◌++◌, length, Option, Some, None, Bool, true, false, ◌&&◌, nat_lt, IsTrue, append_assoc, append-nil, zero-add, length-append, arith}
use Rattle.std.specs.Prelude.{IfOk, Result, Ok, Err}
use Rattle.std.proofs.lemmas.List.{map-append}
use Rattle.std.proofs.lemmas.List.Folds.{list_all-append}
use Rattle.wb_tree.specs.declared.script.Body.{Body}
use Rattle.wb_tree.specs.declared.script.Class.{Class}
use Rattle.wb_tree.specs.declared.script.Parameter.{Parameter}
use Rattle.wb_tree.specs.declared.script.Procedure.{Procedure}
use Rattle.wb_tree.specs.declared.script.Operation.{Operation}
use Rattle.wb_tree.specs.declared.script_lines.LineKind.{LineKind}
use Rattle.wb_tree.specs.declared.script_lines.LineKind.TheVariants as line_kind
use Rattle.wb_tree.specs.declared.script_lines.Referent.{Referent}
use Rattle.wb_tree.specs.declared.script_lines.Operand.{Operand}
use Rattle.wb_tree.specs.declared.script_lines.Form.TheVariants.{Skip, Line}
use Rattle.wb_language.specs.LineKinds.{role_of}
use Rattle.wb_tree.specs.Sound.{Declared, is_body, is_own_body, is_procedure, is_operation, scope_of}
use Rattle.wb_tree.specs.Spellings.{its_parameters}
use Rattle.wb_language.specs.Trees.{Marked, Lines, mark, class_head, field_lines, own_body_lines, end_line, body_lines, each_from, lines_of_class, lines_of_procedure, lines_of_operation, in_order, all_lines}
use Rattle.wb_nesting.specs.declared.open.Open.TheVariants.{Made}
use Rattle.wb_script.specs.declared.tree.whole.WholeItems.{WholeItems}
use Rattle.wb_script.specs.declared.tree.whole.Owner.{Owner}
use Rattle.wb_script.specs.declared.tree.whole.Owner.TheVariants as of
use Rattle.wb_script.specs.declared.tree.whole.Stage.{Stage}
use Rattle.wb_script.specs.declared.tree.whole.Stage.TheVariants.{Outside, InClass, InBody}
use Rattle.wb_script.specs.declared.tree.whole.Building.{Building}
use Rattle.wb_script.specs.declared.tree.bodies.OpenBody.{OpenBody}
use Rattle.wb_script.specs.declared.tree.bodies.BodyProgress.TheVariants.{Inside, Done}
use Rattle.wb_script.specs.Building.{Counts, counts_after, fits, block_stack_places}
use Rattle.wb_script.specs.Growing.{Adds, AddsWhereFit, AreBelow, AreCounts, AreSound, Grows, GrowsWhereFit, IsBelow, IsBelowWhere, IsOwned, IsSound, IsSoundClass, IsSoundWhere, building_lines, building_places, class_place, counts_in, counts_owned, counts_whole, with_whole_body, has_room, if_added, in_body, in_class, inside_lines, items_in_order, progress_counts, line_of_owner, outside, owner_lines, owner_places, with_operation, with_procedure}
use Rattle.wb_nesting.specs.Machine.{step, after_line}
use Rattle.wb_script.proofs.building.Nests.{flat_map-last}
use Rattle.wb_script.proofs.building.OpenPlaces.{inner_step, inner_stuck}
use Rattle.wb_script.proofs.building.Orders.{are_before, first_last, second_last, in_order_below, each_from-last, each_below, all_below}
use Rattle.wb_script.proofs.lists.Tests.{parts, together, below_of, below_test}

pub same_step : (k : LineKind) (stack : List Rattle.wb_nesting.specs.declared.open.Open.Open) → after_line stack (role_of k) ≡ step stack (role_of k)
same_step line_kind.Proc stack = refl
same_step line_kind.Ptr stack = refl
same_step _ stack = refl

-- the counts in an open body don't look at the locals before it
same_owned : (b : WholeItems) (owner : Owner) (ps : List Parameter) (before after : Counts) (p : OpenBody) → counts_in (counts_owned b owner ps before) p ≡ counts_in (counts_owned b owner ps after) p
same_owned b (of.Procedure number) ps before after p = refl
same_owned b (of.Operation number) ps before after p = refl
same_owned b (of.Constructor c) ps before after p = refl
same_owned b (of.Destructor c) ps before after p = refl

module _ (declared : Declared) (number : ℕ) (k : LineKind) (operands : List (Operand Referent)) (b : WholeItems) (owner : Owner) (p : OpenBody) (sound : IsSoundWhere declared b (InBody owner p)) (below : IsBelowWhere number b (InBody owner p)) where
  abbrev line : Marked
  line = mark number (Line k operands)

  abbrev front : List Marked
  front = all_lines (items_in_order b)

  -- a line more in what is around and inside the body
  line_more : (inside : List Marked) → front ++ (owner_lines b owner p.parameters ++ (inside ++ line ∷ [])) ≡ (front ++ (owner_lines b owner p.parameters ++ inside)) ++ line ∷ []
  line_more inside =
      ap (λ l. front ++ l) (sym (append_assoc (owner_lines b owner p.parameters) inside (line ∷ [])))
      ∙ sym (append_assoc front (owner_lines b owner p.parameters ++ inside) (line ∷ []))

  pub inside_grows : (next : OpenBody) → Adds declared number (Line k operands) p (Inside next) → Grows declared number (Line k operands) (in_body b owner p) (in_body b owner next)
  inside_grows next adds = record {
    lines =
        ap (λ ps. front ++ (owner_lines b owner ps ++ inside_lines next)) adds.same.0
        ∙ ap (λ l. front ++ (owner_lines b owner p.parameters ++ l)) adds.lines
        ∙ line_more (inside_lines p);
    sound = record {
      stands = (sound.0, subst (λ t. IsOwned declared b owner t next.parameters) (sym adds.same.1) (subst (λ ps. IsOwned declared b owner p.this ps) (sym adds.same.0) sound.1), adds.sound);
    };
    below = record { stands = (below.0, omega (arith, below.1)) };
    counts = λ counts are.
        let after = counts_after counts (Line k operands) in
        ap (λ c. counts_after c (Line k operands)) are
        ∙ sym (adds.counts (counts_owned b owner p.parameters counts))
        ∙ ap (λ ps. counts_in (counts_owned b owner ps counts) next) (sym adds.same.0)
        ∙ same_owned b owner next.parameters counts after next;
    places = same_step k (block_stack_places p.block_stack ++ owner_places owner) ∙ inner_step p.block_stack (owner_places owner) (role_of k) (block_stack_places next.block_stack) adds.places;
  }

  -- the same, where a line that fits has no place
  pub added_grows : (added : Bool) (next : OpenBody) → AddsWhereFit declared number (Line k operands) p (if_added added (Inside next)) → GrowsWhereFit declared number (Line k operands) (in_body b owner p) (if_added added (in_body b owner next))
  added_grows true next adds = inside_grows next adds
  added_grows false next none = λ counts are fit.
      same_step k (block_stack_places p.block_stack ++ owner_places owner)
      ∙ inner_stuck p.block_stack (owner_places owner) (role_of k) (none (counts_owned b owner p.parameters counts) (subst (λ n. IsTrue (fits declared n (Line k operands))) are fit))

  pub result_grows : {E : Type 0} (result : Result Bool E) (next : OpenBody) → IfOk result (λ added. AddsWhereFit declared number (Line k operands) p (if_added added (Inside next))) →
      IfOk result (λ added. GrowsWhereFit declared number (Line k operands) (in_body b owner p) (if_added added (in_body b owner next)))
  result_grows (Ok added) next adds = added_grows added next adds
  result_grows (Err error) next adds = tt

-- the lines of a whole body after those of what it is of
abbrev closed_lines : List Parameter → Body → List Marked
closed_lines ps body = body_lines (length ps) body ++ end_line ∷ []

-- A class with one more body.
constructor_lines : (head : Marked) (fields : List Marked) (begins : Marked) (inner : List Marked) (construct destroy : Option Body) → construct ≡ None → destroy ≡ None →
    head ∷ (fields ++ ((begins ∷ inner) ++ own_body_lines line_kind.Destructor destroy)) ≡ ((head ∷ (fields ++ (own_body_lines line_kind.Constructor construct ++ own_body_lines line_kind.Destructor destroy))) ++ begins ∷ []) ++ inner
constructor_lines head fields begins inner None None first second =
    ap (λ l. head ∷ (fields ++ l)) (append-nil (begins ∷ inner))
    ∙ sym (append_assoc (head ∷ fields) (begins ∷ []) inner)
    ∙ ap (λ l. ((head ∷ l) ++ begins ∷ []) ++ inner) (sym (append-nil fields))
constructor_lines head fields begins inner (Some body) destroy first second = let clash : ⊥ = cc in absurd clash
constructor_lines head fields begins inner None (Some body) first second = let clash : ⊥ = cc in absurd clash

destructor_lines : (head : Marked) (fields made : List Marked) (begins : Marked) (inner : List Marked) (destroy : Option Body) → destroy ≡ None →
    head ∷ (fields ++ (made ++ (begins ∷ inner))) ≡ ((head ∷ (fields ++ (made ++ own_body_lines line_kind.Destructor destroy))) ++ begins ∷ []) ++ inner
destructor_lines head fields made begins inner None is =
    ap (λ l. head ∷ l) (sym (append_assoc fields made (begins ∷ inner)))
    ∙ sym (append_assoc (head ∷ (fields ++ made)) (begins ∷ []) inner)
    ∙ ap (λ l. ((head ∷ (fields ++ l)) ++ begins ∷ []) ++ inner) (sym (append-nil made))
destructor_lines head fields made begins inner (Some body) is = let clash : ⊥ = cc in absurd clash

-- one more whole body, by the number of its first line
module _ (b : WholeItems) (number : ℕ) where
  abbrev classes : List Lines
  classes = each_from lines_of_class 0 b.classes

  abbrev procedures : List Lines
  procedures = each_from lines_of_procedure 0 b.procedures

  abbrev operations : List Lines
  operations = each_from lines_of_operation 0 b.operations

  pub classes_before : AreBelow number b → are_before number classes ≡ true
  classes_before below = each_below lines_of_class (λ c. c.line) (λ i c. refl) number 0 b.classes below.classes

  procedures_before : AreBelow number b → are_before number procedures ≡ true
  procedures_before below = each_below lines_of_procedure (λ q. q.line) (λ i q. refl) number 0 b.procedures below.procedures

  operations_before : AreBelow number b → are_before number operations ≡ true
  operations_before below = each_below lines_of_operation (λ q. q.line) (λ i q. refl) number 0 b.operations below.operations

  pub bodies_before : AreBelow number b → are_before number (in_order procedures operations) ≡ true
  bodies_before below = in_order_below number procedures operations (procedures_before below) (operations_before below)

  procedure_order : (ps : List Parameter) (body : Body) → AreBelow number b →
      all_lines (items_in_order (with_procedure b number ps body)) ≡ all_lines (items_in_order b) ++ (owner_lines b (of.Procedure number) ps ++ closed_lines ps body)
  procedure_order ps body below =
      let p : Procedure = record { line = number; parameters = ps; body = body } in
      let last : Lines = lines_of_procedure (length b.procedures) p in
      ap (λ l. all_lines (in_order classes (in_order l operations))) (each_from-last lines_of_procedure 0 b.procedures p ∙ ap (λ i. procedures ++ lines_of_procedure i p ∷ []) (zero-add (length b.procedures)))
      ∙ ap (λ l. all_lines (in_order classes l)) (first_last procedures operations last (procedures_before below) (operations_before below))
      ∙ ap all_lines (second_last classes (in_order procedures operations) last (classes_before below))
      ∙ flat_map-last (λ (i : Lines). i.lines) (items_in_order b) last

  operation_order : (ps : List Parameter) (body : Body) → AreBelow number b → ps ≡ its_parameters →
      all_lines (items_in_order (with_operation b number body)) ≡ all_lines (items_in_order b) ++ (owner_lines b (of.Operation number) ps ++ closed_lines ps body)
  operation_order ps body below own =
      let o : Operation = record { line = number; body = body } in
      let last : Lines = lines_of_operation (length b.operations) o in
      ap (λ l. all_lines (in_order classes (in_order procedures l))) (each_from-last lines_of_operation 0 b.operations o ∙ ap (λ i. operations ++ lines_of_operation i o ∷ []) (zero-add (length b.operations)))
      ∙ ap (λ l. all_lines (in_order classes l)) (second_last procedures operations last (procedures_before below))
      ∙ ap all_lines (second_last classes (in_order procedures operations) last (classes_before below))
      ∙ flat_map-last (λ (i : Lines). i.lines) (items_in_order b) last
      ∙ ap (λ l. all_lines (items_in_order b) ++ (owner_lines b (of.Operation number) ps ++ closed_lines l body)) (sym own)

-- What a whole body leaves.
module _ (declared : Declared) (b : WholeItems) (body : Body) (ps : List Parameter) where
  done_lines : (owner : Owner) (this : Option ℕ) → IsOwned declared b owner this ps → AreBelow (line_of_owner owner) b →
      building_lines (with_whole_body b owner ps body) ≡ all_lines (items_in_order b) ++ (owner_lines b owner ps ++ closed_lines ps body)
  done_lines (of.Procedure number) this owned below = append-nil (all_lines (items_in_order (with_procedure b number ps body))) ∙ procedure_order b number ps body below
  done_lines (of.Operation number) this owned below = append-nil (all_lines (items_in_order (with_operation b number body))) ∙ operation_order b number ps body below owned.2
  done_lines (of.Constructor c) this owned below =
      let head = class_head (length b.classes) c in
      let fields = field_lines 0 c.fields in
      let begins : Marked = (None, Line line_kind.Constructor []) in
      ap (λ l. all_lines (items_in_order b) ++ l) (constructor_lines head fields begins (body_lines 0 body ++ end_line ∷ []) c.construct c.destroy owned.3 owned.4)
      ∙ ap (λ l. all_lines (items_in_order b) ++ (owner_lines b (of.Constructor c) ps ++ closed_lines l body)) (sym owned.2)
  done_lines (of.Destructor c) this owned below =
      let head = class_head (length b.classes) c in
      let fields = field_lines 0 c.fields in
      let begins : Marked = (None, Line line_kind.Destructor []) in
      ap (λ l. all_lines (items_in_order b) ++ l) (destructor_lines head fields (own_body_lines line_kind.Constructor c.construct) begins (body_lines 0 body ++ end_line ∷ []) c.destroy owned.3)
      ∙ ap (λ l. all_lines (items_in_order b) ++ (owner_lines b (of.Destructor c) ps ++ closed_lines l body)) (sym owned.2)

  own_sound : (index : ℕ) (this : Option ℕ) → this ≡ Some index → ps ≡ [] → IsTrue (is_body declared (scope_of declared this ps body) body.statements) → IsTrue (is_own_body declared index (Some body))
  own_sound index this same own inside = subst (λ l. IsTrue (is_body declared (scope_of declared (Some index) l body) body.statements)) own (subst (λ t. IsTrue (is_body declared (scope_of declared t ps body) body.statements)) same inside)

  done_sound : (owner : Owner) (this : Option ℕ) → AreSound declared b → IsOwned declared b owner this ps → IsTrue (is_body declared (scope_of declared this ps body) body.statements) →
      IsSoundWhere declared (with_whole_body b owner ps body).whole (with_whole_body b owner ps body).stage
  done_sound (of.Procedure number) this sound owned inside =
      let p : Procedure = record { line = number; parameters = ps; body = body } in
      let here = subst (λ t. IsTrue (is_body declared (scope_of declared t ps body) body.statements)) owned.1 inside in
      let fine : IsTrue (is_procedure declared p) = together _ _ owned.2 here in
      record {
        classes = sound.classes;
        procedures = list_all-append (is_procedure declared) b.procedures (p ∷ []) ∙ together _ _ sound.procedures (together _ true fine refl);
        operations = sound.operations;
        few_classes = sound.few_classes;
        few = omega (arith, length-append b.procedures (p ∷ []), below_of (length b.procedures + length b.operations) 256 owned.0);
      }
  done_sound (of.Operation number) this sound owned inside =
      let o : Operation = record { line = number; body = body } in
      let here = subst (λ t. IsTrue (is_body declared (scope_of declared t ps body) body.statements)) owned.1 inside in
      let fine : IsTrue (is_operation declared o) = subst (λ l. IsTrue (is_body declared (scope_of declared None l body) body.statements)) owned.2 here in
      record {
        classes = sound.classes;
        procedures = sound.procedures;
        operations = list_all-append (is_operation declared) b.operations (o ∷ []) ∙ together _ _ sound.operations (together _ true fine refl);
        few_classes = sound.few_classes;
        few = omega (arith, length-append b.operations (o ∷ []), below_of (length b.procedures + length b.operations) 256 owned.0);
      }
  done_sound (of.Constructor c) this sound owned inside =
      let index = length b.classes in
      let (front, bodies) = parts _ (is_own_body declared index c.construct && is_own_body declared index c.destroy) owned.0.sound in
      let (construct, destroy) = parts (is_own_body declared index c.construct) (is_own_body declared index c.destroy) bodies in
      (sound, record { room = owned.0.room; sound = together _ _ front (together _ _ (own_sound index this owned.1 owned.2 inside) destroy) })
  done_sound (of.Destructor c) this sound owned inside =
      let index = length b.classes in
      let (front, bodies) = parts _ (is_own_body declared index c.construct && is_own_body declared index c.destroy) owned.0.sound in
      let (construct, destroy) = parts (is_own_body declared index c.construct) (is_own_body declared index c.destroy) bodies in
      (sound, record { room = owned.0.room; sound = together _ _ front (together _ _ construct (own_sound index this owned.1 owned.2 inside)) })

-- what is before a line is before a later one
pub still_below : (b : WholeItems) (number later : ℕ) → number ≤ later → AreBelow number b → AreBelow later b
still_below b number later le below = record {
  classes = all_below (λ (c : Class). c.line) number later le b.classes below.classes;
  procedures = all_below (λ (p : Procedure). p.line) number later le b.procedures below.procedures;
  operations = all_below (λ (o : Operation). o.line) number later le b.operations below.operations;
}

done_below : (b : WholeItems) (body : Body) (ps : List Parameter) (owner : Owner) (later : ℕ) → line_of_owner owner < later → AreBelow (line_of_owner owner) b → IsBelowWhere later (with_whole_body b owner ps body).whole (with_whole_body b owner ps body).stage
done_below b body ps (of.Procedure number) later lt below =
    let still = still_below b number later (omega (arith, lt)) below in
    let p : Procedure = record { line = number; parameters = ps; body = body } in
    record {
      classes = still.classes;
      procedures = list_all-append (λ (q : Procedure). nat_lt q.line later) b.procedures (p ∷ []) ∙ together _ _ still.procedures (together _ true (below_test number later lt) refl);
      operations = still.operations;
    }
done_below b body ps (of.Operation number) later lt below =
    let still = still_below b number later (omega (arith, lt)) below in
    let o : Operation = record { line = number; body = body } in
    record {
      classes = still.classes;
      procedures = still.procedures;
      operations = list_all-append (λ (q : Operation). nat_lt q.line later) b.operations (o ∷ []) ∙ together _ _ still.operations (together _ true (below_test number later lt) refl);
    }
done_below b body ps (of.Constructor c) later lt below = (below, lt)
done_below b body ps (of.Destructor c) later lt below = (below, lt)

-- the counts after a whole body
done_counts : (b : WholeItems) (body : Body) (p : OpenBody) (owner : Owner) (before : Counts) → AreCounts (with_whole_body b owner p.parameters body) (progress_counts (counts_owned b owner p.parameters before) p (Done p.parameters body))
done_counts b body p (of.Procedure number) before =
    let q : Procedure = record { line = number; parameters = p.parameters; body = body } in
    let left = progress_counts (counts_owned b (of.Procedure number) p.parameters before) p (Done p.parameters body) in
    ap (λ l. record left { procedures = l }) (sym (map-append (λ (q : Procedure). q.parameters) b.procedures (q ∷ [])))
done_counts b body p (of.Operation number) before =
    let o : Operation = record { line = number; body = body } in
    let left = progress_counts (counts_owned b (of.Operation number) p.parameters before) p (Done p.parameters body) in
    ap (λ n. record left { operations = n }) (sym (length-append b.operations (o ∷ [])))
done_counts b body p (of.Constructor c) before = refl
done_counts b body p (of.Destructor c) before = refl

after_destroy : (construct : Option Body) (body : Body) → Rattle.wb_script.specs.Growing.place_after construct (Some body) ≡ Rattle.wb_nesting.specs.declared.open.Open.TheVariants.Destroyed
after_destroy None body = refl
after_destroy (Some construct) body = refl

done_places : (declared : Declared) (b : WholeItems) (body : Body) (ps : List Parameter) (owner : Owner) (this : Option ℕ) → IsOwned declared b owner this ps → owner_places owner ≡ building_places (with_whole_body b owner ps body)
done_places declared b body ps (of.Procedure number) this owned = refl
done_places declared b body ps (of.Operation number) this owned = refl
done_places declared b body ps (of.Constructor c) this owned = ap (λ d. Rattle.wb_script.specs.Growing.place_after (Some body) d ∷ []) (sym owned.4)
done_places declared b body ps (of.Destructor c) this owned = ap (λ place. place ∷ []) (sym (after_destroy c.construct body))

module _ (declared : Declared) (number : ℕ) (k : LineKind) (operands : List (Operand Referent)) (b : WholeItems) (owner : Owner) (p : OpenBody) (sound : IsSoundWhere declared b (InBody owner p)) (below : IsBelowWhere number b (InBody owner p)) where
  pub done_grows : (ps : List Parameter) (body : Body) → Adds declared number (Line k operands) p (Done ps body) → Grows declared number (Line k operands) (in_body b owner p) (with_whole_body b owner ps body)
  done_grows ps body adds =
      let line : Marked = mark number (Line k operands) in
      let front : List Marked = all_lines (items_in_order b) in
      let owned = subst (IsOwned declared b owner p.this) (sym adds.same) sound.1 in
      record {
        lines =
            done_lines declared b body ps owner p.this owned below.0
            ∙ ap (λ l. front ++ (owner_lines b owner l ++ closed_lines ps body)) adds.same
            ∙ ap (λ l. front ++ (owner_lines b owner p.parameters ++ l)) adds.lines
            ∙ line_more declared number k operands b owner p sound below (inside_lines p);
        sound = record { stands = done_sound declared b body ps owner p.this sound.0 owned adds.sound };
        below = record { stands = done_below b body ps owner (number + 1) (omega (arith, below.1)) below.0 };
        counts = λ counts are.
            let after : counts_after counts (Line k operands) ≡ progress_counts (counts_owned b owner p.parameters counts) p (Done ps body) =
            ap (λ c. counts_after c (Line k operands)) are ∙ sym (adds.counts (counts_owned b owner p.parameters counts)) in
            let same : progress_counts (counts_owned b owner p.parameters counts) p (Done ps body) ≡ progress_counts (counts_owned b owner p.parameters counts) p (Done p.parameters body) =
            ap (λ l. progress_counts (counts_owned b owner p.parameters counts) p (Done l body)) adds.same in
            subst (λ l. AreCounts (with_whole_body b owner l body) (counts_after counts (Line k operands))) (sym adds.same)
            (subst (AreCounts (with_whole_body b owner p.parameters body)) (sym (after ∙ same)) (done_counts b body p owner counts));
        places =
            same_step k (block_stack_places p.block_stack ++ owner_places owner)
            ∙ inner_step p.block_stack (owner_places owner) (role_of k) [] adds.places
            ∙ ap Some (done_places declared b body ps owner p.this owned);
      }

-- a line that counts nothing leaves the tree as it is
later_below : (number : ℕ) (b : WholeItems) (s : Stage) → IsBelowWhere number b s → IsBelowWhere (number + 1) b s
later_below number b Outside below = still_below b number (number + 1) (omega arith) below
later_below number b (InClass c) below = (below.0, omega (arith, below.1))
later_below number b (InBody owner p) below = (below.0, omega (arith, below.1))

pub skip_grows : (declared : Declared) (number : ℕ) (b : Building) → IsSound declared b → IsBelow number b → Grows declared number Skip b b
skip_grows declared number b sound below = record {
  lines = sym (append-nil (building_lines b));
  sound = sound;
  below = record { stands = later_below number b.whole b.stage below.stands };
  counts = λ counts are. are;
  places = refl;
}
