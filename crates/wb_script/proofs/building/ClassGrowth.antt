-- One more line of the tree, in a class: a field, the first line of a body, or the end.
use Rattle.std.proofs.Common.{◌≡◌, refl, sym, ap, ◌∙◌, ℕ, suc, ◌+◌, ◌-◌, ◌<◌, ◌≤◌, List, [], ◌∷◌, ◌++◌, length, Option, Some, None, true, ◌&&◌, nat_le, nat_lt, IsTrue, append_assoc, append-nil, zero-add, add-zero, length-append, arith}
use Rattle.std.specs.List.{list_all}
use Rattle.std.proofs.lemmas.List.{map-append, length-map}
use Rattle.std.proofs.lemmas.List.Folds.{list_all-append}
use Rattle.wb_basics.specs.declared.limits.TheConstants.{MOST_FIELDS}
use Rattle.wb_tree.specs.declared.script.Body.{Body}
use Rattle.wb_tree.specs.declared.script.Class.{Class}
use Rattle.wb_tree.specs.declared.script_lines.LineKind.{LineKind}
use Rattle.wb_tree.specs.declared.script_lines.LineKind.TheVariants as line_kind
use Rattle.wb_tree.specs.declared.script_lines.Referent.{Referent}
use Rattle.wb_tree.specs.declared.script_lines.Operand.{Operand}
use Rattle.wb_tree.specs.declared.script_lines.Form.TheVariants.{Line}
use Rattle.wb_tree.specs.declared.script_lines.Role.TheVariants as role
use Rattle.wb_language.specs.LineKinds.{role_of}
use Rattle.wb_language.specs.Names.{item_kind_of}
use Rattle.wb_tree.specs.Sound.{Declared, are_classes, fields_declared, is_class_among, is_class_of, is_own_body}
use Rattle.wb_language.specs.Trees.{Indexed, Marked, Lines, class_head, field_line, field_lines, number_kept, own_body_lines, end_line, each_from, lines_of_class, in_order, all_lines}
use Rattle.wb_nesting.specs.declared.open.Open.TheVariants.{Declarations, Destroyed}
use Rattle.wb_script.specs.declared.tree.whole.WholeItems.{WholeItems}
use Rattle.wb_script.specs.declared.tree.whole.Owner.TheVariants as of
use Rattle.wb_script.specs.declared.tree.whole.Stage.TheVariants.{InClass}
use Rattle.wb_script.specs.Building.{Counts, counts_after, with_field}
use Rattle.wb_script.specs.Growing.{Grows, IsBelowWhere, IsSoundWhere, class_place, counts_of_class, in_body, in_class, items_in_order, new_body, open_class_lines, outside, place_after, with_class}
use Rattle.wb_nesting.specs.Machine.{after_line, step}
use Rattle.wb_script.proofs.building.Additions.{counts_as}
use Rattle.wb_script.proofs.building.HeadParameters.{new_sound}
use Rattle.wb_script.proofs.building.Growth.{bodies_before, classes_before, same_step, still_below}
use Rattle.wb_script.proofs.building.Nests.{flat_map-last}
use Rattle.wb_script.proofs.building.Orders.{first_last, each_from-last}
use Rattle.wb_script.proofs.lists.Tests.{parts, together, below_test, within_test}

field_lines-last : (index : ℕ) (fields : List (Option ℕ)) (f : Option ℕ) → field_lines index (fields ++ f ∷ []) ≡ field_lines index fields ++ (None, field_line (index + length fields) f) ∷ []
field_lines-last index [] f = ap (λ i. (None, field_line i f) ∷ []) (sym (add-zero index))
field_lines-last index (g ∷ gs) f =
    let same : suc index + length gs ≡ index + suc (length gs) = omega arith in
    ap (λ lines. (None, field_line index g) ∷ lines) (field_lines-last (suc index) gs f ∙ ap (λ i. field_lines (suc index) gs ++ (None, field_line i f) ∷ []) same)

with_field-last : (counts : List ℕ) (n : ℕ) → with_field (counts ++ n ∷ []) ≡ counts ++ suc n ∷ []
with_field-last [] n = refl
with_field-last (m ∷ []) n = refl
with_field-last (m ∷ o ∷ counts) n = ap (λ l. m ∷ l) (with_field-last (o ∷ counts) n)

no_item : (k : LineKind) → role_of k ≡ role.Field → item_kind_of k ≡ None
no_item line_kind.Class is = let clash : ⊥ = cc in absurd clash
no_item line_kind.Proc is = let clash : ⊥ = cc in absurd clash
no_item line_kind.Op is = let clash : ⊥ = cc in absurd clash
no_item _ is = refl

-- a class with one more field, before its bodies
field_order : (head : Marked) (fields : List Marked) (field : Marked) (construct destroy : Option Body) → construct ≡ None → destroy ≡ None →
    head ∷ ((fields ++ field ∷ []) ++ (own_body_lines line_kind.Constructor construct ++ own_body_lines line_kind.Destructor destroy)) ≡ (head ∷ (fields ++ (own_body_lines line_kind.Constructor construct ++ own_body_lines line_kind.Destructor destroy))) ++ field ∷ []
field_order head fields field None None first second = ap (λ l. head ∷ l) (append-nil (fields ++ field ∷ [])) ∙ ap (λ l. head ∷ (l ++ field ∷ [])) (sym (append-nil fields))
field_order head fields field (Some body) destroy first second = let clash : ⊥ = cc in absurd clash
field_order head fields field None (Some body) first second = let clash : ⊥ = cc in absurd clash

module _ (declared : Declared) (number : ℕ) (b : WholeItems) (c : Class) (sound : IsSoundWhere declared b (InClass c)) (below : IsBelowWhere number b (InClass c)) where
  abbrev front : List Marked
  front = all_lines (items_in_order b)

  abbrev index : ℕ
  index = length b.classes

  field_counts : (k : LineKind) (operands : List (Operand Referent)) (f : Option ℕ) (counts : Counts) → role_of k ≡ role.Field → counts ≡ counts_of_class b c counts →
      counts_after counts (Line k operands) ≡ counts_of_class b (record c { fields = c.fields ++ f ∷ [] }) (counts_after counts (Line k operands))
  field_counts k operands f counts is are =
      let after = counts_after counts (Line k operands) in
      let more : length (c.fields ++ f ∷ []) ≡ suc (length c.fields) = omega (arith, length-append c.fields (f ∷ [])) in
      let made : after ≡ record (counts_of_class b c counts) { classes = fields_declared b.classes ++ length (c.fields ++ f ∷ []) ∷ [] } =
      ap (λ q. counts_after q (Line k operands)) are
      ∙ sym (counts_as k operands role.Field (counts_of_class b c counts) is (no_item k is))
      ∙ ap (λ l. record (counts_of_class b c counts) { classes = l }) (with_field-last (fields_declared b.classes) (length c.fields) ∙ ap (λ n. fields_declared b.classes ++ n ∷ []) (sym more)) in
      made ∙ ap (λ (q : Counts). record { classes = fields_declared b.classes ++ length (c.fields ++ f ∷ []) ∷ []; procedures = (counts_of_class b c counts).procedures; operations = (counts_of_class b c counts).operations; this = q.this; locals = q.locals; blocks = [] }) (sym made)

  pub field_grows : (k : LineKind) (operands : List (Operand Referent)) (f : Option ℕ) → role_of k ≡ role.Field → c.construct ≡ None → c.destroy ≡ None → length c.fields < MOST_FIELDS →
      field_line (length c.fields) f ≡ Line k operands → IsTrue (is_class_among (length declared.fields) f) →
      Grows declared number (Line k operands) (in_class b c) (in_class b (record c { fields = c.fields ++ f ∷ [] }))
  field_grows k operands f is first second room line fine = record {
    lines =
        let line_is : field_lines 0 (c.fields ++ f ∷ []) ≡ field_lines 0 c.fields ++ (number_kept (role_of k) number, Line k operands) ∷ [] =
        field_lines-last 0 c.fields f
        ∙ ap (λ i. field_lines 0 c.fields ++ (None, field_line i f) ∷ []) (zero-add (length c.fields))
        ∙ ap (λ l. field_lines 0 c.fields ++ (None, l) ∷ []) line
        ∙ ap (λ r. field_lines 0 c.fields ++ (number_kept r number, Line k operands) ∷ []) (sym is) in
        ap (λ l. front ++ (class_head index c ∷ (l ++ (own_body_lines line_kind.Constructor c.construct ++ own_body_lines line_kind.Destructor c.destroy)))) line_is
        ∙ ap (λ l. front ++ l) (field_order (class_head index c) (field_lines 0 c.fields) (number_kept (role_of k) number, Line k operands) c.construct c.destroy first second)
        ∙ sym (append_assoc front (open_class_lines index c) ((number_kept (role_of k) number, Line k operands) ∷ []));
    sound = record {
      stands =
          let (head, bodies) = parts _ (is_own_body declared index c.construct && is_own_body declared index c.destroy) sound.1.sound in
          let (sizes, all) = parts _ (list_all (is_class_among (length declared.fields)) c.fields) head in
          let (few, extra) = parts (nat_le (length c.fields) MOST_FIELDS) _ sizes in
          let more : length (c.fields ++ f ∷ []) ≤ MOST_FIELDS = omega (arith, room, length-append c.fields (f ∷ [])) in (
            sound.0,
            record {
              room = sound.1.room;
              sound =
                  together _ _
                  (together _ _ (together _ _ (within_test (length (c.fields ++ f ∷ [])) MOST_FIELDS more) extra)
                  (list_all-append (is_class_among (length declared.fields)) c.fields (f ∷ []) ∙ together _ _ all (together _ true fine refl)))
                  bodies;
            },
          );
    };
    below = record { stands = (below.0, omega (arith, below.1)) };
    counts = λ counts are. field_counts k operands f counts is are;
    places =
        same_step k (class_place c ∷ []) ∙ ap (step (class_place c ∷ [])) is
        ∙ ap (λ d. step (place_after c.construct d ∷ []) role.Field) second
        ∙ ap (λ a. step (place_after a None ∷ []) role.Field) first
        ∙ ap (λ a. Some (place_after a None ∷ [])) (sym first)
        ∙ ap (λ d. Some (place_after c.construct d ∷ [])) (sym second);
  }

  -- the first line of a body
  head_order : (head : Indexed) → front ++ ((open_class_lines index c ++ (None, head) ∷ []) ++ []) ≡ (front ++ open_class_lines index c) ++ (None, head) ∷ []
  head_order head = ap (λ l. front ++ l) (append-nil (open_class_lines index c ++ (None, head) ∷ [])) ∙ sym (append_assoc front (open_class_lines index c) ((None, head) ∷ []))

  last_class : length (fields_declared b.classes ++ length c.fields ∷ []) - 1 ≡ index
  last_class = omega (arith, length-append (fields_declared b.classes) (length c.fields ∷ []), length-map b.classes (λ k. length k.fields))

  pub constructor_grows : c.construct ≡ None → c.destroy ≡ None → Grows declared number (Line line_kind.Constructor []) (in_class b c) (in_body b (of.Constructor c) (new_body (Some index) []))
  constructor_grows first second = record {
    lines = head_order (Line line_kind.Constructor []);
    sound = record { stands = (sound.0, (sound.1, refl, refl, first, second), new_sound declared (Some index) [] refl (omega arith)) };
    below = record { stands = (below.0, omega (arith, below.1)) };
    counts = λ counts are.
        ap (λ q. counts_after q (Line line_kind.Constructor [])) are
        ∙ ap (λ t. record (counts_of_class b c counts) { this = Some t; locals = []; blocks = [] }) last_class;
    places =
        ap (λ d. after_line (place_after c.construct d ∷ []) role.Construct) second
        ∙ ap (λ a. after_line (place_after a None ∷ []) role.Construct) first;
  }

  destructor_place : (construct : Option Body) → after_line (place_after construct None ∷ []) role.Destroy ≡ Some (Declarations ∷ (Destroyed ∷ []))
  destructor_place None = refl
  destructor_place (Some body) = refl

  pub destructor_grows : c.destroy ≡ None → Grows declared number (Line line_kind.Destructor []) (in_class b c) (in_body b (of.Destructor c) (new_body (Some index) []))
  destructor_grows second = record {
    lines = head_order (Line line_kind.Destructor []);
    sound = record { stands = (sound.0, (sound.1, refl, refl, second), new_sound declared (Some index) [] refl (omega arith)) };
    below = record { stands = (below.0, omega (arith, below.1)) };
    counts = λ counts are.
        ap (λ q. counts_after q (Line line_kind.Destructor [])) are
        ∙ ap (λ t. record (counts_of_class b c counts) { this = Some t; locals = []; blocks = [] }) last_class;
    places = ap (λ d. after_line (place_after c.construct d ∷ []) role.Destroy) second ∙ destructor_place c.construct;
  }

  end_place : (construct destroy : Option Body) → after_line (place_after construct destroy ∷ []) role.End ≡ Some []
  end_place None None = refl
  end_place (Some body) None = refl
  end_place None (Some other) = refl
  end_place (Some body) (Some other) = refl

  end_order : all_lines (items_in_order (with_class b c)) ≡ front ++ (open_class_lines index c ++ end_line ∷ [])
  end_order =
      let classes : List Lines = each_from lines_of_class 0 b.classes in
      let bodies : List Lines = in_order (each_from Rattle.wb_language.specs.Trees.lines_of_procedure 0 b.procedures) (each_from Rattle.wb_language.specs.Trees.lines_of_operation 0 b.operations) in
      let last : Lines = lines_of_class index c in
      let made = own_body_lines line_kind.Constructor c.construct in
      let gone = own_body_lines line_kind.Destructor c.destroy in
      let fields = field_lines 0 c.fields in
      ap (λ l. all_lines (in_order l bodies)) (each_from-last lines_of_class 0 b.classes c ∙ ap (λ i. classes ++ lines_of_class i c ∷ []) (zero-add index))
      ∙ ap all_lines (first_last classes bodies last (classes_before b c.line below.0) (bodies_before b c.line below.0))
      ∙ flat_map-last (λ (i : Lines). i.lines) (items_in_order b) last
      ∙ ap (λ l. front ++ (class_head index c ∷ (fields ++ l))) (sym (append_assoc made gone (end_line ∷ [])))
      ∙ ap (λ l. front ++ (class_head index c ∷ l)) (sym (append_assoc fields (made ++ gone) (end_line ∷ [])))

  are_classes-last : (at : ℕ) (cs : List Class) → are_classes declared at cs ≡ true → is_class_of declared (at + length cs) c ≡ true → are_classes declared at (cs ++ c ∷ []) ≡ true
  are_classes-last at [] all one = together _ true (ap (λ i. is_class_of declared i c) (sym (add-zero at)) ∙ one) refl
  are_classes-last at (d ∷ cs) all one =
      let (here, rest) = parts (is_class_of declared at d) (are_classes declared (suc at) cs) all in
      let same : suc at + length cs ≡ at + suc (length cs) = omega arith in
      together _ _ here (are_classes-last (suc at) cs rest (ap (λ i. is_class_of declared i c) same ∙ one))

  pub end_grows : Grows declared number (Line line_kind.End []) (in_class b c) (outside (with_class b c))
  end_grows = record {
    lines = append-nil (all_lines (items_in_order (with_class b c))) ∙ end_order ∙ sym (append_assoc front (open_class_lines index c) (end_line ∷ []));
    sound = record {
      stands = record {
        classes = are_classes-last 0 b.classes sound.0.classes (ap (λ i. is_class_of declared i c) (zero-add index) ∙ sound.1.sound);
        procedures = sound.0.procedures;
        operations = sound.0.operations;
        few_classes = omega (arith, length-append b.classes (c ∷ []), sound.1.room);
        few = sound.0.few;
      };
    };
    below = record {
      stands =
          let still = still_below b c.line (number + 1) (omega (arith, below.1)) below.0 in
          let later : c.line < number + 1 = omega (arith, below.1) in
          record {
            classes = list_all-append (λ (d : Class). nat_lt d.line (number + 1)) b.classes (c ∷ []) ∙ together _ _ still.classes (together _ true (below_test c.line (number + 1) later) refl);
            procedures = still.procedures;
            operations = still.operations;
          };
    };
    counts = λ counts are.
        let after = counts_after counts (Line line_kind.End []) in
        let made : after ≡ counts_of_class b c counts = ap (λ q. counts_after q (Line line_kind.End [])) are in
        let classes : fields_declared b.classes ++ length c.fields ∷ [] ≡ fields_declared (b.classes ++ c ∷ []) = sym (map-append (λ (d : Class). length d.fields) b.classes (c ∷ [])) in
        made ∙ ap (λ l. record (counts_of_class b c counts) { classes = l }) classes
        ∙ ap (λ (q : Counts). record { classes = fields_declared (b.classes ++ c ∷ []); procedures = (counts_of_class b c counts).procedures; operations = (counts_of_class b c counts).operations; this = q.this; locals = q.locals; blocks = [] }) (sym made);
    places = end_place c.construct c.destroy;
  }
