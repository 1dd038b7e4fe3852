-- A name that stands for nothing is one that its space doesn't have.
use Rattle.std.proofs.Common.{◌≡◌, ℕ, zero, suc, ◌<◌, List, [], ◌∷◌, length, take, Option, Some, None, Bool, true, false, not, ◌||◌, refl, sym, ap, ◌∙◌, arith}
use Rattle.std.specs.Prelude.{if◌then◌else◌, slice_get}
use Rattle.std.specs.Option.{option_map}
use Rattle.std.specs.List.{list_any}
use Rattle.std.specs.Str.{bytes_eq}
use Rattle.std.proofs.lemmas.List.{length-map}
use Rattle.std.proofs.lemmas.List.Folds.{list_any-append}
use Rattle.wb_tree.specs.declared.script_lines.LineKind.{LineKind}
use Rattle.wb_tree.specs.declared.script_lines.ItemKind.{ItemKind}
use Rattle.wb_tree.specs.declared.script_lines.ItemKind.TheVariants as item
use Rattle.wb_tree.specs.declared.script_lines.LocalKind.{LocalKind}
use Rattle.wb_tree.specs.declared.script_lines.LocalKind.TheVariants as kind
use Rattle.wb_tree.specs.declared.script_lines.OperandPlace.{OperandPlace}
use Rattle.wb_tree.specs.declared.script_lines.OperandPlace.TheVariants as operand_place
use Rattle.wb_tree.specs.declared.script_lines.Operand.{Operand}
use Rattle.wb_tree.specs.declared.script_lines.Operand.TheVariants.{Name, Field, Parameter}
use Rattle.wb_tree.specs.declared.script_lines.ParameterType.TheVariants as parameter_type
use Rattle.wb_tree.specs.declared.script_lines.Referent.TheVariants as referent
use Rattle.wb_tree.specs.declared.script_lines.Form.{Form}
use Rattle.wb_tree.specs.declared.script_lines.Form.TheVariants.{Skip, Unknown, Line}
use Rattle.wb_language.specs.LineKinds.{operand_places_for}
use Rattle.wb_language.specs.Names.{Text, NamesSoFar, Declaration, count_among, is_among, names_of, first_declaration_of}
use Rattle.wb_language.specs.Passes.{first_where}
use Rattle.wb_language.specs.Resolved.{referent_at, local_referent, has_this, is_this, own_referent, referent_of_kind, item_after, item_at, item_referent, class_of_base, fields_of_class, field_at, field_referent, resolved_operand, resolved_operands, refers_to_nothing, means_nothing, uses_unknown}
use Rattle.wb_language.specs.Undeclared.{local_used, item_used, names_used, used_in, is_missing, field_missed}
use Rattle.wb_script.proofs.names.FoundItems.{place_within}

-- a name that is found is among the names, and one that isn't found is not
found_among : (p : Text → Bool) (names : List Text) → (o : Option ℕ) → first_where p names ≡ o → list_any p names ≡ elim o as (λ _. Bool) [ Some i ↦ true | None ↦ false ]
found_among p [] None is = refl
found_among p [] (Some i) is = let clash : ⊥ = cc in absurd clash
found_among p (n ∷ ns) o is = go (p n) (first_where p ns) o (found_among p ns (first_where p ns) refl) is
  where
    go : (b : Bool) (rest o : Option ℕ) → list_any p ns ≡ elim rest as (λ _. Bool) [ Some i ↦ true | None ↦ false ] → (if b then Some 0 else option_map suc rest) ≡ o → (b || list_any p ns) ≡ elim o as (λ _. Bool) [ Some i ↦ true | None ↦ false ]
    go true rest (Some i) more e = refl
    go true rest None more e = let clash : ⊥ = cc in absurd clash
    go false (Some i) (Some j) more e = more
    go false (Some i) None more e = let clash : ⊥ = cc in absurd clash
    go false None (Some j) more e = let clash : ⊥ = cc in absurd clash
    go false None None more e = more

held : {X : Type 0} (xs : List X) (i : ℕ) → i < length xs → slice_get xs i ≡ None → ⊥
held [] i lt is = omega arith
held (x ∷ xs) zero lt is = cc
held (x ∷ xs) (suc i) lt is = held xs i (omega arith) is

pub or_false : (b : Bool) → (b || false) ≡ b
or_false true = refl
or_false false = refl

-- the names that a list doesn't have
abbrev pub absent : List Text → Text → Bool
absent names name = not (is_among names name)

item_nothing : (items : List Declaration) (name : Text) → refers_to_nothing (item_referent items name) ≡ absent (names_of items) name
item_nothing items name = go (first_declaration_of (names_of items) name) refl
  where
    by_kind : (kind : ItemKind) (i : ℕ) → refers_to_nothing (referent_of_kind kind i) ≡ false
    by_kind item.Class i = refl
    by_kind item.Procedure i = refl
    by_kind item.Operation i = refl

    following : (before : List Declaration) (o : Option Declaration) → (o ≡ None → ⊥) → refers_to_nothing (item_after before o) ≡ false
    following before None some = absurd (some refl)
    following before (Some i) some = by_kind i.kind (count_among i.kind before)

    go : (o : Option ℕ) → first_declaration_of (names_of items) name ≡ o → refers_to_nothing (item_at items o) ≡ absent (names_of items) name
    go None is = ap not (sym (found_among (λ n. bytes_eq n name) (names_of items) None is))
    go (Some i) is =
        let within : i < length (names_of items) = place_within (names_of items) name i is in
        let many = length-map items (λ (item : Declaration). item.name) in
        following (take i items) (slice_get items i) (held items i (omega (arith, within, many))) ∙ ap not (sym (found_among (λ n. bytes_eq n name) (names_of items) (Some i) is))

-- a field that is looked up and isn't found is missing
field_nothing : (items : List Declaration) (class : Option ℕ) (field : Text) → refers_to_nothing (field_referent items class field) ≡ is_missing items class field
field_nothing items None field = refl
field_nothing items (Some class) field = go (first_declaration_of (fields_of_class items class) field) refl
  where
    go : (o : Option ℕ) → first_declaration_of (fields_of_class items class) field ≡ o → refers_to_nothing (field_at class o) ≡ absent (fields_of_class items class) field
    go None is = ap not (sym (found_among (λ n. bytes_eq n field) (fields_of_class items class) None is))
    go (Some i) is = ap not (sym (found_among (λ n. bytes_eq n field) (fields_of_class items class) (Some i) is))

-- a name that the body knows: `self`, or one of its locals
abbrev pub is_known_here : NamesSoFar → Text → Bool
is_known_here known name = if is_this name then has_this known.body else is_among known.locals name

abbrev pub absent_here : NamesSoFar → Text → Bool
absent_here known name = not (is_known_here known name)

interchanged : (a b c d : Bool) → ((a || b) || (c || d)) ≡ ((a || c) || (b || d))
interchanged true b c d = refl
interchanged false true true d = refl
interchanged false true false d = refl
interchanged false false c d = refl

module _ (items : List Declaration) (known : NamesSoFar) (parallel : length known.kinds ≡ length known.locals) where
  local_nothing : (name : Text) → refers_to_nothing (referent_at known.kinds (first_declaration_of known.locals name)) ≡ absent known.locals name
  local_nothing name = go (first_declaration_of known.locals name) refl
    where
      of_kind : (i : ℕ) (o : Option (LocalKind Text)) → (o ≡ None → ⊥) → refers_to_nothing (local_referent i o) ≡ false
      of_kind i (Some (kind.Pointer class)) some = refl
      of_kind i (Some kind.Number) some = refl
      of_kind i (Some kind.Buffer) some = refl
      of_kind i (Some kind.View) some = refl
      of_kind i None some = absurd (some refl)

      go : (o : Option ℕ) → first_declaration_of known.locals name ≡ o → refers_to_nothing (referent_at known.kinds o) ≡ absent known.locals name
      go None is = ap not (sym (found_among (λ n. bytes_eq n name) known.locals None is))
      go (Some i) is =
          let within = place_within known.locals name i is in
          of_kind i (slice_get known.kinds i) (held known.kinds i (omega (arith, within, parallel))) ∙ ap not (sym (found_among (λ n. bytes_eq n name) known.locals (Some i) is))

  this_nothing : (b : Bool) → refers_to_nothing (if b then referent.This else referent.Nothing) ≡ not b
  this_nothing true = refl
  this_nothing false = refl

  own_nothing : (name : Text) → refers_to_nothing (own_referent known name) ≡ absent_here known name
  own_nothing name = go (is_this name)
    where
      go : (b : Bool) →
          refers_to_nothing (if b then (if has_this known.body then referent.This else referent.Nothing) else referent_at known.kinds (first_declaration_of known.locals name)) ≡ not (if b then has_this known.body else is_among known.locals name)
      go true = this_nothing (has_this known.body)
      go false = local_nothing name

  -- what a line uses of each space, that isn't in it
  abbrev one_absent : OperandPlace → Operand Text → Bool
  one_absent at operand = (list_any (absent_here known) (local_used at operand) || list_any (absent (names_of items)) (item_used at operand)) || list_any (λ b. b) (field_missed items known at operand)

  first_alone : (b : Bool) → b ≡ (((b || false) || false) || false)
  first_alone true = refl
  first_alone false = refl

  second_alone : (b : Bool) → b ≡ ((false || (b || false)) || false)
  second_alone true = refl
  second_alone false = refl

  first_and_last : (a b : Bool) → (a || b) ≡ (((a || false) || false) || (b || false))
  first_and_last true b = refl
  first_and_last false true = refl
  first_and_last false false = refl

  field_unknown : (base field : Text) → (refers_to_nothing (own_referent known base) || refers_to_nothing (field_referent items (class_of_base items known base) field)) ≡
      (((absent_here known base || false) || false) || (is_missing items (class_of_base items known base) field || false))
  field_unknown base field =
      ap (λ b. b || refers_to_nothing (field_referent items (class_of_base items known base) field)) (own_nothing base)
      ∙ ap (λ b. absent_here known base || b) (field_nothing items (class_of_base items known base) field)
      ∙ first_and_last (absent_here known base) (is_missing items (class_of_base items known base) field)

  one_unknown : (line_kind : LineKind) (at : OperandPlace) (operand : Operand Text) → means_nothing (resolved_operand items known line_kind at operand) ≡ one_absent at operand
  one_unknown line_kind at (Field base field) = field_unknown base field
  one_unknown line_kind at (Parameter name (parameter_type.OfClass class)) = parameter_unknown at
    where
      parameter_unknown : (at : OperandPlace) → refers_to_nothing (item_referent items class) ≡ one_absent at (Parameter name (parameter_type.OfClass class))
      parameter_unknown operand_place.Declared = item_nothing items class ∙ second_alone (absent (names_of items) class)
      parameter_unknown _ = item_nothing items class ∙ second_alone (absent (names_of items) class)
  one_unknown line_kind operand_place.Declared (Name name) = refl
  one_unknown line_kind operand_place.Declared _ = refl
  one_unknown line_kind operand_place.Class (Name name) = item_nothing items name ∙ second_alone (absent (names_of items) name)
  one_unknown line_kind operand_place.Class _ = refl
  one_unknown line_kind operand_place.Procedure (Name name) = item_nothing items name ∙ second_alone (absent (names_of items) name)
  one_unknown line_kind operand_place.Procedure _ = refl
  one_unknown line_kind operand_place.Operation (Name name) = item_nothing items name ∙ second_alone (absent (names_of items) name)
  one_unknown line_kind operand_place.Operation _ = refl
  one_unknown line_kind _ (Name name) = own_nothing name ∙ first_alone (absent_here known name)
  one_unknown line_kind _ _ = refl

  -- what a list of operands uses of each space, that isn't in it
  abbrev locals_absent : List OperandPlace → List (Operand Text) → Bool
  locals_absent operand_places operands = list_any (absent_here known) (names_used local_used operand_places operands)

  abbrev items_absent : List OperandPlace → List (Operand Text) → Bool
  items_absent operand_places operands = list_any (absent (names_of items)) (names_used item_used operand_places operands)

  abbrev fields_missed : List OperandPlace → List (Operand Text) → Bool
  fields_missed operand_places operands = list_any (λ b. b) (names_used (field_missed items known) operand_places operands)

  all_unknown : (line_kind : LineKind) (operand_places : List OperandPlace) (operands : List (Operand Text)) →
      list_any means_nothing (resolved_operands items known line_kind operand_places operands) ≡ ((locals_absent operand_places operands || items_absent operand_places operands) || fields_missed operand_places operands)
  all_unknown line_kind [] operands = refl
  all_unknown line_kind (at ∷ operand_places) [] = refl
  all_unknown line_kind (at ∷ operand_places) (operand ∷ operands) =
      let first = list_any (absent_here known) (local_used at operand) in
      let second = list_any (absent (names_of items)) (item_used at operand) in
      let third = list_any (λ b. b) (field_missed items known at operand) in
      let locals = locals_absent operand_places operands in
      let globals = items_absent operand_places operands in
      let fields = fields_missed operand_places operands in
      ap (λ b. b || list_any means_nothing (resolved_operands items known line_kind operand_places operands)) (one_unknown line_kind at operand)
      ∙ ap (λ b. one_absent at operand || b) (all_unknown line_kind operand_places operands)
      ∙ interchanged (first || second) third (locals || globals) fields
      ∙ ap (λ b. b || (third || fields)) (interchanged first second locals globals)
      ∙ ap (λ b. ((first || locals) || (second || globals)) || b) (sym (list_any-append (λ b. b) (field_missed items known at operand) (names_used (field_missed items known) operand_places operands)))
      ∙ ap (λ b. ((first || locals) || b) || fields_missed (at ∷ operand_places) (operand ∷ operands)) (sym (list_any-append (absent (names_of items)) (item_used at operand) (names_used item_used operand_places operands)))
      ∙ ap (λ b. (b || items_absent (at ∷ operand_places) (operand ∷ operands)) || fields_missed (at ∷ operand_places) (operand ∷ operands)) (sym (list_any-append (absent_here known) (local_used at operand) (names_used local_used operand_places operands)))

  pub unknown_is_absent : (form : Form Text) →
      uses_unknown items known form ≡ ((list_any (absent_here known) (used_in local_used form) || list_any (absent (names_of items)) (used_in item_used form)) || list_any (λ b. b) (used_in (field_missed items known) form))
  unknown_is_absent Skip = refl
  unknown_is_absent Unknown = refl
  unknown_is_absent (Line line_kind operands) = all_unknown line_kind (operand_places_for line_kind (length operands)) operands
