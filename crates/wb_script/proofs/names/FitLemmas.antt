-- Operands with indexes for names fit where they are of the kinds that their operand places take.
use Rattle.std.proofs.Common.{◌≡◌, ℤ, pos, negsuc, refl, sym, ap, ◌∙◌, ℕ, zero, suc, replicate, take, ◌-◌, ◌+◌, ◌<◌, ◌≤◌, List, [], ◌∷◌, Bool, true, false, not, ◌&&◌, ◌||◌, nat_eq, nat_lt, length, map, Option, Some, None, length-append, arith}
use Rattle.std.specs.Prelude.{slice_get, if◌then◌else◌}
use Rattle.std.specs.Option.{option_map}
use Rattle.std.specs.List.{list_any, list_all, flat_map}
use Rattle.std.proofs.lemmas.Option.{slice_get-map}
use Rattle.std.proofs.lemmas.Bool.Decides.{nat_tests}
use Rattle.wb_tree.specs.declared.script_lines.LineKind.{LineKind}
use Rattle.wb_tree.specs.declared.script_lines.LineKind.TheVariants as line_kind
use Rattle.wb_tree.specs.declared.script_lines.LocalKind.{LocalKind}
use Rattle.wb_tree.specs.declared.script_lines.LocalKind.TheVariants as kind
use Rattle.wb_tree.specs.declared.script_lines.OperandPlace.{OperandPlace}
use Rattle.wb_tree.specs.declared.script_lines.WordKind.{WordKind}
use Rattle.wb_tree.specs.declared.script_lines.WordKind.TheVariants as word
use Rattle.wb_tree.specs.declared.script_lines.OperandPlace.TheVariants as operand_place
use Rattle.wb_tree.specs.declared.script_lines.Referent.{Referent}
use Rattle.wb_tree.specs.declared.script_lines.Referent.TheVariants as referent
use Rattle.wb_tree.specs.declared.script_lines.Operand.{Operand}
use Rattle.wb_tree.specs.declared.script_lines.Operand.TheVariants.{Name, Field, Number, Size, Literal, Parameter, Keyword}
use Rattle.wb_tree.specs.declared.script_lines.ParameterType.{ParameterType}
use Rattle.wb_tree.specs.declared.script_lines.ParameterType.TheVariants as parameter_type
use Rattle.wb_tree.specs.declared.script_lines.OperandKind.TheVariants as operand_kind
use Rattle.wb_tree.specs.declared.script_lines.ItemKind.{ItemKind}
use Rattle.wb_tree.specs.declared.script_lines.ItemKind.TheVariants as item
use Rattle.wb_tree.specs.declared.script.Local.{Local}
use Rattle.wb_tree.specs.declared.script.Local.TheVariants.{OfPointer, OfNumber, OfBuffer, OfView}
use Rattle.wb_tree.specs.declared.script.Number.TheVariants.{Constant}
use Rattle.wb_language.specs.LineKinds.{operand_places_for, word_kinds, takes, is_outside}
use Rattle.wb_language.specs.Kinds.{operand_kind_of_field, operand_kind_of_class, operand_kind_of_type, is_right, are_right, is_given, are_given, is_given_to}
use Rattle.wb_language.specs.Names.{Text, NamesSoFar, Declaration, names_of, of_kind, item_of_kind, count_among, literal_text, first_declaration_of}
use Rattle.wb_language.specs.Resolved.{local_referent, referent_at, has_this, is_this, this_referent, own_referent, referent_of_kind, item_after, item_at, item_referent, class_if_named, class_of_kind, class_of_local, class_of_this, class_of_base, fields_of_item, fields_of_class, field_at, field_referent, name_referent, resolved_parameter_type, resolved_operand, resolved_operands}
use Rattle.wb_tree.specs.Sound.{Scope, Declared, is_pointer_local, is_number_local, is_buffer_local, is_view_local, is_class, is_index, is_number}
use Rattle.wb_tree.specs.Sound as sound
use Rattle.wb_script.specs.Fitting.{is_name_there, is_field_there, is_parameter_type_there, is_there, operand_fits, operand_places_fit, argument_fits, arguments_fit, fit_signature, is_operation_there}
use Rattle.wb_script.specs.BytesOf.{parameter_named, signatures_among, fields_among}
use Rattle.wb_lines.specs.Typed.{is_short, is_word_of, is_operand, are_operands}
use Rattle.wb_script.proofs.counts.KindCounts.{as_many_classes}
use Rattle.wb_lines.proofs.TypedLemmas.{both, either_first}
use Rattle.wb_script.proofs.names.FoundItems.{place_within, index_within}

-- what a local holds
abbrev pub kind_held : Local → LocalKind ℕ
kind_held (OfPointer class) = kind.Pointer class
kind_held OfNumber = kind.Number
kind_held (OfBuffer max) = kind.Buffer
kind_held OfView = kind.View

-- what a local holds, where classes have their indexes among items
abbrev pub kind_known : List Declaration → LocalKind Text → LocalKind ℕ
kind_known items (kind.Pointer class) = kind.Pointer (class_if_named items class)
kind_known items kind.Number = kind.Number
kind_known items kind.Buffer = kind.Buffer
kind_known items kind.View = kind.View

below_test : (a b : ℕ) → a < b → nat_lt a b ≡ true
below_test a b lt = grind (arith, nat_tests)

same_test : (a : ℕ) → nat_eq a a ≡ true
same_test a = grind (arith, nat_tests)

pub both_hold : (a b : Bool) → a ≡ true → b ≡ true → (a && b) ≡ true
both_hold true b here there = there
both_hold false b here there = let clash : ⊥ = cc in absurd clash

pub never : (a : Bool) → (a && false) ≡ true → ⊥
never true e = cc
never false e = cc

-- operands fit only where there are as many as operand places
pub counts_differ : (literals : ℕ) (scope : Scope) (operand_places : List OperandPlace) (operands : List (Operand Referent)) → (length operand_places ≡ length operands → ⊥) → operand_places_fit literals scope operand_places operands ≡ false
counts_differ literals scope [] [] differ = absurd (differ refl)
counts_differ literals scope [] (o ∷ os) differ = refl
counts_differ literals scope (at ∷ operand_places) [] differ = refl
counts_differ literals scope (at ∷ operand_places) (o ∷ os) differ = neither (operand_fits literals scope at o) (operand_places_fit literals scope operand_places os) (counts_differ literals scope operand_places os (λ e. differ (ap suc e)))
  where
    neither : (a b : Bool) → b ≡ false → (a && b) ≡ false
    neither true b e = e
    neither false b e = refl

short_number : (locals : List Local) (z : ℤ) → is_short z ≡ true → is_number locals (Constant z) ≡ true
short_number locals (pos n) short = short
short_number locals (negsuc n) short = short

-- a number is of nine digits, whichever kind of word it is
short_of : (kinds : List WordKind) (z : ℤ) → list_any (is_word_of (Number z)) kinds ≡ true → is_short z ≡ true
short_of [] z is = let clash : ⊥ = cc in absurd clash
short_of (word.Number ∷ kinds) z is = either_first (is_short z) (list_any (is_word_of (Number z)) kinds) (short_of kinds z) is
short_of (_ ∷ kinds) z is = short_of kinds z is

-- what the statements of a script with these items may name
abbrev pub declared_among : ℕ → List Declaration → Declared
declared_among literals items = record {
  literals = literals;
  fields = fields_among items;
  signatures = signatures_among items;
  operations = count_among item.Operation items;
}

-- a name of an operation is that of one that the script has
pub operation_there : (literals : ℕ) (items : List Declaration) (name : Text) → is_right operand_place.Operation (Name (item_referent items name)) ≡ true → is_operation_there (declared_among literals items) (Name (item_referent items name)) ≡ true
operation_there literals items name = found (first_declaration_of (names_of items) name)
  where
    by_kind : (kind : ItemKind) (index : ℕ) → index < count_among kind items → is_right operand_place.Operation (Name (referent_of_kind kind index)) ≡ true → is_operation_there (declared_among literals items) (Name (referent_of_kind kind index)) ≡ true
    by_kind item.Class index lt right = let clash : ⊥ = cc in absurd clash
    by_kind item.Procedure index lt right = let clash : ⊥ = cc in absurd clash
    by_kind item.Operation index lt right = below_test index (count_among item.Operation items) lt

    following : (before : List Declaration) (o : Option Declaration) → ((i : Declaration) → o ≡ Some i → count_among i.kind before < count_among i.kind items) → is_right operand_place.Operation (Name (item_after before o)) ≡ true →
        is_operation_there (declared_among literals items) (Name (item_after before o)) ≡ true
    following before None lt right = let clash : ⊥ = cc in absurd clash
    following before (Some i) lt right = by_kind i.kind (count_among i.kind before) (lt i refl) right

    found : (place : Option ℕ) → is_right operand_place.Operation (Name (item_at items place)) ≡ true → is_operation_there (declared_among literals items) (Name (item_at items place)) ≡ true
    found None right = let clash : ⊥ = cc in absurd clash
    found (Some index) right = following (take index items) (slice_get items index) (index_within items index) right

-- what a name of the script's own space stands for is there
item_there : (scope : Scope) (items : List Declaration) → length scope.fields ≡ count_among item.Class items → (name : Text) → is_name_there scope (item_referent items name) ≡ true
item_there scope items many name = found (first_declaration_of (names_of items) name)
  where
    by_kind : (kind : ItemKind) (index : ℕ) → index < count_among kind items → is_name_there scope (referent_of_kind kind index) ≡ true
    by_kind item.Class index lt = below_test index (length scope.fields) (omega (arith, lt, many))
    by_kind item.Procedure index lt = refl
    by_kind item.Operation index lt = refl

    following : (before : List Declaration) (o : Option Declaration) → ((i : Declaration) → o ≡ Some i → count_among i.kind before < count_among i.kind items) → is_name_there scope (item_after before o) ≡ true
    following before None lt = refl
    following before (Some i) lt = by_kind i.kind (count_among i.kind before) (lt i refl)

    found : (place : Option ℕ) → is_name_there scope (item_at items place) ≡ true
    found None = refl
    found (Some index) = following (take index items) (slice_get items index) (index_within items index)

-- an argument that is given fits
argument_fits_given : (literals : ℕ) (scope : Scope) (items : List Declaration) (p : ParameterType Text) (operand : Operand Referent) → is_given p operand ≡ true → is_there literals scope operand ≡ true → argument_fits literals scope (parameter_named items p) operand ≡ true
argument_fits_given literals scope items parameter_type.Pointer operand right there = both_hold _ _ right there
argument_fits_given literals scope items parameter_type.Number operand right there = both_hold _ _ right there
argument_fits_given literals scope items (parameter_type.OfClass class) operand right there = both_hold _ _ right there

arguments_fit_given : (literals : ℕ) (scope : Scope) (items : List Declaration) (ps : List (ParameterType Text)) (operands : List (Operand Referent)) → are_given ps operands ≡ true → list_all (is_there literals scope) operands ≡ true →
    arguments_fit literals scope (map (parameter_named items) ps) operands ≡ true
arguments_fit_given literals scope items [] [] right there = refl
arguments_fit_given literals scope items [] (o ∷ os) right there = let clash : ⊥ = cc in absurd clash
arguments_fit_given literals scope items (p ∷ ps) [] right there = let clash : ⊥ = cc in absurd clash
arguments_fit_given literals scope items (p ∷ ps) (o ∷ os) right there =
    let (right_here, right_rest) = both (is_given p o) (are_given ps os) right in
    let (there_here, there_rest) = both (is_there literals scope o) (list_all (is_there literals scope) os) there in
    both_hold _ _ (argument_fits_given literals scope items p o right_here there_here) (arguments_fit_given literals scope items ps os right_rest there_rest)

-- and so does a call of a procedure with a signature
pub signature_fits : (literals : ℕ) (scope : Scope) (items : List Declaration) (index : ℕ) (operands : List (Operand Referent)) → is_given_to (item_of_kind item.Procedure items index) operands ≡ true → list_all (is_there literals scope) operands ≡ true →
    fit_signature literals scope (slice_get (signatures_among items) index) operands ≡ true
signature_fits literals scope items index operands right there =
    ap (λ o. fit_signature literals scope o operands) (slice_get-map (λ (i : Declaration). map (parameter_named items) i.parameters) (of_kind item.Procedure items) index)
    ∙ go (item_of_kind item.Procedure items index) right
  where
    go : (o : Option Declaration) → is_given_to o operands ≡ true → fit_signature literals scope (option_map (λ (i : Declaration). map (parameter_named items) i.parameters) o) operands ≡ true
    go (Some i) right = arguments_fit_given literals scope items i.parameters operands right there
    go None right = let clash : ⊥ = cc in absurd clash

-- as many as before
pub resolved_many : (own : List Declaration) (known : NamesSoFar) (line_kind : LineKind) (operand_places : List OperandPlace) (operands : List (Operand Text)) → are_operands operand_places operands ≡ true → length (resolved_operands own known line_kind operand_places operands) ≡ length operands
resolved_many own known line_kind [] [] typed = refl
resolved_many own known line_kind [] (o ∷ os) typed = let clash : ⊥ = cc in absurd clash
resolved_many own known line_kind (at ∷ operand_places) [] typed = refl
resolved_many own known line_kind (at ∷ operand_places) (o ∷ os) typed = ap suc (resolved_many own known line_kind operand_places os (both (is_operand at o) (are_operands operand_places os) typed).1)

-- what is found nowhere is right nowhere
never_right : (at : OperandPlace) → takes at operand_kind.Nothing ≡ true → ⊥
never_right operand_place.Declared e = cc
never_right _ e = cc

-- an operand place where no name is looked up in the space of a body
abbrev pub is_apart : OperandPlace → Bool
is_apart operand_place.Declared = true
is_apart operand_place.Size = true
is_apart operand_place.Class = true
is_apart operand_place.Parameter = true
is_apart operand_place.ItsPointer = true
is_apart _ = false

-- an operand place of a line that is apart from bodies
abbrev pub may_be : Bool → OperandPlace → Bool
may_be apart at = not apart || is_apart at

inside_body : (apart : Bool) → (not apart || false) ≡ true → apart ≡ false
inside_body true e = let clash : ⊥ = cc in absurd clash
inside_body false e = refl

-- what a line of a body has of its operand places
pub operand_places_inside : (operand_places : List OperandPlace) → list_all (may_be false) operand_places ≡ true
operand_places_inside [] = refl
operand_places_inside (at ∷ operand_places) = operand_places_inside operand_places

parameters_apart : (n : ℕ) → list_all (may_be true) (replicate n operand_place.Parameter) ≡ true
parameters_apart zero = refl
parameters_apart (suc n) = parameters_apart n

-- a line that names nothing in the space of a body
abbrev pub stands_apart : LineKind → Bool
stands_apart line_kind.Else = true
stands_apart line_kind.End = true
stands_apart k = is_outside k

pub operand_places_apart : (k : LineKind) (n : ℕ) → list_all (may_be (stands_apart k)) (operand_places_for k n) ≡ true
operand_places_apart line_kind.Class n = refl
operand_places_apart line_kind.Field n = refl
operand_places_apart line_kind.ClassField n = refl
operand_places_apart line_kind.Constructor n = refl
operand_places_apart line_kind.Destructor n = refl
operand_places_apart line_kind.Proc n = parameters_apart (n - 1)
operand_places_apart line_kind.Op n = refl
operand_places_apart line_kind.Else n = refl
operand_places_apart line_kind.End n = refl
operand_places_apart k n = operand_places_inside (operand_places_for k n)

module _ (literals : ℕ) (items : List Declaration) (known : NamesSoFar) (scope : Scope) (kinds_are : map (kind_known items) known.kinds ≡ map kind_held scope.locals) (fields_are : scope.fields ≡ fields_among items) (own : LineKind) (apart : Bool) (this_is : apart ≡ false → scope.this ≡ class_of_this known) where
  as_many : length scope.fields ≡ count_among item.Class items
  as_many = ap length fields_are ∙ as_many_classes items

  -- a local and what is known of it
  parallel : (i : ℕ) → option_map (kind_known items) (slice_get known.kinds i) ≡ option_map kind_held (slice_get scope.locals i)
  parallel i = sym (slice_get-map (kind_known items) known.kinds i) ∙ ap (λ l. slice_get l i) kinds_are ∙ slice_get-map kind_held scope.locals i

  local_there : (i : ℕ) (k : Option (LocalKind Text)) (o : Option Local) → slice_get scope.locals i ≡ o → option_map (kind_known items) k ≡ option_map kind_held o → is_name_there scope (local_referent i k) ≡ true
  local_there i None o is e = refl
  local_there i (Some (kind.Pointer class)) (Some (OfPointer c)) is e = ap is_pointer_local is
  local_there i (Some kind.Number) (Some OfNumber) is e = ap is_number_local is
  local_there i (Some kind.Buffer) (Some (OfBuffer max)) is e = ap is_buffer_local is
  local_there i (Some kind.View) (Some OfView) is e = ap is_view_local is
  local_there i (Some _) _ is e = let clash : ⊥ = cc in absurd clash

  referent_there : (place : Option ℕ) → is_name_there scope (referent_at known.kinds place) ≡ true
  referent_there None = refl
  referent_there (Some i) = local_there i (slice_get known.kinds i) (slice_get scope.locals i) refl (parallel i)

  this_there : (b : Bool) → scope.this ≡ (if b then Some (known.classes - 1) else None) → is_name_there scope (if b then referent.This else referent.Nothing) ≡ true
  this_there true is = rw is refl
  this_there false is = refl

  pub own_there : (name : Text) → apart ≡ false → is_name_there scope (own_referent known name) ≡ true
  own_there name inside = go (is_this name)
    where
      go : (b : Bool) → is_name_there scope (if b then this_referent known.body else referent_at known.kinds (first_declaration_of known.locals name)) ≡ true
      go true = this_there (has_this known.body) (this_is inside)
      go false = referent_there (first_declaration_of known.locals name)

  name_there : (at : OperandPlace) (name : Text) → is_operand at (Name name) ≡ true → may_be apart at ≡ true → is_name_there scope (name_referent items known own at name) ≡ true
  name_there operand_place.Declared name typed seen = refl
  name_there operand_place.Class name typed seen = item_there scope items as_many name
  name_there operand_place.Procedure name typed seen = item_there scope items as_many name
  name_there operand_place.Operation name typed seen = item_there scope items as_many name
  name_there operand_place.Size name typed seen = let clash : ⊥ = cc in absurd clash
  name_there operand_place.Parameter name typed seen = let clash : ⊥ = cc in absurd clash
  name_there operand_place.ItsPointer name typed seen = let clash : ⊥ = cc in absurd clash
  name_there _ name typed seen = own_there name (inside_body apart seen)

  -- a field of what has a class is one of that class
  by_this : (class index : ℕ) (b : Bool) → scope.this ≡ (if b then Some (known.classes - 1) else None) → (if b then Some (known.classes - 1) else None) ≡ Some class →
      is_field_there scope (if b then referent.This else referent.Nothing) (referent.Field class index) ≡ is_index index (slice_get scope.fields class)
  by_this class index true this is = ap (λ o. is_class class o && is_index index (slice_get scope.fields class)) (this ∙ is) ∙ ap (λ b. b && is_index index (slice_get scope.fields class)) (same_test class)
  by_this class index false this is = let clash : ⊥ = cc in absurd clash

  by_local : (class index i : ℕ) (k : Option (LocalKind Text)) (o : Option Local) → slice_get scope.locals i ≡ o → option_map (kind_known items) k ≡ option_map kind_held o → class_of_kind items k ≡ Some class →
      is_field_there scope (local_referent i k) (referent.Field class index) ≡ is_index index (slice_get scope.fields class)
  by_local class index i (Some (kind.Pointer name)) (Some (OfPointer c)) at e is =
      let known_class : kind.Pointer (class_if_named items name) ≡ kind.Pointer c = cc in
      let same : class_if_named items name ≡ c = cc in
      ap (λ l. is_class class (sound.class_of_local l) && is_index index (slice_get scope.fields class)) at
      ∙ ap (λ l. is_class class l && is_index index (slice_get scope.fields class)) (sym same ∙ is)
      ∙ ap (λ b. b && is_index index (slice_get scope.fields class)) (same_test class)
  by_local class index i (Some (kind.Pointer name)) _ at e is = let clash : ⊥ = cc in absurd clash
  by_local class index i _ o at e is = let clash : ⊥ = cc in absurd clash

  by_place : (class index : ℕ) (place : Option ℕ) → class_of_local items known.kinds place ≡ Some class → is_field_there scope (referent_at known.kinds place) (referent.Field class index) ≡ is_index index (slice_get scope.fields class)
  by_place class index None is = let clash : ⊥ = cc in absurd clash
  by_place class index (Some i) is = by_local class index i (slice_get known.kinds i) (slice_get scope.locals i) refl (parallel i) is

  by_base : (class index : ℕ) (base : Text) → apart ≡ false → class_of_base items known base ≡ Some class → is_field_there scope (own_referent known base) (referent.Field class index) ≡ is_index index (slice_get scope.fields class)
  by_base class index base inside is = go (is_this base) is
    where
      go : (b : Bool) → (if b then class_of_this known else class_of_local items known.kinds (first_declaration_of known.locals base)) ≡ Some class →
          is_field_there scope (if b then this_referent known.body else referent_at known.kinds (first_declaration_of known.locals base)) (referent.Field class index) ≡ is_index index (slice_get scope.fields class)
      go true is = by_this class index (has_this known.body) (this_is inside) is
      go false is = by_place class index (first_declaration_of known.locals base) is

  index_there : (class index : ℕ) → index < length (fields_of_class items class) → is_index index (slice_get scope.fields class) ≡ true
  index_there class index lt =
      ap (λ l. is_index index (slice_get l class)) fields_are
      ∙ ap (is_index index) (slice_get-map (λ (i : Declaration). length i.fields) (of_kind item.Class items) class)
      ∙ go (item_of_kind item.Class items class) lt
    where
      go : (o : Option Declaration) → index < length (fields_of_item o) → is_index index (option_map (λ (i : Declaration). length i.fields) o) ≡ true
      go (Some i) lt = below_test index (length i.fields) lt
      go None lt = absurd (omega arith)

  field_there : (at : OperandPlace) (base field : Text) → apart ≡ false → takes at (operand_kind_of_field (field_referent items (class_of_base items known base) field)) ≡ true →
      is_field_there scope (own_referent known base) (field_referent items (class_of_base items known base) field) ≡ true
  field_there at base field inside right = by_class (class_of_base items known base) refl right
    where
      by_index : (class : ℕ) (place : Option ℕ) → class_of_base items known base ≡ Some class → first_declaration_of (fields_of_class items class) field ≡ place → takes at (operand_kind_of_field (field_at class place)) ≡ true →
          is_field_there scope (own_referent known base) (field_at class place) ≡ true
      by_index class None is found right = absurd (never_right at right)
      by_index class (Some index) is found right = by_base class index base inside is ∙ index_there class index (place_within (fields_of_class items class) field index found)

      by_class : (o : Option ℕ) → class_of_base items known base ≡ o → takes at (operand_kind_of_field (field_referent items o field)) ≡ true → is_field_there scope (own_referent known base) (field_referent items o field) ≡ true
      by_class None is right = absurd (never_right at right)
      by_class (Some class) is right = by_index class (first_declaration_of (fields_of_class items class) field) is refl right

  -- a field is only inside a body
  field_inside : (at : OperandPlace) (base field : Text) → is_operand at (Field base field) ≡ true → may_be apart at ≡ true → apart ≡ false
  field_inside operand_place.Declared base field typed seen = let clash : ⊥ = cc in absurd clash
  field_inside operand_place.Class base field typed seen = let clash : ⊥ = cc in absurd clash
  field_inside operand_place.Size base field typed seen = let clash : ⊥ = cc in absurd clash
  field_inside operand_place.Parameter base field typed seen = let clash : ⊥ = cc in absurd clash
  field_inside operand_place.ItsPointer base field typed seen = let clash : ⊥ = cc in absurd clash
  field_inside _ base field typed seen = inside_body apart seen

  taken_there : (at : OperandPlace) (kind : ParameterType Text) → takes at (operand_kind_of_type (resolved_parameter_type items kind)) ≡ true → is_parameter_type_there scope (resolved_parameter_type items kind) ≡ true
  taken_there at parameter_type.Pointer right = refl
  taken_there at parameter_type.Number right = refl
  taken_there at (parameter_type.OfClass class) right = by_referent (item_referent items class) (item_there scope items as_many class) right
    where
      by_referent : (m : Referent) → is_name_there scope m ≡ true → takes at (operand_kind_of_class m) ≡ true → is_parameter_type_there scope (parameter_type.OfClass m) ≡ true
      by_referent (referent.Class index) there right = there
      by_referent _ there right = absurd (never_right at right)

  pub resolved_there : (at : OperandPlace) (operand : Operand Text) → is_operand at operand ≡ true → may_be apart at ≡ true → is_right at (resolved_operand items known own at operand) ≡ true →
      known.literals + length (literal_text operand) ≤ literals → is_there literals scope (resolved_operand items known own at operand) ≡ true
  resolved_there at (Name name) typed seen right room = name_there at name typed seen
  resolved_there at (Field base field) typed seen right room = field_there at base field (field_inside at base field typed seen) right
  resolved_there at (Number z) typed seen right room = short_number scope.locals z (short_of (word_kinds at) z typed)
  resolved_there at (Size n) typed seen right room = refl
  resolved_there at (Literal text) typed seen right room = below_test known.literals literals (omega arith)
  resolved_there at (Parameter name kind) typed seen right room = taken_there at kind right
  resolved_there at Keyword typed seen right room = refl

  pub all_there : (operand_places : List OperandPlace) (operands : List (Operand Text)) → are_operands operand_places operands ≡ true → list_all (may_be apart) operand_places ≡ true → are_right operand_places (resolved_operands items known own operand_places operands) ≡ true →
      known.literals + length (flat_map literal_text operands) ≤ literals → list_all (is_there literals scope) (resolved_operands items known own operand_places operands) ≡ true
  all_there [] [] typed seen right room = refl
  all_there [] (o ∷ os) typed seen right room = let clash : ⊥ = cc in absurd clash
  all_there (at ∷ operand_places) [] typed seen right room = let clash : ⊥ = cc in absurd clash
  all_there (at ∷ operand_places) (o ∷ os) typed seen right room =
      let (typed_here, typed_rest) = both (is_operand at o) (are_operands operand_places os) typed in
      let (seen_here, seen_rest) = both (may_be apart at) (list_all (may_be apart) operand_places) seen in
      let (right_here, right_rest) = both (is_right at (resolved_operand items known own at o)) (are_right operand_places (resolved_operands items known own operand_places os)) right in
      let parts : length (flat_map literal_text (o ∷ os)) ≡ length (literal_text o) + length (flat_map literal_text os) = simp length-append in
      both_hold _ _ (resolved_there at o typed_here seen_here right_here (omega arith)) (all_there operand_places os typed_rest seen_rest right_rest (omega arith))

  pub operand_places_fit_resolved : (operand_places : List OperandPlace) (operands : List (Operand Text)) → are_operands operand_places operands ≡ true → list_all (may_be apart) operand_places ≡ true → are_right operand_places (resolved_operands items known own operand_places operands) ≡ true →
      known.literals + length (flat_map literal_text operands) ≤ literals → operand_places_fit literals scope operand_places (resolved_operands items known own operand_places operands) ≡ true
  operand_places_fit_resolved [] [] typed seen right room = refl
  operand_places_fit_resolved [] (o ∷ os) typed seen right room = let clash : ⊥ = cc in absurd clash
  operand_places_fit_resolved (at ∷ operand_places) [] typed seen right room = let clash : ⊥ = cc in absurd clash
  operand_places_fit_resolved (at ∷ operand_places) (o ∷ os) typed seen right room =
      let (typed_here, typed_rest) = both (is_operand at o) (are_operands operand_places os) typed in
      let (seen_here, seen_rest) = both (may_be apart at) (list_all (may_be apart) operand_places) seen in
      let (right_here, right_rest) = both (is_right at (resolved_operand items known own at o)) (are_right operand_places (resolved_operands items known own operand_places os)) right in
      let parts : length (flat_map literal_text (o ∷ os)) ≡ length (literal_text o) + length (flat_map literal_text os) = simp length-append in
      both_hold _ _ (both_hold _ _ right_here (resolved_there at o typed_here seen_here right_here (omega arith))) (operand_places_fit_resolved operand_places os typed_rest seen_rest right_rest (omega arith))
