-- What is counted of lines with indexes for names is what is known of the lines.
use Rattle.std.proofs.Common.{◌≡◌, refl, sym, ap, ◌∙◌, ℕ, suc, ◌+◌, List, [], ◌∷◌, ◌++◌, Bool, true, false, ◌&&◌, ◌||◌, nat_eq, nat_lt, nat_le, length, map, Some, None, add-zero, append-nil, length-append, arith}
use Rattle.std.proofs.lemmas.Bool.{false≢true}
use Rattle.std.specs.List.{flat_map}
use Rattle.std.proofs.lemmas.List.{map-append, length-map}
use Rattle.std.proofs.lemmas.Bool.Decides.{nat_tests}
use Rattle.wb_tree.specs.declared.script_lines.LineKind.{LineKind}
use Rattle.wb_tree.specs.declared.script_lines.LineKind.TheVariants as line_kind
use Rattle.wb_tree.specs.declared.script_lines.LocalKind.{LocalKind}
use Rattle.wb_tree.specs.declared.script_lines.LocalKind.TheVariants as kind
use Rattle.wb_tree.specs.declared.script_lines.Referent.{Referent}
use Rattle.wb_tree.specs.declared.script_lines.Referent.TheVariants as referent
use Rattle.wb_tree.specs.declared.script_lines.Operand.{Operand}
use Rattle.wb_tree.specs.declared.script_lines.Operand.TheVariants.{Name, Field, Number, Size, Literal, Parameter, Keyword}
use Rattle.wb_tree.specs.declared.script_lines.ParameterType.{ParameterType}
use Rattle.wb_tree.specs.declared.script_lines.ParameterType.TheVariants as parameter_type
use Rattle.wb_tree.specs.declared.script_lines.Role.TheVariants as role
use Rattle.wb_tree.specs.declared.script_lines.Form.{Form}
use Rattle.wb_tree.specs.declared.script_lines.Form.TheVariants.{Skip, Unknown, Line}
use Rattle.wb_tree.specs.declared.script_lines.OperandPlace.{OperandPlace}
use Rattle.wb_tree.specs.declared.script_lines.OperandPlace.TheVariants as operand_place
use Rattle.wb_tree.specs.declared.script.Local.{Local}
use Rattle.wb_tree.specs.declared.script.Local.TheVariants.{OfPointer, OfNumber, OfBuffer, OfView}
use Rattle.wb_language.specs.LineKinds.{operand_places_for, role_of}
use Rattle.wb_language.specs.Names.{Text, NamesSoFar, Declaration, parameters_in, name_passed, parameter_type_of, kind_of_parameter, nothing_known, known_after, blocks_after, has_long_name, has_more_parameters, is_one_more, is_large, passes_limit}
use Rattle.wb_language.specs.Resolved.{class_named, item_referent, resolved_parameter_type, resolved_operand, resolved_operands, resolved_line}
use Rattle.wb_tree.specs.Sound.{local_of_parameter}
use Rattle.wb_script.specs.Building.{Counts, nothing_counted, counts_after, parameter_taking, parameters_of, classes_after, last_count, is_small, is_due, declares}
use Rattle.wb_script.specs.BytesOf.{parameter_named}
use Rattle.wb_lines.specs.Typed.{is_operand, are_operands, is_typed}
use Rattle.wb_script.proofs.counts.CountLemmas.{as_many_with_field}
use Rattle.wb_script.proofs.names.FitLemmas.{kind_held, kind_known, both_hold}
use Rattle.wb_lines.proofs.TypedLemmas.{both}

-- the parameters stay what they are, with indexes for their classes
parameters_resolved : (own : List Declaration) (known : NamesSoFar) (k : LineKind) (operand_places : List OperandPlace) (operands : List (Operand Text)) → are_operands operand_places operands ≡ true →
    flat_map parameter_type_of (resolved_operands own known k operand_places operands) ≡ map (resolved_parameter_type own) (flat_map parameter_type_of operands)
parameters_resolved own known k [] [] typed = refl
parameters_resolved own known k [] (o ∷ os) typed = absurd (false≢true typed)
parameters_resolved own known k (at ∷ operand_places) [] typed = refl
parameters_resolved own known k (at ∷ operand_places) (o ∷ os) typed =
    ap (λ l. l ++ flat_map parameter_type_of (resolved_operands own known k operand_places os)) (one o)
    ∙ ap (λ l. map (resolved_parameter_type own) (parameter_type_of o) ++ l) (parameters_resolved own known k operand_places os (both (is_operand at o) (are_operands operand_places os) typed).1)
    ∙ sym (map-append (resolved_parameter_type own) (parameter_type_of o) (flat_map parameter_type_of os))
  where
    one : (o : Operand Text) → parameter_type_of (resolved_operand own known k at o) ≡ map (resolved_parameter_type own) (parameter_type_of o)
    one (Name n) = refl
    one (Field base field) = refl
    one (Number z) = refl
    one (Size n) = refl
    one (Literal n) = refl
    one (Parameter n t) = refl
    one Keyword = refl

line_takes : (own : List Declaration) (known : NamesSoFar) (form : Form Text) → is_typed form ≡ true → parameters_in (resolved_line own known form) ≡ map (resolved_parameter_type own) (parameters_in form)
line_takes own known Skip typed = refl
line_takes own known Unknown typed = refl
line_takes own known (Line k operands) typed = parameters_resolved own known k (operand_places_for k (length operands)) operands typed

takes_named : (own : List Declaration) (ts : List (ParameterType Text)) → map parameter_taking (map (resolved_parameter_type own) ts) ≡ map (parameter_named own) ts
takes_named own [] = refl
takes_named own (t ∷ ts) = ap (λ l. parameter_taking (resolved_parameter_type own t) ∷ l) (takes_named own ts) ∙ ap (λ p. p ∷ map (parameter_named own) ts) (one t)
  where
    one : (t : ParameterType Text) → parameter_taking (resolved_parameter_type own t) ≡ parameter_named own t
    one parameter_type.Pointer = refl
    one parameter_type.Number = refl
    one (parameter_type.OfClass class) = refl

pub line_parameters : (own : List Declaration) (known : NamesSoFar) (form : Form Text) → is_typed form ≡ true → parameters_of (resolved_line own known form) ≡ map (parameter_named own) (parameters_in form)
line_parameters own known form typed = ap (map parameter_taking) (line_takes own known form typed) ∙ takes_named own (parameters_in form)

as_many_parameters : (own : List Declaration) (known : NamesSoFar) (form : Form Text) → is_typed form ≡ true → length (parameters_of (resolved_line own known form)) ≡ length (parameters_in form)
as_many_parameters own known form typed = ap length (line_parameters own known form typed) ∙ length-map (parameters_in form) (parameter_named own)

-- as many names as kinds
names_passed : (operands : List (Operand Text)) → length (flat_map name_passed operands) ≡ length (flat_map parameter_type_of operands)
names_passed [] = refl
names_passed (Parameter n t ∷ os) = ap suc (names_passed os)
names_passed (_ ∷ os) = names_passed os

held_by_parameters : (own : List Declaration) (ts : List (ParameterType Text)) → map (kind_known own) (map kind_of_parameter ts) ≡ map kind_held (map local_of_parameter (map (parameter_named own) ts))
held_by_parameters own [] = refl
held_by_parameters own (parameter_type.Pointer ∷ ts) = ap (λ l. kind.Pointer None ∷ l) (held_by_parameters own ts)
held_by_parameters own (parameter_type.Number ∷ ts) = ap (λ l. kind.Number ∷ l) (held_by_parameters own ts)
held_by_parameters own (parameter_type.OfClass class ∷ ts) = ap (λ l. kind.Pointer (class_named own class) ∷ l) (held_by_parameters own ts)

-- the counts are those of what is known
pub record Counted (own : List Declaration) (known : NamesSoFar) (counts : Counts) : Type 0 where
  pub classes : length counts.classes ≡ known.classes
  pub procedures : length counts.procedures ≡ known.procedures
  pub operations : counts.operations ≡ known.operations
  pub kinds : map (kind_known own) known.kinds ≡ map kind_held counts.locals
  pub locals : length known.locals ≡ length counts.locals
  pub blocks : counts.blocks ≡ known.blocks

equal_test : (a b : ℕ) → a ≡ b → nat_eq a b ≡ true
equal_test a b e = grind (arith, nat_tests)

not_above : (most n m : ℕ) → n ≡ m → nat_le most n ≡ false → nat_lt m most ≡ true
not_above most n m e above = grind (arith, nat_tests)

at_most_test : (most n m : ℕ) → n ≡ m → nat_lt most n ≡ false → nat_le m most ≡ true
at_most_test most n m e above = grind (arith, nat_tests)

-- what the limits say of a line
none_passed : (named more one_more large : Bool) → ((named || more) || (one_more || large)) ≡ false → (more ≡ false) × (one_more ≡ false) × (large ≡ false)
none_passed false false false false e = (refl, refl, refl)
none_passed true b c d e = let clash : ⊥ = cc in absurd clash
none_passed false true c d e = let clash : ⊥ = cc in absurd clash
none_passed false false true d e = let clash : ⊥ = cc in absurd clash
none_passed false false false true e = let clash : ⊥ = cc in absurd clash

module _ (own : List Declaration) (known : NamesSoFar) (counts : Counts) (counted : Counted own known counts) where
  limits : (k : LineKind) (operands : List (Operand Text)) → passes_limit known (Line k operands) ≡ false → (has_more_parameters (Line k operands) ≡ false) × (is_one_more (role_of k) known ≡ false) × (is_large (Line k operands) ≡ false)
  limits k operands within = none_passed (has_long_name (Line k operands)) (has_more_parameters (Line k operands)) (is_one_more (role_of k) known) (is_large (Line k operands)) within

  -- as many items as are known
  as_many : known.procedures + known.operations ≡ length counts.procedures + counts.operations
  as_many = ap (λ n. n + known.operations) (sym counted.procedures) ∙ ap (λ n. length counts.procedures + n) (sym counted.operations)

  -- a line is due where its first operand is the next of its kind, and no limit is passed
  abbrev Due : LineKind → List (Operand Text) → Type 0
  Due k operands = are_operands (operand_places_for k (length operands)) operands ≡ true → passes_limit known (Line k operands) ≡ false →
      is_due (role_of k) counts (resolved_line own known (Line k operands)) (resolved_operands own known k (operand_places_for k (length operands)) operands) ≡ true

  due_procedure : (operands : List (Operand Text)) → Due line_kind.Proc operands
  due_procedure [] typed within = absurd (false≢true typed)
  due_procedure (Name n ∷ os) typed within =
      let (more, one_more, large) = limits line_kind.Proc (Name n ∷ os) within in
      let parameters = as_many_parameters own known (Line line_kind.Proc (Name n ∷ os)) typed in
      both_hold _ _ (equal_test known.procedures (length counts.procedures) (sym counted.procedures))
      (both_hold _ _ (not_above 256 (known.procedures + known.operations) (length counts.procedures + counts.operations) as_many one_more)
      (both_hold _ _ (at_most_test 4 (length (parameters_in (Line line_kind.Proc (Name n ∷ os)))) (length (parameters_of (resolved_line own known (Line line_kind.Proc (Name n ∷ os))))) (sym parameters) more) refl))
  due_procedure (_ ∷ os) typed within = absurd (false≢true typed)

  due_operation : (operands : List (Operand Text)) → Due line_kind.Op operands
  due_operation (Name n ∷ Parameter p parameter_type.Pointer ∷ []) typed within =
      let (more, one_more, large) = limits line_kind.Op (Name n ∷ Parameter p parameter_type.Pointer ∷ []) within in
      both_hold _ _ (equal_test known.operations counts.operations (sym counted.operations))
      (both_hold _ _ (not_above 256 (known.procedures + known.operations) (length counts.procedures + counts.operations) as_many one_more) refl)
  due_operation (Name n ∷ Parameter p parameter_type.Pointer ∷ o ∷ os) typed within = absurd (false≢true typed)
  due_operation (Name n ∷ _ ∷ os) typed within = absurd (false≢true typed)
  due_operation (Name n ∷ []) typed within = absurd (false≢true typed)
  due_operation [] typed within = absurd (false≢true typed)
  due_operation (_ ∷ os) typed within = absurd (false≢true typed)

  due_class : (operands : List (Operand Text)) → Due line_kind.Class operands
  due_class (Name n ∷ Size extra ∷ []) typed within =
      let (more, one_more, large) = limits line_kind.Class (Name n ∷ Size extra ∷ []) within in
      both_hold _ _ (equal_test known.classes (length counts.classes) (sym counted.classes))
      (both_hold _ _ (not_above 64 known.classes (length counts.classes) (sym counted.classes) one_more) (at_most_test 65536 extra extra refl large))
  due_class [] typed within = absurd (false≢true typed)
  due_class (Name n ∷ []) typed within = absurd (false≢true typed)
  due_class (Name n ∷ Size extra ∷ o ∷ os) typed within = absurd (false≢true typed)
  due_class (Name n ∷ _ ∷ os) typed within = absurd (false≢true typed)
  due_class (_ ∷ os) typed within = absurd (false≢true typed)

  due_field : (rest : List (Operand Referent)) → last_count counts.classes ≡ length known.fields → is_one_more role.Field known ≡ false →
      (declares (last_count counts.classes) (Name (referent.Declared (length known.fields)) ∷ rest) && nat_lt (last_count counts.classes) 16) ≡ true
  due_field rest fields within =
      both_hold _ _ (equal_test (length known.fields) (last_count counts.classes) (sym fields)) (not_above 16 (length known.fields) (last_count counts.classes) (sym fields) within)

  due_local : (rest : List (Operand Referent)) → is_one_more role.Declaration known ≡ false → is_small 256 (Name (referent.Declared (length known.locals)) ∷ rest) ≡ true →
      (declares (length counts.locals) (Name (referent.Declared (length known.locals)) ∷ rest) && (nat_lt (length counts.locals) 32 && is_small 256 (Name (referent.Declared (length known.locals)) ∷ rest))) ≡ true
  due_local rest within small =
      both_hold _ _ (equal_test (length known.locals) (length counts.locals) counted.locals) (both_hold _ _ (not_above 32 (length known.locals) (length counts.locals) counted.locals within) small)

  due_block : nat_le 16 (length known.blocks) ≡ false → nat_lt (length counts.blocks) 16 ≡ true
  due_block within = not_above 16 (length known.blocks) (length counts.blocks) (ap length (sym counted.blocks)) within

  -- In the head of a class, its fields so far are known.
  pub due : (k : LineKind) → (role_of k ≡ role.Field → last_count counts.classes ≡ length known.fields) → (operands : List (Operand Text)) → Due k operands
  due line_kind.Class fields operands typed within = due_class operands typed within
  due line_kind.Field fields [] typed within = absurd (false≢true typed)
  due line_kind.Field fields (Name n ∷ []) typed within = due_field [] (fields refl) (limits line_kind.Field (Name n ∷ []) within).1
  due line_kind.Field fields (Name n ∷ o ∷ os) typed within = absurd (false≢true typed)
  due line_kind.Field fields (_ ∷ os) typed within = absurd (false≢true typed)
  due line_kind.ClassField fields [] typed within = absurd (false≢true typed)
  due line_kind.ClassField fields (Name n ∷ os) typed within = due_field (resolved_operands own known line_kind.ClassField (operand_place.Class ∷ []) os) (fields refl) (limits line_kind.ClassField (Name n ∷ os) within).1
  due line_kind.ClassField fields (_ ∷ os) typed within = absurd (false≢true typed)
  due line_kind.Proc fields operands typed within = due_procedure operands typed within
  due line_kind.Op fields operands typed within = due_operation operands typed within
  due line_kind.Ptr fields [] typed within = absurd (false≢true typed)
  due line_kind.Ptr fields (Name n ∷ []) typed within = due_local [] (limits line_kind.Ptr (Name n ∷ []) within).1 refl
  due line_kind.Ptr fields (Name n ∷ o ∷ os) typed within = absurd (false≢true typed)
  due line_kind.Ptr fields (_ ∷ os) typed within = absurd (false≢true typed)
  due line_kind.ClassPtr fields (Name n ∷ Name c ∷ []) typed within = due_local (Name (item_referent own c) ∷ []) (limits line_kind.ClassPtr (Name n ∷ Name c ∷ []) within).1 refl
  due line_kind.ClassPtr fields [] typed within = absurd (false≢true typed)
  due line_kind.ClassPtr fields (Name n ∷ []) typed within = absurd (false≢true typed)
  due line_kind.ClassPtr fields (Name n ∷ Name c ∷ o ∷ os) typed within = absurd (false≢true typed)
  due line_kind.ClassPtr fields (Name n ∷ _ ∷ os) typed within = absurd (false≢true typed)
  due line_kind.ClassPtr fields (_ ∷ os) typed within = absurd (false≢true typed)
  due line_kind.Int fields [] typed within = absurd (false≢true typed)
  due line_kind.Int fields (Name n ∷ []) typed within = due_local [] (limits line_kind.Int (Name n ∷ []) within).1 refl
  due line_kind.Int fields (Name n ∷ o ∷ os) typed within = absurd (false≢true typed)
  due line_kind.Int fields (_ ∷ os) typed within = absurd (false≢true typed)
  due line_kind.View fields [] typed within = absurd (false≢true typed)
  due line_kind.View fields (Name n ∷ []) typed within = due_local [] (limits line_kind.View (Name n ∷ []) within).1 refl
  due line_kind.View fields (Name n ∷ o ∷ os) typed within = absurd (false≢true typed)
  due line_kind.View fields (_ ∷ os) typed within = absurd (false≢true typed)
  due line_kind.Buf fields (Name n ∷ Size max ∷ []) typed within =
      let (more, room, small) = limits line_kind.Buf (Name n ∷ Size max ∷ []) within in
      due_local (Size max ∷ []) room (at_most_test 256 max max refl small)
  due line_kind.Buf fields [] typed within = absurd (false≢true typed)
  due line_kind.Buf fields (Name n ∷ []) typed within = absurd (false≢true typed)
  due line_kind.Buf fields (Name n ∷ Size max ∷ o ∷ os) typed within = absurd (false≢true typed)
  due line_kind.Buf fields (Name n ∷ _ ∷ os) typed within = absurd (false≢true typed)
  due line_kind.Buf fields (_ ∷ os) typed within = absurd (false≢true typed)
  due line_kind.IfNull fields operands typed within = due_block (limits line_kind.IfNull operands within).1
  due line_kind.IfSome fields operands typed within = due_block (limits line_kind.IfSome operands within).1
  due line_kind.IfEqual fields operands typed within = due_block (limits line_kind.IfEqual operands within).1
  due line_kind.IfLess fields operands typed within = due_block (limits line_kind.IfLess operands within).1
  due line_kind.Repeat fields operands typed within = due_block (limits line_kind.Repeat operands within).1
  due line_kind.Trap fields operands typed within = due_block (limits line_kind.Trap operands within).1
  due _ fields operands typed within = refl

-- one more local
module _ (own : List Declaration) where
  more_kinds : (kinds : List (LocalKind Text)) (locals : List Local) (k : LocalKind Text) (local : Local) → kind_known own k ≡ kind_held local → map (kind_known own) kinds ≡ map kind_held locals → map (kind_known own) (kinds ++ k ∷ []) ≡ map kind_held (locals ++ local ∷ [])
  more_kinds kinds locals k local same are =
      map-append (kind_known own) kinds (k ∷ []) ∙ ap (λ l. l ++ kind_known own k ∷ []) are ∙ ap (λ k. map kind_held locals ++ k ∷ []) same ∙ sym (map-append kind_held locals (local ∷ []))

more_locals : (names : List Text) (name : Text) (locals : List Local) (local : Local) → length names ≡ length locals → length (names ++ name ∷ []) ≡ length (locals ++ local ∷ [])
more_locals names name locals local same = simp (length-append, same)

module _ (own : List Declaration) (known : NamesSoFar) (counts : Counts) (counted : Counted own known counts) where
  -- a line that begins nothing and declares nothing leaves what is counted
  abbrev After : Form Text → Type 0
  After form = Counted own (known_after known form) (counts_after counts (resolved_line own known form))

  no_class : length counts.classes ≡ known.classes + 0
  no_class = counted.classes ∙ sym (add-zero known.classes)

  no_procedure : length counts.procedures ≡ known.procedures + 0
  no_procedure = counted.procedures ∙ sym (add-zero known.procedures)

  no_operation : counts.operations ≡ known.operations + 0
  no_operation = counted.operations ∙ sym (add-zero known.operations)

  same_kinds : map (kind_known own) (known.kinds ++ []) ≡ map kind_held counts.locals
  same_kinds = ap (map (kind_known own)) (append-nil known.kinds) ∙ counted.kinds

  same_locals : length (known.locals ++ []) ≡ length counts.locals
  same_locals = ap length (append-nil known.locals) ∙ counted.locals

  same_fields : length (classes_after role.Field counts.classes) ≡ known.classes + 0
  same_fields = as_many_with_field counts.classes ∙ no_class

  -- the locals of a body that begins with these parameters
  begun_kinds : (form : Form Text) → is_typed form ≡ true → map (kind_known own) (map kind_of_parameter (parameters_in form)) ≡ map kind_held (map local_of_parameter (parameters_of (resolved_line own known form)))
  begun_kinds form typed = held_by_parameters own (parameters_in form) ∙ ap (λ ps. map kind_held (map local_of_parameter ps)) (sym (line_parameters own known form typed))

  begun_locals : (k : LineKind) (operands : List (Operand Text)) → is_typed (Line k operands) ≡ true → length (flat_map name_passed operands) ≡ length (map local_of_parameter (parameters_of (resolved_line own known (Line k operands))))
  begun_locals k operands typed =
      names_passed operands ∙ sym (as_many_parameters own known (Line k operands) typed) ∙ sym (length-map (parameters_of (resolved_line own known (Line k operands))) local_of_parameter)

  pub line_counts : (form : Form Text) → is_typed form ≡ true → After form
  line_counts Skip typed = record { classes = no_class; procedures = no_procedure; operations = no_operation; kinds = same_kinds; locals = same_locals; blocks = counted.blocks }
  line_counts Unknown typed = record { classes = no_class; procedures = no_procedure; operations = no_operation; kinds = same_kinds; locals = same_locals; blocks = counted.blocks }
  line_counts (Line line_kind.Class []) typed = absurd (false≢true typed)
  line_counts (Line line_kind.Class (Name n ∷ os)) typed = record { classes = length-append counts.classes (0 ∷ []) ∙ ap (λ m. m + 1) counted.classes; procedures = no_procedure; operations = no_operation; kinds = same_kinds; locals = same_locals; blocks = refl }
  line_counts (Line line_kind.Class (_ ∷ os)) typed = absurd (false≢true typed)
  line_counts (Line line_kind.Field operands) typed = record { classes = same_fields; procedures = no_procedure; operations = no_operation; kinds = same_kinds; locals = same_locals; blocks = counted.blocks }
  line_counts (Line line_kind.ClassField operands) typed = record { classes = same_fields; procedures = no_procedure; operations = no_operation; kinds = same_kinds; locals = same_locals; blocks = counted.blocks }
  line_counts (Line line_kind.Constructor operands) typed = record { classes = no_class; procedures = no_procedure; operations = no_operation; kinds = refl; locals = refl; blocks = refl }
  line_counts (Line line_kind.Destructor operands) typed = record { classes = no_class; procedures = no_procedure; operations = no_operation; kinds = refl; locals = refl; blocks = refl }
  line_counts (Line line_kind.Proc []) typed = absurd (false≢true typed)
  line_counts (Line line_kind.Proc (Name n ∷ os)) typed =
      record {
        classes = no_class;
        procedures = length-append counts.procedures (parameters_of (resolved_line own known (Line line_kind.Proc (Name n ∷ os))) ∷ []) ∙ ap (λ m. m + 1) counted.procedures;
        operations = no_operation;
        kinds = begun_kinds (Line line_kind.Proc (Name n ∷ os)) typed;
        locals = begun_locals line_kind.Proc (Name n ∷ os) typed;
        blocks = refl;
      }
  line_counts (Line line_kind.Proc (_ ∷ os)) typed = absurd (false≢true typed)
  line_counts (Line line_kind.Op []) typed = absurd (false≢true typed)
  line_counts (Line line_kind.Op (Name n ∷ os)) typed =
      record {
        classes = no_class;
        procedures = no_procedure;
        operations = ap (λ m. m + 1) counted.operations;
        kinds = begun_kinds (Line line_kind.Op (Name n ∷ os)) typed;
        locals = begun_locals line_kind.Op (Name n ∷ os) typed;
        blocks = refl;
      }
  line_counts (Line line_kind.Op (_ ∷ os)) typed = absurd (false≢true typed)
  line_counts (Line line_kind.Ptr []) typed = absurd (false≢true typed)
  line_counts (Line line_kind.Ptr (Name n ∷ [])) typed =
      record { classes = no_class; procedures = no_procedure; operations = no_operation; kinds = more_kinds own known.kinds counts.locals (kind.Pointer None) (OfPointer None) refl counted.kinds; locals = more_locals known.locals n counts.locals (OfPointer None) counted.locals; blocks = counted.blocks }
  line_counts (Line line_kind.Ptr (Name n ∷ o ∷ os)) typed = absurd (false≢true typed)
  line_counts (Line line_kind.Ptr (_ ∷ os)) typed = absurd (false≢true typed)
  line_counts (Line line_kind.Int []) typed = absurd (false≢true typed)
  line_counts (Line line_kind.Int (Name n ∷ [])) typed =
      record { classes = no_class; procedures = no_procedure; operations = no_operation; kinds = more_kinds own known.kinds counts.locals kind.Number OfNumber refl counted.kinds; locals = more_locals known.locals n counts.locals OfNumber counted.locals; blocks = counted.blocks }
  line_counts (Line line_kind.Int (Name n ∷ o ∷ os)) typed = absurd (false≢true typed)
  line_counts (Line line_kind.Int (_ ∷ os)) typed = absurd (false≢true typed)
  line_counts (Line line_kind.View []) typed = absurd (false≢true typed)
  line_counts (Line line_kind.View (Name n ∷ [])) typed =
      record { classes = no_class; procedures = no_procedure; operations = no_operation; kinds = more_kinds own known.kinds counts.locals kind.View OfView refl counted.kinds; locals = more_locals known.locals n counts.locals OfView counted.locals; blocks = counted.blocks }
  line_counts (Line line_kind.View (Name n ∷ o ∷ os)) typed = absurd (false≢true typed)
  line_counts (Line line_kind.View (_ ∷ os)) typed = absurd (false≢true typed)
  line_counts (Line line_kind.ClassPtr (Name n ∷ Name c ∷ [])) typed =
      record { classes = no_class; procedures = no_procedure; operations = no_operation; kinds = more_kinds own known.kinds counts.locals (kind.Pointer (Some c)) (OfPointer (class_named own c)) refl counted.kinds; locals = more_locals known.locals n counts.locals (OfPointer (class_named own c)) counted.locals; blocks = counted.blocks }
  line_counts (Line line_kind.ClassPtr []) typed = absurd (false≢true typed)
  line_counts (Line line_kind.ClassPtr (Name n ∷ [])) typed = absurd (false≢true typed)
  line_counts (Line line_kind.ClassPtr (Name n ∷ Name c ∷ o ∷ os)) typed = absurd (false≢true typed)
  line_counts (Line line_kind.ClassPtr (Name n ∷ _ ∷ os)) typed = absurd (false≢true typed)
  line_counts (Line line_kind.ClassPtr (_ ∷ os)) typed = absurd (false≢true typed)
  line_counts (Line line_kind.Buf (Name n ∷ Size max ∷ [])) typed =
      record { classes = no_class; procedures = no_procedure; operations = no_operation; kinds = more_kinds own known.kinds counts.locals kind.Buffer (OfBuffer max) refl counted.kinds; locals = more_locals known.locals n counts.locals (OfBuffer max) counted.locals; blocks = counted.blocks }
  line_counts (Line line_kind.Buf []) typed = absurd (false≢true typed)
  line_counts (Line line_kind.Buf (Name n ∷ [])) typed = absurd (false≢true typed)
  line_counts (Line line_kind.Buf (Name n ∷ Size max ∷ o ∷ os)) typed = absurd (false≢true typed)
  line_counts (Line line_kind.Buf (Name n ∷ _ ∷ os)) typed = absurd (false≢true typed)
  line_counts (Line line_kind.Buf (_ ∷ os)) typed = absurd (false≢true typed)
  line_counts (Line k operands) typed = record { classes = no_class; procedures = no_procedure; operations = no_operation; kinds = same_kinds; locals = same_locals; blocks = ap (λ b. blocks_after (role_of k) (Line k operands) b) counted.blocks }

pub nothing_yet : (own : List Declaration) → Counted own nothing_known nothing_counted
nothing_yet own = record { classes = refl; procedures = refl; operations = refl; kinds = refl; locals = refl; blocks = refl }
