-- A pass finds an unknown name where a line uses a name that is declared nowhere in its space.
use Rattle.std.proofs.Common.{◌≡◌, ℕ, ◌-◌, ◌<◌, List, [], ◌∷◌, ◌++◌, length, map, Option, Some, None, Bool, true, false, not, ◌||◌, inl, inr, refl, sym, ap, subst, ◌∙◌}
use Rattle.std.specs.Prelude.{if◌then◌else◌}
use Rattle.std.specs.List.{list_all, list_any}
use Rattle.std.proofs.lemmas.Bool.{false≢true}
use Rattle.std.proofs.lemmas.List.Folds.{list_all-append}
use Rattle.wb_language.specs.declared.fault.ScriptFault.{ScriptFault}
use Rattle.wb_language.specs.declared.fault.ScriptFault.TheVariants.{UnknownName}
use Rattle.wb_tree.specs.declared.script.Script.{Script}
use Rattle.wb_tree.specs.declared.script_lines.LocalKind.{LocalKind}
use Rattle.wb_tree.specs.declared.script_lines.LocalKind.TheVariants as kind
use Rattle.wb_tree.specs.declared.script_lines.OperandPlace.{OperandPlace}
use Rattle.wb_tree.specs.declared.script_lines.Operand.{Operand}
use Rattle.wb_tree.specs.declared.script_lines.Operand.TheVariants.{Name, Field, Number, Size, Literal, Parameter, Keyword}
use Rattle.wb_tree.specs.declared.script_lines.Form.{Form}
use Rattle.wb_tree.specs.declared.script_lines.Form.TheVariants.{Skip, Unknown, Line}
use Rattle.wb_language.specs.FaultOrder.{number_of_fault}
use Rattle.wb_language.specs.FirstLines.{IsFirstLine, IsOfNoLine}
use Rattle.wb_language.specs.Forms.{forms_of, role_of_form}
use Rattle.wb_language.specs.Grammar.{IsGrammatical}
use Rattle.wb_language.specs.LineKinds.{operand_places_for}
use Rattle.wb_language.specs.Lines.{lines_of}
use Rattle.wb_language.specs.MissedFields.{field_named, DeclareField, IsClassAround, IsClassOf, IsHeldAs, MissesField, UsesUnknown}
use Rattle.wb_language.specs.Names.{Text, Declaration, NamesSoFar, first_declaration_of, following_fields, is_among, items_of}
use Rattle.wb_language.specs.Resolved.{class_named, class_of_base, class_of_kind, class_of_local, class_of_this, fields_of_class, has_this, is_this, uses_unknown}
use Rattle.wb_language.specs.Scripts.{IsFaultOf, IsScriptOf}
use Rattle.wb_language.specs.Undeclared.{UsesUndeclared, field_missed, is_missing, names_used, used_in, uses_undeclared_field}
use Rattle.wb_lines.specs.Typed.{is_typed, AreTyped}
use Rattle.wb_lines.proofs.TypedLemmas.{both}
use Rattle.wb_script.proofs.names.AbsentNames.{is_known_here}
use Rattle.wb_script.proofs.names.DeclaredHere.{known_following, declared_is, is_declared}
use Rattle.wb_script.proofs.one_script.NameLaws.{typed_lines, undeclared, is_unknown}
use Rattle.wb_script.proofs.said.ClassAround.{class_around, class_begun_before, fields_around}
use Rattle.wb_script.proofs.said.ClassFields.{class_is_named, declared_fields, fields_declared, named_class}
use Rattle.wb_script.proofs.said.LaterFaults.{none_unknown}
use Rattle.wb_script.proofs.said.FirstSaid.{AreRefused, first_said, none_said}
use Rattle.wb_script.proofs.said.OpenBodies.{held_named, name_held}
use Rattle.wb_script.proofs.said.SinceLines.{found_in, passes_in}

module _ (forms before rest : List (Form Text)) (grammar : IsGrammatical (map role_of_form forms)) (typed : AreTyped forms) (parts : forms ≡ before ++ rest) where
  abbrev here : NamesSoFar
  here = known_following before

  abbrev items : List Declaration
  items = items_of forms

  pub before_typed : AreTyped before
  before_typed =
      let whole : AreTyped (before ++ rest) = subst AreTyped parts typed in
      (both (list_all is_typed before) (list_all is_typed rest) (sym (list_all-append is_typed before rest) ∙ whole)).0

  -- The class of `self`, and of another name.
  abbrev HasFields : ℕ → List (Form Text) → Type 0
  HasFields index following = fields_of_class items index ≡ following_fields following

  this_there : (index : ℕ) → class_of_this here ≡ Some index → (has_this here.body ≡ true) × ((following : List (Form Text)) × IsClassAround forms before following × HasFields index following)
  this_there index is = go (has_this here.body) refl is
    where
      go : (b : Bool) → has_this here.body ≡ b → (if b then Some (here.classes - 1) else None) ≡ Some index → (has_this here.body ≡ true) × ((following : List (Form Text)) × IsClassAround forms before following × HasFields index following)
      go false e h = let clash : ⊥ = cc in absurd clash
      go true e h =
          let same : here.classes - 1 ≡ index = cc in
          let (following, around) = class_around forms before rest typed parts (class_begun_before forms before rest grammar typed parts e) in
          (e, (following, around, ap (fields_of_class items) (sym same) ∙ fields_around forms before rest typed parts following around))

  -- what is held by a name that has an index
  held_there : (base : Text) (index : ℕ) → class_of_local items here.kinds (first_declaration_of here.locals base) ≡ Some index →
      (class : Text) × IsHeldAs before base (kind.Pointer (Some class)) × (class_named items class ≡ Some index)
  held_there base index is = go (first_declaration_of here.locals base) refl is
    where
      by_kind : (k : LocalKind Text) → IsHeldAs before base k → class_of_kind items (Some k) ≡ Some index → (class : Text) × IsHeldAs before base (kind.Pointer (Some class)) × (class_named items class ≡ Some index)
      by_kind (kind.Pointer None) held h = let clash : ⊥ = cc in absurd clash
      by_kind (kind.Pointer (Some class)) held h = (class, held, h)
      by_kind kind.Number held h = let clash : ⊥ = cc in absurd clash
      by_kind kind.Buffer held h = let clash : ⊥ = cc in absurd clash
      by_kind kind.View held h = let clash : ⊥ = cc in absurd clash

      go : (o : Option ℕ) → first_declaration_of here.locals base ≡ o → class_of_local items here.kinds o ≡ Some index → (class : Text) × IsHeldAs before base (kind.Pointer (Some class)) × (class_named items class ≡ Some index)
      go None at h = let clash : ⊥ = cc in absurd clash
      go (Some i) at h =
          let (k, there, held) = name_held before before_typed base i at in
          by_kind k held (ap (class_of_kind items) (sym there) ∙ h)

  pub class_there : (base : Text) (index : ℕ) → class_of_base items here base ≡ Some index → (following : List (Form Text)) × IsClassOf forms before base following × HasFields index following
  class_there base index is = go (is_this base) refl is
    where
      go : (b : Bool) → is_this base ≡ b → (if b then class_of_this here else class_of_local items here.kinds (first_declaration_of here.locals base)) ≡ Some index → (following : List (Form Text)) × IsClassOf forms before base following × HasFields index following
      go true e h =
          let (this, (following, around, fields)) = this_there index h in
          let known : is_known_here here base ≡ true = ap (λ (b : Bool). if b then has_this here.body else is_among here.locals base) e ∙ this in
          (following, inl (e, is_declared before base known, around), fields)
      go false e h =
          let (class, held, named) = held_there base index h in
          let (following, names, fields) = named_class forms class index named in
          (following, inr (e, class, held, names), fields)

  pub class_is : (base : Text) (following : List (Form Text)) → IsClassOf forms before base following → (index : ℕ) × (class_of_base items here base ≡ Some index) × HasFields index following
  class_is base following (inl (this, declared, around)) =
      let known = declared_is before base declared in
      let body : has_this here.body ≡ true = ap (λ (b : Bool). if b then has_this here.body else is_among here.locals base) (sym this) ∙ known in (
        here.classes - 1,
        ap (λ (b : Bool). if b then class_of_this here else class_of_local items here.kinds (first_declaration_of here.locals base)) this ∙ ap (λ (b : Bool). if b then Some (here.classes - 1) else None) body,
        fields_around forms before rest typed parts following around,
      )
  class_is base following (inr (other, class, held, named)) =
      let (index, is, fields) = class_is_named forms class following named in
      let (i, at, of_kind) = held_named before before_typed base (kind.Pointer (Some class)) held in (
        index,
        ap (λ (b : Bool). if b then class_of_this here else class_of_local items here.kinds (first_declaration_of here.locals base)) other ∙ ap (class_of_local items here.kinds) at ∙ ap (class_of_kind items) of_kind ∙ is,
        fields,
      )

  -- A field that its class doesn't declare.
  abbrev misses : Text × Text → Bool
  misses named = is_missing items (class_of_base items here named.0) named.1

  not_true : (b : Bool) → not b ≡ true → b ≡ false
  not_true true is = absurd (false≢true is)
  not_true false is = refl

  missing_there : (base field : Text) → misses (base, field) ≡ true → (following : List (Form Text)) × IsClassOf forms before base following × (DeclareField following field → ⊥)
  missing_there base field is = go (class_of_base items here base) refl is
    where
      go : (c : Option ℕ) → class_of_base items here base ≡ c → is_missing items c field ≡ true → (following : List (Form Text)) × IsClassOf forms before base following × (DeclareField following field → ⊥)
      go None at h = absurd (false≢true h)
      go (Some index) at h =
          let (following, class, fields) = class_there base index at in
          let absent = not_true (is_among (fields_of_class items index) field) h in
          (following, class, λ declared. let there = ap (λ l. is_among l field) fields ∙ fields_declared following field declared in cc (absent, there))

  is_missed : (base field : Text) (following : List (Form Text)) → IsClassOf forms before base following → (DeclareField following field → ⊥) → misses (base, field) ≡ true
  is_missed base field following class none =
      let (index, at, fields) = class_is base following class in
      ap (λ c. is_missing items c field) at ∙ ap (λ l. not (is_among l field)) fields ∙ ap not (never (is_among (following_fields following) field) (λ e. none (declared_fields following field e)))
    where
      never : (b : Bool) → (b ≡ true → ⊥) → b ≡ false
      never true unless = absurd (unless refl)
      never false unless = refl

  -- the fields of a line
  one_each : (places : List OperandPlace) (operands : List (Operand Text)) → names_used (field_missed items here) places operands ≡ map misses (names_used field_named places operands)
  one_each [] operands = refl
  one_each (place ∷ places) [] = refl
  one_each (place ∷ places) (operand ∷ operands) = ap (λ l. field_missed items here place operand ++ l) (one_each places operands) ∙ one operand
    where
      one : (operand : Operand Text) → field_missed items here place operand ++ map misses (names_used field_named places operands) ≡ map misses (field_named place operand ++ names_used field_named places operands)
      one (Field base field) = refl
      one (Name n) = refl
      one (Number z) = refl
      one (Size n) = refl
      one (Literal t) = refl
      one (Parameter n t) = refl
      one Keyword = refl

  any_missed : (named : List (Text × Text)) → list_any (λ b. b) (map misses named) ≡ list_any misses named
  any_missed [] = refl
  any_missed (n ∷ named) = ap (λ b. misses n || b) (any_missed named)

  in_line : (form : Form Text) → uses_undeclared_field forms before form ≡ list_any misses (used_in field_named form)
  in_line Skip = refl
  in_line Unknown = refl
  in_line (Line k operands) =
      ap (list_any (λ b. b)) (one_each (operand_places_for k (length operands)) operands) ∙ any_missed (names_used field_named (operand_places_for k (length operands)) operands)

  missed_field : (form : Form Text) → uses_undeclared_field forms before form ≡ true → MissesField forms before form
  missed_field form is =
      let (first, last, (base, field), split, missed) = found_in misses (used_in field_named form) (sym (in_line form) ∙ is) in
      let (following, class, none) = missing_there base field missed in
      (base, field, first, last, split, following, class, none)

  field_is_missed : (form : Form Text) → MissesField forms before form → uses_undeclared_field forms before form ≡ true
  field_is_missed form (base, field, first, last, split, following, class, none) =
      in_line form ∙ ap (list_any misses) split ∙ passes_in misses first last (base, field) (is_missed base field following class none)

  to_unknown : (form : Form Text) → uses_unknown items here form ≡ true → UsesUnknown forms before form
  to_unknown form is = go (undeclared forms before form before_typed is)
    where
      go : UsesUndeclared forms before form → UsesUnknown forms before form
      go (inl name) = inl name
      go (inr field) = inr (missed_field form field)

  from_unknown : (form : Form Text) → UsesUnknown forms before form → uses_unknown items here form ≡ true
  from_unknown form (inl name) = is_unknown forms before form before_typed (inl name)
  from_unknown form (inr field) = is_unknown forms before form before_typed (inr (field_is_missed form field))

refused_unknown : (forms : List (Form Text)) → IsGrammatical (map role_of_form forms) → AreTyped forms → AreRefused UsesUnknown (uses_unknown (items_of forms)) forms
refused_unknown forms grammar typed before after form whole = (to_unknown forms before (form ∷ after) grammar typed whole form, from_unknown forms before (form ∷ after) grammar typed whole form)

pub unknown_used : (bytes : List ℕ) (n : ℕ) → IsFaultOf bytes (UnknownName n) → IsFirstLine UsesUnknown (forms_of (lines_of bytes)) n
unknown_used bytes n (formed, is) =
    let forms = forms_of (lines_of bytes) in
    first_said UsesUnknown (uses_unknown (items_of forms)) forms (refused_unknown forms formed.grammar (typed_lines bytes formed.text.short)) n is

pub script_known : (bytes : List ℕ) (script : Script) → IsScriptOf bytes script → IsOfNoLine UsesUnknown (forms_of (lines_of bytes))
script_known bytes script is =
    let forms = forms_of (lines_of bytes) in
    none_said UsesUnknown (uses_unknown (items_of forms)) forms (refused_unknown forms is.well_formed.grammar (typed_lines bytes is.well_formed.text.short)) is.tree.named.known

pub none_used : (bytes : List ℕ) (fault : ScriptFault) → IsFaultOf bytes fault → 4 < number_of_fault fault → IsOfNoLine UsesUnknown (forms_of (lines_of bytes))
none_used bytes fault is later =
    let (formed, none) = none_unknown bytes fault is later in
    let forms = forms_of (lines_of bytes) in
    none_said UsesUnknown (uses_unknown (items_of forms)) forms (refused_unknown forms formed.grammar (typed_lines bytes formed.text.short)) none
