-- The sort of an operand, as a pass finds it, is what the lines before say.
use Rattle.std.proofs.Common.{◌≡◌, ℕ, List, ◌∷◌, ◌++◌, map, take, Option, Some, None, Bool, true, false, inl, inr, refl, sym, ap, subst, ◌∙◌}
use Rattle.std.specs.Prelude.{if◌then◌else◌, is_some}
use Rattle.std.proofs.lemmas.Bool.{false≢true}
use Rattle.wb_tree.specs.declared.script_lines.ItemKind.{ItemKind}
use Rattle.wb_tree.specs.declared.script_lines.ItemKind.TheVariants as item
use Rattle.wb_tree.specs.declared.script_lines.LineKind.{LineKind}
use Rattle.wb_tree.specs.declared.script_lines.LocalKind.{LocalKind}
use Rattle.wb_tree.specs.declared.script_lines.LocalKind.TheVariants as kind
use Rattle.wb_tree.specs.declared.script_lines.OperandPlace.{OperandPlace}
use Rattle.wb_tree.specs.declared.script_lines.OperandPlace.TheVariants as operand_place
use Rattle.wb_tree.specs.declared.script_lines.OperandKind.{OperandKind}
use Rattle.wb_tree.specs.declared.script_lines.OperandKind.TheVariants as operand_kind
use Rattle.wb_tree.specs.declared.script_lines.ParameterType.TheVariants as parameter_type
use Rattle.wb_tree.specs.declared.script_lines.Referent.{Referent}
use Rattle.wb_tree.specs.declared.script_lines.Referent.TheVariants as referent
use Rattle.wb_tree.specs.declared.script_lines.Operand.{Operand}
use Rattle.wb_tree.specs.declared.script_lines.Operand.TheVariants.{Name, Field, Number, Size, Literal, Parameter, Keyword}
use Rattle.wb_tree.specs.declared.script_lines.Form.{Form}
use Rattle.wb_language.specs.Forms.{role_of_form}
use Rattle.wb_language.specs.Grammar.{IsGrammatical}
use Rattle.wb_language.specs.Kinds.{operand_kind_of, operand_kind_of_class, operand_kind_of_field, operand_kind_of_name}
use Rattle.wb_language.specs.LineKinds.{takes}
use Rattle.wb_language.specs.MissedFields.{DeclareField, IsClassOf}
use Rattle.wb_language.specs.Names.{Text, Declaration, NamesSoFar, count_among, first_declaration_of, is_among, items_of, names_of}
use Rattle.wb_language.specs.Resolved.{class_in, class_named, class_of_base, field_at, field_referent, fields_of_class, has_this, is_this, item_after, item_at, item_referent, local_referent, own_referent, referent_at, referent_of_kind, resolved_operand, this_referent}
use Rattle.wb_language.specs.WrongSorts.{IsOfSort, IsTaken, NamesItem, NamesLocal, TakesSort, sort_of_item, sort_of_local}
use Rattle.wb_lines.specs.Typed.{AreTyped}
use Rattle.wb_script.proofs.names.AbsentNames.{is_known_here}
use Rattle.wb_script.proofs.names.DeclaredHere.{known_following, declared_is, is_declared}
use Rattle.wb_script.proofs.said.ClassFields.{begins_item, class_is_named, declared_fields, fields_declared, first_item, item_first, named_class}
use Rattle.wb_script.proofs.said.DoubleNames.{found_is}
use Rattle.wb_script.proofs.said.FieldNames.{before_typed, class_is, class_there}
use Rattle.wb_script.proofs.said.OpenBodies.{held_named, name_held}

-- of some sort
abbrev pub is_something : OperandKind → Bool
is_something operand_kind.Nothing = false
is_something _ = true

nothing_is : {X : Type 0} (sort : OperandKind) → operand_kind.Nothing ≡ sort → is_something sort ≡ true → X
nothing_is sort e some = absurd (false≢true (ap is_something e ∙ some))

takes_nothing : (place : OperandPlace) → takes place operand_kind.Nothing ≡ false
takes_nothing operand_place.Declared = refl
takes_nothing (operand_place.Keyword k) = refl
takes_nothing _ = refl

taken_something : (place : OperandPlace) (sort : OperandKind) → takes place sort ≡ true → is_something sort ≡ true
taken_something place operand_kind.Nothing is = absurd (false≢true (sym (takes_nothing place) ∙ is))
taken_something place _ is = refl

item_sort : (kind : ItemKind) (index : ℕ) → operand_kind_of_name (referent_of_kind kind index) ≡ sort_of_item kind
item_sort item.Class index = refl
item_sort item.Procedure index = refl
item_sort item.Operation index = refl

local_sort : (k : LocalKind Text) (index : ℕ) → operand_kind_of_name (local_referent index (Some k)) ≡ sort_of_local k
local_sort (kind.Pointer class) index = refl
local_sort kind.Number index = refl
local_sort kind.Buffer index = refl
local_sort kind.View index = refl

class_sort : (r : Referent) → operand_kind_of_class r ≡ (if is_some (class_in r) then operand_kind.Parameter else operand_kind.Nothing)
class_sort (referent.Class index) = refl
class_sort _ = refl

-- What a name names in the script's own space.
pub item_named : (forms : List (Form Text)) (name : Text) (sort : OperandKind) → operand_kind_of_name (item_referent (items_of forms) name) ≡ sort → is_something sort ≡ true → NamesItem forms name sort
item_named forms name sort is some = go (first_declaration_of (names_of (items_of forms)) name) refl is
  where
    go : (o : Option ℕ) → first_declaration_of (names_of (items_of forms)) name ≡ o → operand_kind_of_name (item_at (items_of forms) o) ≡ sort → NamesItem forms name sort
    go None at h = nothing_is sort h some
    go (Some n) at h =
        let (earlier, following, head, i, (parts, declares, none), found) = first_item forms name n at in
        let begins = begins_item head following i found.begun in
        let there : sort_of_item i.kind ≡ sort =
        sym (item_sort i.kind (count_among i.kind (take n (items_of forms)))) ∙ ap (λ o. operand_kind_of_name (item_after (take n (items_of forms)) o)) (sym found.there) ∙ h in
        (i.kind, head, sym there, (earlier, following, parts, declares, none, begins.same_kind))

pub name_of_item : (forms : List (Form Text)) (name : Text) (sort : OperandKind) → NamesItem forms name sort → operand_kind_of_name (item_referent (items_of forms) name) ≡ sort
name_of_item forms name sort (k, head, is, (earlier, following, parts, declares, none, of_kind)) = subst (λ l. operand_kind_of_name (item_referent (items_of l) name) ≡ sort) (sym parts) here
  where
    here : operand_kind_of_name (item_referent (items_of (earlier ++ head ∷ following)) name) ≡ sort
    here =
        let (n, i, found) = item_first earlier following head name declares none in
        let lines = earlier ++ head ∷ following in
        let begins = begins_item head following i found.begun in
        let same : i.kind ≡ k = cc (begins.same_kind, of_kind) in
        ap (λ o. operand_kind_of_name (item_at (items_of lines) o)) found.found
        ∙ ap (λ o. operand_kind_of_name (item_after (take n (items_of lines)) o)) found.there
        ∙ item_sort i.kind (count_among i.kind (take n (items_of lines)))
        ∙ ap sort_of_item same
        ∙ sym is

class_taken : (forms : List (Form Text)) (class : Text) (sort : OperandKind) → operand_kind_of_class (item_referent (items_of forms) class) ≡ sort → is_something sort ≡ true → (sort ≡ operand_kind.Parameter) × TakesSort forms (parameter_type.OfClass class)
class_taken forms class sort is some = go (class_named (items_of forms) class) refl (sym (class_sort (item_referent (items_of forms) class)) ∙ is)
  where
    go : (o : Option ℕ) → class_named (items_of forms) class ≡ o → (if is_some o then operand_kind.Parameter else operand_kind.Nothing) ≡ sort → (sort ≡ operand_kind.Parameter) × TakesSort forms (parameter_type.OfClass class)
    go None at h = nothing_is sort h some
    go (Some index) at h = let (following, named, fields) = named_class forms class index at in (sym h, (following, named))

taken_class : (forms : List (Form Text)) (class : Text) → TakesSort forms (parameter_type.OfClass class) → operand_kind_of_class (item_referent (items_of forms) class) ≡ operand_kind.Parameter
taken_class forms class (following, named) =
    let (index, is, fields) = class_is_named forms class following named in
    class_sort (item_referent (items_of forms) class) ∙ ap (λ (o : Option ℕ). if is_some o then operand_kind.Parameter else operand_kind.Nothing) is

module _ (forms before rest : List (Form Text)) (grammar : IsGrammatical (map role_of_form forms)) (typed : AreTyped forms) (parts : forms ≡ before ++ rest) where
  abbrev here : NamesSoFar
  here = known_following before

  abbrev items : List Declaration
  items = items_of forms

  first_typed : AreTyped before
  first_typed = before_typed forms before rest grammar typed parts

  -- What a name names in the space of the body.
  local_named : (name : Text) (sort : OperandKind) → operand_kind_of_name (own_referent here name) ≡ sort → is_something sort ≡ true → NamesLocal before name sort
  local_named name sort is some = go (is_this name) refl is
    where
      this : is_this name ≡ true → (b : Bool) → has_this here.body ≡ b → operand_kind_of_name (if b then referent.This else referent.Nothing) ≡ sort → NamesLocal before name sort
      this e true body h =
          let known : is_known_here here name ≡ true = ap (λ (b : Bool). if b then has_this here.body else is_among here.locals name) e ∙ body in
          inl (e, sym h, is_declared before name known)
      this e false body h = nothing_is sort h some

      local : is_this name ≡ false → (o : Option ℕ) → first_declaration_of here.locals name ≡ o → operand_kind_of_name (referent_at here.kinds o) ≡ sort → NamesLocal before name sort
      local e None at h = nothing_is sort h some
      local e (Some i) at h =
          let (k, there, held) = name_held before first_typed name i at in
          inr (e, k, sym h ∙ ap (λ o. operand_kind_of_name (local_referent i o)) there ∙ local_sort k i, held)

      go : (b : Bool) → is_this name ≡ b → operand_kind_of_name (if b then this_referent here.body else referent_at here.kinds (first_declaration_of here.locals name)) ≡ sort → NamesLocal before name sort
      go true e h = this e (has_this here.body) refl h
      go false e h = local e (first_declaration_of here.locals name) refl h

  name_of_local : (name : Text) (sort : OperandKind) → NamesLocal before name sort → operand_kind_of_name (own_referent here name) ≡ sort
  name_of_local name sort (inl (e, is, declared)) =
      let known = declared_is before name declared in
      let body : has_this here.body ≡ true = ap (λ (b : Bool). if b then has_this here.body else is_among here.locals name) (sym e) ∙ known in
      ap (λ (b : Bool). operand_kind_of_name (if b then this_referent here.body else referent_at here.kinds (first_declaration_of here.locals name))) e
      ∙ ap (λ (b : Bool). operand_kind_of_name (if b then referent.This else referent.Nothing)) body
      ∙ sym is
  name_of_local name sort (inr (e, k, is, held)) =
      let (i, at, there) = held_named before first_typed name k held in
      ap (λ (b : Bool). operand_kind_of_name (if b then this_referent here.body else referent_at here.kinds (first_declaration_of here.locals name))) e
      ∙ ap (λ o. operand_kind_of_name (referent_at here.kinds o)) at
      ∙ ap (λ o. operand_kind_of_name (local_referent i o)) there
      ∙ local_sort k i
      ∙ sym is

  -- A field.
  abbrev FieldThere : Text → Text → OperandKind → Type 0
  FieldThere base field sort = (sort ≡ operand_kind.Field) × (following : List (Form Text)) × IsClassOf forms before base following × DeclareField following field

  field_there : (base field : Text) (sort : OperandKind) → operand_kind_of_field (field_referent items (class_of_base items here base) field) ≡ sort → is_something sort ≡ true → FieldThere base field sort
  field_there base field sort is some = go (class_of_base items here base) refl is
    where
      among : (class : ℕ) → class_of_base items here base ≡ Some class → (o : Option ℕ) → first_declaration_of (fields_of_class items class) field ≡ o → operand_kind_of_field (field_at class o) ≡ sort → FieldThere base field sort
      among class of_class None at h = nothing_is sort h some
      among class of_class (Some i) at h =
          let (following, base_class, fields) = class_there forms before rest grammar typed parts base class of_class in
          let found : is_among (fields_of_class items class) field ≡ true = sym (found_is (fields_of_class items class) field) ∙ ap is_some at in
          (sym h, following, base_class, declared_fields following field (ap (λ l. is_among l field) (sym fields) ∙ found))

      go : (c : Option ℕ) → class_of_base items here base ≡ c → operand_kind_of_field (field_referent items c field) ≡ sort → FieldThere base field sort
      go None of_class h = nothing_is sort h some
      go (Some class) of_class h = among class of_class (first_declaration_of (fields_of_class items class) field) refl h

  field_is : (base field : Text) (sort : OperandKind) → FieldThere base field sort → operand_kind_of_field (field_referent items (class_of_base items here base) field) ≡ sort
  field_is base field sort (is, following, base_class, declared) =
      let (class, of_class, fields) = class_is forms before rest grammar typed parts base following base_class in
      let found = found_is (fields_of_class items class) field ∙ ap (λ l. is_among l field) fields ∙ fields_declared following field declared in
      ap (λ c. operand_kind_of_field (field_referent items c field)) of_class ∙ go class (first_declaration_of (fields_of_class items class) field) found ∙ sym is
    where
      go : (class : ℕ) (o : Option ℕ) → is_some o ≡ true → operand_kind_of_field (field_at class o) ≡ operand_kind.Field
      go class None found = absurd (false≢true found)
      go class (Some i) found = refl

  -- An operand in its place.
  pub sort_there : (k : LineKind) (place : OperandPlace) (operand : Operand Text) (sort : OperandKind) → operand_kind_of (resolved_operand items here k place operand) ≡ sort → is_something sort ≡ true → IsOfSort forms before place operand sort
  sort_there k operand_place.Declared (Name name) sort is some = sym is
  sort_there k operand_place.Class (Name name) sort is some = item_named forms name sort is some
  sort_there k operand_place.Procedure (Name name) sort is some = item_named forms name sort is some
  sort_there k operand_place.Operation (Name name) sort is some = item_named forms name sort is some
  sort_there k _ (Name name) sort is some = local_named name sort is some
  sort_there k place (Field base field) sort is some = field_there base field sort is some
  sort_there k place (Number z) sort is some = sym is
  sort_there k place (Size n) sort is some = sym is
  sort_there k place (Literal text) sort is some = sym is
  sort_there k place (Parameter name parameter_type.Pointer) sort is some = (sym is, tt)
  sort_there k place (Parameter name parameter_type.Number) sort is some = (sym is, tt)
  sort_there k place (Parameter name (parameter_type.OfClass class)) sort is some = class_taken forms class sort is some
  sort_there k place Keyword sort is some = sym is

  pub sort_is : (k : LineKind) (place : OperandPlace) (operand : Operand Text) (sort : OperandKind) → IsOfSort forms before place operand sort → operand_kind_of (resolved_operand items here k place operand) ≡ sort
  sort_is k operand_place.Declared (Name name) sort is = sym is
  sort_is k operand_place.Class (Name name) sort is = name_of_item forms name sort is
  sort_is k operand_place.Procedure (Name name) sort is = name_of_item forms name sort is
  sort_is k operand_place.Operation (Name name) sort is = name_of_item forms name sort is
  sort_is k _ (Name name) sort is = name_of_local name sort is
  sort_is k place (Field base field) sort is = field_is base field sort is
  sort_is k place (Number z) sort is = sym is
  sort_is k place (Size n) sort is = sym is
  sort_is k place (Literal text) sort is = sym is
  sort_is k place (Parameter name parameter_type.Pointer) sort (is, any) = sym is
  sort_is k place (Parameter name parameter_type.Number) sort (is, any) = sym is
  sort_is k place (Parameter name (parameter_type.OfClass class)) sort (is, named) = taken_class forms class named ∙ sym is
  sort_is k place Keyword sort is = sym is

  -- It is one that a place takes, exactly if the pass finds it so.
  pub taken_there : (k : LineKind) (taker place : OperandPlace) (operand : Operand Text) → takes taker (operand_kind_of (resolved_operand items here k place operand)) ≡ true → IsTaken forms before taker place operand
  taken_there k taker place operand is =
      let sort = operand_kind_of (resolved_operand items here k place operand) in
      (sort, sort_there k place operand sort refl (taken_something taker sort is), is)

  pub is_taken : (k : LineKind) (taker place : OperandPlace) (operand : Operand Text) → IsTaken forms before taker place operand → takes taker (operand_kind_of (resolved_operand items here k place operand)) ≡ true
  is_taken k taker place operand (sort, is, takes_it) = ap (takes taker) (sort_is k place operand sort is) ∙ takes_it
