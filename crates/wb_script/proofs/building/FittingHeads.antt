-- Which lines begin an item, or are of a class: those that fit.
use Rattle.std.proofs.Common.{◌≡◌, refl, sym, ap, subst, ◌∙◌, ℕ, suc, ◌+◌, ◌-◌, ◌<◌, List, [], ◌∷◌, ◌++◌, length, Option, Some, None, Bool, true, false, ◌&&◌, nat_eq, nat_le, nat_lt, IsTrue, arith}
use Rattle.std.proofs.lemmas.Bool.{false≢true}
use Rattle.std.specs.Prelude.{replicate, is_some}
use Rattle.std.proofs.lemmas.List.{length-map}
use Rattle.wb_basics.specs.declared.limits.TheConstants.{MOST_CLASSES, MOST_EXTRA, MOST_FIELDS, MOST_PROCEDURES}
use Rattle.wb_tree.specs.declared.script.Class.{Class}
use Rattle.wb_tree.specs.declared.script_lines.Form.TheVariants.{Line}
use Rattle.wb_tree.specs.declared.script_lines.LineKind.{LineKind}
use Rattle.wb_tree.specs.declared.script_lines.LineKind.TheVariants as line_kind
use Rattle.wb_tree.specs.declared.script_lines.OperandPlace.TheVariants as operand_place
use Rattle.wb_tree.specs.declared.script_lines.Referent.{Referent}
use Rattle.wb_tree.specs.declared.script_lines.Referent.TheVariants as referent
use Rattle.wb_tree.specs.declared.script_lines.Operand.{Operand}
use Rattle.wb_tree.specs.declared.script_lines.Operand.TheVariants.{Name, Field, Parameter}
use Rattle.wb_tree.specs.declared.script_lines.Role.TheVariants as role
use Rattle.wb_tree.specs.declared.script_lines.ParameterType.TheVariants as parameter_type
use Rattle.wb_language.specs.LineKinds.{role_of}
use Rattle.wb_tree.specs.Sound.{Declared, Scope, fields_declared}
use Rattle.wb_script.specs.declared.tree.whole.WholeItems.{WholeItems}
use Rattle.wb_script.specs.Building.{Counts, declares, fits, is_due, is_small, last_count, scope_at}
use Rattle.wb_script.specs.Growing.{are_parameters, counts_of_class, counts_whole, is_parameter_operand, is_procedure_head, parameters_of_operands}
use Rattle.wb_script.specs.Fitting.{operand_places_fit, operand_fits, operands_fit}
use Rattle.wb_script.proofs.building.HeadParameters.{spelled_parameters}
use Rattle.wb_script.proofs.lists.Tests.{parts, together, below_of}

never : (a : Bool) → (a && false) ≡ true → ⊥
never true e = cc
never false e = cc

-- an operand that fits a parameter's place is one
fit_parameter : (literals : ℕ) (scope : Scope) (o : Operand Referent) → operand_fits literals scope operand_place.Parameter o ≡ true → is_parameter_operand (length scope.fields) o ≡ true
fit_parameter literals scope (Parameter referent.Parameter parameter_type.Pointer) is = refl
fit_parameter literals scope (Parameter referent.Parameter parameter_type.Number) is = refl
fit_parameter literals scope (Parameter referent.Parameter (parameter_type.OfClass (referent.Class class))) is = is
fit_parameter literals scope (Parameter referent.Parameter (parameter_type.OfClass _)) is = absurd (false≢true is)
fit_parameter literals scope (Parameter _ k) is = absurd (never _ is)
fit_parameter literals scope (Name (referent.Declared i)) is = absurd (false≢true is)
fit_parameter literals scope (Name _) is = absurd (false≢true is)
fit_parameter literals scope (Field base (referent.Field class i)) is = absurd (false≢true is)
fit_parameter literals scope (Field base _) is = absurd (false≢true is)
fit_parameter literals scope _ is = absurd (false≢true is)

fit_parameters : (literals : ℕ) (scope : Scope) (operands : List (Operand Referent)) → operand_places_fit literals scope (replicate (length operands) operand_place.Parameter) operands ≡ true → are_parameters (length scope.fields) operands ≡ true
fit_parameters literals scope [] is = refl
fit_parameters literals scope (o ∷ operands) is =
    let (here, rest) = parts (operand_fits literals scope operand_place.Parameter o) (operand_places_fit literals scope (replicate (length operands) operand_place.Parameter) operands) is in
    together _ _ (fit_parameter literals scope o here) (fit_parameters literals scope operands rest)

-- operands of which the first is the name that the line declares
pub record IsNamed (operands : List (Operand Referent)) : Type 0 where
  pub name : ℕ
  pub rest : List (Operand Referent)
  pub is : operands ≡ Name (referent.Declared name) ∷ rest

named_first : (index : ℕ) (operands : List (Operand Referent)) → declares index operands ≡ true → IsNamed operands
named_first index [] next = let clash : ⊥ = cc in absurd clash
named_first index (Name (referent.Declared name) ∷ rest) next = record { name = name; rest = rest; is = refl }
named_first index (Name _ ∷ rest) next = let clash : ⊥ = cc in absurd clash
named_first index (_ ∷ rest) next = let clash : ⊥ = cc in absurd clash

module _ (declared : Declared) (counts : Counts) where
  abbrev scope : Scope
  scope = scope_at declared counts

  abbrev room : Bool
  room = nat_lt (length counts.procedures + counts.operations) MOST_PROCEDURES

  -- the operands of a line that fits and declares something
  next_name : (k : LineKind) (index : ℕ) (operands : List (Operand Referent)) (others : Bool) → fits declared counts (Line k operands) ≡ true → is_due (role_of k) counts (Line k operands) operands ≡ (declares index operands && others) → IsNamed operands
  next_name k index operands others fit is =
      let due = (parts (is_due (role_of k) counts (Line k operands) operands) _ (parts (operands_fit declared scope k operands) _ fit).1).0 in
      named_first index operands (parts (declares index operands) others (sym is ∙ due)).0

  -- a line that fits and begins a procedure
  fit_named_procedure : (name : ℕ) (rest : List (Operand Referent)) → fits declared counts (Line line_kind.Proc (Name (referent.Declared name) ∷ rest)) ≡ true →
      (room ≡ true) × (is_procedure_head (length declared.fields) (length counts.procedures) (Name (referent.Declared name) ∷ rest) ≡ true)
  fit_named_procedure name rest fit =
      let fitting = parts (operand_places_fit declared.literals scope (replicate (suc (length rest) - 1) operand_place.Parameter) rest) _ fit in
      let less : suc (length rest) - 1 ≡ length rest = omega arith in
      let all = fit_parameters declared.literals scope rest (subst (λ n. IsTrue (operand_places_fit declared.literals scope (replicate n operand_place.Parameter) rest)) less fitting.0) in
      let passed = parameters_of_operands rest in
      let due = parts (nat_eq name (length counts.procedures) && (room && (nat_le (length passed) 4 && true))) _ fitting.1 in
      let named = parts (nat_eq name (length counts.procedures)) (room && (nat_le (length passed) 4 && true)) due.0 in
      let roomy = parts room (nat_le (length passed) 4 && true) named.1 in
      let few = parts (nat_le (length passed) 4) true roomy.1 in
      (roomy.0, together _ _ named.0 (together _ _ (ap (λ n. nat_le n 4) (sym (spelled_parameters (length declared.fields) rest all).many) ∙ few.0) all))

  pub fit_procedure : (operands : List (Operand Referent)) → fits declared counts (Line line_kind.Proc operands) ≡ true → (room ≡ true) × (is_procedure_head (length declared.fields) (length counts.procedures) operands ≡ true)
  fit_procedure operands fit =
      let first = next_name line_kind.Proc (length counts.procedures) operands _ fit refl in
      subst (λ o. (room ≡ true) × (is_procedure_head (length declared.fields) (length counts.procedures) o ≡ true)) (sym first.is)
      (fit_named_procedure first.name first.rest (subst (λ o. fits declared counts (Line line_kind.Proc o) ≡ true) first.is fit))

  -- a class: its operands, and that there is room for it
  pub record IsFitClass (operands : List (Operand Referent)) : Type 0 where
    pub operand_places : IsTrue (operand_places_fit declared.literals scope (operand_place.Declared ∷ operand_place.Size ∷ []) operands)
    pub next : IsTrue (declares (length counts.classes) operands)
    pub room : length counts.classes < MOST_CLASSES
    pub small : IsTrue (is_small MOST_EXTRA operands)

  pub fit_class : (operands : List (Operand Referent)) → fits declared counts (Line line_kind.Class operands) ≡ true → IsFitClass operands
  fit_class operands fit =
      let line = Line line_kind.Class operands in
      let (operand_places, rest) = parts (operands_fit declared scope line_kind.Class operands) _ fit in
      let (due, stands) = parts (is_due role.Class counts line operands) _ rest in
      let (next, more) = parts (declares (length counts.classes) operands) (nat_lt (length counts.classes) MOST_CLASSES && is_small MOST_EXTRA operands) due in
      let (few, small) = parts (nat_lt (length counts.classes) MOST_CLASSES) (is_small MOST_EXTRA operands) more in
      record { operand_places = operand_places; next = next; room = below_of (length counts.classes) 64 few; small = small }

  -- a field
  pub record IsFitField (k : LineKind) (operands : List (Operand Referent)) : Type 0 where
    pub operand_places : IsTrue (operands_fit declared scope k operands)
    pub next : IsTrue (declares (last_count counts.classes) operands)
    pub room : last_count counts.classes < MOST_FIELDS

  pub fit_field : (k : LineKind) (operands : List (Operand Referent)) → role_of k ≡ role.Field → fits declared counts (Line k operands) ≡ true → IsFitField k operands
  fit_field k operands is fit =
      let line = Line k operands in
      let (operand_places, rest) = parts (operands_fit declared scope k operands) _ fit in
      let (any_due, stands) = parts (is_due (role_of k) counts line operands) _ rest in
      let due : is_due role.Field counts line operands ≡ true = subst (λ r. is_due r counts line operands ≡ true) is any_due in
      let (next, few) = parts (declares (last_count counts.classes) operands) (nat_lt (last_count counts.classes) MOST_FIELDS) due in
      record { operand_places = operand_places; next = next; room = below_of (last_count counts.classes) 16 few }

-- The counts, by what is there.
pub class_index : (b : WholeItems) (counts : Counts) → counts ≡ counts_whole b counts → length counts.classes ≡ length b.classes
class_index b counts are = ap (λ (c : Counts). length c.classes) are ∙ length-map b.classes (λ c. length c.fields)

pub procedure_index : (b : WholeItems) (counts : Counts) → counts ≡ counts_whole b counts → length counts.procedures ≡ length b.procedures
procedure_index b counts are = ap (λ (c : Counts). length c.procedures) are ∙ length-map b.procedures (λ p. p.parameters)

last_count-last : (counts : List ℕ) (n : ℕ) → last_count (counts ++ n ∷ []) ≡ n
last_count-last [] n = refl
last_count-last (m ∷ []) n = refl
last_count-last (m ∷ o ∷ counts) n = last_count-last (o ∷ counts) n

pub field_index : (b : WholeItems) (c : Class) (counts : Counts) → counts ≡ counts_of_class b c counts → last_count counts.classes ≡ length c.fields
field_index b c counts are = ap (λ (q : Counts). last_count q.classes) are ∙ last_count-last (fields_declared b.classes) (length c.fields)

-- what an option that holds nothing is
pub absent : {X : Type 0} (o : Option X) → is_some o ≡ false → o ≡ None
absent None is = refl
absent (Some x) is = let clash : ⊥ = cc in absurd clash
