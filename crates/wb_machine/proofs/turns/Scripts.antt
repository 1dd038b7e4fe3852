-- What is known of a script: of its bodies, and of literals.
use Rattle.std.proofs.Common.{◌≡◌, ℕ, ◌+◌, ◌<◌, ◌≤◌, suc, zero, Bool, true, false, List, [], ◌∷◌, ◌++◌, length, map, refl, ap, ◌∙◌, sym, subst, arith, Option, Some, None}
use Rattle.std.specs.Prelude.{◌&&◌, slice_get, unwrap_or, nat_le, nat_lt}
use Rattle.std.specs.List.{list_all}
use Rattle.std.proofs.lemmas.Bool.{leb-true}
use Rattle.std.proofs.lemmas.List.{length-map}
use Rattle.std.proofs.lemmas.List.Folds.{list_all-append}
use Rattle.wb_basics.specs.declared.limits.TheConstants.{MOST_PROCEDURES, MOST_LOCALS, MOST_PARAMETERS, MOST_CLASSES, MOST_FIELDS, MOST_EXTRA, LARGEST_BUFFER, LONGEST_LITERAL, DEEPEST_BLOCK, CEILING}
use Rattle.wb_tree.specs.declared.script.Script.{Script}
use Rattle.wb_tree.specs.declared.script.Argument.{Argument}
use Rattle.wb_tree.specs.declared.script.Body.{Body}
use Rattle.wb_tree.specs.declared.script.Class.{Class}
use Rattle.wb_tree.specs.declared.script.Local.{Local}
use Rattle.wb_tree.specs.declared.script.Local.TheVariants.{OfPointer, OfNumber, OfBuffer, OfView}
use Rattle.wb_tree.specs.declared.script.Operation.{Operation}
use Rattle.wb_tree.specs.declared.script.Parameter.{Parameter}
use Rattle.wb_tree.specs.declared.script.Procedure.{Procedure}
use Rattle.wb_tree.specs.declared.script.Condition.{Condition}
use Rattle.wb_tree.specs.declared.script.Number.{Number}
use Rattle.wb_tree.specs.declared.script.Pointer.{Pointer}
use Rattle.wb_tree.specs.declared.script.StatementAt.{StatementAt}
use Rattle.wb_tree.specs.declared.script.Statement.TheOpen.{Statement-F}
use Rattle.wb_tree.specs.declared.script.Statement.TheViews.{out-Statement}
use Rattle.wb_meaning.specs.Statements.{Layer}
use Rattle.wb_tree.specs.Bodies.{payload_of_object, no_body, procedure_at, operation_at, class_at}
use Rattle.wb_tree.specs.Sound.{Declared, is_class_among, is_local, is_number, is_variable, is_pointer, is_condition, is_literal_text, is_nested, are_within, are_statements, is_pointer_local, is_parameter, local_of_parameter, is_body, scope_of, is_procedure, is_operation, is_own_body, is_class_of, are_classes, signatures_of, declared_in, fields_declared, is_entry, is_called, is_call, are_passed, are_few, is_sound_script, is_script, is_quotable}
use Rattle.wb_tree.specs.Spellings.{its_parameters}
use Rattle.wb_tree.specs.Quiet.{is_quiet}
use Rattle.wb_machine.specs.declared.pieces.PendingPiece.{PendingPiece}
use Rattle.wb_machine.specs.declared.pieces.PendingPiece.TheVariants.{MainTrap}
use Rattle.wb_machine.specs.LocalValues.{is_small}
use Rattle.wb_machine.specs.Flow.{is_carried_out, AreOwn, IsOwn, IsSimple, IsSoundPiece, AreSound, leaves_steps, weight, weight_of}

pub and_left : (a b : Bool) → (a && b) ≡ true → a ≡ true
and_left true b e = refl
and_left false b e = cc

pub and_right : (a b : Bool) → (a && b) ≡ true → b ≡ true
and_right true b e = e
and_right false b e = cc

and_both : (a b : Bool) → a ≡ true → b ≡ true → (a && b) ≡ true
and_both true b e f = f
and_both false b e f = cc

-- one of the elements that all pass
all_at : {X : Type 0} (p : X → Bool) (xs : List X) (i : ℕ) (x : X) → list_all p xs ≡ true → slice_get xs i ≡ Some x → p x ≡ true
all_at p [] i x a e = cc
all_at p (y ∷ ys) zero x a e = let same : y ≡ x = cc in sym (ap p same) ∙ and_left (p y) (list_all p ys) a
all_at p (y ∷ ys) (suc i) x a e = all_at p ys i x (and_right (p y) (list_all p ys) a) e

none_within : {X : Type 0} (xs : List X) (i : ℕ) → i < length xs → slice_get xs i ≡ None → ⊥
none_within [] i lt e = omega (arith, lt)
none_within (x ∷ xs) zero lt e = cc
none_within (x ∷ xs) (suc i) lt e = none_within xs i (omega (arith, lt)) e

-- an element is there
some_within : {X : Type 0} (xs : List X) (i : ℕ) (x : X) → slice_get xs i ≡ Some x → i < length xs
some_within [] i x e = cc
some_within (y ∷ ys) zero x e = omega arith
some_within (y ∷ ys) (suc i) x e = let h = some_within ys i x e in omega (arith, h)

-- a procedure whose parameters are known is there
pub there : (procedures : List Procedure) (i : ℕ) (parameters : List Parameter) → slice_get (signatures_of procedures) i ≡ Some parameters → i < length procedures
there procedures i parameters e =
    let within = some_within (signatures_of procedures) i parameters e in
    omega (arith, within, length-map procedures (λ (p : Procedure). p.parameters))

-- Locals that a script may have are small.
all_small : (classes : ℕ) (locals : List Local) → list_all (is_local classes) locals ≡ true → list_all is_small locals ≡ true
all_small classes [] ok = refl
all_small classes (OfPointer class ∷ rest) ok = all_small classes rest (and_right (is_class_among classes class) (list_all (is_local classes) rest) ok)
all_small classes (OfNumber ∷ rest) ok = all_small classes rest ok
all_small classes (OfBuffer max ∷ rest) ok =
    let small : Bool = nat_le max LARGEST_BUFFER in
    let more : Bool = list_all (is_local classes) rest in
    and_both small (list_all is_small rest) (and_left small more ok) (all_small classes rest (and_right small more ok))
all_small classes (OfView ∷ rest) ok = all_small classes rest ok

-- a body that a script has: its locals are small, and its statements are in the script
abbrev IsOwnBody : Script → Body → Type 0
IsOwnBody script body = AreOwn script body.statements × (list_all is_small body.locals ≡ true)

-- a body over its scope, in a class or in none
body_sound : (script : Script) (this : Option ℕ) (parameters : List Parameter) (body : Body) →
    is_body (declared_in script) (scope_of (declared_in script) this parameters body) body.statements ≡ true → IsOwnBody script body
body_sound script this parameters body ok =
    let scope = scope_of (declared_in script) this parameters body in
    let classes : ℕ = length scope.fields in
    let sound : Bool = list_all (is_local classes) scope.locals in
    let few : Bool = nat_le (length scope.locals) MOST_LOCALS in
    let stated : Bool = are_statements (declared_in script) scope body.statements in (
      (scope, refl, false, suc DEEPEST_BLOCK, and_right (sound && few) stated ok),
      all_small classes body.locals
          (and_right (list_all (is_local classes) (map local_of_parameter parameters)) (list_all (is_local classes) body.locals)
          (sym (list_all-append (is_local classes) (map local_of_parameter parameters) body.locals) ∙ and_left sound few (and_left (sound && few) stated ok))),
    )

no_body_own : (script : Script) → IsOwnBody script no_body
no_body_own script = ((record { locals = []; this = None; fields = fields_declared script.classes }, refl, false, 1, refl), refl)

-- a body of a class, which it may not have
own_body_sound : (script : Script) (class : ℕ) (o : Option Body) → is_own_body (declared_in script) class o ≡ true → IsOwnBody script (unwrap_or o no_body)
own_body_sound script class None ok = no_body_own script
own_body_sound script class (Some body) ok = body_sound script (Some class) [] body ok

-- one of the classes that a script has
class_sound : (declared : Declared) (first i : ℕ) (classes : List Class) (c : Class) → are_classes declared first classes ≡ true → slice_get classes i ≡ Some c →
    (index : ℕ) × (is_class_of declared index c ≡ true)
class_sound declared first i [] c ok e = cc
class_sound declared first zero (d ∷ ds) c ok e =
    let same : d ≡ c = cc in
    (first, sym (ap (is_class_of declared first) same) ∙ and_left (is_class_of declared first d) (are_classes declared (suc first) ds) ok)
class_sound declared first (suc i) (d ∷ ds) c ok e =
    class_sound declared (suc first) i ds c (and_right (is_class_of declared first d) (are_classes declared (suc first) ds) ok) e

-- what a script holds for a class that it doesn't have
abbrev no_class : Class
no_class = record { line = 0; extra = 0; fields = []; construct = None; destroy = None }

module _ (script : Script) (ok : is_script script ≡ true) where
  abbrev fields : List ℕ
  fields = fields_declared script.classes

  abbrev few : Bool
  few = are_few script

  abbrev classes : Bool
  classes = are_classes (declared_in script) 0 script.classes

  abbrev procedures : Bool
  procedures = list_all (is_procedure (declared_in script)) script.procedures

  abbrev operations : Bool
  operations = list_all (is_operation (declared_in script)) script.operations

  abbrev literals : Bool
  literals = list_all is_literal_text script.literals

  whole : is_sound_script script ≡ true
  whole = and_left (is_sound_script script) (is_quiet script) ok

  parts_are : (classes && (procedures && (operations && literals))) ≡ true
  parts_are = and_right few (classes && (procedures && (operations && literals))) whole

  bodies_are : (procedures && (operations && literals)) ≡ true
  bodies_are = and_right classes (procedures && (operations && literals)) parts_are

  -- `main` is there
  pub main_there : script.main < length script.procedures
  main_there = by (slice_get (signatures_of script.procedures) script.main) refl
    where
      entry : Bool
      entry = is_entry (slice_get (signatures_of script.procedures) script.main)

      counted : Bool
      counted = nat_le (length script.procedures + length script.operations) MOST_PROCEDURES

      is : entry ≡ true
      is =
          and_right counted entry
          (and_right (nat_le (length script.classes) MOST_CLASSES) (counted && entry) (and_left few (classes && (procedures && (operations && literals))) whole))

      by : (o : Option (List Parameter)) → slice_get (signatures_of script.procedures) script.main ≡ o → script.main < length script.procedures
      by None e = let x = sym is ∙ ap is_entry e in cc
      by (Some parameters) e = there script.procedures script.main parameters e

  -- the body of a procedure is the script's own
  procedure_own : (i : ℕ) → i < length script.procedures → IsOwnBody script (procedure_at script i)
  procedure_own i within = by (slice_get script.procedures i) refl
    where
      body_in : Option Procedure → Body
      body_in o = (unwrap_or o (record { line = 0; parameters = []; body = no_body })).body

      by : (o : Option Procedure) → slice_get script.procedures i ≡ o → IsOwnBody script (body_in o)
      by None e = absurd (none_within script.procedures i within e)
      by (Some p) e =
          body_sound script None p.parameters p.body
          (and_right (list_all (is_parameter (length fields)) p.parameters && nat_le (length p.parameters) MOST_PARAMETERS) (is_body (declared_in script) (scope_of (declared_in script) None p.parameters p.body) p.body.statements)
          (all_at (is_procedure (declared_in script)) script.procedures i p (and_left procedures (operations && literals) bodies_are) e))

  pub procedure_locals : (i : ℕ) → i < length script.procedures → list_all is_small (procedure_at script i).locals ≡ true
  procedure_locals i within = (procedure_own i within).1

  pub procedure_statements : (i : ℕ) → i < length script.procedures → AreOwn script (procedure_at script i).statements
  procedure_statements i within = (procedure_own i within).0

  -- and so is that of an operation; one that isn't there has no line
  pub operation_own : (i : ℕ) → IsOwnBody script (operation_at script i)
  operation_own i = by (slice_get script.operations i) refl
    where
      body_in : Option Operation → Body
      body_in o = (unwrap_or o (record { line = 0; body = no_body })).body

      by : (o : Option Operation) → slice_get script.operations i ≡ o → IsOwnBody script (body_in o)
      by None e = no_body_own script
      by (Some o) e =
          body_sound script None its_parameters o.body
          (all_at (is_operation (declared_in script)) script.operations i o (and_left operations literals (and_right procedures (operations && literals) bodies_are)) e)

  -- what holds of a class
  class_is : (i : ℕ) (c : Class) → slice_get script.classes i ≡ Some c → (index : ℕ) × (is_class_of (declared_in script) index c ≡ true)
  class_is i c e = class_sound (declared_in script) 0 i script.classes c (and_left classes (procedures && (operations && literals)) parts_are) e

  bodies_of : (i : ℕ) (c : Class) → slice_get script.classes i ≡ Some c → IsOwnBody script (unwrap_or c.construct no_body) × IsOwnBody script (unwrap_or c.destroy no_body)
  bodies_of i c e =
      let there = class_is i c e in
      let makes : Bool = is_own_body (declared_in script) there.0 c.construct in
      let destroys : Bool = is_own_body (declared_in script) there.0 c.destroy in
      let both = and_right ((nat_le (length c.fields) MOST_FIELDS && nat_le c.extra MOST_EXTRA) && list_all (is_class_among (length fields)) c.fields) (makes && destroys) there.1 in
      (own_body_sound script there.0 c.construct (and_left makes destroys both), own_body_sound script there.0 c.destroy (and_right makes destroys both))

  -- the bodies that make and destroy an object of a class are the script's own, where it has them
  pub construct_own : (i : ℕ) → IsOwnBody script (unwrap_or (class_at script i).construct no_body)
  construct_own i = by (slice_get script.classes i) refl
    where
      by : (o : Option Class) → slice_get script.classes i ≡ o → IsOwnBody script (unwrap_or (unwrap_or o no_class).construct no_body)
      by None e = no_body_own script
      by (Some c) e = (bodies_of i c e).0

  pub destroy_own : (i : ℕ) → IsOwnBody script (unwrap_or (class_at script i).destroy no_body)
  destroy_own i = by (slice_get script.classes i) refl
    where
      by : (o : Option Class) → slice_get script.classes i ≡ o → IsOwnBody script (unwrap_or (unwrap_or o no_class).destroy no_body)
      by None e = no_body_own script
      by (Some c) e = (bodies_of i c e).1

  -- the cell of an object ends below the ceiling
  pub object_fits : (i : ℕ) → payload_of_object (class_at script i) ≤ CEILING
  object_fits i = by (slice_get script.classes i) refl
    where
      by : (o : Option Class) → slice_get script.classes i ≡ o → payload_of_object (unwrap_or o no_class) ≤ CEILING
      by None e = omega arith
      by (Some c) e =
          let there = class_is i c e in
          let counted : Bool = nat_le (length c.fields) MOST_FIELDS && nat_le c.extra MOST_EXTRA in
          let among : Bool = list_all (is_class_among (length fields)) c.fields in
          let bodies : Bool = is_own_body (declared_in script) there.0 c.construct && is_own_body (declared_in script) there.0 c.destroy in
          let small = and_left counted among (and_left (counted && among) bodies there.1) in
          let slots = leb-true (length c.fields) MOST_FIELDS (and_left (nat_le (length c.fields) MOST_FIELDS) (nat_le c.extra MOST_EXTRA) small) in
          let bytes = leb-true c.extra MOST_EXTRA (and_right (nat_le (length c.fields) MOST_FIELDS) (nat_le c.extra MOST_EXTRA) small) in
          omega (arith, slots, bytes)

  -- a literal has no more bytes than a script
  pub literal_short : (i : ℕ) (text : List ℕ) → slice_get script.literals i ≡ Some text → length text ≤ LONGEST_LITERAL
  literal_short i text e =
      leb-true (length text) LONGEST_LITERAL (and_right (list_all is_quotable text) (nat_le (length text) LONGEST_LITERAL)
      (all_at is_literal_text script.literals i text (and_right operations literals (and_right procedures (operations && literals) bodies_are)) e))

-- one more piece on top
pub sound_pushed : (script : Script) (below all : List PendingPiece) (p : PendingPiece) → all ≡ below ++ p ∷ [] → AreSound script below → IsSoundPiece script p → AreSound script all
sound_pushed script below all p is a b = subst (AreSound script) (sym is) (by below a)
  where
    by : (ps : List PendingPiece) → AreSound script ps → AreSound script (ps ++ p ∷ [])
    by [] s = (b, tt)
    by (q ∷ qs) s = (s.0, by qs s.1)

sound_split : (script : Script) (below : List PendingPiece) (p : PendingPiece) → AreSound script (below ++ p ∷ []) → AreSound script below × IsSoundPiece script p
sound_split script [] p s = (tt, s.0)
sound_split script (q ∷ qs) p s = let rest = sound_split script qs p s.1 in ((s.0, rest.0), rest.1)

pub sound_below : (script : Script) (below pieces : List PendingPiece) (p : PendingPiece) → pieces ≡ below ++ p ∷ [] → AreSound script pieces → AreSound script below
sound_below script below pieces p is a = (sound_split script below p (subst (AreSound script) is a)).0

pub sound_top : (script : Script) (below pieces : List PendingPiece) (p : PendingPiece) → pieces ≡ below ++ p ∷ [] → AreSound script pieces → IsSoundPiece script p
sound_top script below pieces p is a = (sound_split script below p (subst (AreSound script) is a)).1

-- and its weight
weight_last : (ps : List PendingPiece) (p : PendingPiece) → weight_of (ps ++ p ∷ []) ≡ weight_of ps + weight p
weight_last [] p = omega arith
weight_last (q ∷ ps) p = let rest = weight_last ps p in omega (arith, rest)

pub weight_pushed : (below all : List PendingPiece) (p : PendingPiece) → all ≡ below ++ p ∷ [] → weight_of all ≡ weight_of below + weight p
weight_pushed below all p is = ap weight_of is ∙ weight_last below p

-- the pieces of a run that was begun are the script's own
pub sound_begun : (script : Script) (none one two : List PendingPiece) (code : PendingPiece) → none ≡ [] → one ≡ none ++ MainTrap ∷ [] → two ≡ one ++ code ∷ [] →
    IsSoundPiece script code → AreSound script two
sound_begun script none one two code e f g ok =
    sound_pushed script one two code g (sound_pushed script none one MainTrap f (subst (AreSound script) (sym e) tt) tt) ok

-- the first of statements that are in a script, and the rest
pub own_first : (script : Script) (s : StatementAt) (ss : List StatementAt) → AreOwn script (s ∷ ss) → IsOwn script (out-Statement s.statement)
own_first script s ss (scope, shaped, trapped, zero, ok) = cc
own_first script s ss (scope, shaped, trapped, suc depth, ok) = record {
  scope = scope;
  shaped = shaped;
  trapped = trapped;
  depth = depth;
  sound = and_left (is_nested (declared_in script) scope trapped (are_within (declared_in script) scope depth) (out-Statement s.statement)) _ ok;
}

pub own_rest : (script : Script) (s : StatementAt) (ss : List StatementAt) → AreOwn script (s ∷ ss) → AreOwn script ss
own_rest script s ss (scope, shaped, trapped, zero, ok) = cc
own_rest script s ss (scope, shaped, trapped, suc depth, ok) =
    (scope, shaped, trapped, suc depth, and_right (is_nested (declared_in script) scope trapped (are_within (declared_in script) scope depth) (out-Statement s.statement)) _ ok)

pub own_none : (script : Script) → AreOwn script []
own_none script = (no_body_own script).0

-- what is inside a statement
module _ (script : Script) (layer : Layer) (own : IsOwn script layer) where
  abbrev inside : Bool → List StatementAt → Bool
  inside = are_within (declared_in script) own.scope own.depth

  abbrev sound_as : Layer → Type 0
  sound_as was = is_nested (declared_in script) own.scope own.trapped inside was ≡ true

  seen_as : (was : Layer) → layer ≡ was → sound_as was
  seen_as was e = sym (ap (is_nested (declared_in script) own.scope own.trapped inside) e) ∙ own.sound

  pub own_if : (c : Condition) (first : List StatementAt) → layer ≡ Statement-F.If c first → AreOwn script first
  own_if c first e = (own.scope, own.shaped, own.trapped, own.depth, and_right (is_condition own.scope c) (inside own.trapped first) (seen_as _ e))

  pub own_if_condition : (c : Condition) (first : List StatementAt) → layer ≡ Statement-F.If c first → is_condition own.scope c ≡ true
  own_if_condition c first e = and_left (is_condition own.scope c) (inside own.trapped first) (seen_as _ e)

  pub own_choice : (c : Condition) (first other : List StatementAt) → layer ≡ Statement-F.IfElse c first other → AreOwn script first × AreOwn script other
  own_choice c first other e =
      let parts = and_right (is_condition own.scope c) (inside own.trapped first && inside own.trapped other) (seen_as _ e) in
      ((own.scope, own.shaped, own.trapped, own.depth, and_left (inside own.trapped first) _ parts), (own.scope, own.shaped, own.trapped, own.depth, and_right (inside own.trapped first) _ parts))

  pub own_choice_condition : (c : Condition) (first other : List StatementAt) → layer ≡ Statement-F.IfElse c first other → is_condition own.scope c ≡ true
  own_choice_condition c first other e = and_left (is_condition own.scope c) (inside own.trapped first && inside own.trapped other) (seen_as _ e)

  pub own_turns : (v : Number) (body : List StatementAt) → layer ≡ Statement-F.Repeat v body → AreOwn script body
  own_turns v body e = (own.scope, own.shaped, own.trapped, own.depth, and_right (is_number own.scope.locals v) (inside own.trapped body) (seen_as _ e))

  pub own_trapped : (x : ℕ) (body : List StatementAt) → layer ≡ Statement-F.Trap x body → AreOwn script body
  own_trapped x body e = (own.scope, own.shaped, true, own.depth, and_right (is_variable own.scope.locals x) (inside true body) (seen_as _ e))

  abbrev signatures : List (List Parameter)
  signatures = signatures_of script.procedures

  -- a procedure that is called is there, and gets an argument for each parameter
  abbrev Calls : ℕ → List Argument → Type 0
  Calls index arguments = (parameters : List Parameter) × (index < length script.procedures) × (are_passed own.scope parameters arguments ≡ true)

  calls_of : (index : ℕ) (arguments : List Argument) → is_call signatures own.scope index arguments ≡ true → Calls index arguments
  calls_of index arguments called = by (slice_get signatures index) refl
    where
      by : (o : Option (List Parameter)) → slice_get signatures index ≡ o → Calls index arguments
      by None e = let x = sym called ∙ ap (λ o. is_called own.scope o arguments) e in cc
      by (Some parameters) e = (parameters, there script.procedures index parameters e, sym (ap (λ o. is_called own.scope o arguments) e) ∙ called)

  pub own_call : (index : ℕ) (arguments : List Argument) → layer ≡ Statement-F.Call index arguments → Calls index arguments
  own_call index arguments e = calls_of index arguments (seen_as _ e)

  pub own_call_to : (x index : ℕ) (arguments : List Argument) → layer ≡ Statement-F.CallTo x index arguments → Calls index arguments
  own_call_to x index arguments e =
      calls_of index arguments (and_right (is_pointer_local (slice_get own.scope.locals x)) (is_call signatures own.scope index arguments) (seen_as _ e))

  -- the object that a statement makes or destroys
  pub own_construct : (p : Pointer) → layer ≡ Statement-F.Construct p → is_pointer own.scope p ≡ true
  own_construct p e = seen_as _ e

  pub own_delete : (p : Pointer) → layer ≡ Statement-F.Delete p → is_pointer own.scope p ≡ true
  own_delete p e = seen_as _ e

  -- one with no other inside it
  pub own_simple : ((c : Condition) (first : List StatementAt) → layer ≡ Statement-F.If c first → ⊥) →
      ((c : Condition) (first other : List StatementAt) → layer ≡ Statement-F.IfElse c first other → ⊥) →
      ((v : Number) (body : List StatementAt) → layer ≡ Statement-F.Repeat v body → ⊥) → ((x : ℕ) (body : List StatementAt) → layer ≡ Statement-F.Trap x body → ⊥) →
      ((index : ℕ) (arguments : List Argument) → layer ≡ Statement-F.Call index arguments → ⊥) →
      ((x index : ℕ) (arguments : List Argument) → layer ≡ Statement-F.CallTo x index arguments → ⊥) → ((v : Number) → layer ≡ Statement-F.PopDestroy v → ⊥) →
      ((p : Pointer) → layer ≡ Statement-F.Construct p → ⊥) → ((p : Pointer) → layer ≡ Statement-F.Delete p → ⊥) → IsSimple script layer
  own_simple no_if no_choice no_turns no_trap no_call no_call_to no_pop no_construct no_delete = record { scope = own.scope; shaped = own.shaped; trapped = own.trapped; sound = by layer refl; whole = left layer refl }
    where
      left : (was : Layer) → layer ≡ was → leaves_steps layer ≡ false
      left (Statement-F.PopDestroy v) e = absurd (no_pop v e)
      left was e = ap leaves_steps e

      by : (was : Layer) → layer ≡ was → is_carried_out (length script.literals) own.scope own.trapped layer ≡ true
      by (Statement-F.PushOperation p n) e = ap (is_carried_out (length script.literals) own.scope own.trapped) e ∙ and_left (is_pointer own.scope p) (nat_lt n (length script.operations)) (seen_as _ e)
      by (Statement-F.Construct p) e = absurd (no_construct p e)
      by (Statement-F.Delete p) e = absurd (no_delete p e)
      by (Statement-F.If c first) e = absurd (no_if c first e)
      by (Statement-F.IfElse c first other) e = absurd (no_choice c first other e)
      by (Statement-F.Repeat v body) e = absurd (no_turns v body e)
      by (Statement-F.Trap x body) e = absurd (no_trap x body e)
      by (Statement-F.Call index arguments) e = absurd (no_call index arguments e)
      by (Statement-F.CallTo x index arguments) e = absurd (no_call_to x index arguments e)
      by was e = ap (is_carried_out (length script.literals) own.scope own.trapped) e ∙ seen_as was e
