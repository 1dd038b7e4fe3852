-- No operation and no destructor of a script that lines spell can leave, since no line of theirs can.
use Rattle.std.proofs.Common.{refl, sym, subst, ℕ, suc, List, [], ◌∷◌, ◌++◌, Bool, true, false, not, ◌&&◌, ◌||◌, IsTrue, Option, Some, None, if◌then◌else◌, nat_lt, nat_le, length, append_assoc}
use Rattle.std.proofs.lemmas.Bool.{false≢true}
use Rattle.std.specs.List.{list_all}
use Rattle.wb_basics.specs.declared.limits.TheConstants.{DEEPEST_BLOCK, MOST_LOCALS, MOST_FIELDS, MOST_EXTRA}
use Rattle.wb_tree.specs.declared.script_lines.BodyKind.{BodyKind}
use Rattle.wb_tree.specs.declared.script_lines.BodyKind.TheVariants as of
use Rattle.wb_tree.specs.declared.script_lines.Form.{Form}
use Rattle.wb_tree.specs.declared.script_lines.Referent.TheVariants as referent
use Rattle.wb_tree.specs.declared.script_lines.Operand.TheVariants.{Name, Size}
use Rattle.wb_tree.specs.declared.script_lines.LineKind.TheVariants as line_kind
use Rattle.wb_tree.specs.declared.script.Script.{Script}
use Rattle.wb_tree.specs.declared.script.Body.{Body}
use Rattle.wb_tree.specs.declared.script.Class.{Class}
use Rattle.wb_tree.specs.declared.script.Operation.{Operation}
use Rattle.wb_tree.specs.declared.script.Local.{Local}
use Rattle.wb_tree.specs.declared.script.Local.TheVariants.{OfPointer, OfNumber, OfBuffer, OfView}
use Rattle.wb_language.specs.LineKinds.{may_leave_in}
use Rattle.wb_language.specs.Names.{Text}
use Rattle.wb_tree.specs.Quiet.{is_quiet, is_quiet_local, is_quiet_body, is_quiet_if_there, are_quiet}
use Rattle.wb_language.specs.Scripts.{IsTreeOf}
use Rattle.wb_tree.specs.Sound.{Declared, Scope, declared_in, scope_of, is_sound_script, are_few, are_classes, is_class_of, is_own_body, is_operation, is_procedure, is_body, is_local, are_statements, is_literal_text, is_class_among}
use Rattle.wb_tree.specs.Spellings.{its_parameters, Spelled, class_operand}
use Rattle.wb_language.specs.Trees.{Marked, Lines, local_lines, body_lines, statement_lines, end_line, class_head, field_lines, own_body_lines, class_lines, operation_lines, lines_of_class, lines_of_procedure, lines_of_operation, each_from, in_place, in_order, all_lines, bodies_in_order}
use Rattle.wb_script.proofs.leaving.QuietLines.{are_quiet_from, QuietFrom, QuietSomewhere, both, both_hold, quiet_parts, quiet_lines}
use Rattle.wb_script.proofs.leaving.QuietStatements.{Closed, quiet_line, quiet_statements}

operation_closed : Closed of.Operation
operation_closed k = refl

destructor_closed : Closed of.Destructor
destructor_closed k = refl

-- the word that a declaration names
abbrev declared_word : ℕ → Spelled
declared_word index = Some (Name (referent.Declared index))

module _ (body : BodyKind) (closed : Closed body) where
  -- the locals that a body declares, and the lines after them
  quiet_locals : (index : ℕ) (locals : List Local) (rest : List Marked) → QuietFrom body (local_lines index locals ++ rest) → IsTrue (list_all is_quiet_local locals) × QuietFrom body rest
  quiet_locals index [] rest is = (refl, is)
  quiet_locals index (OfPointer None ∷ locals) rest is =
      quiet_locals (suc index) locals rest (quiet_line body closed (line_kind.Ptr, declared_word index ∷ []) (record { begins_none = refl; inside = refl; spelled = (refl, tt) }) None (local_lines (suc index) locals ++ rest) is).1
  quiet_locals index (OfPointer (Some class) ∷ locals) rest is =
      quiet_locals (suc index) locals rest (quiet_line body closed (line_kind.ClassPtr, declared_word index ∷ class_operand class ∷ []) (record { begins_none = refl; inside = refl; spelled = (refl, (refl, tt)) }) None (local_lines (suc index) locals ++ rest) is).1
  quiet_locals index (OfNumber ∷ locals) rest is =
      quiet_locals (suc index) locals rest (quiet_line body closed (line_kind.Int, declared_word index ∷ []) (record { begins_none = refl; inside = refl; spelled = (refl, tt) }) None (local_lines (suc index) locals ++ rest) is).1
  quiet_locals index (OfBuffer max ∷ locals) rest is =
      absurd (false≢true (quiet_line body closed (line_kind.Buf, declared_word index ∷ Some (Size max) ∷ []) (record { begins_none = refl; inside = refl; spelled = (refl, (refl, tt)) }) None (local_lines (suc index) locals ++ rest) is).0)
  quiet_locals index (OfView ∷ locals) rest is =
      absurd (false≢true (quiet_line body closed (line_kind.View, declared_word index ∷ []) (record { begins_none = refl; inside = refl; spelled = (refl, tt) }) None (local_lines (suc index) locals ++ rest) is).0)

  -- a body, with the lines after it
  quiet_body : (declared : Declared) (scope : Scope) (parameters : ℕ) (b : Body) (rest : List Marked) → IsTrue (is_body declared scope b.statements) → QuietFrom body (body_lines parameters b ++ rest) → IsTrue (is_quiet_body b)
  quiet_body declared scope parameters b rest sound is =
      let (kept, within) = both (list_all (is_local (length scope.fields)) scope.locals && nat_le (length scope.locals) MOST_LOCALS) (are_statements declared scope b.statements) sound in
      let parted = subst (QuietFrom body) (append_assoc (local_lines parameters b.locals) (statement_lines b.statements) rest) is in
      let (locals, more) = quiet_locals parameters b.locals (statement_lines b.statements ++ rest) parted in
      let (quiet, last) = quiet_statements body closed declared scope (suc DEEPEST_BLOCK) false b.statements rest within more in
      both_hold (list_all is_quiet_local b.locals) (are_quiet (suc DEEPEST_BLOCK) b.statements) locals quiet

operation_quiet : (declared : Declared) (index : ℕ) (o : Operation) → IsTrue (is_operation declared o) → QuietSomewhere (operation_lines index o) → IsTrue (is_quiet_body o.body)
operation_quiet declared index o sound (before, is) =
    let lines = body_lines (length its_parameters) o.body ++ end_line ∷ [] in
    let (head, inside) = both (not (may_leave_in before line_kind.Op || false)) (are_quiet_from of.Operation lines) is in
    quiet_body of.Operation operation_closed declared (scope_of declared None its_parameters o.body) (length its_parameters) o.body (end_line ∷ []) sound inside

destructor_quiet : (declared : Declared) (class : ℕ) (b : Option Body) → IsTrue (is_own_body declared class b) → QuietSomewhere (own_body_lines line_kind.Destructor b) → IsTrue (is_quiet_if_there b)
destructor_quiet declared class None sound is = refl
destructor_quiet declared class (Some b) sound (before, is) =
    let lines = body_lines 0 b ++ end_line ∷ [] in
    let (head, inside) = both (not (may_leave_in before line_kind.Destructor || false)) (are_quiet_from of.Destructor lines) is in
    quiet_body of.Destructor destructor_closed declared (scope_of declared (Some class) [] b) 0 b (end_line ∷ []) sound inside

class_quiet : (declared : Declared) (index : ℕ) (c : Class) → IsTrue (is_class_of declared index c) → QuietSomewhere (class_lines index c) → IsTrue (is_quiet_if_there c.destroy)
class_quiet declared index c sound (before, is) =
    let few = (nat_le (length c.fields) MOST_FIELDS && nat_le c.extra MOST_EXTRA) && list_all (is_class_among (length declared.fields)) c.fields in
    let (fields_sound, bodies) = both few (is_own_body declared index c.construct && is_own_body declared index c.destroy) sound in
    let (construct_sound, destroy_sound) = both (is_own_body declared index c.construct) (is_own_body declared index c.destroy) bodies in
    let destroy = own_body_lines line_kind.Destructor c.destroy ++ end_line ∷ [] in
    let construct = own_body_lines line_kind.Constructor c.construct ++ destroy in
    let (head, (a, after_head)) = quiet_parts (class_head index c ∷ []) (field_lines 0 c.fields ++ construct) before is in
    let (fields, (b, after_fields)) = quiet_parts (field_lines 0 c.fields) construct a after_head in
    let (constructs, (d, after_construct)) = quiet_parts (own_body_lines line_kind.Constructor c.construct) destroy b after_fields in
    let (destroys, end) = quiet_parts (own_body_lines line_kind.Destructor c.destroy) (end_line ∷ []) d after_construct in
    destructor_quiet declared index c.destroy destroy_sound (d, destroys)

abbrev AllQuiet : List Lines → Type 0
AllQuiet [] = Unit {0}
AllQuiet (item ∷ items) = QuietSomewhere item.lines × AllQuiet items

all_quiet : (items : List Lines) (body : BodyKind) → QuietFrom body (all_lines items) → AllQuiet items
all_quiet [] body is = tt
all_quiet (item ∷ items) body is =
    let (first, (kind, more)) = quiet_parts item.lines (all_lines items) body is in
    ((body, first), all_quiet items kind more)

-- an item that is among others, and these
placed : (item : Lines) (others : List Lines) → AllQuiet (in_place item others) → QuietSomewhere item.lines × AllQuiet others
placed item [] all = all
placed item (other ∷ others) all = go (nat_lt other.number item.number) (placed item others) all
  where
    go : (b : Bool) → (AllQuiet (in_place item others) → QuietSomewhere item.lines × AllQuiet others) → AllQuiet (if b then (other ∷ in_place item others) else (item ∷ other ∷ others)) → QuietSomewhere item.lines × AllQuiet (other ∷ others)
    go true rest (first, more) = let (quiet, last) = rest more in (quiet, (first, last))
    go false rest all = all

ordered : (items others : List Lines) → AllQuiet (in_order items others) → AllQuiet items × AllQuiet others
ordered [] others all = (tt, all)
ordered (item ∷ items) others all =
    let (more, rest) = ordered items (in_place item others) all in
    let (quiet, last) = placed item others rest in
    ((quiet, more), last)

operations_quiet : (declared : Declared) (index : ℕ) (operations : List Operation) → IsTrue (list_all (is_operation declared) operations) → AllQuiet (each_from lines_of_operation index operations) → IsTrue (list_all (λ o. is_quiet_body o.body) operations)
operations_quiet declared index [] sound all = refl
operations_quiet declared index (o ∷ operations) sound (first, all) =
    let (here, more) = both (is_operation declared o) (list_all (is_operation declared) operations) sound in
    both_hold (is_quiet_body o.body) (list_all (λ o. is_quiet_body o.body) operations) (operation_quiet declared index o here first) (operations_quiet declared (suc index) operations more all)

classes_quiet : (declared : Declared) (index : ℕ) (classes : List Class) → IsTrue (are_classes declared index classes) → AllQuiet (each_from lines_of_class index classes) → IsTrue (list_all (λ c. is_quiet_if_there c.destroy) classes)
classes_quiet declared index [] sound all = refl
classes_quiet declared index (c ∷ classes) sound (first, all) =
    let (here, more) = both (is_class_of declared index c) (are_classes declared (suc index) classes) sound in
    both_hold (is_quiet_if_there c.destroy) (list_all (λ c. is_quiet_if_there c.destroy) classes) (class_quiet declared index c here first) (classes_quiet declared (suc index) classes more all)

-- the classes and the operations of a script keep the checks
parts_sound : (script : Script) → IsTrue (is_sound_script script) → IsTrue (are_classes (declared_in script) 0 script.classes) × IsTrue (list_all (is_operation (declared_in script)) script.operations)
parts_sound script sound =
    let literals = list_all is_literal_text script.literals in
    let operations = list_all (is_operation (declared_in script)) script.operations in
    let procedures = list_all (is_procedure (declared_in script)) script.procedures in
    let classes = are_classes (declared_in script) 0 script.classes in
    let (few, all) = both (are_few script) (classes && (procedures && (operations && literals))) sound in
    let (classes_sound, bodies) = both classes (procedures && (operations && literals)) all in
    let (procedures_sound, last) = both procedures (operations && literals) bodies in
    (classes_sound, (both operations literals last).0)

-- lines of which none may leave are those of a tree whose operations and destructors can't
pub quiet_script : (forms : List (Form Text)) (script : Script) → IsTreeOf forms script → IsTrue (is_sound_script script) → IsTrue (is_quiet script)
quiet_script forms script tree sound =
    let (classes_sound, operations_sound) = parts_sound script sound in
    let lines = subst (QuietFrom of.Procedure) (sym tree.tree) (quiet_lines forms tree.named.quiet) in
    let classes = each_from lines_of_class 0 script.classes in
    let (class_lines_quiet, bodies) = ordered classes (bodies_in_order script) (all_quiet (in_order classes (bodies_in_order script)) of.Procedure lines) in
    let (procedure_lines_quiet, operation_lines_quiet) = ordered (each_from lines_of_procedure 0 script.procedures) (each_from lines_of_operation 0 script.operations) bodies in
    both_hold (list_all (λ c. is_quiet_if_there c.destroy) script.classes) (list_all (λ o. is_quiet_body o.body) script.operations)
    (classes_quiet (declared_in script) 0 script.classes classes_sound class_lines_quiet)
    (operations_quiet (declared_in script) 0 script.operations operations_sound operation_lines_quiet)
