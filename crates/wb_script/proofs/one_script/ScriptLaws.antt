-- The lines of a script tell which script it is.
use Rattle.std.proofs.Common.{◌≡◌, refl, sym, ap, subst, ◌∙◌, ℕ, suc, List, [], ◌∷◌, ◌++◌, true, Option, Some, None, length, map, append-nil, append_assoc}
use Rattle.std.specs.List.{list_all}
use Rattle.wb_tree.specs.declared.script_lines.LineKind.TheVariants as line_kind
use Rattle.wb_tree.specs.declared.script_lines.Referent.{Referent}
use Rattle.wb_tree.specs.declared.script_lines.Referent.TheVariants as referent
use Rattle.wb_tree.specs.declared.script_lines.Operand.{Operand}
use Rattle.wb_tree.specs.declared.script_lines.Operand.TheVariants.{Name}
use Rattle.wb_tree.specs.declared.script_lines.Form.TheVariants.{Line}
use Rattle.wb_tree.specs.declared.script.Script.{Script}
use Rattle.wb_tree.specs.declared.script.Class.{Class}
use Rattle.wb_tree.specs.declared.script.Body.{Body}
use Rattle.wb_tree.specs.declared.script.Procedure.{Procedure}
use Rattle.wb_tree.specs.declared.script.Operation.{Operation}
use Rattle.wb_tree.specs.declared.script.Local.{Local}
use Rattle.wb_tree.specs.declared.script.Local.TheVariants.{OfPointer, OfNumber, OfBuffer, OfView}
use Rattle.wb_language.specs.Forms.{forms_of}
use Rattle.wb_language.specs.Grammar.{IsGrammatical}
use Rattle.wb_language.specs.Lines.{lines_of}
use Rattle.wb_language.specs.Resolved.{resolved}
use Rattle.wb_language.specs.Scripts.{IsScriptOf}
use Rattle.wb_language.specs.Trees.{Marked, Lines, counted_from, parameter_operand, and_operand, all_spelled, line_or_unknown, statement_lines, local_line, local_lines, field_line, field_lines, own_body_lines, end_line, body_lines, head_line, class_head, class_lines, procedure_lines, operation_head, operation_lines, each_from, lines_of_class, lines_of_procedure, lines_of_operation, in_order, all_lines, bodies_in_order, script_lines}
use Rattle.wb_script.proofs.names.ResolvedLemmas.{roles-resolved}
use Rattle.wb_lines.proofs.TypedLemmas.{both}
use Rattle.wb_script.proofs.names.KnownLines.{is_known, is_of_a_script, known_lines}
use Rattle.wb_script.proofs.one_script.ReadBack.{Part, Item, IndexedItem, nothing, opened, with_line, with_lines, with_lines-append}
use Rattle.wb_script.proofs.one_script.OperandLaws.{parameters_back}
use Rattle.wb_script.proofs.one_script.TreeLaws.{Items, all_indexed, ordered, indexed_from, indexed_class, indexed_procedure, indexed_operation, line_of_indexed, lines_of_each_indexed, lines_ordered, one_list_each}
use Rattle.wb_script.proofs.one_script.BlockLaws.{inside_is, statements_said, following, all_said}

locals_said : (index : ℕ) (locals : List Local) (part : Part) → with_lines (local_lines index locals) part ≡ record part { locals = locals ++ part.locals }
locals_said index [] part = refl
locals_said index (OfPointer None ∷ locals) part = ap (with_line 0 (local_line index (OfPointer None))) (locals_said (suc index) locals part)
locals_said index (OfPointer (Some class) ∷ locals) part = ap (with_line 0 (local_line index (OfPointer (Some class)))) (locals_said (suc index) locals part)
locals_said index (OfBuffer max ∷ locals) part = ap (with_line 0 (local_line index (OfBuffer max))) (locals_said (suc index) locals part)
locals_said index (OfView ∷ locals) part = ap (with_line 0 (local_line index OfView)) (locals_said (suc index) locals part)
locals_said index (OfNumber ∷ locals) part = ap (with_line 0 (local_line index OfNumber)) (locals_said (suc index) locals part)

fields_said : (index : ℕ) (fields : List (Option ℕ)) (part : Part) → with_lines (field_lines index fields) part ≡ record part { fields = fields ++ part.fields }
fields_said index [] part = refl
fields_said index (None ∷ fields) part = ap (with_line 0 (field_line index None)) (fields_said (suc index) fields part)
fields_said index (Some class ∷ fields) part = ap (with_line 0 (field_line index (Some class))) (fields_said (suc index) fields part)

-- a body that was read, and what was read after it
abbrev in_body : Body → Part → Part
in_body body part = record (opened part) { locals = body.locals ++ part.locals; inner = record { here = body.statements; other = None } }

body_said : (index : ℕ) (body : Body) (part : Part) → list_all is_of_a_script (body_lines index body) ≡ true → with_lines (body_lines index body ++ end_line ∷ []) part ≡ in_body body part
body_said index body part known =
    let start = opened part in
    let locals = local_lines index body.locals in
    let lines = statement_lines body.statements in
    let (declared, told) = following locals lines known in
    let is = inside_is body.statements in
    let said_all : with_lines (lines ++ end_line ∷ []) part ≡ record start { inner = record { here = body.statements; other = None } } =
    ap (λ l. with_lines (l ++ end_line ∷ []) part) (sym is)
    ∙ statements_said body.statements (all_said body.statements) (end_line ∷ []) part (ap (list_all is_of_a_script) is ∙ told)
    ∙ ap (λ l. record start { inner = record { here = l; other = None } }) (append-nil body.statements) in
    ap (λ l. with_lines l part) (append_assoc locals lines (end_line ∷ []))
    ∙ with_lines-append locals (lines ++ end_line ∷ []) part
    ∙ ap (with_lines locals) said_all
    ∙ locals_said index body.locals (record start { inner = record { here = body.statements; other = None } })

-- what the lines of items say
abbrev so_far : List IndexedItem → Part
so_far items = record nothing { items = items }

-- after the last line of a class, and after each of its bodies
abbrev in_class : List IndexedItem → Part
in_class items = opened (so_far items)

body_in_class : (body : Body) (part : Part) → part.locals ≡ [] → in_body body part ≡ record (opened part) { locals = body.locals; inner = record { here = body.statements; other = None } }
body_in_class body part none = ap (λ l. record (opened part) { locals = l; inner = record { here = body.statements; other = None } }) (ap (λ l. body.locals ++ l) none ∙ append-nil body.locals)

destroy_said : (body : Option Body) (items : List IndexedItem) → list_all is_of_a_script (own_body_lines line_kind.Destructor body) ≡ true → with_lines (own_body_lines line_kind.Destructor body) (in_class items) ≡ record (in_class items) { destroy = body }
destroy_said None items known = refl
destroy_said (Some body) items known =
    let (told, end) = following (body_lines 0 body) (end_line ∷ []) known in
    ap (with_line 0 (Line line_kind.Destructor [])) (body_said 0 body (in_class items) told ∙ body_in_class body (in_class items) refl)

construct_said : (body destroy : Option Body) (items : List IndexedItem) → list_all is_of_a_script (own_body_lines line_kind.Constructor body) ≡ true →
    with_lines (own_body_lines line_kind.Constructor body) (record (in_class items) { destroy = destroy }) ≡ record (in_class items) { construct = body; destroy = destroy }
construct_said None destroy items known = refl
construct_said (Some body) destroy items known =
    let part = record (in_class items) { destroy = destroy } in
    let (told, end) = following (body_lines 0 body) (end_line ∷ []) known in
    ap (with_line 0 (Line line_kind.Constructor [])) (body_said 0 body part told ∙ body_in_class body part refl)

class_said : (index : ℕ) (c : Class) (items : List IndexedItem) → list_all is_of_a_script (class_lines index c) ≡ true → with_lines (class_lines index c) (so_far items) ≡ so_far (indexed_class index c ∷ items)
class_said index c items known =
    let fields = field_lines 0 c.fields in
    let construct = own_body_lines line_kind.Constructor c.construct in
    let destroy = own_body_lines line_kind.Destructor c.destroy in
    let (fields_told, indexed_bodies) = following fields (construct ++ (destroy ++ end_line ∷ [])) known in
    let (construct_told, rest) = following construct (destroy ++ end_line ∷ []) indexed_bodies in
    let (destroy_told, end) = following destroy (end_line ∷ []) rest in
    let inside : Part = record (in_class items) { construct = c.construct; destroy = c.destroy } in
    ap (with_line c.line (class_head index c).1)
    (with_lines-append fields (construct ++ (destroy ++ end_line ∷ [])) (so_far items)
    ∙ ap (with_lines fields)
    (with_lines-append construct (destroy ++ end_line ∷ []) (so_far items)
    ∙ ap (with_lines construct) (with_lines-append destroy (end_line ∷ []) (so_far items) ∙ destroy_said c.destroy items destroy_told)
    ∙ construct_said c.construct c.destroy items construct_told)
    ∙ fields_said 0 c.fields inside
    ∙ ap (λ l. record inside { fields = l }) (append-nil c.fields))

-- after the first line of a procedure or an operation
abbrev in_item : Body → List IndexedItem → Part
in_item body items = record (opened (so_far items)) { locals = body.locals; inner = record { here = body.statements; other = None } }

item_body_said : (index : ℕ) (body : Body) (items : List IndexedItem) → list_all is_of_a_script (body_lines index body) ≡ true → with_lines (body_lines index body ++ end_line ∷ []) (so_far items) ≡ in_item body items
item_body_said index body items told = body_said index body (so_far items) told ∙ body_in_class body (so_far items) refl

procedure_said : (index : ℕ) (p : Procedure) (items : List IndexedItem) → list_all is_of_a_script (procedure_lines index p) ≡ true → with_lines (procedure_lines index p) (so_far items) ≡ so_far (indexed_procedure index p ∷ items)
procedure_said index p items known =
    let (head, rest) = both (is_known (head_line index p.parameters)) (list_all is_of_a_script (body_lines (length p.parameters) p.body ++ end_line ∷ [])) known in
    let (told, end) = following (body_lines (length p.parameters) p.body) (end_line ∷ []) rest in
    ap (with_line p.line (head_line index p.parameters)) (item_body_said (length p.parameters) p.body items told) ∙ by_parameters (all_spelled (map parameter_operand p.parameters)) refl head
  where
    by_parameters : (o : Option (List (Operand Referent))) → all_spelled (map parameter_operand p.parameters) ≡ o → is_known (line_or_unknown line_kind.Proc (and_operand (Some (Name (referent.Declared index))) o)) ≡ true →
        with_line p.line (line_or_unknown line_kind.Proc (and_operand (Some (Name (referent.Declared index))) o)) (in_item p.body items) ≡ so_far (indexed_procedure index p ∷ items)
    by_parameters (Some operands) is known = ap (λ l. so_far (indexed_procedure index (record p { parameters = l }) ∷ items)) (parameters_back p.parameters operands is)
    by_parameters None is known = let clash : ⊥ = cc in absurd clash

operation_said : (index : ℕ) (o : Operation) (items : List IndexedItem) → list_all is_of_a_script (operation_lines index o) ≡ true → with_lines (operation_lines index o) (so_far items) ≡ so_far (indexed_operation index o ∷ items)
operation_said index o items known =
    let (told, end) = following (body_lines 1 o.body) (end_line ∷ []) known in
    ap (with_line o.line (operation_head index o).1) (item_body_said 1 o.body items told)

-- the lines that tell an item
abbrev lines_of_indexed : IndexedItem → Lines
lines_of_indexed t = of_item t.index t.item
  where
    of_item : ℕ → Item → Lines
    of_item index (Item.class c) = lines_of_class index c
    of_item index (Item.procedure p) = lines_of_procedure index p
    of_item index (Item.operation o) = lines_of_operation index o

number_of_indexed : (t : IndexedItem) → (lines_of_indexed t).number ≡ line_of_indexed t
number_of_indexed t = by_item t.index t.item
  where
    by_item : (index : ℕ) (i : Item) → (lines_of_indexed (record { index = index; item = i })).number ≡ line_of_indexed (record { index = index; item = i })
    by_item index (Item.class c) = refl
    by_item index (Item.procedure p) = refl
    by_item index (Item.operation o) = refl

item_said : (t : IndexedItem) (items : List IndexedItem) → list_all is_of_a_script (lines_of_indexed t).lines ≡ true → with_lines (lines_of_indexed t).lines (so_far items) ≡ so_far (t ∷ items)
item_said t items known = by_item t.index t.item known
  where
    by_item : (index : ℕ) (i : Item) → list_all is_of_a_script (lines_of_indexed (record { index = index; item = i })).lines ≡ true →
        with_lines (lines_of_indexed (record { index = index; item = i })).lines (so_far items) ≡ so_far (record { index = index; item = i } ∷ items)
    by_item index (Item.class c) known = class_said index c items known
    by_item index (Item.procedure p) known = procedure_said index p items known
    by_item index (Item.operation o) known = operation_said index o items known

items_said : (items : List IndexedItem) → list_all is_of_a_script (all_lines (map lines_of_indexed items)) ≡ true → with_lines (all_lines (map lines_of_indexed items)) nothing ≡ so_far items
items_said [] known = refl
items_said (t ∷ ts) known =
    let (here, rest) = following (lines_of_indexed t).lines (all_lines (map lines_of_indexed ts)) known in
    with_lines-append (lines_of_indexed t).lines (all_lines (map lines_of_indexed ts)) nothing
    ∙ ap (with_lines (lines_of_indexed t).lines) (items_said ts rest)
    ∙ item_said t ts here

-- the items of a script
abbrev items_in : Script → Items
items_in script = record { classes = script.classes; procedures = script.procedures; operations = script.operations }

-- the lines of a tree are those that its items tell
lines_of_all_indexed : (script : Script) → script_lines script ≡ all_lines (map lines_of_indexed (all_indexed (items_in script)))
lines_of_all_indexed script =
    let classes = indexed_from indexed_class 0 script.classes in
    let procedures = indexed_from indexed_procedure 0 script.procedures in
    let operations = indexed_from indexed_operation 0 script.operations in
    let bodies : bodies_in_order script ≡ map lines_of_indexed (ordered procedures operations) =
    ap (λ l. in_order l (each_from lines_of_operation 0 script.operations)) (lines_of_each_indexed indexed_procedure lines_of_indexed lines_of_procedure (λ i p. refl) 0 script.procedures)
    ∙ ap (in_order (map lines_of_indexed procedures)) (lines_of_each_indexed indexed_operation lines_of_indexed lines_of_operation (λ i o. refl) 0 script.operations)
    ∙ sym (lines_ordered lines_of_indexed number_of_indexed procedures operations) in
    ap (λ l. all_lines (in_order l (bodies_in_order script))) (lines_of_each_indexed indexed_class lines_of_indexed lines_of_class (λ i c. refl) 0 script.classes)
    ∙ ap (λ l. all_lines (in_order (map lines_of_indexed classes) l)) bodies
    ∙ ap all_lines (sym (lines_ordered lines_of_indexed number_of_indexed classes (ordered procedures operations)))

-- lines of a script are those of one list of items of each kind
one_tree : (lines : List Marked) (script other : Script) → list_all is_of_a_script lines ≡ true → script_lines script ≡ lines → script_lines other ≡ lines → items_in script ≡ items_in other
one_tree lines script other known is also =
    let first = sym (lines_of_all_indexed script) ∙ is in
    let second = sym (lines_of_all_indexed other) ∙ also in
    let told = items_said (all_indexed (items_in script)) (ap (list_all is_of_a_script) first ∙ known) in
    let said = items_said (all_indexed (items_in other)) (ap (list_all is_of_a_script) second ∙ known) in
    one_list_each (items_in script) (items_in other) (ap (λ (part : Part). part.items) (sym told ∙ ap (λ l. with_lines l nothing) (first ∙ sym second) ∙ said))

same_script : (script other : Script) → script.classes ≡ other.classes → script.procedures ≡ other.procedures → script.operations ≡ other.operations → script.literals ≡ other.literals → script.main ≡ other.main → script ≡ other
same_script script other a b c d e =
    ap (λ x. record script { classes = x }) a
    ∙ ap (λ x. record script { classes = other.classes; procedures = x }) b
    ∙ ap (λ x. record script { classes = other.classes; procedures = other.procedures; operations = x }) c
    ∙ ap (λ x. record script { classes = other.classes; procedures = other.procedures; operations = other.operations; literals = x }) d
    ∙ ap (λ x. record other { main = x }) e

pub script_once : (bytes : List ℕ) (script other : Script) → IsScriptOf bytes script → IsScriptOf bytes other → script ≡ other
script_once bytes script other a b =
    let forms = forms_of (lines_of bytes) in
    let grammar = subst IsGrammatical (sym (roles-resolved forms)) a.well_formed.grammar in
    let items = one_tree (counted_from 1 (resolved forms)) script other (known_lines (resolved forms) grammar) a.tree.tree b.tree.tree in
    let mains : Some script.main ≡ Some other.main = sym a.tree.main ∙ b.tree.main in
    same_script script other (ap (λ (i : Items). i.classes) items) (ap (λ (i : Items). i.procedures) items) (ap (λ (i : Items). i.operations) items) (a.tree.literals ∙ sym b.tree.literals) (cc mains)
