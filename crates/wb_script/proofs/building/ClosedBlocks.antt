-- The lines of a statement, with those of what is inside it, and what a closed block is.
use Rattle.std.proofs.Common.{◌≡◌, refl, sym, ap, subst, ◌∙◌, ℕ, List, [], ◌∷◌, ◌++◌, map, Some, Bool, true, false, ◌&&◌, IsTrue, append_assoc}
use Rattle.std.specs.Prelude.{◌||◌, nat_lt, slice_get}
use Rattle.wb_tree.specs.declared.script.Condition.{Condition}
use Rattle.wb_tree.specs.declared.script.Condition.TheVariants.{IsNull, NotNull, Equal, Less}
use Rattle.wb_tree.specs.declared.script_lines.LineKind.{LineKind}
use Rattle.wb_tree.specs.declared.script_lines.Referent.{Referent}
use Rattle.wb_tree.specs.declared.script_lines.Operand.{Operand}
use Rattle.wb_tree.specs.declared.script_lines.Form.TheVariants.{Line}
use Rattle.wb_tree.specs.declared.script.Argument.{Argument}
use Rattle.wb_tree.specs.declared.script.Holder.TheVariants as H
use Rattle.wb_tree.specs.declared.script.Pointer.{Pointer}
use Rattle.wb_tree.specs.declared.script.Pointer.TheVariants.{Held}
use Rattle.wb_tree.specs.declared.script.Refusal.TheVariants.{GivesNull, Leaves}
use Rattle.wb_tree.specs.declared.script_lines.LineKind.TheVariants as line_kind
use Rattle.wb_tree.specs.declared.script.Number.{Number}
use Rattle.wb_tree.specs.declared.script.StatementAt.{StatementAt}
use Rattle.wb_tree.specs.declared.script.Statement.{Statement}
use Rattle.wb_tree.specs.declared.script.Statement.TheOpen.{Statement-F}
use Rattle.wb_tree.specs.declared.script.Statement.TheFolds.{map-Statement, fold-StatementAt, fold_out-StatementAt, fold_out-Statement, fold-roll-Statement}
use Rattle.wb_tree.specs.declared.script.Statement.TheViews.{out-Statement, outs-If, outs-IfElse, outs-Repeat, outs-Trap, outs-Call, outs-CallTo, outs-PushOperation, outs-Construct, outs-Delete, If, IfElse, Repeat, Trap}
use Rattle.wb_tree.specs.declared.script.Statement.TheVariants.{Call, CallTo, Construct, Delete, PushOperation, rolls-If, rolls-IfElse, rolls-Repeat, rolls-Trap}
use Rattle.wb_tree.specs.Sound.{Declared, Scope, is_condition, is_number, is_variable, is_pointer, is_pointer_local, is_call, is_statement, is_simple, is_nested, are_within}
use Rattle.wb_language.specs.Kinds.{is_trap}
use Rattle.wb_language.specs.Trees.{Marked, lines_joined, layer_lines, statement_at_layer, statement_at_lines, lines_of_statement, statement_lines, statement_line, condition_line, end_line, else_line, line_or_unknown, and_operand, all_spelled}
use Rattle.wb_tree.specs.Spellings.{argument_operand, pointer_operand, procedure_operand, operation_operand}
use Rattle.wb_script.specs.declared.tree.blocks.Head.TheVariants as head
use Rattle.wb_script.specs.Building.{IsWhole, condition_line_kind, head_form, head_lines}
use Rattle.wb_script.specs.Stated.{IsOneLine}

abbrev pub lines_of_statement_at : StatementAt → List Marked
lines_of_statement_at = fold-StatementAt (ℕ → List Marked) (List Marked) layer_lines statement_at_layer

same_lines : (s : StatementAt) → lines_of_statement_at s ≡ statement_at_lines s
same_lines s = fold_out-StatementAt (ℕ → List Marked) (List Marked) layer_lines statement_at_layer s

pub joined-map : (ss : List StatementAt) → lines_joined (map lines_of_statement_at ss) ≡ statement_lines ss
joined-map [] = refl
joined-map (s ∷ ss) = ap (λ l. lines_of_statement_at s ++ l) (joined-map ss) ∙ ap (λ l. l ++ statement_lines ss) (same_lines s)

if_lines : (c : Condition) (first : List StatementAt) (n : ℕ) → lines_of_statement (If c first) n ≡ (Some n, condition_line c) ∷ (statement_lines first ++ end_line ∷ [])
if_lines c first n =
    ap (λ s. lines_of_statement s n) (sym (rolls-If c first))
    ∙ ap (λ f. f n) (fold-roll-Statement (ℕ → List Marked) (List Marked) layer_lines statement_at_layer (Statement-F.If c first))
    ∙ ap (λ l. (Some n, condition_line c) ∷ (l ++ end_line ∷ [])) (joined-map first)

if_else_lines : (c : Condition) (first other : List StatementAt) (n : ℕ) → lines_of_statement (IfElse c first other) n ≡ head_lines n (head.Else c first) ++ (statement_lines other ++ end_line ∷ [])
if_else_lines c first other n =
    ap (λ s. lines_of_statement s n) (sym (rolls-IfElse c first other))
    ∙ ap (λ f. f n) (fold-roll-Statement (ℕ → List Marked) (List Marked) layer_lines statement_at_layer (Statement-F.IfElse c first other))
    ∙ ap (λ l. (Some n, condition_line c) ∷ (l ++ else_line ∷ (lines_joined (map lines_of_statement_at other) ++ end_line ∷ []))) (joined-map first)
    ∙ ap (λ l. (Some n, condition_line c) ∷ (statement_lines first ++ else_line ∷ (l ++ end_line ∷ []))) (joined-map other)
    ∙ ap (λ l. (Some n, condition_line c) ∷ l) (sym (append_assoc (statement_lines first) (else_line ∷ []) (statement_lines other ++ end_line ∷ [])))

repeat_lines : (v : Number) (body : List StatementAt) (n : ℕ) → lines_of_statement (Repeat v body) n ≡ head_lines n (head.Repeat v) ++ (statement_lines body ++ end_line ∷ [])
repeat_lines v body n =
    ap (λ s. lines_of_statement s n) (sym (rolls-Repeat v body))
    ∙ ap (λ f. f n) (fold-roll-Statement (ℕ → List Marked) (List Marked) layer_lines statement_at_layer (Statement-F.Repeat v body))
    ∙ ap (λ l. (Some n, head_form (head.Repeat v)) ∷ (l ++ end_line ∷ [])) (joined-map body)

trap_lines : (x : ℕ) (body : List StatementAt) (n : ℕ) → lines_of_statement (Trap x body) n ≡ head_lines n (head.Trap x) ++ (statement_lines body ++ end_line ∷ [])
trap_lines x body n =
    ap (λ s. lines_of_statement s n) (sym (rolls-Trap x body))
    ∙ ap (λ f. f n) (fold-roll-Statement (ℕ → List Marked) (List Marked) layer_lines statement_at_layer (Statement-F.Trap x body))
    ∙ ap (λ l. (Some n, head_form (head.Trap x)) ∷ (l ++ end_line ∷ [])) (joined-map body)

pub both : (a b : Bool) → IsTrue a → IsTrue b → IsTrue (a && b)
both true true p q = refl
both true false p q = q
both false b p q = p

three : (a b c : Bool) → IsTrue (a && b) → IsTrue c → IsTrue (a && (b && c))
three true true c p q = q
three true false c p q = p
three false b c p q = p

never_or : (trapped : Bool) → (trapped || false) ≡ trapped
never_or true = refl
never_or false = refl

always_or : (trapped : Bool) → (trapped || true) ≡ true
always_or true = refl
always_or false = refl

pub no_trap : (trapped : Bool) (c : Condition) → (trapped || is_trap (condition_line_kind c)) ≡ trapped
no_trap trapped (IsNull p) = never_or trapped
no_trap trapped (NotNull p) = never_or trapped
no_trap trapped (Equal v w) = never_or trapped
no_trap trapped (Less v w) = never_or trapped

pub whole_if : (c : Condition) (ss : List StatementAt) → IsWhole (head.If c) ss (If c ss)
whole_if c ss = record {
  lines = if_lines c ss;
  sound = λ declared scope depth trapped is inner.
      subst (λ layer. IsTrue (is_nested declared scope trapped (are_within declared scope depth) layer)) (sym (outs-If c ss))
      (both (is_condition scope c) (are_within declared scope depth trapped ss) is (subst (λ t. IsTrue (are_within declared scope depth t ss)) (no_trap trapped c) inner));
}

pub whole_else : (c : Condition) (first ss : List StatementAt) → IsWhole (head.Else c first) ss (IfElse c first ss)
whole_else c first ss = record {
  lines = if_else_lines c first ss;
  sound = λ declared scope depth trapped is inner.
      subst (λ layer. IsTrue (is_nested declared scope trapped (are_within declared scope depth) layer)) (sym (outs-IfElse c first ss))
      (three (is_condition scope c) (are_within declared scope depth trapped first) (are_within declared scope depth trapped ss) is (subst (λ t. IsTrue (are_within declared scope depth t ss)) (no_trap trapped c) inner));
}

pub whole_repeat : (v : Number) (ss : List StatementAt) → IsWhole (head.Repeat v) ss (Repeat v ss)
whole_repeat v ss = record {
  lines = repeat_lines v ss;
  sound = λ declared scope depth trapped is inner.
      subst (λ layer. IsTrue (is_nested declared scope trapped (are_within declared scope depth) layer)) (sym (outs-Repeat v ss))
      (both (is_number scope.locals v) (are_within declared scope depth trapped ss) is (subst (λ t. IsTrue (are_within declared scope depth t ss)) (never_or trapped) inner));
}

pub whole_trap : (x : ℕ) (ss : List StatementAt) → IsWhole (head.Trap x) ss (Trap x ss)
whole_trap x ss = record {
  lines = trap_lines x ss;
  sound = λ declared scope depth trapped is inner.
      subst (λ layer. IsTrue (is_nested declared scope trapped (are_within declared scope depth) layer)) (sym (outs-Trap x ss))
      (both (is_variable scope.locals x) (are_within declared scope depth true ss) is (subst (λ t. IsTrue (are_within declared scope depth t ss)) (always_or trapped) inner));
}

-- a statement that nothing is inside
abbrev pub is_flat : {A B : Type 0} → Statement-F A B → Bool
is_flat (Statement-F.If c first) = false
is_flat (Statement-F.IfElse c first other) = false
is_flat (Statement-F.Repeat v body) = false
is_flat (Statement-F.Trap x body) = false
is_flat _ = true

pub flat_layer : (n : ℕ) (layer : Statement-F Statement StatementAt) → IsTrue (is_flat layer) → layer_lines (map-Statement Statement StatementAt (ℕ → List Marked) (List Marked) lines_of_statement lines_of_statement_at layer) n ≡ (Some n, statement_line layer) ∷ []
flat_layer n (Statement-F.If c first) flat = let clash : ⊥ = cc in absurd clash
flat_layer n (Statement-F.IfElse c first other) flat = let clash : ⊥ = cc in absurd clash
flat_layer n (Statement-F.Repeat v body) flat = let clash : ⊥ = cc in absurd clash
flat_layer n (Statement-F.Trap x body) flat = let clash : ⊥ = cc in absurd clash
flat_layer n (Statement-F.Alloc p v GivesNull) flat = refl
flat_layer n (Statement-F.Alloc p v Leaves) flat = refl
flat_layer n (Statement-F.Realloc p q v GivesNull) flat = refl
flat_layer n (Statement-F.Realloc p q v Leaves) flat = refl
flat_layer n (Statement-F.New p class GivesNull) flat = refl
flat_layer n (Statement-F.New p class Leaves) flat = refl
flat_layer n (Statement-F.NewText p v GivesNull) flat = refl
flat_layer n (Statement-F.NewText p v Leaves) flat = refl
flat_layer n _ flat = refl

-- it has one line
one_line : (s : Statement) (n : ℕ) → IsTrue (is_flat (out-Statement s)) → lines_of_statement s n ≡ (Some n, statement_line (out-Statement s)) ∷ []
one_line s n flat = ap (λ f. f n) (fold_out-Statement (ℕ → List Marked) (List Marked) layer_lines statement_at_layer s) ∙ flat_layer n (out-Statement s) flat

flat_simple : (literals : ℕ) (scope : Scope) (trapped : Bool) (layer : Statement-F Statement StatementAt) → IsTrue (is_simple literals scope trapped layer) → IsTrue (is_flat layer)
flat_simple literals scope trapped (Statement-F.If c first) is = let clash : ⊥ = cc in absurd clash
flat_simple literals scope trapped (Statement-F.IfElse c first other) is = let clash : ⊥ = cc in absurd clash
flat_simple literals scope trapped (Statement-F.Repeat v body) is = let clash : ⊥ = cc in absurd clash
flat_simple literals scope trapped (Statement-F.Trap x body) is = let clash : ⊥ = cc in absurd clash
flat_simple literals scope trapped _ is = refl

simple_plain : (literals : ℕ) (scope : Scope) (trapped : Bool) (layer : Statement-F Statement StatementAt) → IsTrue (is_statement literals scope layer) → IsTrue (is_simple literals scope trapped layer)
simple_plain literals scope trapped Statement-F.Return is = let clash : ⊥ = cc in absurd clash
simple_plain literals scope trapped (Statement-F.ReturnPointer p) is = let clash : ⊥ = cc in absurd clash
simple_plain literals scope trapped _ is = is

nested_simple : (declared : Declared) (scope : Scope) (trapped : Bool) (inside : Bool → List StatementAt → Bool) (layer : Statement-F Statement StatementAt) → IsTrue (is_simple declared.literals scope trapped layer) → IsTrue (is_nested declared scope trapped inside layer)
nested_simple declared scope trapped inside (Statement-F.Call p arguments) is = let clash : ⊥ = cc in absurd clash
nested_simple declared scope trapped inside (Statement-F.CallTo x p arguments) is = let clash : ⊥ = cc in absurd clash
nested_simple declared scope trapped inside (Statement-F.Construct p) is = let clash : ⊥ = cc in absurd clash
nested_simple declared scope trapped inside (Statement-F.Delete p) is = let clash : ⊥ = cc in absurd clash
nested_simple declared scope trapped inside (Statement-F.PushOperation p n) is = let clash : ⊥ = cc in absurd clash
nested_simple declared scope trapped inside (Statement-F.If c first) is = let clash : ⊥ = cc in absurd clash
nested_simple declared scope trapped inside (Statement-F.IfElse c first other) is = let clash : ⊥ = cc in absurd clash
nested_simple declared scope trapped inside (Statement-F.Repeat v body) is = let clash : ⊥ = cc in absurd clash
nested_simple declared scope trapped inside (Statement-F.Trap x body) is = let clash : ⊥ = cc in absurd clash
nested_simple declared scope trapped inside _ is = is

pub simple_line : (declared : Declared) (scope : Scope) (trapped : Bool) (k : LineKind) (operands : List (Operand Referent)) (s : Statement) → statement_line (out-Statement s) ≡ Line k operands → IsTrue (is_simple declared.literals scope trapped (out-Statement s)) → IsOneLine declared scope trapped k operands s
simple_line declared scope trapped k operands s is sound = record {
  lines = λ n. one_line s n (flat_simple declared.literals scope trapped (out-Statement s) sound) ∙ ap (λ l. (Some n, l) ∷ []) is;
  sound = λ inside. nested_simple declared scope trapped inside (out-Statement s) sound;
}

pub plain_line : (declared : Declared) (scope : Scope) (trapped : Bool) (k : LineKind) (operands : List (Operand Referent)) (s : Statement) → statement_line (out-Statement s) ≡ Line k operands → IsTrue (is_statement declared.literals scope (out-Statement s)) → IsOneLine declared scope trapped k operands s
plain_line declared scope trapped k operands s is sound = simple_line declared scope trapped k operands s is (simple_plain declared.literals scope trapped (out-Statement s) sound)

pub call_line : (declared : Declared) (scope : Scope) (trapped : Bool) (operands : List (Operand Referent)) (index : ℕ) (arguments : List Argument) → all_spelled (procedure_operand index ∷ map argument_operand arguments) ≡ Some operands → IsTrue (is_call declared.signatures scope index arguments) → IsOneLine declared scope trapped line_kind.Call operands (Call index arguments)
call_line declared scope trapped operands index arguments is sound = record {
  lines = λ n. one_line (Call index arguments) n (subst (λ l. IsTrue (is_flat l)) (sym (outs-Call index arguments)) refl) ∙ ap (λ l. (Some n, statement_line l) ∷ []) (outs-Call index arguments) ∙ ap (λ o. (Some n, line_or_unknown line_kind.Call o) ∷ []) is;
  sound = λ inside. subst (λ l. IsTrue (is_nested declared scope trapped inside l)) (sym (outs-Call index arguments)) sound;
}

pub call_to_line : (declared : Declared) (scope : Scope) (trapped : Bool) (operand : Operand Referent) (operands : List (Operand Referent)) (x index : ℕ) (arguments : List Argument) → pointer_operand (Held (H.Local x)) ≡ Some operand → IsTrue (is_pointer_local (slice_get scope.locals x)) → all_spelled (procedure_operand index ∷ map argument_operand arguments) ≡ Some operands → IsTrue (is_call declared.signatures scope index arguments) → IsOneLine declared scope trapped line_kind.CallTo (operand ∷ operands) (CallTo x index arguments)
call_to_line declared scope trapped operand operands x index arguments first pointer is sound = record {
  lines = λ n.
      one_line (CallTo x index arguments) n (subst (λ l. IsTrue (is_flat l)) (sym (outs-CallTo x index arguments)) refl) ∙ ap (λ l. (Some n, statement_line l) ∷ []) (outs-CallTo x index arguments)
      ∙ ap (λ o. (Some n, line_or_unknown line_kind.CallTo (and_operand (pointer_operand (Held (H.Local x))) o)) ∷ []) is
      ∙ ap (λ o. (Some n, line_or_unknown line_kind.CallTo (and_operand o (Some operands))) ∷ []) first;
  sound = λ inside. subst (λ l. IsTrue (is_nested declared scope trapped inside l)) (sym (outs-CallTo x index arguments)) (both (is_pointer_local (slice_get scope.locals x)) (is_call declared.signatures scope index arguments) pointer sound);
}

pub push_operation_line : (declared : Declared) (scope : Scope) (trapped : Bool) (operand named : Operand Referent) (p : Pointer) (index : ℕ) → pointer_operand p ≡ Some operand → IsTrue (is_pointer scope p) → operation_operand index ≡ Some named → IsTrue (nat_lt index declared.operations) → IsOneLine declared scope trapped line_kind.PushOp (operand ∷ named ∷ []) (PushOperation p index)
push_operation_line declared scope trapped operand named p index first pointer second there = record {
  lines = λ n.
      one_line (PushOperation p index) n (subst (λ l. IsTrue (is_flat l)) (sym (outs-PushOperation p index)) refl) ∙ ap (λ l. (Some n, statement_line l) ∷ []) (outs-PushOperation p index)
      ∙ ap (λ o. (Some n, line_or_unknown line_kind.PushOp (and_operand o (and_operand (operation_operand index) (Some [])))) ∷ []) first
      ∙ ap (λ o. (Some n, line_or_unknown line_kind.PushOp (and_operand (Some operand) (and_operand o (Some [])))) ∷ []) second;
  sound = λ inside. subst (λ l. IsTrue (is_nested declared scope trapped inside l)) (sym (outs-PushOperation p index)) (both (is_pointer scope p) (nat_lt index declared.operations) pointer there);
}

pub construct_line : (declared : Declared) (scope : Scope) (trapped : Bool) (operands : List (Operand Referent)) (p : Pointer) → all_spelled (pointer_operand p ∷ []) ≡ Some operands → IsTrue (is_pointer scope p) → IsOneLine declared scope trapped line_kind.Construct operands (Construct p)
construct_line declared scope trapped operands p is pointer = record {
  lines = λ n.
      one_line (Construct p) n (subst (λ l. IsTrue (is_flat l)) (sym (outs-Construct p)) refl) ∙ ap (λ l. (Some n, statement_line l) ∷ []) (outs-Construct p)
      ∙ ap (λ o. (Some n, line_or_unknown line_kind.Construct o) ∷ []) is;
  sound = λ inside. subst (λ l. IsTrue (is_nested declared scope trapped inside l)) (sym (outs-Construct p)) pointer;
}

pub delete_line : (declared : Declared) (scope : Scope) (trapped : Bool) (operands : List (Operand Referent)) (p : Pointer) → all_spelled (pointer_operand p ∷ []) ≡ Some operands → IsTrue (is_pointer scope p) → IsOneLine declared scope trapped line_kind.Delete operands (Delete p)
delete_line declared scope trapped operands p is pointer = record {
  lines = λ n.
      one_line (Delete p) n (subst (λ l. IsTrue (is_flat l)) (sym (outs-Delete p)) refl) ∙ ap (λ l. (Some n, statement_line l) ∷ []) (outs-Delete p)
      ∙ ap (λ o. (Some n, line_or_unknown line_kind.Delete o) ∷ []) is;
  sound = λ inside. subst (λ l. IsTrue (is_nested declared scope trapped inside l)) (sym (outs-Delete p)) pointer;
}
