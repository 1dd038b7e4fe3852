-- Which lines have no place in a body: those that begin an item or a part of one, and those whose operands don't fit.
use Rattle.std.proofs.Common.{◌≡◌, ◌⊎◌, inl, inr, ap, ◌∙◌, List, length, Bool, true, false, ◌&&◌, IsTrue}
use Rattle.wb_tree.specs.declared.script_lines.Form.TheVariants.{Line}
use Rattle.wb_tree.specs.declared.script_lines.LineKind.{LineKind}
use Rattle.wb_tree.specs.declared.script_lines.LineKind.TheVariants as line_kind
use Rattle.wb_tree.specs.declared.script_lines.Referent.{Referent}
use Rattle.wb_tree.specs.declared.script_lines.Operand.{Operand}
use Rattle.wb_language.specs.LineKinds.{operand_places_for, role_of}
use Rattle.wb_tree.specs.Sound.{Declared, Scope}
use Rattle.wb_script.specs.declared.tree.bodies.OpenBody.{OpenBody}
use Rattle.wb_script.specs.Building.{Counts, begins_block, fits, is_due, line_kinds_of_blocks, may_stand}
use Rattle.wb_script.specs.Fitting.{operand_places_fit, operands_fit}
use Rattle.wb_script.specs.Growing.{counts_in, scope_in_body}
use Rattle.wb_script.proofs.building.Nests.{opens}

pub opens_item : (k : LineKind) → (k ≡ line_kind.Class) ⊎ ((k ≡ line_kind.Field) ⊎ ((k ≡ line_kind.ClassField) ⊎ ((k ≡ line_kind.Constructor) ⊎ ((k ≡ line_kind.Destructor) ⊎ ((k ≡ line_kind.Proc) ⊎ (k ≡ line_kind.Op)))))) → opens (role_of k) ≡ true
opens_item k (inl e) = ap (λ q. opens (role_of q)) e
opens_item k (inr (inl e)) = ap (λ q. opens (role_of q)) e
opens_item k (inr (inr (inl e))) = ap (λ q. opens (role_of q)) e
opens_item k (inr (inr (inr (inl e)))) = ap (λ q. opens (role_of q)) e
opens_item k (inr (inr (inr (inr (inl e))))) = ap (λ q. opens (role_of q)) e
opens_item k (inr (inr (inr (inr (inr (inl e)))))) = ap (λ q. opens (role_of q)) e
opens_item k (inr (inr (inr (inr (inr (inr e)))))) = ap (λ q. opens (role_of q)) e

two_of_three : {X : Type 0} (a b c : Bool) → (a && c) ≡ false → IsTrue (a && (b && c)) → X
two_of_three true true c none all = let clash : ⊥ = cc in absurd clash
two_of_three true false c none all = let clash : ⊥ = cc in absurd clash
two_of_three false b c none all = let clash : ⊥ = cc in absurd clash

-- a statement whose operands don't fit, or that may not be in a TRAP
pub unstated : {X : Type 0} (declared : Declared) (p : OpenBody) (k : LineKind) (operands : List (Operand Referent)) (before : Counts) →
    (operands_fit declared (scope_in_body declared p) k operands && may_stand (line_kinds_of_blocks p.block_stack.blocks) k) ≡ false → IsTrue (fits declared (counts_in before p) (Line k operands)) → X
unstated declared p k operands before none fit =
    two_of_three (operands_fit declared (scope_in_body declared p) k operands) (is_due (role_of k) (counts_in before p) (Line k operands) operands) (may_stand (line_kinds_of_blocks p.block_stack.blocks) k) none fit

-- the operands of a block's first line fit by the number of literals, whatever else the script has
block_fit : (d e : Declared) (scope : Scope) (k : LineKind) (operands : List (Operand Referent)) → d.literals ≡ e.literals → IsTrue (begins_block k) → operands_fit d scope k operands ≡ operands_fit e scope k operands
block_fit d e scope line_kind.PushOp operands same begins = let clash : ⊥ = cc in absurd clash
block_fit d e scope line_kind.Set operands same begins = let clash : ⊥ = cc in absurd clash
block_fit d e scope line_kind.Call operands same begins = let clash : ⊥ = cc in absurd clash
block_fit d e scope line_kind.CallTo operands same begins = let clash : ⊥ = cc in absurd clash
block_fit d e scope k operands same begins = ap (λ n. operand_places_fit n scope (operand_places_for k (length operands)) operands) same

first_false : {X : Type 0} (a b : Bool) → a ≡ false → IsTrue (a && b) → X
first_false true b none all = let clash : ⊥ = cc in absurd clash
first_false false b none all = let clash : ⊥ = cc in absurd clash

-- the first line of a block whose operands don't fit
pub unbegun : {X : Type 0} (d declared : Declared) (p : OpenBody) (k : LineKind) (operands : List (Operand Referent)) (before : Counts) → declared.literals ≡ d.literals → IsTrue (begins_block k) →
    operands_fit d (scope_in_body declared p) k operands ≡ false → IsTrue (fits declared (counts_in before p) (Line k operands)) → X
unbegun d declared p k operands before same begins none fit =
    first_false (operands_fit declared (scope_in_body declared p) k operands) _ (block_fit declared d (scope_in_body declared p) k operands same begins ∙ none) fit
