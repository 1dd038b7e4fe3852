-- How many classes, procedures and operations lines have.
use Rattle.std.proofs.Common.{◌≡◌, refl, ap, ℕ, suc, ◌+◌, ◌≤◌, List, [], ◌∷◌, length, length-append, arith}
use Rattle.wb_tree.specs.declared.script_lines.LineKind.TheVariants as line_kind
use Rattle.wb_tree.specs.declared.script_lines.Form.TheVariants.{Line}
use Rattle.wb_language.specs.Passes.{state_after}
use Rattle.wb_language.specs.Trees.{Indexed}
use Rattle.wb_script.specs.Building.{Counts, counts_after, counts_of, nothing_counted, parameters_of, with_field}

-- one more field, and as many classes
pub as_many_with_field : (classes : List ℕ) → length (with_field classes) ≡ length classes
as_many_with_field [] = refl
as_many_with_field (count ∷ []) = refl
as_many_with_field (count ∷ next ∷ classes) = ap suc (as_many_with_field (next ∷ classes))

-- how many items are counted
abbrev pub many : Counts → ℕ
many counts = length counts.classes + (length counts.procedures + counts.operations)

one_at_most : (line : Indexed) (counts : Counts) → many (counts_after counts line) ≤ many counts + 1
one_at_most (Line line_kind.Class operands) counts = omega (arith, length-append counts.classes (0 ∷ []))
one_at_most (Line line_kind.Field operands) counts = omega (arith, as_many_with_field counts.classes)
one_at_most (Line line_kind.ClassField operands) counts = omega (arith, as_many_with_field counts.classes)
one_at_most (Line line_kind.Proc operands) counts = omega (arith, length-append counts.procedures (parameters_of (Line line_kind.Proc operands) ∷ []))
one_at_most (Line line_kind.Op operands) counts = omega arith
one_at_most (Line _ operands) counts = omega arith
one_at_most _ counts = omega arith

from : (lines : List Indexed) (counts : Counts) → many (state_after counts_after counts lines) ≤ many counts + length lines
from [] counts = omega arith
from (line ∷ lines) counts = omega (arith, from lines (counts_after counts line), one_at_most line counts)

-- no more than lines
pub few_items : (lines : List Indexed) → length (counts_of lines).classes + (length (counts_of lines).procedures + (counts_of lines).operations) ≤ length lines
few_items lines = omega (arith, from lines nothing_counted)
