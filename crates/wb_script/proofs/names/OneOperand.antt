-- Operands that don't fit a line: those that its one operand place doesn't fit, and another number than the sides of a `set`.
use Rattle.std.proofs.Common.{◌≡◌, refl, List, [], ◌∷◌, Bool, true, false, ◌&&◌, length, IsTrue, arith}
use Rattle.std.proofs.lemmas.Bool.{false≢true}
use Rattle.wb_tree.specs.declared.script_lines.LineKind.{LineKind}
use Rattle.wb_tree.specs.declared.script_lines.LineKind.TheVariants as line_kind
use Rattle.wb_tree.specs.declared.script_lines.OperandPlace.TheVariants as operand_place
use Rattle.wb_tree.specs.declared.script_lines.Referent.{Referent}
use Rattle.wb_tree.specs.declared.script_lines.Operand.{Operand}
use Rattle.wb_tree.specs.Sound.{Declared, Scope}
use Rattle.wb_script.specs.Fitting.{operand_fits, operand_places_fit, operands_fit}
use Rattle.wb_script.specs.Stated.{takes_pointer, takes_number}
use Rattle.wb_script.proofs.names.FitLemmas.{counts_differ}

pub no_pointer : (declared : Declared) (scope : Scope) (k : LineKind) (operands : List (Operand Referent)) → IsTrue (takes_pointer k) → operand_places_fit declared.literals scope (operand_place.Pointer ∷ []) operands ≡ false → operands_fit declared scope k operands ≡ false
no_pointer declared scope line_kind.Free operands takes none = none
no_pointer declared scope line_kind.Push operands takes none = none
no_pointer declared scope line_kind.PushObj operands takes none = none
no_pointer declared scope line_kind.PopCheck operands takes none = none
no_pointer declared scope line_kind.LeaveIfNull operands takes none = none
no_pointer declared scope _ operands takes none = absurd (false≢true takes)

pub no_number : (declared : Declared) (scope : Scope) (k : LineKind) (operands : List (Operand Referent)) → IsTrue (takes_number k) → operand_places_fit declared.literals scope (operand_place.Value ∷ []) operands ≡ false → operands_fit declared scope k operands ≡ false
no_number declared scope line_kind.Pop operands takes none = none
no_number declared scope line_kind.PopDestroy operands takes none = none
no_number declared scope line_kind.Leave operands takes none = none
no_number declared scope line_kind.LeaveIfError operands takes none = none
no_number declared scope line_kind.MarkEnd operands takes none = none
no_number declared scope line_kind.Check operands takes none = none
no_number declared scope line_kind.CheckAll operands takes none = none
no_number declared scope line_kind.FailNext operands takes none = none
no_number declared scope line_kind.FailEvery operands takes none = none
no_number declared scope _ operands takes none = absurd (false≢true takes)

never : (b : Bool) → (b && false) ≡ false
never true = refl
never false = refl

-- a `set` has two sides
pub no_sides : (declared : Declared) (scope : Scope) (operands : List (Operand Referent)) → (length operands ≡ 2 → ⊥) → operands_fit declared scope line_kind.Set operands ≡ false
no_sides declared scope [] differ = refl
no_sides declared scope (a ∷ []) differ = never (operand_fits declared.literals scope operand_place.Target a)
no_sides declared scope (a ∷ b ∷ []) differ = absurd (differ refl)
no_sides declared scope (a ∷ b ∷ c ∷ operands) differ = counts_differ declared.literals scope (operand_place.Target ∷ operand_place.Source ∷ []) (a ∷ b ∷ c ∷ operands) (λ e. omega (arith, e))
