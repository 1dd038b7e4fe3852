-- What is left after a statement that was carried out, and whose pieces are known.
use Rattle.std.proofs.Common.{◌≡◌, List, ℕ, refl, ap, ◌∙◌}
use Rattle.wb_heap_model.specs.declared.heap.Rule.{Rule}
use Rattle.wb_tree.specs.declared.script.Script.{Script}
use Rattle.wb_meaning.specs.Meaning.{meaning_of}
use Rattle.wb_meaning.specs.Statements.{Context, Layer}
use Rattle.wb_meaning.specs.Rest.{resume}
use Rattle.wb_meaning.specs.Run.{whole_of}
use Rattle.wb_machine.specs.declared.pieces.Ending.{Ending}
use Rattle.wb_machine.specs.declared.pieces.PendingPiece.{PendingPiece}
use Rattle.wb_machine.specs.Flow.{pending_in, rest_from, rest_of_statement, FitsStep, IsCarriedOut}
use Rattle.wb_machine.specs.Owed.{KeepsCount}
use Rattle.wb_machine.specs.RunState.{RunState, Values}
use Rattle.wb_machine.proofs.turns.Steps.{rest_known}

-- what is left after a statement that was carried out
pub carried : (h g : RunState) (ending : Ending) (layer : Layer) (script : Script) (at : Context) (pieces : List PendingPiece) (r : Rule) (budget : ℕ) →
    IsCarriedOut script at.floor layer h ending g → KeepsCount h g → FitsStep r h ending g →
    rest_from script budget r ending pieces g ≡ rest_of_statement script budget r at layer pieces h
carried h g ending layer script at pieces r budget is keeps f =
    rest_known script budget r ending pieces (pending_in h.callers pieces) g (ap (λ (callers : Values). pending_in callers pieces) keeps.callers)
    ∙ ap whole_of (is r f (meaning_of script budget) at refl (resume script budget (pending_in h.callers pieces)))
