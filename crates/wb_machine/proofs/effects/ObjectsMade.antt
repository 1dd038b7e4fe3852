-- A new object leaves texts and the cleanup stack as they are, and what no turn changes.
use Rattle.std.proofs.Common.{◌≡◌, ℕ, List, length, refl, Option, Some, None, Result, OnOk, OnErr}
use Rattle.wb_heap_model.specs.declared.heap.Answer.{Answer}
use Rattle.wb_heap_model.specs.declared.heap.Answer.TheVariants.{Granted, Simulated, Refused}
use Rattle.wb_heap_model.specs.declared.heap.Kind.TheVariants.{Object}
use Rattle.wb_tree.specs.declared.script.Class.{Class}
use Rattle.wb_heap_model.specs.Row.{Cell, cell_at}
use Rattle.wb_heap_model.specs.Rules.{Request}
use Rattle.wb_heap_model.specs.Heap.{alloc_request, after_alloc, new_cell}
use Rattle.wb_tree.specs.Bodies.{payload_of_object}
use Rattle.wb_heap_model.specs.Debug.{Debug, IsSoundDebug, answer_in, made_by, number_of_next}
use Rattle.wb_heap_model.proofs.Reallocations.{cell_at-inserted_other, not_at-number}
use Rattle.wb_cleanup.specs.declared.cleanup.Cleanup.{Cleanup}
use Rattle.wb_cleanup.specs.Stacks.{IsStack, cell_of}
use Rattle.wb_cleanup.proofs.HeapBesideStack.{old-number}
use Rattle.wb_objects.specs.Objects.{new_words, object_made}
use Rattle.wb_machine.specs.Owed as owed
use Rattle.wb_machine.specs.RunState.{RunState, with_debug}
use Rattle.wb_machine.specs.StackInvariant.{IsMemory, StandsIn}
use Rattle.wb_machine.specs.TextInvariant.{AreTexts}
use Rattle.wb_machine.proofs.kept.StackBeside.{Stays, called_beside, same_cell}
use Rattle.wb_machine.proofs.effects.UnchangedByAttempts.{alloc_after, made_stays}
use Rattle.wb_machine.proofs.kept.TextInvariant.{texts_inserted}

module _ (d : Debug) (index : ℕ) (class : Class) where
  abbrev t : Request
  t = alloc_request d.heap (payload_of_object class)

  abbrev ws : List ℕ
  ws = new_words t.length index (length class.fields)

  abbrev cell : Cell (List ℕ)
  cell = new_cell d.heap (number_of_next d) t (Object index) ws

  abbrev answered : Option Answer → Debug
  answered o = (made_by d t (after_alloc d.heap t (Object index) ws) o).debug

  -- the texts
  pub texts_with_object : AreTexts d.heap.row → AreTexts (object_made d index class).debug.heap.row
  texts_with_object texts = by (answer_in d t)
    where
      by : (o : Option Answer) → AreTexts (answered o).heap.row
      by None = texts
      by (Some Granted) = texts_inserted cell d.heap.row (λ is. cc) texts
      by (Some Simulated) = texts
      by (Some Refused) = texts

  -- the stack
  object_beside : (o : Option Cleanup) → IsSoundDebug d → StandsIn o d.heap.row → Stays o d (object_made d index class).debug
  object_beside o sound stands = same_cell o d _ stands (λ stack is. by stack is (answer_in d t))
    where
      by : (stack : Cleanup) → IsStack stack d → (o : Option Answer) → cell_at (cell_of stack) (answered o).heap.row ≡ cell_at (cell_of stack) d.heap.row
      by stack is None = refl
      by stack is (Some Simulated) = refl
      by stack is (Some Refused) = refl
      by stack is (Some Granted) =
          cell_at-inserted_other (cell_of stack) cell d.heap.row (not_at-number (cell_of stack) cell.head (old-number (cell_of stack) d is.cell.cell sound is.cell.found))

  -- an attempt that may have found no memory
  pub object_called : {X Y : Type 0} (r : Result X Y) (o : Option Cleanup) (e : Debug) → IsMemory d o → OnOk r (e ≡ (object_made d index class).debug) → OnErr r (e ≡ d) → Stays o d e
  object_called r o e is ok err = called_beside r o d (object_made d index class).debug e is.stands (object_beside o is.sound is.stands) ok err

pub object_stays : (h : RunState) (index : ℕ) (class : Class) → owed.Stays h (with_debug h (object_made h.debug index class).debug)
object_stays h index class =
    let d = h.debug in
    made_stays h (t d index class) (after_alloc d.heap (t d index class) (Object index) (ws d index class)) (alloc_after d (t d index class) (Object index) (ws d index class)) (answer_in d (t d index class))
