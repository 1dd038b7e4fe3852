-- What becomes of an error of clap, and of a fault of what a subcommand asks for.
use Rattle.std.proofs.Common.{◌≡◌, ◌∙◌, inl, Bool, cond, true, false, refl, sym, ap, List, true≢false, ⊎_elim}
use Rattle.std.specs.Prelude.{◌≢◌, ◌%◌, IsTrue, nat_eq, nat_le}
use Rattle.clap.specs.Words.{HasKind, Row, Text, fault_of, kind_of}
use Rattle.clap.specs.declared.error.Error.{Error}
use Rattle.clap.specs.declared.error.kind.ErrorKind.TheVariants.{OutOfMemory}
use Rattle.wb_heap_model.specs.declared.heap.Shape.{Shape as HeapShape}
use Rattle.wb_basics.specs.declared.limits.TheConstants.{LARGEST_MINIMUM}
use Rattle.wb_heap_model.specs.Space.{is_shape}
use Rattle.wb_command_line.specs.Command.{is_sixteenfold}
use Rattle.wb_command_line.specs.CommandLine.{command_line}
use Rattle.wb_command_line.specs.Fault.{IsFaultOf, IsFaultOfOptions, IsFaultOfTask, fault_of_error, is_want_of_memory}
use Rattle.wb_command_line.specs.declared.command.CommandFault.{CommandFault}
use Rattle.wb_command_line.specs.declared.command.CommandFault.TheVariants.{Usage, Both, Also, Shape, Range, NoMemory}

pub want_of_memory : (e : Error) → kind_of e ≡ OutOfMemory → fault_of_error e ≡ NoMemory
want_of_memory e is = rw is refl

pub fault_is : (words : List Text) (e : Error) → HasKind (fault_of command_line words) e → IsFaultOf words (fault_of_error e)
fault_is words e kinds = go (is_want_of_memory (kind_of e)) refl
  where
    go : (b : Bool) → is_want_of_memory (kind_of e) ≡ b → IsFaultOf words (cond b NoMemory (Usage e))
    go true is = tt
    go false isnt =
        let words_fault : kind_of e ≢ OutOfMemory = λ want. true≢false (sym (ap is_want_of_memory want) ∙ isnt) in
        inl (words_fault, ⊎_elim (λ want. absurd (words_fault want)) (λ among. among) kinds)

pub task_fault : (name : Text) (rows : List Row) (fault : CommandFault) → IsFaultOfTask name rows fault → IsFaultOfOptions name rows fault
task_fault name rows (Usage e) mislisted = mislisted
task_fault name rows Both doubled = doubled
task_fault name rows Also disordered = disordered
task_fault name rows Shape none = absurd none
task_fault name rows Range none = absurd none
task_fault name rows NoMemory want = tt

-- a shape that a heap may have is of multiples of 16
pub shapely : (shape : HeapShape) → IsTrue (is_shape shape) → is_sixteenfold shape ≡ true
shapely shape is = go (nat_eq (shape.min % 16) 0) refl (nat_le shape.min LARGEST_MINIMUM) refl (nat_eq (shape.step % 16) 0) refl
  where
    go : (a : Bool) → nat_eq (shape.min % 16) 0 ≡ a → (m : Bool) → nat_le shape.min LARGEST_MINIMUM ≡ m
        → (b : Bool) → nat_eq (shape.step % 16) 0 ≡ b → is_sixteenfold shape ≡ true
    go true min true most true step = rw (min, step) refl
    go true min true most false step = absurd (true≢false (sym (rw (min, most, step) at is)))
    go true min false most b step = absurd (true≢false (sym (rw (min, most) at is)))
    go false min m most b step = absurd (true≢false (sym (rw min at is)))
