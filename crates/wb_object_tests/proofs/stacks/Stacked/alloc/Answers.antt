use Rattle.std.proofs.Common.{◌≡◌, ℕ, Bool, Result, Ok, Err, OnOk, OnErr, sym, subst}
use Rattle.wb_heap_model.specs.declared.heap.Gave.{Gave}
use Rattle.wb_heap_model.specs.declared.heap.Kind.{Kind}
use Rattle.wb_heap_model.specs.declared.heap.Kind.TheVariants.{Raw}
use Rattle.wb_basics.specs.declared.memory.NoMemory.{NoMemory}
use Rattle.wb_heap_model.specs.Debug.{Debug, IsSoundDebug, alloc_made}
use Rattle.wb_cleanup.specs.declared.cleanup.Cleanup.{Cleanup}
use Rattle.wb_cleanup.proofs.HeapBesideStack.{alloc-beside}
use Rattle.wb_object_tests.specs.Stacked.{IsStacked}
use Rattle.wb_object_tests.proofs.stacks.Stacked.alloc.Goals as goal

-- an attempt for another cell leaves the stack, whatever it answers
kept : (stack : Cleanup) (d e : Debug) (full : Bool) (bytes : ℕ) (kind : Kind) (answer : Result Gave NoMemory) → IsStacked stack d full →
    OnOk answer (e ≡ (alloc_made d bytes kind).debug) → OnErr answer (e ≡ d) → IsSoundDebug e → IsStacked stack e full
kept stack d e full bytes kind (Ok gave) is made same sound =
    record { stands = (alloc-beside stack d e bytes kind is.sound is.stands made).is; sound = sound; room = is.room }
kept stack d e full bytes kind (Err none) is made same sound = subst (λ x. IsStacked stack x full) (sym same) is

pub invariant_of-self : goal.invariant_of-self
invariant_of-self c =
    kept c.self.inside.stack c.self.inside.heap c.attempt_alloc.new.self c.self.inside.full c.args.bytes Raw c.attempt_alloc.result c.self.invariant
    c.attempt_alloc.ensures.made c.attempt_alloc.ensures.err c.attempt_alloc.ensures.sound
