use Rattle.std.proofs.Common.{◌≡◌, ℕ, Result, Ok, Err, OnOk, OnErr, sym, subst}
use Rattle.wb_heap_model.specs.declared.heap.Gave.{Gave}
use Rattle.wb_heap_model.specs.declared.heap.Kind.{Kind}
use Rattle.wb_heap_model.specs.declared.heap.Kind.TheVariants.{Raw}
use Rattle.wb_basics.specs.declared.memory.NoMemory.{NoMemory}
use Rattle.wb_heap_model.specs.Debug.{Debug, IsSoundDebug, alloc_made}
use Rattle.wb_cleanup.specs.declared.cleanup.Cleanup.{Cleanup}
use Rattle.wb_cleanup.proofs.HeapBesideStack.{alloc-beside}
use Rattle.wb_call_tests.specs.Stacked.{IsStacked}
use Rattle.wb_call_tests.proofs.stacks.Stacked.alloc.Goals as goal

-- an attempt for another cell leaves the stack, whatever it answers
kept : (stack : Cleanup) (d e : Debug) (bytes : ℕ) (kind : Kind) (answer : Result Gave NoMemory) → IsStacked stack d →
    OnOk answer (e ≡ (alloc_made d bytes kind).debug) → OnErr answer (e ≡ d) → OnOk answer (IsSoundDebug e) → IsStacked stack e
kept stack d e bytes kind (Ok gave) is made same sound =
    record { stands = (alloc-beside stack d e bytes kind is.sound is.stands made).is; sound = sound }
kept stack d e bytes kind (Err none) is made same sound = subst (λ x. IsStacked stack x) (sym same) is

pub invariant_of-self : goal.invariant_of-self
invariant_of-self c =
    kept c.self.inside.stack c.self.inside.heap c.alloc.new.heap c.args.bytes Raw c.alloc.result c.self.invariant
    c.alloc.ensures.made c.alloc.ensures.err c.alloc.ensures.sound
