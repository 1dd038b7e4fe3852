use Rattle.std.proofs.Common.{◌≡◌, ℕ, Result, Ok, Err, OnOk, OnErr, Option, Some, None, refl, ap, ◌∙◌}
use Rattle.wb_heap_model.specs.declared.heap.Answer.{Answer}
use Rattle.wb_heap_model.specs.declared.heap.Gave.{Gave}
use Rattle.wb_heap_model.specs.declared.heap.Kind.TheVariants.{Raw}
use Rattle.wb_basics.specs.declared.memory.NoMemory.{NoMemory}
use Rattle.wb_heap_model.specs.Debug.{Debug, keeps_rises, made_by, answer_in, number_of_next, alloc_made}
use Rattle.wb_heap_model.specs.Reported.{trace_line}
use Rattle.wb_heap_model.specs.Heap.{after_alloc, alloc_request}
use Rattle.wb_heap_model.specs.LimitedHeap.{zero_words}
use Rattle.wb_heap_model.specs.Rules.{Request}
use Rattle.wb_heap_model.proofs.KeptRises.{rises-stay}
use Rattle.wb_call_tests.proofs.rises.attempt.Goals as goal

-- an attempt changes nothing about what is kept
kept : (d e : Debug) (bytes : ℕ) (answer : Result Gave NoMemory) → OnOk answer (e ≡ (alloc_made d bytes Raw).debug) → OnErr answer (e ≡ d) → keeps_rises e ≡ keeps_rises d
kept d e bytes (Err none) made same = ap keeps_rises same
kept d e bytes (Ok gave) made same = ap keeps_rises made ∙ by (answer_in d t)
  where
    t : Request
    t = alloc_request d.heap bytes

    by : (o : Option Answer) → keeps_rises (made_by d t (after_alloc d.heap t Raw (zero_words t.length)) o).debug ≡ keeps_rises d
    by None = refl
    by (Some a) = rises-stay d.rises (trace_line (number_of_next d) t a)

pub returns : goal.returns
returns c = kept c.args.heap.now c.attempt_alloc.new.self c.args.bytes c.attempt_alloc.result c.attempt_alloc.ensures.made c.attempt_alloc.ensures.err
