use Rattle.std.proofs.Common.{◌≡◌, ℕ, Result, Ok, Err, OnOk, OnErr, Option, Some, None, IsSome, IfSome, List, Bool, true, false, cond, refl, ap, ◌∙◌}
use Rattle.std.specs.Prelude.{nat_lt}
use Rattle.wb_heap_model.specs.declared.heap.Answer.{Answer}
use Rattle.wb_heap_model.specs.declared.heap.Answer.TheVariants.{Granted, Simulated, Refused}
use Rattle.wb_heap_model.specs.declared.heap.Gave.{Gave}
use Rattle.wb_basics.specs.declared.memory.NoMemory.{NoMemory}
use Rattle.wb_heap_model.specs.CellRow.{resized_words}
use Rattle.wb_heap_model.specs.Debug.{Debug, made_by, answer_in, longer_made, shorter_made, realloc_made}
use Rattle.wb_heap_model.specs.Heap.{after_realloc, realloc_request}
use Rattle.wb_heap_model.specs.Row.{Cell, cell_at, cell_length}
use Rattle.wb_heap_model.specs.Rules.{Request}
use Rattle.wb_call_tests.proofs.calls.realloc_live.Goals as goal

-- a reallocation changes nothing about the current level
same_level : (d : Debug) (c : Cell (List ℕ)) (bytes : ℕ) → (realloc_made d c bytes).debug.heap.level ≡ d.heap.level
same_level d c bytes = longer (nat_lt c.head.length (cell_length bytes))
  where
    t : Request
    t = realloc_request d.heap c.head bytes

    by : (o : Option Answer) → (made_by d t (after_realloc d.heap t c.head (resized_words t.length c.content)) o).debug.heap.level ≡ d.heap.level
    by None = refl
    by (Some Granted) = refl
    by (Some Simulated) = refl
    by (Some Refused) = refl

    longer : (b : Bool) → (cond b (longer_made d c bytes) (shorter_made d c bytes)).debug.heap.level ≡ d.heap.level
    longer true = by (answer_in d t)
    longer false = refl

kept : (d e : Debug) (o : Option (Cell (List ℕ))) (bytes : ℕ) (answer : Result Gave NoMemory) → IsSome o →
    OnOk answer (IfSome o (λ c. e ≡ (realloc_made d c bytes).debug)) → OnErr answer (e ≡ d) → e.heap.level ≡ d.heap.level
kept d e o bytes (Err none) live made same = ap (λ x. x.heap.level) same
kept d e None bytes (Ok gave) live made same = cc
kept d e (Some c) bytes (Ok gave) live made same = ap (λ x. x.heap.level) made ∙ same_level d c bytes

pub returns-clause-level : goal.returns-clause-level
returns-clause-level c =
    kept c.args.heap.now c.attempt_realloc.new.self (cell_at c.args.ptr c.args.heap.now.heap.row) c.args.bytes c.attempt_realloc.result c.requires.live
    c.attempt_realloc.ensures.made c.attempt_realloc.ensures.err
