-- No attempt changes a level.
use Rattle.std.proofs.Common.{◌≡◌, ℕ, List, refl, ap, ◌∙◌, Result, Ok, Err, OnOk, OnErr, IfSome, Option, Some, None, Bool, true, false, cond}
use Rattle.std.specs.Prelude.{IsSome, nat_lt}
use Rattle.wb_heap_model.specs.declared.heap.Answer.{Answer}
use Rattle.wb_heap_model.specs.declared.heap.Answer.TheVariants.{Granted, Simulated, Refused}
use Rattle.wb_heap_model.specs.declared.heap.Kind.{Kind}
use Rattle.wb_heap_model.specs.CellRow.{resized_words}
use Rattle.wb_heap_model.specs.Debug.{Debug, number_of_next, made_by, answer_in, alloc_made, longer_made, shorter_made, realloc_made}
use Rattle.wb_heap_model.specs.Heap.{after_alloc, alloc_request, after_realloc, realloc_request}
use Rattle.wb_heap_model.specs.LimitedHeap.{zero_words}
use Rattle.wb_heap_model.specs.Row.{Cell, cell_length}
use Rattle.wb_heap_model.specs.Rules.{Request}

alloc_level : (d : Debug) (bytes : ℕ) (kind : Kind) → (alloc_made d bytes kind).debug.heap.level ≡ d.heap.level
alloc_level d bytes kind = by (answer_in d t)
  where
    t : Request
    t = alloc_request d.heap bytes

    by : (o : Option Answer) → (made_by d t (after_alloc d.heap t kind (zero_words t.length)) o).debug.heap.level ≡ d.heap.level
    by None = refl
    by (Some Granted) = refl
    by (Some Simulated) = refl
    by (Some Refused) = refl

pub alloc-level-stays : {X Y : Type 0} (o : Result X Y) (d e : Debug) (bytes : ℕ) (kind : Kind) → OnOk o (e ≡ (alloc_made d bytes kind).debug) → OnErr o (e ≡ d) →
    e.heap.level ≡ d.heap.level
alloc-level-stays (Err f) d e bytes kind ok err = ap (λ (x : Debug). x.heap.level) err
alloc-level-stays (Ok x) d e bytes kind ok err = ap (λ (x : Debug). x.heap.level) ok ∙ alloc_level d bytes kind

realloc_level : (d : Debug) (c : Cell (List ℕ)) (bytes : ℕ) → (realloc_made d c bytes).debug.heap.level ≡ d.heap.level
realloc_level d c bytes = by (nat_lt c.head.length (cell_length bytes))
  where
    t : Request
    t = realloc_request d.heap c.head bytes

    answered : (n : ℕ) (a : Answer) → (after_realloc d.heap t c.head (resized_words t.length c.content) n a).heap.level ≡ d.heap.level
    answered n Granted = refl
    answered n Simulated = refl
    answered n Refused = refl

    longer : (o : Option Answer) → (made_by d t (after_realloc d.heap t c.head (resized_words t.length c.content)) o).debug.heap.level ≡ d.heap.level
    longer None = refl
    longer (Some a) = answered (number_of_next d) a

    by : (b : Bool) → (cond b (longer_made d c bytes) (shorter_made d c bytes)).debug.heap.level ≡ d.heap.level
    by true = longer (answer_in d t)
    by false = refl

pub level-stays : {X Y : Type 0} (o : Result X Y) (d e : Debug) (found : Option (Cell (List ℕ))) (bytes : ℕ) → IsSome found →
    OnOk o (IfSome found (λ c. e ≡ (realloc_made d c bytes).debug)) → OnErr o (e ≡ d) → e.heap.level ≡ d.heap.level
level-stays (Err f) d e found bytes live ok err = ap (λ (x : Debug). x.heap.level) err
level-stays (Ok x) d e None bytes live ok err = cc
level-stays (Ok x) d e (Some c) bytes live ok err = ap (λ (x : Debug). x.heap.level) ok ∙ realloc_level d c bytes
