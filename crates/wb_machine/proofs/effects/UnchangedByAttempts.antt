-- What an attempt leaves as it was.
use Rattle.std.proofs.Common.{◌≡◌, ℕ, List, refl, ap, ◌∙◌, sym, subst, arith, Result, Ok, Err, OnOk, OnErr, IsSome, IfSome, Option, Some, None, Bool, true, false, cond}
use Rattle.wb_heap_model.specs.declared.heap.Kind.{Kind}
use Rattle.wb_heap_model.specs.declared.heap.Answer.{Answer}
use Rattle.wb_heap_model.specs.declared.heap.Answer.TheVariants.{Granted, Simulated, Refused}
use Rattle.std.specs.Prelude.{nat_lt}
use Rattle.wb_heap_model.specs.Row.{Cell, cell_length}
use Rattle.wb_heap_model.specs.CellRow.{resized_words}
use Rattle.wb_heap_model.specs.Rules.{Request}
use Rattle.wb_heap_model.specs.Heap.{AfterAnswer, alloc_request, after_alloc, realloc_request, after_realloc}
use Rattle.wb_heap_model.specs.LimitedHeap.{zero_words}
use Rattle.wb_heap_model.specs.Reported.{trace_line}
use Rattle.wb_heap_model.proofs.KeptRises.{rises-stay}
use Rattle.wb_heap_model.specs.Debug.{Debug, number_of_next, made_by, answer_in, alloc_made, longer_made, shorter_made, realloc_made}
use Rattle.wb_machine.specs.RunState.{RunState, with_debug}
use Rattle.wb_machine.specs.Owed.{Stays, KeepsCount}

-- an attempt
pub made_stays : (h : RunState) (t : Request) (after : ℕ → Answer → AfterAnswer (List ℕ)) → ((n : ℕ) (a : Answer) → (after n a).heap.level ≡ h.debug.heap.level) → (o : Option Answer) →
    Stays h (with_debug h (made_by h.debug t after o).debug)
made_stays h t after same None = record { rule = refl; shape = refl; fewer = omega arith; more = omega arith; kept = refl; deeper = omega arith; stack = λ has. has }
made_stays h t after same (Some a) = record {
  rule = refl;
  shape = refl;
  fewer = omega arith;
  more = omega arith;
  kept = rises-stay h.debug.rises (trace_line (number_of_next h.debug) t a);
  deeper = omega (arith, same (number_of_next h.debug) a);
  stack = λ has. has;
}

pub alloc_after : (d : Debug) (t : Request) (kind : Kind) (ws : List ℕ) (n : ℕ) (a : Answer) → (after_alloc d.heap t kind ws n a).heap.level ≡ d.heap.level
alloc_after d t kind ws n Granted = refl
alloc_after d t kind ws n Simulated = refl
alloc_after d t kind ws n Refused = refl

-- it changes no level
pub alloc_level : {X Y : Type 0} (o : Result X Y) (d new : Debug) (bytes : ℕ) (kind : Kind) → OnOk o (new ≡ (alloc_made d bytes kind).debug) → OnErr o (new ≡ d) → new.heap.level ≡ d.heap.level
alloc_level (Err e) d new bytes kind ok err = ap (λ (x : Debug). x.heap.level) err
alloc_level (Ok x) d new bytes kind ok err = ap (λ (x : Debug). x.heap.level) ok ∙ by (answer_in d t)
  where
    t : Request
    t = alloc_request d.heap bytes

    by : (o : Option Answer) → (made_by d t (after_alloc d.heap t kind (zero_words t.length)) o).debug.heap.level ≡ d.heap.level
    by None = refl
    by (Some a) = alloc_after d t kind (zero_words t.length) (number_of_next d) a

-- an allocation
pub alloc_stays : (h : RunState) (bytes : ℕ) (kind : Kind) → Stays h (with_debug h (alloc_made h.debug bytes kind).debug)
alloc_stays h bytes kind =
    let t = alloc_request h.debug.heap bytes in
    made_stays h t (after_alloc h.debug.heap t kind (zero_words t.length)) (alloc_after h.debug t kind (zero_words t.length)) (answer_in h.debug t)

-- a call on the debug heap that made of it what stays, or left it
pub called_keeps : {X Y : Type 0} (o : Result X Y) (h : RunState) (made d : Debug) → Stays h (with_debug h made) → OnOk o (d ≡ made) → OnErr o (d ≡ h.debug) → KeepsCount h (with_debug h d)
called_keeps (Ok x) h made d stays ok err = subst (λ (x : Debug). KeepsCount h (with_debug h x)) (sym ok) (record { steps = refl; stays = stays; callers = refl })
called_keeps (Err e) h made d stays ok err =
    subst (λ (x : Debug). KeepsCount h (with_debug h x)) (sym err)
    (record { steps = refl; stays = record { rule = refl; shape = refl; fewer = omega arith; more = omega arith; kept = refl; deeper = omega arith; stack = λ has. has }; callers = refl })

realloc_after : (d : Debug) (t : Request) (c : Cell (List ℕ)) (n : ℕ) (a : Answer) → (after_realloc d.heap t c.head (resized_words t.length c.content) n a).heap.level ≡ d.heap.level
realloc_after d t c n Granted = refl
realloc_after d t c n Simulated = refl
realloc_after d t c n Refused = refl

-- a reallocation
pub realloc_stays : (h : RunState) (c : Cell (List ℕ)) (bytes : ℕ) → Stays h (with_debug h (realloc_made h.debug c bytes).debug)
realloc_stays h c bytes = by (nat_lt c.head.length (cell_length bytes))
  where
    t : Request
    t = realloc_request h.debug.heap c.head bytes

    by : (b : Bool) → Stays h (with_debug h (cond b (longer_made h.debug c bytes) (shorter_made h.debug c bytes)).debug)
    by true = made_stays h t (after_realloc h.debug.heap t c.head (resized_words t.length c.content)) (realloc_after h.debug t c) (answer_in h.debug t)
    by false = record { rule = refl; shape = refl; fewer = omega arith; more = omega arith; kept = refl; deeper = omega arith; stack = λ has. has }

pub realloc_keeps : {X Y : Type 0} (o : Result X Y) (h : RunState) (d : Debug) (found : Option (Cell (List ℕ))) (bytes : ℕ) → IsSome found →
    OnOk o (IfSome found (λ c. d ≡ (realloc_made h.debug c bytes).debug)) → OnErr o (d ≡ h.debug) → KeepsCount h (with_debug h d)
realloc_keeps o h d None bytes live ok err = cc
realloc_keeps o h d (Some c) bytes live ok err = called_keeps o h (realloc_made h.debug c bytes).debug d (realloc_stays h c bytes) ok err

pub remade_keeps : {X Y : Type 0} (o : Result X Y) (h : RunState) (d : Debug) (found : Option (Cell (List ℕ))) (c : Cell (List ℕ)) (bytes : ℕ) → found ≡ Some c →
    OnOk o (IfSome found (λ c. d ≡ (realloc_made h.debug c bytes).debug)) → OnErr o (d ≡ h.debug) → KeepsCount h (with_debug h d)
remade_keeps o h d found c bytes at ok err = realloc_keeps o h d found bytes (subst (λ (x : Option (Cell (List ℕ))). IsSome x) (sym at) refl) ok err
