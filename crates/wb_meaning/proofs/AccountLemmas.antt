-- What an account keeps of the attempts: a line of each, or the rises alone; and that one says as much of the rises as the other.
use Rattle.std.proofs.Common.{◌≡◌, ℕ, arith, List, [], ◌∷◌, ◌++◌, length, length-append, Bool, true, false, refl, sym, ◌∙◌, ap, Option, Some, None, is_some, cond}
use Rattle.std.specs.Prelude.{nat_lt}
use Rattle.wb_heap_model.specs.declared.heap.Rule.{Rule}
use Rattle.wb_heap_model.specs.declared.heap.Shape.{Shape}
use Rattle.wb_heap_model.specs.declared.heap.Answer.{Answer}
use Rattle.wb_heap_model.specs.declared.heap.Kind.{Kind}
use Rattle.wb_heap_model.specs.declared.heap.Attempt.{Attempt}
use Rattle.wb_meaning.specs.declared.run.Why.TheVariants.{Ceiling}
use Rattle.wb_tree.specs.declared.script.Script.{Script}
use Rattle.wb_heap_model.specs.declared.size.Rise.{Rise}
use Rattle.wb_meaning.specs.Account.{stopped, Account, Settled, settled, on_answer, recorded, noted, next_number}
use Rattle.wb_heap_model.specs.Reported.{trace_line}
use Rattle.wb_heap_model.specs.CellRow.{resized_words}
use Rattle.wb_heap_model.specs.Debug.{Debug, Made, made_by, made_with_rises, answer_in, keeps_rises, number_of_next, alloc_made, longer_made, shorter_made, realloc_made}
use Rattle.wb_heap_model.specs.Debug as debugs
use Rattle.wb_heap_model.specs.Heap.{AfterAnswer, alloc_request, after_alloc, realloc_request, after_realloc}
use Rattle.wb_heap_model.specs.LimitedHeap.{zero_words}
use Rattle.wb_heap_model.specs.Row.{Cell, cell_length}
use Rattle.wb_heap_model.specs.Rises.{rises_above, with_line, rises_with, trace_with}
use Rattle.wb_heap_model.specs.Placement.{placement_of}
use Rattle.wb_heap_model.specs.Rules.{answer_to, Request}
use Rattle.wb_meaning.specs.Run.{process, before, run, run_with_rises, whole_of, whole_run, WholeRun}
use Rattle.wb_heap_model.specs.Space.{Space, space_of}
use Rattle.wb_meaning.specs.State.{is_cut, Query, heap_note, available_note, compress_note, Process, ends, stops, asks, notes}
use Rattle.wb_heap_model.proofs.KeptRises.{rises-push}

-- an account that keeps a line of each attempt
pub record KeepsLines (a : Account) : Type 0 where
  pub no_rises : a.rises ≡ None
  pub lines : a.attempts ≡ length a.trace

pub before-lines : (space : Space) → KeepsLines (before space)
before-lines space = record { no_rises = refl; lines = refl }

pub recorded-trace : (space : Space) (n : ℕ) (t : Request) (w : Answer) (a : Account) → a.rises ≡ None →
    (recorded space n t w a).trace ≡ a.trace ++ trace_line n t w ∷ []
recorded-trace space n t w a none = ap (λ (o : Option (List Rise)). trace_with o a.trace (trace_line n t w)) none

pub recorded-lines : (space : Space) (t : Request) (w : Answer) (a : Account) → KeepsLines a → KeepsLines (recorded space (next_number a) t w a)
recorded-lines space t w a k =
    let n = next_number a in
    let longer = ap length (recorded-trace space n t w a k.no_rises) ∙ length-append a.trace (trace_line n t w ∷ []) in
    record { no_rises = ap (λ (o : Option (List Rise)). rises_with o (trace_line n t w)) k.no_rises; lines = omega (arith, k.lines, longer) }

pub noted-lines : (space : Space) (q : Query) (a : Account) → KeepsLines a → KeepsLines (noted space q a)
noted-lines space (heap_note count total) a k = record { no_rises = k.no_rises; lines = k.lines }
noted-lines space (available_note row) a k = record { no_rises = k.no_rises; lines = k.lines }
noted-lines space (compress_note top) a k = record { no_rises = k.no_rises; lines = k.lines }

pub settled-keeps : (rule : Rule) (space : Space) (p : Process) (a : Account) → KeepsLines a → KeepsLines (settled rule space p a).account
settled-keeps rule space (ends way st) a k = k
settled-keeps rule space (stops stop st) a k = k
settled-keeps rule space (asks t cut go) a k =
    by (answer_to rule (next_number a) t) (λ w. settled-keeps rule space (go (next_number a) w) (recorded space (next_number a) t w a) (recorded-lines space t w a k))
  where
    by : (o : Option Answer) → ((w : Answer) → KeepsLines (settled rule space (go (next_number a) w) (recorded space (next_number a) t w a)).account) →
        KeepsLines (on_answer o (record { end = stopped (is_cut Ceiling); state = cut; account = a })
        (λ w. settled rule space (go (next_number a) w) (recorded space (next_number a) t w a))).account
    by None h = k
    by (Some w) h = h w
settled-keeps rule space (notes q p) a k = settled-keeps rule space p (noted space q a) (noted-lines space q a k)

-- the same account with the rises in the trace's place
abbrev pub with_rises : Account → Account
with_rises a = record a { trace = []; rises = Some (rises_above 0 a.trace) }

measured_recorded : (space : Space) (n : ℕ) (t : Request) (w : Answer) (a : Account) → a.rises ≡ None → recorded space n t w (with_rises a) ≡ with_rises (recorded space n t w a)
measured_recorded space n t w a none =
    ap (λ rs. record (recorded space n t w a) { trace = []; rises = Some rs })
    (sym (rises-push a.trace (trace_line n t w)) ∙ ap (rises_above 0) (sym (recorded-trace space n t w a none)))

measured_noted : (space : Space) (q : Query) (a : Account) → noted space q (with_rises a) ≡ with_rises (noted space q a)
measured_noted space (heap_note count total) a = refl
measured_noted space (available_note row) a = refl
measured_noted space (compress_note top) a = refl

abbrev pub end_with_rises : Settled → Settled
end_with_rises s = record s { account = with_rises s.account }

-- a run that keeps the rises is the image of the one that keeps lines
settled-with_rises : (rule : Rule) (space : Space) (p : Process) (a : Account) → KeepsLines a → settled rule space p (with_rises a) ≡ end_with_rises (settled rule space p a)
settled-with_rises rule space (ends way st) a k = refl
settled-with_rises rule space (stops stop st) a k = refl
settled-with_rises rule space (asks t cut go) a k =
    by (answer_to rule (next_number a) t) (λ w.
    ap (settled rule space (go (next_number a) w)) (measured_recorded space (next_number a) t w a k.no_rises)
    ∙ settled-with_rises rule space (go (next_number a) w) (recorded space (next_number a) t w a) (recorded-lines space t w a k))
  where
    by : (o : Option Answer) →
        ((w : Answer) → settled rule space (go (next_number a) w) (recorded space (next_number a) t w (with_rises a))
        ≡ end_with_rises (settled rule space (go (next_number a) w) (recorded space (next_number a) t w a))) →
        on_answer o (record { end = stopped (is_cut Ceiling); state = cut; account = with_rises a }) (λ w. settled rule space (go (next_number a) w) (recorded space (next_number a) t w (with_rises a)))
        ≡ end_with_rises (on_answer o (record { end = stopped (is_cut Ceiling); state = cut; account = a })
        (λ w. settled rule space (go (next_number a) w) (recorded space (next_number a) t w a)))
    by None h = refl
    by (Some w) h = h w
settled-with_rises rule space (notes q p) a k =
    ap (settled rule space p) (measured_noted space q a) ∙ settled-with_rises rule space p (noted space q a) (noted-lines space q a k)

last_lines : (script : Script) (rule : Rule) (budget : ℕ) (shape : Shape) →
    KeepsLines (settled rule (space_of rule shape) (process script budget (placement_of shape)) (before (space_of rule shape))).account
last_lines script rule budget shape = settled-keeps rule (space_of rule shape) (process script budget (placement_of shape)) _ (before-lines (space_of rule shape))

pub whole-with_rises : (script : Script) (rule : Rule) (budget : ℕ) (shape : Shape) → whole_run true script rule budget shape ≡ run_with_rises (run script rule budget shape)
whole-with_rises script rule budget shape =
    ap whole_of (settled-with_rises rule (space_of rule shape) (process script budget (placement_of shape)) (before (space_of rule shape)) (before-lines (space_of rule shape)))
    ∙ ap (λ n. record (run_with_rises (run script rule budget shape)) { attempts = n }) (last_lines script rule budget shape).lines

pub whole-attempts : (keeps_rises : Bool) (script : Script) (rule : Rule) (budget : ℕ) (shape : Shape) →
    (whole_run keeps_rises script rule budget shape).attempts ≡ length (run script rule budget shape).trace
whole-attempts false script rule budget shape = (last_lines script rule budget shape).lines
whole-attempts true script rule budget shape = ap (λ (x : WholeRun). x.attempts) (whole-with_rises script rule budget shape)

-- the same of each attempt of a debug heap
made_alike : (d : Debug) (t : Request) (after : ℕ → Answer → AfterAnswer (List ℕ)) (answer : Option Answer) → keeps_rises d ≡ false →
    made_by (debugs.with_rises d) t after answer ≡ made_with_rises (made_by d t after answer)
made_alike d t after None lines = refl
made_alike d t after (Some a) lines = by d.rises lines
  where
    line : Attempt
    line = trace_line (number_of_next d) t a

    made : Made
    made = made_by d t after (Some a)

    by : (o : Option (List Rise)) → is_some o ≡ false →
        record made { debug = record made.debug { trace = []; rises = Some (with_line (rises_above 0 d.trace) line) } }
        ≡ record made { debug = record made.debug { trace = []; rises = Some (rises_above 0 (trace_with o d.trace line)) } }
    by None none = ap (λ rs. record made { debug = record made.debug { trace = []; rises = Some rs } }) (sym (rises-push d.trace line))
    by (Some rs) none = cc

pub alloc-alike : (d : Debug) (bytes : ℕ) (kind : Kind) → keeps_rises d ≡ false → alloc_made (debugs.with_rises d) bytes kind ≡ made_with_rises (alloc_made d bytes kind)
alloc-alike d bytes kind lines =
    let t = alloc_request d.heap bytes in made_alike d t (after_alloc d.heap t kind (zero_words t.length)) (answer_in d t) lines

pub realloc-alike : (d : Debug) (c : Cell (List ℕ)) (bytes : ℕ) → keeps_rises d ≡ false → realloc_made (debugs.with_rises d) c bytes ≡ made_with_rises (realloc_made d c bytes)
realloc-alike d c bytes lines = by (nat_lt c.head.length (cell_length bytes))
  where
    t : Request
    t = realloc_request d.heap c.head bytes

    by : (b : Bool) → cond b (longer_made (debugs.with_rises d) c bytes) (shorter_made (debugs.with_rises d) c bytes)
        ≡ made_with_rises (cond b (longer_made d c bytes) (shorter_made d c bytes))
    by true = made_alike d t (after_realloc d.heap t c.head (resized_words t.length c.content)) (answer_in d t) lines
    by false = refl
