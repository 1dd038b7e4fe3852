-- However a script's attempts are answered, its run makes at most so many.
use Rattle.std.proofs.Common.{ℕ, ◌+◌, ◌≤◌, arith, length, Option, Some, None}
use Rattle.wb_heap_model.specs.declared.heap.Answer.{Answer}
use Rattle.wb_heap_model.specs.declared.heap.Answer.TheVariants.{Granted, Simulated, Refused}
use Rattle.wb_heap_model.specs.declared.heap.Rule.{Rule}
use Rattle.wb_heap_model.specs.declared.heap.Shape.{Shape}
use Rattle.wb_meaning.specs.declared.run.Why.TheVariants.{Ceiling}
use Rattle.wb_tree.specs.declared.script.Script.{Script}
use Rattle.wb_heap_model.specs.Placement.{placement_of}
use Rattle.wb_heap_model.specs.Rules.{answer_to}
use Rattle.wb_heap_model.specs.Space.{Space, space_of}
use Rattle.wb_meaning.specs.State.{is_cut, Query, heap_note, available_note, compress_note, Process, ends, stops, asks, notes}
use Rattle.wb_meaning.specs.Account.{next_number, noted, on_answer, recorded, settled, stopped, Account}
use Rattle.wb_meaning.specs.Run.{before, process, run}
use Rattle.wb_meaning.proofs.AccountLemmas.{before-lines, settled-keeps}

-- no more than these, once so many were made
abbrev pub most_attempts : Process → ℕ → ℕ
most_attempts (ends way st) made = made
most_attempts (stops stop st) made = made
most_attempts (asks t cut go) made =
    made + most_attempts (go (made + 1) Granted) (made + 1) + most_attempts (go (made + 1) Simulated) (made + 1)
    + most_attempts (go (made + 1) Refused) (made + 1)
most_attempts (notes q p) made = most_attempts p made

within : (rule : Rule) (space : Space) (p : Process) (a : Account) → (settled rule space p a).account.attempts ≤ most_attempts p a.attempts
within rule space (ends way st) a = omega arith
within rule space (stops stop st) a = omega arith
within rule space (asks t cut go) a =
    by (answer_to rule n t) (λ w. within rule space (go n w) (recorded space n t w a))
  where
    n : ℕ
    n = next_number a

    by : (o : Option Answer) → ((w : Answer) → (settled rule space (go n w) (recorded space n t w a)).account.attempts ≤ most_attempts (go n w) n) →
        (on_answer o (record { end = stopped (is_cut Ceiling); state = cut; account = a })
        (λ w. settled rule space (go n w) (recorded space n t w a))).account.attempts ≤ most_attempts (asks t cut go) a.attempts
    by None h = omega arith
    by (Some Granted) h = let le = h Granted in omega (arith, le)
    by (Some Simulated) h = let le = h Simulated in omega (arith, le)
    by (Some Refused) h = let le = h Refused in omega (arith, le)
within rule space (notes q p) a = by q (λ q. within rule space p (noted space q a))
  where
    by : (q : Query) → ((q : Query) → (settled rule space p (noted space q a)).account.attempts ≤ most_attempts p (noted space q a).attempts) →
        (settled rule space p (noted space q a)).account.attempts ≤ most_attempts p a.attempts
    by (heap_note count total) h = h (heap_note count total)
    by (available_note row) h = h (available_note row)
    by (compress_note top) h = h (compress_note top)

abbrev pub most_of : Script → ℕ → Shape → ℕ
most_of script budget shape = most_attempts (process script budget (placement_of shape)) 0

pub run-within : (script : Script) (budget : ℕ) (shape : Shape) (rule : Rule) →
    length (run script rule budget shape).trace ≤ most_of script budget shape
run-within script budget shape rule =
    let space = space_of rule shape in
    let p = process script budget (placement_of shape) in
    let most = within rule space p (before space) in
    let kept = settled-keeps rule space p (before space) (before-lines space) in
    omega (arith, most, kept.lines)
