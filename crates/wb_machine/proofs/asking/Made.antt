-- An attempt that a run asks for is made, unless the ceiling cuts the run there.
use Rattle.std.proofs.Common.{◌≡◌, ℕ, ◌+◌, ◌<◌, ◌≤◌, ◌⊎◌, inl, inr, arith, Bool, true, false, refl, sym, ◌∙◌, ap, subst, Option, Some, None}
use Rattle.wb_heap_model.specs.declared.heap.Answer.{Answer}
use Rattle.wb_heap_model.specs.declared.heap.Rule.{Rule}
use Rattle.wb_heap_model.specs.declared.heap.Shape.{Shape}
use Rattle.wb_meaning.specs.declared.run.Outcome.TheVariants.{Cut}
use Rattle.wb_meaning.specs.declared.run.Why.TheVariants.{Ceiling}
use Rattle.wb_tree.specs.declared.script.Script.{Script}
use Rattle.wb_heap_model.specs.Placement.{placement_of}
use Rattle.wb_heap_model.specs.Rules.{answer_to}
use Rattle.wb_heap_model.specs.Space.{Space, space_of}
use Rattle.wb_meaning.specs.Attempts.{allocate, attempt}
use Rattle.wb_meaning.specs.State.{Process, Query, asks, available_note, compress_note, ends, heap_note, is_cut, notes, stops}
use Rattle.wb_meaning.specs.Account.{Account, End, Settled, next_number, noted, on_answer, recorded, settled, stopped}
use Rattle.wb_meaning.specs.Rest.{Progress, going, has_stopped, left_to_do, not_begun, rest, resume}
use Rattle.wb_meaning.specs.Run.{MakesMoreThan, WholeRun, before, outcome_of, process, run, whole_of, whole_run}
use Rattle.wb_meaning.proofs.AccountLemmas.{whole-attempts, whole-with_rises}
use Rattle.wb_machine.specs.Asks.{asks_at, asks_next}

-- ---- what a process asks for first

noted_attempts : (space : Space) (q : Query) (a : Account) → (noted space q a).attempts ≡ a.attempts
noted_attempts space (heap_note n total) a = refl
noted_attempts space (available_note row) a = refl
noted_attempts space (compress_note top) a = refl

-- a process takes no attempt back
attempts_grow : (rule : Rule) (space : Space) (p : Process) (a : Account) → a.attempts ≤ (settled rule space p a).account.attempts
attempts_grow rule space (ends way st) a = omega arith
attempts_grow rule space (stops stop st) a = omega arith
attempts_grow rule space (asks t cut go) a = by (answer_to rule (next_number a) t) (λ w. attempts_grow rule space (go (next_number a) w) (recorded space (next_number a) t w a))
  where
    by : (o : Option Answer) → ((w : Answer) → a.attempts + 1 ≤ (settled rule space (go (next_number a) w) (recorded space (next_number a) t w a)).account.attempts) →
        a.attempts ≤ (on_answer o (record { end = stopped (is_cut Ceiling); state = cut; account = a }) (λ w. settled rule space (go (next_number a) w) (recorded space (next_number a) t w a))).account.attempts
    by None more = omega arith
    by (Some w) more = omega (arith, more w)
attempts_grow rule space (notes q p) a = omega (arith, noted_attempts space q a, attempts_grow rule space p (noted space q a))

-- an end with more attempts than so many, or at the ceiling with as many
abbrev EndsPast : ℕ → Settled → Type 0
EndsPast attempts s = (attempts < s.account.attempts) ⊎ ((attempts ≡ s.account.attempts) × (s.end ≡ stopped (is_cut Ceiling)))

asked_first : (rule : Rule) (space : Space) (steps : ℕ) (p : Process) (a : Account) → asks_at steps p ≡ true → EndsPast a.attempts (settled rule space p a)
asked_first rule space steps (ends way st) a asked = cc
asked_first rule space steps (stops stop st) a asked = cc
asked_first rule space steps (asks t cut go) a asked = by (answer_to rule (next_number a) t) (λ w. attempts_grow rule space (go (next_number a) w) (recorded space (next_number a) t w a))
  where
    by : (o : Option Answer) → ((w : Answer) → a.attempts + 1 ≤ (settled rule space (go (next_number a) w) (recorded space (next_number a) t w a)).account.attempts) →
        EndsPast a.attempts (on_answer o (record { end = stopped (is_cut Ceiling); state = cut; account = a }) (λ w. settled rule space (go (next_number a) w) (recorded space (next_number a) t w a)))
    by None more = inr (refl, refl)
    by (Some w) more = inl (omega (arith, more w))
asked_first rule space steps (notes q p) a asked =
    subst (λ n. EndsPast n (settled rule space p (noted space q a))) (noted_attempts space q a) (asked_first rule space steps p (noted space q a) asked)

-- ---- what is left of a run

-- the same of what a run comes to
abbrev pub ComesPast : ℕ → WholeRun → Type 0
ComesPast attempts whole = (attempts < whole.attempts) ⊎ ((attempts ≡ whole.attempts) × (whole.result.outcome ≡ Cut Ceiling))

comes_past : (attempts : ℕ) (s : Settled) → EndsPast attempts s → ComesPast attempts (whole_of s)
comes_past attempts s (inl more) = inl more
comes_past attempts s (inr is) = inr (is.0, ap (λ (e : End). outcome_of e s.state) is.1)

pub rest_asked : (script : Script) (budget : ℕ) (shape : Shape) (rule : Rule) (progress : Progress) (a : Account) → asks_next script budget progress ≡ true →
    ComesPast a.attempts (rest script budget shape rule progress a)
unfolding rest left_to_do process allocate attempt
rest_asked script budget shape rule (not_begun placement) a asked =
    let space = space_of rule shape in
    let p = process script budget placement in
    comes_past a.attempts (settled rule space p a) (asked_first rule space 0 p a refl)
rest_asked script budget shape rule (going ps way st) a asked =
    let space = space_of rule shape in
    let p = resume script budget ps way st in
    comes_past a.attempts (settled rule space p a) (asked_first rule space (st.steps + 1) p a asked)
rest_asked script budget shape rule (has_stopped stop st) a asked = cc

-- ---- whole runs

same_outcome : (keeps : Bool) (script : Script) (rule : Rule) (budget : ℕ) (shape : Shape) →
    (whole_run keeps script rule budget shape).result.outcome ≡ (run script rule budget shape).outcome
same_outcome false script rule budget shape = refl
same_outcome true script rule budget shape = ap (λ (x : WholeRun). x.result.outcome) (whole-with_rises script rule budget shape)

pub with_lines : (keeps : Bool) (script : Script) (rule : Rule) (budget : ℕ) (shape : Shape) (attempts : ℕ) → ComesPast attempts (whole_run keeps script rule budget shape) →
    MakesMoreThan attempts (run script rule budget shape)
with_lines keeps script rule budget shape attempts (inl more) = inl (subst (λ n. attempts < n) (whole-attempts keeps script rule budget shape) more)
with_lines keeps script rule budget shape attempts (inr is) =
    inr (is.0 ∙ whole-attempts keeps script rule budget shape, sym (same_outcome keeps script rule budget shape) ∙ is.1)

-- a run asks for attempt 1
pub asked_at_start : (script : Script) (rule : Rule) (budget : ℕ) (shape : Shape) → MakesMoreThan 0 (run script rule budget shape)
unfolding rest left_to_do
asked_at_start script rule budget shape =
    with_lines false script rule budget shape 0 (rest_asked script budget shape rule (not_begun (placement_of shape)) (before (space_of rule shape)) refl)
