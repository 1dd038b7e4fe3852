-- A turn makes an attempt exactly where one is asked for: under a budget that ends with its step, what was left before it makes the attempts that it leaves.
use Rattle.std.proofs.Common.{◌≡◌, ℕ, ◌+◌, ◌<◌, ◌≤◌, ◌⊎◌, inl, inr, Bool, true, false, List, refl, ap, ◌∙◌, sym, subst, arith, Option, Some, None}
use Rattle.std.proofs.lemmas.Bool.{eq-eqb}
use Rattle.wb_heap_model.specs.declared.heap.Answer.{Answer}
use Rattle.wb_heap_model.specs.declared.heap.Rule.{Rule}
use Rattle.wb_meaning.specs.declared.run.Outcome.TheVariants as outcomes
use Rattle.wb_meaning.specs.declared.run.Why.TheVariants.{Budget, Ceiling}
use Rattle.wb_tree.specs.declared.script.Script.{Script}
use Rattle.wb_meaning.specs.Account.{Account, Settled, stopped, next_number, noted, recorded, on_answer, settled}
use Rattle.wb_meaning.specs.Rest.{resume, left_to_do, rest}
use Rattle.wb_heap_model.specs.Rules.{Request, answer_to}
use Rattle.wb_meaning.specs.Run.{WholeRun, outcome_of, whole_of}
use Rattle.wb_heap_model.specs.Space.{Space, space_of}
use Rattle.wb_meaning.specs.State.{Query, heap_note, available_note, compress_note, goes_on, is_cut, State, Process, ends, stops, asks, notes}
use Rattle.wb_machine.specs.declared.pieces.Ending.{Ending}
use Rattle.wb_machine.specs.declared.pieces.Ending.TheVariants.{GoesOn, Returns, Leaves, Panics, Cut, NoCleanup}
use Rattle.wb_machine.specs.declared.pieces.PendingPiece.{PendingPiece}
use Rattle.wb_machine.specs.Asks.{asks_at, MakesAsked}
use Rattle.wb_machine.specs.Flow.{pending_in, has_met_ceiling, is_over, AreSound, IsReady, rest_from}
use Rattle.wb_machine.specs.RunState.{RunState, state_of, account_of}
use Rattle.wb_machine.specs.Results.{leaks_at_end, outcome_by}
use Rattle.wb_machine.proofs.asking.AskedPieces.{held_asks, ready_asks}
use Rattle.wb_machine.proofs.whole_runs.Ends.{rest_over}
use Rattle.wb_machine.proofs.asking.Later.{IsLater, Onward, resume_later, resume_onward}
use Rattle.wb_machine.proofs.turns.Scripts.{sound_top}
use Rattle.wb_machine.proofs.turns.Steps.{rest_cut}

-- how many attempts a process makes
module _ (rule : Rule) (space : Space) where
  abbrev made : Process → Account → ℕ
  made p a = (settled rule space p a).account.attempts

  abbrev cut_by_ceiling : Process → Account → Type 0
  cut_by_ceiling p a = (settled rule space p a).end ≡ stopped (is_cut Ceiling)

  noted_attempts : (q : Query) (a : Account) → (noted space q a).attempts ≡ a.attempts
  noted_attempts (heap_note count total) a = refl
  noted_attempts (available_note row) a = refl
  noted_attempts (compress_note top) a = refl

  abbrev answered : Request → State → (ℕ → Answer → Process) → Account → Option Answer → Settled
  answered t cut go a o = on_answer o (record { end = stopped (is_cut Ceiling); state = cut; account = a }) (λ w. settled rule space (go (next_number a) w) (recorded space (next_number a) t w a))

  -- they only become more
  grows : (p : Process) (a : Account) → a.attempts ≤ made p a
  grows (ends way st) a = omega arith
  grows (stops stop st) a = omega arith
  grows (asks t cut go) a = by (answer_to rule (next_number a) t) (λ w. grows (go (next_number a) w) (recorded space (next_number a) t w a))
    where
      by : (o : Option Answer) → ((w : Answer) → a.attempts + 1 ≤ made (go (next_number a) w) (recorded space (next_number a) t w a)) →
          a.attempts ≤ (answered t cut go a o).account.attempts
      by None more = omega arith
      by (Some w) more = omega (arith, more w)
  grows (notes q p) a = omega (arith, noted_attempts q a, grows p (noted space q a))

  -- a process that asks for nothing in its first step makes none, where the budget has no second one
  unasked : (script : Script) (n : ℕ) (p : Process) (a : Account) → IsLater n p → Onward script (n + 1) n p → asks_at (n + 1) p ≡ false → made p a ≡ a.attempts
  unasked script n (ends way st) a later on silent = refl
  unasked script n (stops stop st) a later on silent = refl
  unasked script n (asks t cut go) a later on silent =
      let at_once : asks_at (n + 1) (asks t cut go) ≡ true = eq-eqb cut.steps (n + 1) (omega (arith, later, on.0.0.1)) in
      let clash : false ≡ true = sym silent ∙ at_once in cc
  unasked script n (notes q p) a later on silent = unasked script n p (noted space q a) later on.1 silent ∙ noted_attempts q a

  -- what asks at once is cut by the ceiling, or counted
  asked : (n : ℕ) (p : Process) (a : Account) → asks_at n p ≡ true → cut_by_ceiling p a ⊎ (a.attempts + 1 ≤ made p a)
  asked n (ends way st) a at_once = cc
  asked n (stops stop st) a at_once = cc
  asked n (asks t cut go) a at_once = by (answer_to rule (next_number a) t)
    where
      by : (o : Option Answer) → ((answered t cut go a o).end ≡ stopped (is_cut Ceiling)) ⊎ (a.attempts + 1 ≤ (answered t cut go a o).account.attempts)
      by None = inl refl
      by (Some w) = inr (grows (go (next_number a) w) (recorded space (next_number a) t w a))
  asked n (notes q p) a at_once = by (asked n p (noted space q a) at_once)
    where
      by : cut_by_ceiling p (noted space q a) ⊎ ((noted space q a).attempts + 1 ≤ made p (noted space q a)) → cut_by_ceiling (notes q p) a ⊎ (a.attempts + 1 ≤ made (notes q p) a)
      by (inl cut) = inl cut
      by (inr more) = inr (omega (arith, noted_attempts q a, more))

-- no run that the ceiling didn't cut tells of it
not_ceiling : (ending : Ending) (h : RunState) → has_met_ceiling ending ≡ false → outcome_by ending (leaks_at_end h) ≡ outcomes.Cut Ceiling → ⊥
not_ceiling GoesOn h whole is = cc
not_ceiling (Returns p) h whole is = cc
not_ceiling (Leaves code) h whole is = cc
not_ceiling (Panics p) h whole is = cc
not_ceiling (Cut Budget) h whole is = cc
not_ceiling (Cut Ceiling) h whole is = cc
not_ceiling NoCleanup h whole is = cc

-- a run made so many attempts, and tells of the ceiling only where it met it
record Tells (ceiling : Bool) (h : RunState) (run_result : WholeRun) : Type 0 where
  attempts : run_result.attempts ≡ h.debug.attempts
  whole : ceiling ≡ false → run_result.result.outcome ≡ outcomes.Cut Ceiling → ⊥

-- at the budget, what is left adds nothing
tells : (script : Script) (budget : ℕ) (r : Rule) (ending : Ending) (pieces : List PendingPiece) (h : RunState) → (is_over ending pieces ≡ true) ⊎ IsReady ending pieces → h.steps ≡ budget →
    Tells (has_met_ceiling ending) h (rest_from script budget r ending pieces h)
tells script budget r ending pieces h (inl over) at =
    subst (Tells (has_met_ceiling ending) h) (rest_over script budget r ending pieces h over) (record { attempts = refl; whole = not_ceiling ending h })
tells script budget r ending pieces h (inr ready) at =
    subst (Tells (has_met_ceiling ending) h) (rest_over script budget r (Cut Budget) pieces h refl ∙ rest_cut script budget r ending pieces ready.1 ready.2 h ready.0 ready.3 ready.4 at)
    (record { attempts = refl; whole = λ going is. cc })

-- a step left this, where pieces that are done were taken off
pub made_as_asked : (script : Script) (budget : ℕ) (r : Rule) (ending next : Ending) (pieces left : List PendingPiece) (h g : RunState) →
    IsReady ending pieces → AreSound script pieces → (is_over next left ≡ true) ⊎ IsReady next left → h.steps < budget → g.steps ≡ h.steps + 1 →
    g.debug.attempts ≤ h.debug.attempts + 1 → rest_from script (h.steps + 1) r next left g ≡ rest_from script (h.steps + 1) r ending pieces h →
    MakesAsked (held_asks script budget ending pieces h) (has_met_ceiling next) h.debug.attempts g.debug.attempts
unfolding rest left_to_do
made_as_asked script budget r ending next pieces left h g ready sound after less steps most same =
    let p : Process = resume script (h.steps + 1) (pending_in h.callers pieces) goes_on (state_of script h) in
    let space = space_of r h.debug.shape in
    let a = account_of h in
    let own = sound_top script ready.1 pieces ready.2 ready.3 sound in
    let asks_alike : asks_at (h.steps + 1) p ≡ held_asks script budget ending pieces h =
    ready_asks script (h.steps + 1) pieces ready.1 ready.2 h ready.3 ready.4 own (omega arith)
    ∙ sym (ap (λ e. held_asks script budget e pieces h) ready.0 ∙ ready_asks script budget pieces ready.1 ready.2 h ready.3 ready.4 own less) in
    let is : rest_from script (h.steps + 1) r next left g ≡ whole_of (settled r space p a) = same ∙ ap (λ e. rest_from script (h.steps + 1) r e pieces h) ready.0 in
    let run_result : Tells (has_met_ceiling next) g (whole_of (settled r space p a)) = subst (Tells (has_met_ceiling next) g) is (tells script (h.steps + 1) r next left g after steps) in
    let later = resume_later script (h.steps + 1) (pending_in h.callers pieces) goes_on (state_of script h) (omega arith) in
    let on = resume_onward script (h.steps + 1) (pending_in h.callers pieces) goes_on (state_of script h) (omega arith) in
    record {
      unasked = λ silent. omega (arith, run_result.attempts, unasked r space script h.steps p a later on (asks_alike ∙ silent));
      asked = λ at_once whole. elim (asked r space (h.steps + 1) p a (asks_alike ∙ at_once)) [
        | inl ceiling ↦ absurd (run_result.whole whole (ap (λ e. outcome_of e (settled r space p a).state) ceiling))
        | inr more ↦ omega (arith, most, run_result.attempts, more)
      ];
    }
