-- What asks for no attempt and counts no step.
use Rattle.std.proofs.Common.{◌≤◌, is_some, refl, ap, ◌∙◌, sym, subst, arith}
use Rattle.wb_heap_model.specs.declared.heap.Ptr.{Ptr}
use Rattle.wb_machine.specs.RunState.{RunState}
use Rattle.wb_machine.specs.Effects.{stepped}
use Rattle.wb_machine.specs.Owed.{Stays, KeepsSteps, IsSameButFrames, IsQuiet}

pub quiet_still : (h : RunState) → IsQuiet h h
quiet_still h = record { rule = refl; shape = refl; attempts = refl; rises = refl; level = refl; cleanup = refl; steps = refl; items = omega arith; slots = refl; whole = λ script whole. whole }

pub quiet_then : (h m g : RunState) → IsQuiet h m → IsQuiet m g → IsQuiet h g
quiet_then h m g a b = record {
  rule = b.rule ∙ a.rule;
  shape = b.shape ∙ a.shape;
  attempts = b.attempts ∙ a.attempts;
  rises = b.rises ∙ a.rises;
  level = b.level ∙ a.level;
  cleanup = b.cleanup ∙ a.cleanup;
  steps = b.steps ∙ a.steps;
  items = omega (arith, a.items, b.items);
  slots = b.slots ∙ a.slots;
  whole = λ script whole. b.whole script (a.whole script whole);
}

-- frames alone changed
pub frames_quiet : (h g : RunState) → IsSameButFrames h g → IsQuiet h g
frames_quiet h g is =
    subst (λ (x : RunState). IsQuiet h x) (sym is)
    (record { rule = refl; shape = refl; attempts = refl; rises = refl; level = refl; cleanup = refl; steps = refl; items = omega arith; slots = refl; whole = λ script whole. whole })

-- a turn that is quiet but for its step
pub quiet_step : (h g : RunState) → IsQuiet (stepped h) g → Stays h g
quiet_step h g q = record {
  rule = q.rule;
  shape = q.shape;
  fewer = omega (arith, q.attempts);
  more = omega (arith, q.attempts);
  kept = ap is_some q.rises;
  deeper = omega (arith, q.level);
  stack = λ has. subst (λ (p : Ptr). 1 ≤ p.number) (sym q.cleanup) has;
}

pub quiet_keeps : (h g : RunState) → IsQuiet h g → KeepsSteps h g
quiet_keeps h g q = record {
  steps = q.steps;
  stays = record {
    rule = q.rule;
    shape = q.shape;
    fewer = omega (arith, q.attempts);
    more = omega (arith, q.attempts);
    kept = ap is_some q.rises;
    deeper = omega (arith, q.level);
    stack = λ has. subst (λ (p : Ptr). 1 ≤ p.number) (sym q.cleanup) has;
  };
}

-- a turn, and then what is quiet
pub stays_quiet : (h m g : RunState) → Stays h m → IsQuiet m g → Stays h g
stays_quiet h m g s q = record {
  rule = q.rule ∙ s.rule;
  shape = q.shape ∙ s.shape;
  fewer = omega (arith, q.attempts, s.fewer);
  more = omega (arith, q.attempts, s.more);
  kept = ap is_some q.rises ∙ s.kept;
  deeper = omega (arith, q.level, s.deeper);
  stack = λ has. subst (λ (p : Ptr). 1 ≤ p.number) (sym q.cleanup) (s.stack has);
}
