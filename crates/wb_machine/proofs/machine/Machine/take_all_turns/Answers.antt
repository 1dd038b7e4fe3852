use Rattle.std.proofs.Common.{◌≡◌, Bool, true, false, refl, ◌∙◌, sym}
use Rattle.wb_machine.proofs.machine.Machine.take_all_turns.Goals as goal

not_true : (b : Bool) → (b ≡ true → ⊥) → b ≡ false
not_true false never = refl
not_true true never = absurd (never refl)

-- a turn after which a run goes on isn't its last
pub take_other_turns-requires-clause-going : goal.take_other_turns-requires-clause-going
take_other_turns-requires-clause-going g c =
    not_true c.step.new.self.over (λ over. let clash = sym c.in-GoesOn.is ∙ c.in_ok-step.ensures.turned.ended.1 over in cc)
