use Rattle.std.proofs.Common.{◌≡◌, Bool, true, false, refl, ap, ◌∙◌, sym, subst, arith}
use Rattle.std.specs.Prelude.{not, ◌&&◌}
use Rattle.std.proofs.lemmas.Bool.{le-ltb}
use Rattle.wb_machine.specs.declared.machine.Machine.TheInside.{Inside}
use Rattle.wb_machine.specs.RunState.{state_of}
use Rattle.wb_machine.specs.Flow.{is_over, pending_in, progress_by, progress_of}
use Rattle.wb_machine.specs.Asks.{asks_next}
use Rattle.wb_machine.specs.Seen.{Seen}
use Rattle.wb_machine.specs.Whole.{progress_in}
use Rattle.wb_machine.proofs.asking.NextMade.{asked_next}
use Rattle.wb_machine.proofs.asking.AskedPieces.{over_asks, settled_cut}
use Rattle.wb_machine.proofs.machine.Machine.will_attempt.Goals as goal

pub returns-else-steps-self-clause-asks : goal.returns-else-steps-self-clause-asks
returns-else-steps-self-clause-asks c =
    let m = c.self.inside in
    let script = m.script.now in
    let sound = c.self.invariant.sound (sym c.is_some.ensures ∙ c.if-is_some.false) in
    let begun : m.begun ≡ true = c.if-not-self.false in
    let at : m.state.steps ≡ m.budget = omega (arith, sound.between.within, c.steps.ensures, c.if-steps-self.false) in
    le-ltb c.steps.result m.budget (omega (arith, at, c.steps.ensures))
    ∙ sym (ap (λ b. b && asks_next script m.budget (progress_of m.begun m.control.ending (pending_in m.state.callers m.control.pieces.items) (state_of script m.state))) (ap not (sym c.is_some.ensures ∙ c.if-is_some.false))
    ∙ ap (λ b. asks_next script m.budget (progress_of b m.control.ending (pending_in m.state.callers m.control.pieces.items) (state_of script m.state))) begun
    ∙ settled_cut script m.budget m.control.ending m.control.pieces.items m.state (sound.between.settled begun) at)
    ∙ ap (λ (s : Seen). s.asks) c.self.view_is

-- a run that is over asks for nothing
pub returns-then-steps-self-clause-going : goal.returns-then-steps-self-clause-going
returns-then-steps-self-clause-going c will =
    let begun : m.begun ≡ true = c.if-not-self.false in
    let sound = c.self.invariant.sound (sym c.is_some.ensures ∙ c.if-is_some.false) in
    let asks = sym (c.asks.ensures m.budget sound.between.pieces_are (omega (arith, c.if-steps-self.true, c.steps.ensures))) ∙ will in (
      sym (ap (λ (s : Seen). s.over) c.self.view_is) ∙ ap (λ b. b && is_over m.control.ending m.control.pieces.items) begun ∙ by _ refl asks,
      sym (ap (λ (s : Seen). s.failed) c.self.view_is) ∙ (sym c.is_some.ensures ∙ c.if-is_some.false),
    )
  where
    m : Inside
    m = c.self.inside

    by : (b : Bool) → is_over m.control.ending m.control.pieces.items ≡ b →
        asks_next m.script.now m.budget (progress_by m.control.ending (pending_in m.state.callers m.control.pieces.items) (state_of m.script.now m.state)) ≡ true → b ≡ false
    by false e asks = refl
    by true e asks = let never = over_asks m.script.now m.budget m.control.ending m.control.pieces.items m.state e in cc

-- the first turn asks for attempt 1
pub returns-then-not-self-clause-made : goal.returns-then-not-self-clause-made
returns-then-not-self-clause-made c will =
    let m = c.self.inside in
    let asks : asks_next m.script.now m.budget (progress_in m) ≡ true =
    subst (λ b. asks_next m.script.now m.budget (progress_of b m.control.ending (pending_in m.state.callers m.control.pieces.items) (state_of m.script.now m.state)) ≡ true)
    (sym c.if-not-self.true) refl in
    asked_next m c.args.self.now c.self.view_is c.self.invariant (sym c.is_some.ensures ∙ c.if-is_some.false) asks

pub returns-then-steps-self-clause-made : goal.returns-then-steps-self-clause-made
returns-then-steps-self-clause-made c will =
    let m = c.self.inside in
    let sound = c.self.invariant.sound (sym c.is_some.ensures ∙ c.if-is_some.false) in
    let later = sym (c.asks.ensures m.budget sound.between.pieces_are (omega (arith, c.if-steps-self.true, c.steps.ensures))) ∙ will in
    let asks : asks_next m.script.now m.budget (progress_in m) ≡ true =
    subst (λ b. asks_next m.script.now m.budget (progress_of b m.control.ending (pending_in m.state.callers m.control.pieces.items) (state_of m.script.now m.state)) ≡ true)
    (sym c.if-not-self.false) later in
    asked_next m c.args.self.now c.self.view_is c.self.invariant (sym c.is_some.ensures ∙ c.if-is_some.false) asks
