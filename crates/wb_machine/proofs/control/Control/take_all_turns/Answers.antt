use Rattle.std.proofs.Common.{◌≡◌, ℕ, ◌+◌, ◌-◌, ◌<◌, ◌≤◌, Bool, true, false, cond, refl, ◌∙◌, sym, subst, arith}
use Rattle.wb_heap_model.specs.SameRules.{Fits}
use Rattle.wb_machine.specs.Flow.{is_over}
use Rattle.wb_machine.proofs.whole_runs.Fitting.{fits-before}
use Rattle.wb_machine.proofs.control.Control.take_all_turns.Goals as goal

-- a turn that goes on counted a step
fewer : (over later : Bool) (budget steps after : ℕ) → over ≡ false → steps ≤ after → after ≤ budget → (later ≡ false → after ≡ steps + 1) →
    cond later 0 1 + (budget - after) < cond over 0 1 + (budget - steps)
fewer true later budget steps after e more within goes = cc
fewer false false budget steps after e more within goes = omega (arith, within, goes refl)
fewer false true budget steps after e more within goes = omega (arith, more, within)

pub loop-self-preserved : goal.loop-self-preserved
loop-self-preserved g c =
    let kept = c.loop-self.invariant in
    let was = c.loop-self.self in
    let now = c.turn.new.self in
    let turn = c.in_ok-turn.ensures in
    let going : is_over was.ending was.pieces.items ≡ false = sym c.is_over.ensures ∙ c.loop-self-test.true in
    record {
      kept = λ r f.
          let f' : Fits r c.loop-self.state.debug.rule (is_over now.ending now.pieces.items) c.turn.new.state.debug.attempts =
          subst (λ own. Fits r own (is_over now.ending now.pieces.items) c.turn.new.state.debug.attempts) (sym kept.setting.rule) f in
          turn.kept r f'
          ∙ kept.kept r (fits-before r c.args.state.now.debug.rule (is_over was.ending was.pieces.items) _ c.loop-self.state.debug.attempts c.turn.new.state.debug.attempts (λ e. going) turn.stays.fewer f);
      between = turn.between;
      setting = record {
        rule = turn.stays.rule ∙ kept.setting.rule;
        shape = turn.stays.shape ∙ kept.setting.shape;
        kept = turn.stays.kept ∙ kept.setting.kept;
        fewer = omega (arith, turn.stays.fewer, kept.setting.fewer);
      };
    }

pub loop-self-smaller : goal.loop-self-smaller
loop-self-smaller g c =
    let was = c.loop-self.self in
    let now = c.turn.new.self in
    let turn = c.in_ok-turn.ensures in
    let going : is_over was.ending was.pieces.items ≡ false = sym c.is_over.ensures ∙ c.loop-self-test.true in
    fewer (is_over was.ending was.pieces.items) (is_over now.ending now.pieces.items) c.args.budget c.loop-self.state.steps c.turn.new.state.steps going
    (omega (arith, turn.later refl, c.loop-self.invariant.between.within)) turn.between.within (λ e. turn.steps refl e)
