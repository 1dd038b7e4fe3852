use Rattle.std.proofs.Common.{◌≡◌, ap, ◌∙◌, sym, subst, false, true}
use Rattle.std.specs.Prelude.{◌&&◌}
use Rattle.wb_heap_model.specs.Debug.{keeps_rises}
use Rattle.wb_heap_model.specs.SameRules.{Fits}
use Rattle.wb_meaning.specs.Run.{whole_run}
use Rattle.wb_machine.specs.BetweenTurns.{IsBetweenTurns}
use Rattle.wb_machine.specs.Flow.{is_stop, is_over, rest_at}
use Rattle.wb_machine.specs.Seen.{Seen}
use Rattle.wb_machine.specs.Whole.{has_ended, has_failed}
use Rattle.wb_machine.proofs.whole_runs.Fitting.{fits-before}
use Rattle.wb_machine.proofs.machine.Machine.take_other_turns.Goals as goal

pub take_all_turns-taken-requires-clause-between : goal.take_all_turns-taken-requires-clause-between
take_all_turns-taken-requires-clause-between g c =
    let m = c.self.inside in
    let begun = ap (λ (s : Seen). s.begun) c.self.view_is ∙ c.requires.begun in
    subst (λ b. IsBetweenTurns m.script.now m.budget b m.control.ending m.control.pieces.items m.state) begun
    (c.self.invariant.sound (ap (λ (s : Seen). s.failed) c.self.view_is ∙ c.requires.well)).between

pub invariant_of-self-in_default-list_leaks : goal.invariant_of-self-in_default-list_leaks
invariant_of-self-in_default-list_leaks g c =
    let m = c.self.inside in
    let begun : m.begun ≡ true = ap (λ (s : Seen). s.begun) c.self.view_is ∙ c.requires.begun in
    let going : has_ended m ≡ false = ap (λ (s : Seen). s.over) c.self.view_is ∙ c.requires.going in
    let well : has_failed m ≡ false = ap (λ (s : Seen). s.failed) c.self.view_is ∙ c.requires.well in
    let old = c.self.invariant.sound well in
    let turns = c.in_default.ensures in
    let control = c.take_all_turns-taken.new.self in
    let state = c.take_all_turns-taken.new.state in
    record {
      sound = λ w. record {
        script = old.script;
        least = old.least;
        small = old.small;
        shape = old.shape ∙ sym turns.setting.shape;
        shaped = old.shaped;
        between = subst (λ b. IsBetweenTurns m.script.now m.budget b control.ending control.pieces.items state) (sym begun) turns.between;
        no_line = λ e. cc;
        leaks = λ e goes. c.in_default-list_leaks.ensures.run_result (ap is_stop c.ending.ensures ∙ goes);
      };
      keeps = λ w r f.
          let f' : Fits r m.state.debug.rule true state.debug.attempts =
          subst (λ b. Fits r m.state.debug.rule b state.debug.attempts) (ap (λ b. b && is_over control.ending control.pieces.items) begun ∙ turns.over)
          (subst (λ own. Fits r own (m.begun && is_over control.ending control.pieces.items) state.debug.attempts) turns.setting.rule f) in
          ap (λ b. rest_at m.script.now m.budget r b control.ending control.pieces.items state) begun
          ∙ turns.kept r f'
          ∙ sym (ap (λ b. rest_at m.script.now m.budget r b m.control.ending m.control.pieces.items m.state) begun)
          ∙ c.self.invariant.keeps well r (fits-before r m.state.debug.rule (has_ended m) true m.state.debug.attempts state.debug.attempts (λ e. going) turns.setting.fewer f')
          ∙ ap (λ b. whole_run b m.script.now r m.budget m.state.debug.shape) (sym turns.setting.kept)
          ∙ ap (whole_run (keeps_rises state.debug) m.script.now r m.budget) (sym turns.setting.shape);
    }
