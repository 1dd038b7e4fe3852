use Rattle.std.proofs.Common.{rules, ◌≡◌, ℕ, ap, ◌∙◌, sym, subst, refl, Bool, true, false, List, [], ◌∷◌, None}
use Rattle.wb_heap_model.specs.SameRules.{Fits}
use Rattle.std.specs.Prelude.{not, ◌&&◌, is_some, nat_lt, unwrap_or, if◌then◌else◌}
use Rattle.wb_heap_model.specs.Debug.{keeps_rises}
use Rattle.wb_meaning.specs.Rest.{next_line}
use Rattle.wb_meaning.specs.Run.{whole_run}
use Rattle.wb_tree.specs.declared.script.Script.{Script}
use Rattle.wb_machine.specs.Asks.{asks_next}
use Rattle.wb_machine.specs.declared.pieces.Ending.{Ending}
use Rattle.wb_machine.specs.declared.pieces.Ending.TheVariants.{GoesOn, Returns, Leaves, Panics, Cut, NoCleanup}
use Rattle.wb_machine.specs.declared.pieces.PendingPiece.{PendingPiece}
use Rattle.wb_machine.specs.Flow.{is_stop, is_over, pending_in, progress_of}
use Rattle.wb_machine.specs.RunState.{RunState, state_of}
use Rattle.wb_machine.specs.Seen.{Seen}
use Rattle.wb_machine.specs.Whole.{has_ended, has_failed}
use Rattle.wb_machine.proofs.asking.AskedPieces.{over_asks}
use Rattle.wb_machine.proofs.whole_runs.Fitting.{fits-before}
use Rattle.wb_machine.proofs.machine.Machine.step.Goals.{else-self-via-then-self+else-is_over, else-self-via-else-self}
use Rattle.wb_machine.proofs.machine.Machine.step.Goals as goal

-- the run goes on
pub invariant_of-self-then-not-is_over : goal.invariant_of-self-then-not-is_over
invariant_of-self-then-not-is_over c =
    let m = c.self.inside in
    let over = is_over m.control.ending m.control.pieces.items in
    let fine : has_failed m ≡ false = ap is_some c.in_default.is in
    let old = c.self.invariant.sound fine in
    let turn = c.in_default-turned.ensures in
    let going : has_ended m ≡ false = elim c.else-self.branch [
      | else-self-via-then-self+else-is_over w ↦ ap (λ b. b && over) w.if-self.true ∙ sym w.is_over.ensures ∙ w.if-is_over.false
      | else-self-via-else-self w ↦ ap (λ b. b && over) w.if-self.false
    ] in
    record {
      sound = λ well. record {
        script = old.script;
        least = old.least;
        small = old.small;
        shape = old.shape ∙ sym turn.stays.shape;
        shaped = old.shaped;
        between = turn.between;
        no_line = λ e. cc;
        leaks = λ e goes. let clash : false ≡ true = sym c.if-not-is_over.true ∙ c.is_over-2.ensures ∙ e in cc;
      };
      keeps = λ well r f.
          let f' = subst (λ own. Fits r own (is_over c.turn-turned.new.self.ending c.turn-turned.new.self.pieces.items) c.turn-turned.new.state.debug.attempts) turn.stays.rule f in
          turn.kept r f'
          ∙ c.self.invariant.keeps fine r (fits-before r m.state.debug.rule (has_ended m) _ m.state.debug.attempts c.turn-turned.new.state.debug.attempts (λ e. going) turn.stays.fewer f')
          ∙ ap (λ b. whole_run b m.script.now r m.budget m.state.debug.shape) (sym turn.stays.kept)
          ∙ ap (whole_run (keeps_rises c.turn-turned.new.state.debug) m.script.now r m.budget) (sym turn.stays.shape);
    }

-- the run is over, and its leaks are listed
pub invariant_of-self-in_default-list_leaks : goal.invariant_of-self-in_default-list_leaks
invariant_of-self-in_default-list_leaks c =
    let m = c.self.inside in
    let over = is_over m.control.ending m.control.pieces.items in
    let fine : has_failed m ≡ false = ap is_some c.in_default.is in
    let old = c.self.invariant.sound fine in
    let turn = c.in_default-turned.ensures in
    let going : has_ended m ≡ false = elim c.else-self.branch [
      | else-self-via-then-self+else-is_over w ↦ ap (λ b. b && over) w.if-self.true ∙ sym w.is_over.ensures ∙ w.if-is_over.false
      | else-self-via-else-self w ↦ ap (λ b. b && over) w.if-self.false
    ] in
    record {
      sound = λ well. record {
        script = old.script;
        least = old.least;
        small = old.small;
        shape = old.shape ∙ sym turn.stays.shape;
        shaped = old.shaped;
        between = turn.between;
        no_line = λ e. cc;
        leaks = λ e goes. c.in_default-list_leaks.ensures.run_result (ap is_stop c.ending.ensures ∙ goes);
      };
      keeps = λ well r f.
          let f' = subst (λ own. Fits r own (is_over c.turn-turned.new.self.ending c.turn-turned.new.self.pieces.items) c.turn-turned.new.state.debug.attempts) turn.stays.rule f in
          turn.kept r f'
          ∙ c.self.invariant.keeps fine r (fits-before r m.state.debug.rule (has_ended m) _ m.state.debug.attempts c.turn-turned.new.state.debug.attempts (λ e. going) turn.stays.fewer f')
          ∙ ap (λ b. whole_run b m.script.now r m.budget m.state.debug.shape) (sym turn.stays.kept)
          ∙ ap (whole_run (keeps_rises c.turn-turned.new.state.debug) m.script.now r m.budget) (sym turn.stays.shape);
    }

-- a run that is over has no statement that is to begin next
over_next : (script : Script) (ending : Ending) (pieces : List PendingPiece) (h : RunState) → is_over ending pieces ≡ true →
    next_line (progress_of true ending (pending_in h.callers pieces) (state_of script h)) ≡ None
over_next script GoesOn [] h over = refl
over_next script (Returns p) [] h over = refl
over_next script (Leaves code) [] h over = refl
over_next script GoesOn (p ∷ ps) h over = cc
over_next script (Returns q) (p ∷ ps) h over = cc
over_next script (Leaves code) (p ∷ ps) h over = cc
over_next script (Panics p) pieces h over = refl
over_next script (Cut why) pieces h over = refl
over_next script NoCleanup pieces h over = refl

either : (b : Bool) (n : ℕ) → (if b then n else n) ≡ n
either true n = refl
either false n = refl

-- a run that is over asks for nothing
pub returns-then-is_over-clause-turned : goal.returns-then-is_over-clause-turned
returns-then-is_over-clause-turned c = record {
  begun = search rules;
  well = search rules;
  first = search rules;
  one = search rules;
  later = search rules;
  counted = search rules;
  within = search rules;
  made = record {
    unasked = search rules;
    asked = λ at_once whole.
        let m = c.self.inside in
        let script = m.script.now in
        let asks : Bool → Bool = λ b. asks_next script m.budget (progress_of b m.control.ending (pending_in m.state.callers m.control.pieces.items) (state_of script m.state)) in
        let never : (not (has_failed m) && asks m.begun) ≡ false =
        ap (λ b. b && asks m.begun) (ap not (ap is_some c.in_default.is)) ∙ ap asks c.if-self.true
        ∙ over_asks script m.budget m.control.ending m.control.pieces.items m.state (sym c.is_over.ensures ∙ c.if-is_over.true) in
        let clash : false ≡ true = sym never ∙ ap (λ (s : Seen). s.asks) c.self.view_is ∙ at_once in cc;
  };
  ceiling = search rules;
  ended = search rules;
  line =
      let m = c.self.inside in
      let s = c.args.self.now in
      let none : s.next ≡ None =
      sym (ap (λ (x : Seen). x.next) c.self.view_is)
      ∙ ap (λ b. next_line (progress_of b m.control.ending (pending_in m.state.callers m.control.pieces.items) (state_of m.script.now m.state))) c.if-self.true
      ∙ over_next m.script.now m.control.ending m.control.pieces.items m.state (sym c.is_over.ensures ∙ c.if-is_over.true) in
      sym (ap (λ o. if s.begun && nat_lt s.steps s.budget then unwrap_or o s.line else s.line) none ∙ either (s.begun && nat_lt s.steps s.budget) s.line);
}
