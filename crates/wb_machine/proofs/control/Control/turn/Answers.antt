use Rattle.std.proofs.Common.{rules, ◌≡◌, ℕ, ◌+◌, ◌<◌, ◌≤◌, inl, inr, refl, ap, ◌∙◌, sym, subst, arith, Bool, true, false}
use Rattle.wb_heap_model.specs.declared.heap.Rule.{Rule}
use Rattle.wb_tree.specs.declared.script.Script.{Script}
use Rattle.wb_heap_model.specs.SameRules.{Fits}
use Rattle.wb_meaning.specs.Run.{WholeRun}
use Rattle.wb_machine.specs.declared.control.Control.{Control}
use Rattle.wb_machine.specs.RunState.{RunState, state_of}
use Rattle.wb_machine.specs.Asks.{asks_next, MakesAsked}
use Rattle.wb_machine.specs.Flow.{pending_in, is_stop, is_over, has_met_ceiling, progress_of, AreSound, rest_from, rest_at}
use Rattle.wb_machine.specs.ObjectInvariant.{AreWhole}
use Rattle.wb_machine.proofs.asking.AskedPieces.{settled_cut}
use Rattle.wb_machine.proofs.turns.FirstTurn.{rest_first}
use Rattle.wb_machine.proofs.asking.Counted.{made_as_asked}
use Rattle.wb_machine.proofs.whole_runs.Fitting.{fits-limit, fits-before, going_on}
use Rattle.wb_machine.proofs.control.Control.turn.Goals.{then-not-begun+in_ok-begin, else-not-begun+then-steps-budget+in_ok-step, else-not-begun+else-steps-budget}
use Rattle.std.specs.Prelude.{min}
use Rattle.wb_machine.specs.SlotInvariant.{HasRoom}
use Rattle.wb_machine.proofs.kept.SlotsKept.{moved_room, stop_room}
use Rattle.wb_machine.proofs.control.Control.turn.Goals as goal

-- a fact of what one of the branches made
moved_on : (script : Script) (budget : ℕ) (r own : Rule) (made mid : Control) (st g : RunState) (run_result : WholeRun) → mid ≡ made → g ≡ st →
    Fits r own (is_stop mid.ending) g.debug.attempts →
    (Fits r own (is_stop made.ending) st.debug.attempts → rest_from script budget r made.ending made.pieces.items st ≡ run_result) →
    rest_from script budget r mid.ending mid.pieces.items g ≡ run_result
moved_on script budget r own made mid st g run_result e d f go =
    let f' : Fits r own (is_stop made.ending) st.debug.attempts =
    subst (λ (x : RunState). Fits r own (is_stop made.ending) x.debug.attempts) d (subst (λ (x : Control). Fits r own (is_stop x.ending) g.debug.attempts) e f) in
    ap (λ (x : Control). rest_from script budget r x.ending x.pieces.items g) e
    ∙ ap (λ (x : RunState). rest_from script budget r made.ending made.pieces.items x) d ∙ go f'

steps_are : (g st : RunState) (budget : ℕ) → g ≡ st → st.steps ≤ budget → g.steps ≤ budget
steps_are g st budget e le = subst (λ (x : RunState). x.steps ≤ budget) (sym e) le

-- what a stop would stop
not_stopped : (was now : Bool) → (was ≡ true → now ≡ true) → now ≡ false → was ≡ false
not_stopped false now stays going = refl
not_stopped true now stays going = let x = sym (stays refl) ∙ going in cc

pub returns-clause-kept : goal.returns-clause-kept
returns-clause-kept c r f =
    let script = c.args.script.now in
    let budget = c.args.budget in
    let own = c.args.state.now.debug.rule in
    let old = c.args.self.now in
    let h = c.args.state.now in
    let mid = c.if-not-begun.self in
    let g = c.if-not-begun.state in
    let goes : is_over c.settle.new.self.ending c.settle.new.self.pieces.items ≡ false → is_stop mid.ending ≡ false =
    λ e. not_stopped (is_stop mid.ending) (is_stop c.settle.new.self.ending) c.in_ok-settle.ensures.stop (going_on c.settle.new.self.ending c.settle.new.self.pieces.items e) in
    let fits : Fits r own (is_stop mid.ending) g.debug.attempts = fits-before r own _ _ g.debug.attempts c.settle.new.state.debug.attempts goes (omega (arith, c.in_ok-settle.ensures.quiet.attempts)) f in
    let steps : g.steps ≤ budget = elim c.if-not-begun.branch [
      | then-not-begun+in_ok-begin w ↦ steps_are g w.begin.new.state budget w.state-is (omega (arith, w.in_ok-begin.ensures.steps))
      | else-not-begun+then-steps-budget+in_ok-step w ↦ steps_are g w.step.new.state budget w.state-is (omega (arith, w.in_ok-step.ensures.steps, w.if-steps-budget.true, w.steps.ensures))
      | else-not-begun+else-steps-budget w ↦ steps_are g h budget w.state-is c.requires.between.within
    ] in
    let same : rest_from script budget r mid.ending mid.pieces.items g ≡ rest_at script budget r c.args.begun old.ending old.pieces.items h =
    elim c.if-not-begun.branch [
      | then-not-begun+in_ok-begin w ↦
          moved_on script budget r own w.begin.new.self mid w.begin.new.state g _ w.self-is w.state-is fits (λ f'.
          w.in_ok-begin.ensures.kept r budget f'
          ∙ sym (ap (λ b. rest_at script budget r b old.ending old.pieces.items h) w.if-not-begun.true
          ∙ rest_first r script budget old.ending old.pieces.items h (c.requires.between.first w.if-not-begun.true).start (fits-limit r own _ _ f)))
      | else-not-begun+then-steps-budget+in_ok-step w ↦
          moved_on script budget r own w.step.new.self mid w.step.new.state g _ w.self-is w.state-is fits (λ f'.
          w.in_ok-step.ensures.kept r budget (omega (arith, w.if-steps-budget.true, w.steps.ensures)) f'
          ∙ sym (ap (λ b. rest_at script budget r b old.ending old.pieces.items h) w.if-not-begun.false))
      | else-not-begun+else-steps-budget w ↦
          moved_on script budget r own w.cut.new.self mid h g _ w.self-is w.state-is fits (λ f'.
          w.cut.ensures.kept script r budget h (omega (arith, w.if-steps-budget.false, w.steps.ensures, c.requires.between.within))
          ∙ sym (ap (λ b. rest_at script budget r b old.ending old.pieces.items h) w.if-not-begun.false))
    ] in
    c.in_ok-settle.ensures.kept script r budget steps ∙ same

pub returns-clause-asked : goal.returns-clause-asked
returns-clause-asked c =
    let script = c.args.script.now in
    let budget = c.args.budget in
    let own = c.args.state.now.debug.rule in
    let old = c.args.self.now in
    let h = c.args.state.now in
    let mid = c.if-not-begun.self in
    let g = c.if-not-begun.state in
    let next = c.settle.new.self.ending in
    let quiet = c.in_ok-settle.ensures.quiet in
    let after = c.settle.new.state in
    let asks : Bool → Bool = λ b. asks_next script budget (progress_of b old.ending (pending_in h.callers old.pieces.items) (state_of script h)) in
    elim c.if-not-begun.branch [
      | then-not-begun+in_ok-begin w ↦
          subst (λ b. MakesAsked (asks b) (has_met_ceiling next) h.debug.attempts after.debug.attempts) (sym w.if-not-begun.true) (record {
            unasked = λ silent. cc;
            asked = λ at_once whole. omega (
              arith,
              quiet.attempts,
              ap (λ (x : RunState). x.debug.attempts) w.state-is,
              w.in_ok-begin.ensures.one,
              ap (λ (x : RunState). x.debug.attempts) (c.requires.between.first w.if-not-begun.true).start,
            );
          })
      | else-not-begun+then-steps-budget+in_ok-step w ↦
          let less : h.steps < budget = omega (arith, w.if-steps-budget.true, w.steps.ensures) in
          let stays = w.in_ok-step.ensures.stays in
          let made = ap (λ (x : RunState). x.debug.attempts) w.state-is in
          let taken = ap (λ (x : RunState). x.steps) w.state-is in
          let steps : g.steps ≤ h.steps + 1 = omega (arith, taken, w.in_ok-step.ensures.steps) in
          let same = c.in_ok-settle.ensures.kept script own (h.steps + 1) steps
          ∙ moved_on script (h.steps + 1) own own w.step.new.self mid w.step.new.state g _ w.self-is w.state-is (inl refl) (λ f'. w.in_ok-step.ensures.kept own (h.steps + 1) (omega arith) f') in
          subst (λ b. MakesAsked (asks b) (has_met_ceiling next) h.debug.attempts after.debug.attempts) (sym w.if-not-begun.false)
          (made_as_asked script budget own old.ending next old.pieces.items c.settle.new.self.pieces.items h after (c.requires.later w.if-not-begun.false) c.requires.between.pieces_are c.in_ok-settle.ensures.settled
          less (omega (arith, quiet.steps, taken, w.in_ok-step.ensures.steps)) (omega (arith, quiet.attempts, made, stays.more)) same)
      | else-not-begun+else-steps-budget w ↦
          let at : h.steps ≡ budget = omega (arith, w.if-steps-budget.false, w.steps.ensures, c.requires.between.within) in
          let none : asks true ≡ false = settled_cut script budget old.ending old.pieces.items h (inr (c.requires.later w.if-not-begun.false)) at in
          subst (λ b. MakesAsked (asks b) (has_met_ceiling next) h.debug.attempts after.debug.attempts) (sym w.if-not-begun.false) (record {
            unasked = λ silent. omega (arith, quiet.attempts, ap (λ (x : RunState). x.debug.attempts) w.state-is);
            asked = λ at_once whole. let clash : false ≡ true = sym none ∙ at_once in cc;
          })
    ]

pub step-requires-clause-may : goal.step-requires-clause-may
step-requires-clause-may c =
    let between = c.requires.between in
    let begun = c.if-not-begun.false in
    let ready = c.requires.later begun in
    record {
      ready = ready;
      sound = between.pieces_are;
      room = between.room begun;
      stack = between.stack begun (ap is_stop ready.0);
      number = search rules;
      level = search rules;
      steps = search rules;
    }

-- the pieces are sound, the cells whole and the stack has room, in each of the ways
pieces_are : (c : goal.In_ok-settle) → AreSound c.args.script.now c.settle.new.self.pieces.items
pieces_are c =
    let script = c.args.script.now in
    let P : Control → Type 0 = λ x. AreSound script x.pieces.items in
    c.in_ok-settle.ensures.sound script (elim c.if-not-begun.branch [
      | then-not-begun+in_ok-begin w ↦ subst P (sym w.self-is) w.in_ok-begin.ensures.sound
      | else-not-begun+then-steps-budget+in_ok-step w ↦ subst P (sym w.self-is) w.in_ok-step.ensures.sound
      | else-not-begun+else-steps-budget w ↦ subst P (sym w.self-is) (subst (AreSound script) (sym w.cut.ensures.pieces) c.requires.between.pieces_are)
    ])

whole : (c : goal.In_ok-settle) → AreWhole c.args.script.now c.settle.new.state.debug.heap.row
whole c =
    let script = c.args.script.now in
    let P : RunState → Type 0 = λ x. AreWhole script x.debug.heap.row in
    c.in_ok-settle.ensures.quiet.whole script (elim c.if-not-begun.branch [
      | then-not-begun+in_ok-begin w ↦ subst P (sym w.state-is) w.in_ok-begin.ensures.whole
      | else-not-begun+then-steps-budget+in_ok-step w ↦ subst P (sym w.state-is) (w.in_ok-step.ensures.whole c.requires.between.whole)
      | else-not-begun+else-steps-budget w ↦ subst P (sym w.state-is) c.requires.between.whole
    ])

room : (c : goal.In_ok-settle) → HasRoom c.settle.new.self.ending c.settle.new.self.pieces.items c.settle.new.state
room c =
    let mid = c.if-not-begun.self in
    let g = c.if-not-begun.state in
    c.in_ok-settle.ensures.room (elim c.if-not-begun.branch [
      | then-not-begun+in_ok-begin w ↦ moved_room w.begin.new.self mid w.begin.new.state g w.self-is w.state-is w.in_ok-begin.ensures.room
      | else-not-begun+then-steps-budget+in_ok-step w ↦ moved_room w.step.new.self mid w.step.new.state g w.self-is w.state-is w.in_ok-step.ensures.room
      | else-not-begun+else-steps-budget w ↦
          moved_room w.cut.new.self mid c.args.state.now g w.self-is w.state-is (stop_room w.cut.new.self.ending w.cut.new.self.pieces.items c.args.state.now (ap is_stop w.cut.ensures.ending))
    ])

pub returns-clause-between : goal.returns-clause-between
returns-clause-between c = record {
  within = search rules;
  counted = search rules;
  level = search rules;
  first = λ e. cc;
  settled = λ e. c.in_ok-settle.ensures.settled;
  stack = λ e. search rules;
  pieces_are = pieces_are c;
  room = λ e. room c;
  whole = whole c;
}
