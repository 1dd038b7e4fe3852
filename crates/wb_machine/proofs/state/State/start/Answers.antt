use Rattle.std.proofs.Common.{ap, ◌∙◌, subst, arith}
use Rattle.wb_heap_model.specs.declared.heap.Kind.TheVariants.{Cleanup}
use Rattle.wb_heap_model.specs.Debug.{alloc_made}
use Rattle.wb_machine.specs.Owed.{Stays}
use Rattle.wb_machine.specs.RunState.{RunState}
use Rattle.wb_machine.specs.StateView.{run_state}
use Rattle.wb_machine.proofs.effects.UnchangedByAttempts.{alloc_stays, called_keeps}
use Rattle.wb_machine.proofs.state.State.start.Goals as goal

pub returns-clause-stays : goal.returns-clause-stays
returns-clause-stays c =
    let h = run_state c.self.inside in
    let g = run_state (record c.self.inside { heap = c.start.new.heap; cleanup = c.in_ok-self-inside.field-0 }) in
    let stays = (called_keeps c.start.result h (alloc_made h.debug 128 Cleanup).debug c.start.new.heap (alloc_stays h 128 Cleanup) c.start.ensures.made c.start.ensures.err).stays in
    let none = ap (λ (x : RunState). x.cleanup.number) (c.self.view_is ∙ c.requires) in
    subst (λ (x : RunState). Stays x g) c.self.view_is (record {
      rule = stays.rule;
      shape = stays.shape;
      fewer = stays.fewer;
      more = stays.more;
      kept = stays.kept;
      deeper = stays.deeper;
      stack = λ has. absurd (omega (arith, has, none));
    })
