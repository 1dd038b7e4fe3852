use Rattle.std.proofs.Common.{◌≡◌, ◌≢◌, IfOk, ap, ◌∙◌, sym, subst, refl, Option, Some}
use Rattle.wb_cleanup.specs.declared.cleanup.Cleanup.{Cleanup}
use Rattle.wb_cleanup.specs.declared.cleanup.Pushed.TheVariants.{Ceiling}
use Rattle.wb_machine.specs.CleanupEffects.{IsPushed}
use Rattle.wb_machine.specs.Owed.{KeepsCount}
use Rattle.wb_machine.specs.RunState.{RunState}
use Rattle.wb_machine.specs.StackInvariant.{IsMemory}
use Rattle.wb_machine.specs.StateView.{run_state}
use Rattle.wb_machine.proofs.kept.StackPushes.{item_pushed, keeps_pushed, memory_pushed}
use Rattle.wb_machine.proofs.state.State.put_item.Goals as goal

pub invariant_of-self : goal.invariant_of-self
invariant_of-self c =
    let memory = subst (λ (o : Option Cleanup). IsMemory c.self.inside.heap o) c.in-Some.is c.self.invariant in
    memory_pushed c.push.result c.args.item c.in-Some.stack c.push.new.self c.self.inside.heap c.push.new.heap memory c.push.ensures.stands c.push.ensures.sound c.push.ensures.pushed
    c.push.ensures.err

pub returns-clause-keeps : goal.returns-clause-keeps
returns-clause-keeps c =
    let memory = subst (λ (o : Option Cleanup). IsMemory c.self.inside.heap o) c.in-Some.is c.self.invariant in
    let g = run_state (record c.self.inside { heap = c.push.new.heap; cleanup = Some c.push.new.self }) in
    subst (λ (x : RunState). KeepsCount x g) c.self.view_is
    (keeps_pushed c.push.result c.args.item c.in-Some.stack c.push.new.self (run_state c.self.inside) g (memory.stands c.self.inside.heap refl) c.push.ensures.stands c.push.ensures.sound refl refl refl
    c.push.ensures.pushed c.push.ensures.err)

pub returns-clause-item : goal.returns-clause-item
returns-clause-item c =
    let h = run_state (record c.self.inside { cleanup = Some c.in-Some.stack }) in
    let g = run_state (record c.self.inside { heap = c.push.new.heap; cleanup = Some c.push.new.self }) in
    let is : h ≡ c.args.self.now = sym (ap (λ (o : Option Cleanup). run_state (record c.self.inside { cleanup = o })) c.in-Some.is) ∙ c.self.view_is in
    subst (λ (x : RunState). IfOk c.push.result (λ pushed. pushed ≢ Ceiling → IsPushed x c.args.item g)) is
    (item_pushed c.push.result c.args.item c.in-Some.stack c.push.new.self h c.push.new.heap refl refl refl c.push.ensures.pushed)
