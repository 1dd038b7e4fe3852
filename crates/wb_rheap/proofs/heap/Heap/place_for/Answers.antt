use Rattle.std.proofs.Common.{◌≤◌, sym, ◌∙◌, ap, subst}
use Rattle.wb_heap_model.specs.LimitedHeap.{IsSoundHeap}
use Rattle.wb_heap_model.specs.Row.{IsLeastPlace, headers, place_of}
use Rattle.wb_heap_model.proofs.LimitedHeaps.{place_in-least, place_in-committed}
use Rattle.wb_rheap.proofs.heap.Heap.place_for.Goals as goal

pub returns-clause-place : goal.returns-clause-place
returns-clause-place c = c.first_fit.ensures.place ∙ ap (λ h. place_of (headers h.row) c.args.length) c.self.view_is

pub returns-clause-least : goal.returns-clause-least
returns-clause-least c =
    let sound = subst IsSoundHeap c.self.view_is c.self.invariant.sound in
    subst (λ p. IsLeastPlace (headers c.args.self.now.row) c.args.length p) (sym (returns-clause-place c)) (place_in-least c.args.self.now c.args.length c.requires sound)

pub returns-clause-within : goal.returns-clause-within
returns-clause-within c =
    let sound = subst IsSoundHeap c.self.view_is c.self.invariant.sound in
    subst (λ p. p ≤ c.args.self.now.committed) (sym (returns-clause-place c)) (place_in-committed c.args.self.now c.args.length sound)
