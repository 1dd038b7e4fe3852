use Rattle.std.proofs.Common.{◌≡◌, ◌+◌, ◌*◌, ◌/◌, ◌%◌, ℕ, get_or, false, ap, sym, ◌∙◌, arith}
use Rattle.std.specs.Int.{div_ceil}
use Rattle.wb_heap_model.specs.Row.{headers}
use Rattle.wb_heap_model.specs.LimitedHeap.{next_live_of}
use Rattle.wb_cells.proofs.Laying.{spelled-laid}
use Rattle.wb_cells.proofs.Finding.{live_at, within-live_at, state-live_at, header-live_at}
use Rattle.wb_cells.proofs.Searching.{none_from, some_from}
use Rattle.wb_cells.proofs.Sound.{sound_now}
use Rattle.wb_cells.proofs.cells.Cells.next_live.Goals as goal

ceiling : (from : ℕ) → div_ceil from 16 ≡ (from + 15) / 16
ceiling from = omega arith

pub returns-in-None-clause-sound : goal.returns-in-None-clause-sound
returns-in-None-clause-sound c = sound_now _ _ _ _ c.self.invariant.laid c.args.self.now c.self.view_is

pub returns-in-None-clause-first : goal.returns-in-None-clause-first
returns-in-None-clause-first c =
    let row = ap (λ v. v.row) (sym c.self.view_is) ∙ spelled-laid _ _ _ _ c.self.invariant.laid in
    let first = c.div_ceil.ensures ∙ ceiling c.args.from in
    sym (ap (λ r. next_live_of c.args.from (headers r)) row
    ∙ none_from _ _ _ _ c.self.invariant.laid c.args.from (λ k le. c.in-None.ensures k (omega (arith, first, le))))

pub overflow_mul-start : goal.overflow_mul-start
overflow_mul-start c =
    let rounded : 16 * c.in-Some.start % 16 ≡ 0 = omega arith in
    let index : 16 * c.in-Some.start / 16 ≡ c.in-Some.start = omega arith in
    let on = c.in-Some.ensures.2 in
    let at = live_at _ _ _ _ c.self.invariant.laid (16 * c.in-Some.start) rounded (ap (λ k. get_or c.self.inside.starts k false) index ∙ on) in
    omega (arith, within-live_at _ _ _ at, c.self.invariant.laid.bounded)

pub header_at-requires-clause-within : goal.header_at-requires-clause-within
header_at-requires-clause-within c =
    let rounded : 16 * c.in-Some.start % 16 ≡ 0 = omega arith in
    let index : 16 * c.in-Some.start / 16 ≡ c.in-Some.start = omega arith in
    let on = c.in-Some.ensures.2 in
    let at = live_at _ _ _ _ c.self.invariant.laid (16 * c.in-Some.start) rounded (ap (λ k. get_or c.self.inside.starts k false) index ∙ on) in
    omega (arith, within-live_at _ _ _ at)

pub header_at-requires-clause-live : goal.header_at-requires-clause-live
header_at-requires-clause-live c =
    let rounded : 16 * c.in-Some.start % 16 ≡ 0 = omega arith in
    let index : 16 * c.in-Some.start / 16 ≡ c.in-Some.start = omega arith in
    let on = c.in-Some.ensures.2 in
    state-live_at _ _ _ (live_at _ _ _ _ c.self.invariant.laid (16 * c.in-Some.start) rounded (ap (λ k. get_or c.self.inside.starts k false) index ∙ on))

pub returns-in-Some-clause-sound : goal.returns-in-Some-clause-sound
returns-in-Some-clause-sound c = sound_now _ _ _ _ c.self.invariant.laid c.args.self.now c.self.view_is

pub returns-in-Some-clause-first : goal.returns-in-Some-clause-first
returns-in-Some-clause-first c =
    let rounded : 16 * c.in-Some.start % 16 ≡ 0 = omega arith in
    let index : 16 * c.in-Some.start / 16 ≡ c.in-Some.start = omega arith in
    let next = c.in-Some.ensures in
    let at = live_at _ _ _ _ c.self.invariant.laid (16 * c.in-Some.start) rounded (ap (λ k. get_or c.self.inside.starts k false) index ∙ next.2) in
    let row = ap (λ v. v.row) (sym c.self.view_is) ∙ spelled-laid _ _ _ _ c.self.invariant.laid in
    let first = c.div_ceil.ensures ∙ ceiling c.args.from in
    (sym c.header_at.ensures ∙ header-live_at _ _ _ at)
    ∙ sym (ap (λ r. next_live_of c.args.from (headers r)) row
    ∙ some_from _ _ _ _ c.self.invariant.laid c.args.from c.in-Some.start at (omega (arith, first, next.0)) (λ j le lt. next.3 j (omega (arith, first, le)) lt))
