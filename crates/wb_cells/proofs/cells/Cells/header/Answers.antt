use Rattle.std.proofs.Common.{◌≡◌, false, true, Some, option_map, refl, ap, sym, ◌∙◌, arith}
use Rattle.std.specs.Prelude.{nat_eq}
use Rattle.std.proofs.lemmas.Bool.{eq-eqb, ne_eqb, cond-true, cond-false}
use Rattle.std.proofs.lemmas.Option.{same_Some}
use Rattle.wb_heap_model.specs.Row.{cell_at}
use Rattle.wb_cells.proofs.Laying.{spelled-laid}
use Rattle.wb_cells.proofs.Finding.{live_at, unnamed_unrounded, unnamed_off, within-live_at, state-live_at, header-live_at, cell_at-live_at}
use Rattle.wb_cells.proofs.Sound.{sound_now}
use Rattle.wb_cells.proofs.cells.Cells.header.Goals as goal
use Rattle.wb_cells.proofs.cells.Cells.header.Goals.{After-self}

pub returns-then-ptr-ne0-clause-sound : goal.returns-then-ptr-ne0-clause-sound
returns-then-ptr-ne0-clause-sound c = sound_now _ _ _ _ c.self.invariant.laid c.args.self.now c.self.view_is

pub returns-then-ptr-ne0-clause-header : goal.returns-then-ptr-ne0-clause-header
returns-then-ptr-ne0-clause-header c =
    let row = ap (λ v. v.row) (sym c.self.view_is) ∙ spelled-laid _ _ _ _ c.self.invariant.laid in
    let none = unnamed_unrounded _ _ _ _ c.self.invariant.laid c.args.ptr c.if-ptr-ne0.true in
    sym (ap (λ r. option_map (λ c. c.head) (cell_at c.args.ptr r)) row ∙ ap (option_map (λ c. c.head)) none)

pub returns-then-not-is_on-clause-sound : goal.returns-then-not-is_on-clause-sound
returns-then-not-is_on-clause-sound c = sound_now _ _ _ _ c.self.invariant.laid c.args.self.now c.self.view_is

pub returns-then-not-is_on-clause-header : goal.returns-then-not-is_on-clause-header
returns-then-not-is_on-clause-header c =
    let row = ap (λ v. v.row) (sym c.self.view_is) ∙ spelled-laid _ _ _ _ c.self.invariant.laid in
    let none = unnamed_off _ _ _ _ c.self.invariant.laid c.args.ptr (sym c.is_on.ensures ∙ c.if-not-is_on.true) in
    sym (ap (λ r. option_map (λ c. c.head) (cell_at c.args.ptr r)) row ∙ ap (option_map (λ c. c.head)) none)

pub header_at-header-requires-clause-within : goal.header_at-header-requires-clause-within
header_at-header-requires-clause-within c =
    let at = live_at _ _ _ _ c.self.invariant.laid c.args.ptr.place c.if-ptr-ne0.false (sym c.is_on.ensures ∙ c.if-not-is_on.false) in
    omega (arith, within-live_at _ _ _ at)

pub header_at-header-requires-clause-live : goal.header_at-header-requires-clause-live
header_at-header-requires-clause-live c =
    let at = live_at _ _ _ _ c.self.invariant.laid c.args.ptr.place c.if-ptr-ne0.false (sym c.is_on.ensures ∙ c.if-not-is_on.false) in
    state-live_at _ _ _ at

pub returns-then-header-ptr-clause-sound : goal.returns-then-header-ptr-clause-sound
returns-then-header-ptr-clause-sound c = sound_now _ _ _ _ c.self.invariant.laid c.args.self.now c.self.view_is

pub returns-then-header-ptr-clause-header : goal.returns-then-header-ptr-clause-header
returns-then-header-ptr-clause-header c =
    let at = live_at _ _ _ _ c.self.invariant.laid c.args.ptr.place c.if-ptr-ne0.false (sym c.is_on.ensures ∙ c.if-not-is_on.false) in
    let row = ap (λ v. v.row) (sym c.self.view_is) ∙ spelled-laid _ _ _ _ c.self.invariant.laid in
    let head = same_Some _ _ (sym c.header_at-header.ensures ∙ header-live_at _ _ _ at) in
    let number : nat_eq c.args.ptr.number at.number ≡ true = eq-eqb _ _ (sym c.if-header-ptr.true ∙ ap (λ h. h.number) head) in
    ap (λ h. Some h) head
    ∙ sym (ap (λ r. option_map (λ c. c.head) (cell_at c.args.ptr r)) row
    ∙ ap (option_map (λ c. c.head)) (cell_at-live_at _ _ _ at c.args.ptr refl ∙ cond-true _ _ _ number))

pub returns-else-header-ptr-clause-sound : goal.returns-else-header-ptr-clause-sound
returns-else-header-ptr-clause-sound c = sound_now _ _ _ _ c.self.invariant.laid c.args.self.now c.self.view_is

pub returns-else-header-ptr-clause-header : goal.returns-else-header-ptr-clause-header
returns-else-header-ptr-clause-header c =
    let at = live_at _ _ _ _ c.self.invariant.laid c.args.ptr.place c.if-ptr-ne0.false (sym c.is_on.ensures ∙ c.if-not-is_on.false) in
    let row = ap (λ v. v.row) (sym c.self.view_is) ∙ spelled-laid _ _ _ _ c.self.invariant.laid in
    let head = same_Some _ _ (sym c.header_at-header.ensures ∙ header-live_at _ _ _ at) in
    let number : nat_eq c.args.ptr.number at.number ≡ false = ne_eqb _ _ (λ e. c.if-header-ptr.false (ap (λ h. h.number) head ∙ sym e)) in
    sym (ap (λ r. option_map (λ c. c.head) (cell_at c.args.ptr r)) row
    ∙ ap (option_map (λ c. c.head)) (cell_at-live_at _ _ _ at c.args.ptr refl ∙ cond-false _ _ _ number))
