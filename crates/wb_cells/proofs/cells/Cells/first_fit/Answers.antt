use Rattle.std.proofs.Common.{Some, None, ap, sym, ◌∙◌, arith}
use Rattle.wb_heap_model.specs.Row.{headers, place_of}
use Rattle.wb_heap_model.proofs.Places.{place_of-least}
use Rattle.wb_heap_model.proofs.Rows.{place_from-top}
use Rattle.wb_cells.proofs.Gaps.{place_of-gap}
use Rattle.wb_cells.proofs.Listing.{first_place, first_within}
use Rattle.wb_cells.proofs.Sound.{sound_now}
use Rattle.wb_cells.proofs.cells.Cells.first_fit.Goals as goal

pub first_long-requires : goal.first_long-requires
first_long-requires c = omega (arith, c.requires)

pub overflow_mul-result : goal.overflow_mul-result
overflow_mul-result c =
    omega (arith, first_within _ _ _ _ c.self.invariant.laid _ c.self.invariant.listed c.args.length c.in-Some.at (omega (arith, c.requires)) c.in-Some.ensures, c.self.invariant.laid.bounded)

pub returns-in-Some-clause-place : goal.returns-in-Some-clause-place
returns-in-Some-clause-place c =
    sym (ap (λ v. place_of (headers v.row) c.args.length) (sym c.self.view_is)
    ∙ first_place _ _ _ _ c.self.invariant.laid _ c.self.invariant.listed c.args.length (omega (arith, c.requires)) (Some c.in-Some.at) c.in-Some.ensures)

pub returns-in-None-clause-place : goal.returns-in-None-clause-place
returns-in-None-clause-place c =
    sym (ap (λ v. place_of (headers v.row) c.args.length) (sym c.self.view_is)
    ∙ first_place _ _ _ _ c.self.invariant.laid _ c.self.invariant.listed c.args.length (omega (arith, c.requires)) None c.in-None.ensures)

pub returns-in-Some-clause-sound : goal.returns-in-Some-clause-sound
returns-in-Some-clause-sound c = sound_now _ _ _ _ c.self.invariant.laid c.args.self.now c.self.view_is

pub returns-in-None-clause-sound : goal.returns-in-None-clause-sound
returns-in-None-clause-sound c = sound_now _ _ _ _ c.self.invariant.laid c.args.self.now c.self.view_is

pub returns-in-Some-clause-least : goal.returns-in-Some-clause-least
returns-in-Some-clause-least c =
    let sound = sound_now _ _ _ _ c.self.invariant.laid c.args.self.now c.self.view_is in
    rw (returns-in-Some-clause-place c) (place_of-least (headers c.args.self.now.row) c.args.length (omega (arith, c.requires)) sound.row.spaced)

pub returns-in-None-clause-least : goal.returns-in-None-clause-least
returns-in-None-clause-least c =
    let sound = sound_now _ _ _ _ c.self.invariant.laid c.args.self.now c.self.view_is in
    rw (returns-in-None-clause-place c) (place_of-least (headers c.args.self.now.row) c.args.length (omega (arith, c.requires)) sound.row.spaced)

pub returns-in-Some-clause-gap : goal.returns-in-Some-clause-gap
returns-in-Some-clause-gap c =
    let sound = sound_now _ _ _ _ c.self.invariant.laid c.args.self.now c.self.view_is in
    rw (returns-in-Some-clause-place c) (place_of-gap (headers c.args.self.now.row) c.args.length (omega (arith, c.requires)) sound.row.spaced)

pub returns-in-None-clause-gap : goal.returns-in-None-clause-gap
returns-in-None-clause-gap c =
    let sound = sound_now _ _ _ _ c.self.invariant.laid c.args.self.now c.self.view_is in
    rw (returns-in-None-clause-place c) (place_of-gap (headers c.args.self.now.row) c.args.length (omega (arith, c.requires)) sound.row.spaced)

pub returns-in-Some-clause-low : goal.returns-in-Some-clause-low
returns-in-Some-clause-low c =
    let sound = sound_now _ _ _ _ c.self.invariant.laid c.args.self.now c.self.view_is in
    rw (returns-in-Some-clause-place c) (place_from-top (headers c.args.self.now.row) 0 c.args.length sound.row.spaced)

pub returns-in-None-clause-low : goal.returns-in-None-clause-low
returns-in-None-clause-low c =
    let sound = sound_now _ _ _ _ c.self.invariant.laid c.args.self.now c.self.view_is in
    rw (returns-in-None-clause-place c) (place_from-top (headers c.args.self.now.row) 0 c.args.length sound.row.spaced)
