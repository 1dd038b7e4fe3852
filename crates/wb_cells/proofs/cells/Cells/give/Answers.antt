use Rattle.std.proofs.Common.{◌≡◌, ◌+◌, ◌*◌, ◌/◌, refl, length, false, ap, sym, ◌∙◌, arith}
use Rattle.std.proofs.lemmas.List.{length-set}
use Rattle.wb_heap_model.specs.Row.{without}
use Rattle.wb_heap_model.specs.Spelling.{spelled}
use Rattle.wb_cells.specs.Inside.{IsLaid}
use Rattle.wb_cells.proofs.NamedCells.{length_word}
use Rattle.wb_cells.proofs.Listing.{listed_laid, released, length-closed}
use Rattle.wb_cells.proofs.Laying.{spelled-laid}
use Rattle.wb_cells.proofs.Linking.{gaps_from, links_laid}
use Rattle.wb_cells.proofs.Changing.{valid, some_cell, payload_within}
use Rattle.wb_cells.proofs.Giving.{rounds_of, within_live, within_before, within_after, hollow_is, hole_start, hole_order, hole_before}
use Rattle.wb_cells.proofs.Closing.{closed_hole, numbered-without}
use Rattle.wb_cells.proofs.Sound.{sound_laid}
use Rattle.wb_cells.proofs.cells.Cells.give.Goals as goal

pub neighbours_of-around-requires-clause-below : goal.neighbours_of-around-requires-clause-below
neighbours_of-around-requires-clause-below c =
    let v = valid _ _ _ _ c.self.invariant.laid c.args.ptr c.args.self.now.row (ap (λ v. v.row) c.self.view_is) (some_cell c.args.ptr c.args.self.now.row c.requires) in
    omega (arith, payload_within _ _ _ _ v.cell, c.self.invariant.laid.bounded)

pub length_at-requires : goal.length_at-requires
length_at-requires c =
    let v = valid _ _ _ _ c.self.invariant.laid c.args.ptr c.args.self.now.row (ap (λ v. v.row) c.self.view_is) (some_cell c.args.ptr c.args.self.now.row c.requires) in
    omega (arith, payload_within _ _ _ _ v.cell)

pub overflow_add-end : goal.overflow_add-end
overflow_add-end c =
    let v = valid _ _ _ _ c.self.invariant.laid c.args.ptr c.args.self.now.row (ap (λ v. v.row) c.self.view_is) (some_cell c.args.ptr c.args.self.now.row c.requires) in
    omega (arith, c.length_at.ensures, length_word _ _ _ _ v.cell, payload_within _ _ _ _ v.cell, c.self.invariant.laid.bounded)

pub neighbours_of-around-requires-clause-rounded : goal.neighbours_of-around-requires-clause-rounded
neighbours_of-around-requires-clause-rounded c =
    let v = valid _ _ _ _ c.self.invariant.laid c.args.ptr c.args.self.now.row (ap (λ v. v.row) c.self.view_is) (some_cell c.args.ptr c.args.self.now.row c.requires) in
    omega (arith, v.cell.here, v.cell.rounded)

pub neighbours_of-around-requires-clause-listed : goal.neighbours_of-around-requires-clause-listed
neighbours_of-around-requires-clause-listed c = listed_laid _ _ _ _ c.self.invariant.laid _ c.self.invariant.listed

pub close-requires-clause-end : goal.close-requires-clause-end
close-requires-clause-end c =
    let v = valid _ _ _ _ c.self.invariant.laid c.args.ptr c.args.self.now.row (ap (λ v. v.row) c.self.view_is) (some_cell c.args.ptr c.args.self.now.row c.requires) in
    let around = c.neighbours_of-around.result in
    let round = rounds_of _ _ _ _ c.self.invariant.laid c.args.ptr v.cell around.prior around.before around.after c.neighbours_of-around.ensures.round in
    (released _ _ _ _ c.self.invariant.laid _ c.self.invariant.room c.self.invariant.listed c.args.ptr v.cell around.prior around.before around.after round
    c.hole_left-hole.result _ c.hole_left-hole.ensures (ap (λ n. c.args.ptr.place + n) c.length_at.ensures) _ refl).end_in

pub close-requires-clause-start : goal.close-requires-clause-start
close-requires-clause-start c =
    let v = valid _ _ _ _ c.self.invariant.laid c.args.ptr c.args.self.now.row (ap (λ v. v.row) c.self.view_is) (some_cell c.args.ptr c.args.self.now.row c.requires) in
    let around = c.neighbours_of-around.result in
    let round = rounds_of _ _ _ _ c.self.invariant.laid c.args.ptr v.cell around.prior around.before around.after c.neighbours_of-around.ensures.round in
    (released _ _ _ _ c.self.invariant.laid _ c.self.invariant.room c.self.invariant.listed c.args.ptr v.cell around.prior around.before around.after round
    c.hole_left-hole.result _ c.hole_left-hole.ensures (ap (λ n. c.args.ptr.place + n) c.length_at.ensures) _ refl).start_in

pub close-requires-clause-order : goal.close-requires-clause-order
close-requires-clause-order c =
    let v = valid _ _ _ _ c.self.invariant.laid c.args.ptr c.args.self.now.row (ap (λ v. v.row) c.self.view_is) (some_cell c.args.ptr c.args.self.now.row c.requires) in
    let around = c.neighbours_of-around.result in
    let round = rounds_of _ _ _ _ c.self.invariant.laid c.args.ptr v.cell around.prior around.before around.after c.neighbours_of-around.ensures.round in
    (released _ _ _ _ c.self.invariant.laid _ c.self.invariant.room c.self.invariant.listed c.args.ptr v.cell around.prior around.before around.after round
    c.hole_left-hole.result _ c.hole_left-hole.ensures (ap (λ n. c.args.ptr.place + n) c.length_at.ensures) _ refl).order

pub neighbours_of-around-requires-clause-linked : goal.neighbours_of-around-requires-clause-linked
neighbours_of-around-requires-clause-linked c = (gaps_from 0 c.self.invariant.laid.segments, links_laid _ _ _ _ c.self.invariant.laid)

pub hole_left-hole-requires-clause-cell : goal.hole_left-hole-requires-clause-cell
hole_left-hole-requires-clause-cell c =
    let v = valid _ _ _ _ c.self.invariant.laid c.args.ptr c.args.self.now.row (ap (λ v. v.row) c.self.view_is) (some_cell c.args.ptr c.args.self.now.row c.requires) in
    let around = c.neighbours_of-around.result in
    let round = rounds_of _ _ _ _ c.self.invariant.laid c.args.ptr v.cell around.prior around.before around.after c.neighbours_of-around.ensures.round in
    within_live _ _ _ _ c.self.invariant.laid c.args.ptr v.cell around.prior around.before around.after round

pub hole_left-hole-requires-clause-below : goal.hole_left-hole-requires-clause-below
hole_left-hole-requires-clause-below c =
    let v = valid _ _ _ _ c.self.invariant.laid c.args.ptr c.args.self.now.row (ap (λ v. v.row) c.self.view_is) (some_cell c.args.ptr c.args.self.now.row c.requires) in
    let around = c.neighbours_of-around.result in
    let round = rounds_of _ _ _ _ c.self.invariant.laid c.args.ptr v.cell around.prior around.before around.after c.neighbours_of-around.ensures.round in
    within_before _ _ _ _ c.self.invariant.laid c.args.ptr v.cell around.prior around.before around.after round

pub hole_left-hole-requires-clause-above : goal.hole_left-hole-requires-clause-above
hole_left-hole-requires-clause-above c =
    let v = valid _ _ _ _ c.self.invariant.laid c.args.ptr c.args.self.now.row (ap (λ v. v.row) c.self.view_is) (some_cell c.args.ptr c.args.self.now.row c.requires) in
    let around = c.neighbours_of-around.result in
    let round = rounds_of _ _ _ _ c.self.invariant.laid c.args.ptr v.cell around.prior around.before around.after c.neighbours_of-around.ensures.round in
    within_after _ _ _ _ c.self.invariant.laid c.args.ptr v.cell around.prior around.before around.after round

pub close-ends-requires-clause-before : goal.close-ends-requires-clause-before
close-ends-requires-clause-before c =
    let v = valid _ _ _ _ c.self.invariant.laid c.args.ptr c.args.self.now.row (ap (λ v. v.row) c.self.view_is) (some_cell c.args.ptr c.args.self.now.row c.requires) in
    let around = c.neighbours_of-around.result in
    let round = rounds_of _ _ _ _ c.self.invariant.laid c.args.ptr v.cell around.prior around.before around.after c.neighbours_of-around.ensures.round in
    let hollow = hollow_is _ _ _ _ c.self.invariant.laid c.args.ptr v.cell around.prior around.before around.after round c.hole_left-hole.result c.hole_left-hole.ensures in
    hole_before _ _ _ _ _ _ _ _ _ hollow

pub close-ends-requires-clause-start : goal.close-ends-requires-clause-start
close-ends-requires-clause-start c =
    let v = valid _ _ _ _ c.self.invariant.laid c.args.ptr c.args.self.now.row (ap (λ v. v.row) c.self.view_is) (some_cell c.args.ptr c.args.self.now.row c.requires) in
    let around = c.neighbours_of-around.result in
    let round = rounds_of _ _ _ _ c.self.invariant.laid c.args.ptr v.cell around.prior around.before around.after c.neighbours_of-around.ensures.round in
    let hollow = hollow_is _ _ _ _ c.self.invariant.laid c.args.ptr v.cell around.prior around.before around.after round c.hole_left-hole.result c.hole_left-hole.ensures in
    λ some. hole_start _ _ _ _ _ _ _ _ _ hollow

pub close-ends-requires-clause-order : goal.close-ends-requires-clause-order
close-ends-requires-clause-order c =
    let v = valid _ _ _ _ c.self.invariant.laid c.args.ptr c.args.self.now.row (ap (λ v. v.row) c.self.view_is) (some_cell c.args.ptr c.args.self.now.row c.requires) in
    let around = c.neighbours_of-around.result in
    let round = rounds_of _ _ _ _ c.self.invariant.laid c.args.ptr v.cell around.prior around.before around.after c.neighbours_of-around.ensures.round in
    let hollow = hollow_is _ _ _ _ c.self.invariant.laid c.args.ptr v.cell around.prior around.before around.after round c.hole_left-hole.result c.hole_left-hole.ensures in
    λ some. hole_order _ _ _ _ _ _ _ _ _ hollow

pub set-requires : goal.set-requires
set-requires c =
    let v = valid _ _ _ _ c.self.invariant.laid c.args.ptr c.args.self.now.row (ap (λ v. v.row) c.self.view_is) (some_cell c.args.ptr c.args.self.now.row c.requires) in
    omega (arith, payload_within _ _ _ _ v.cell, c.self.invariant.laid.covered)

pub invariant_of-self : goal.invariant_of-self
invariant_of-self c =
    let v = valid _ _ _ _ c.self.invariant.laid c.args.ptr c.args.self.now.row (ap (λ v. v.row) c.self.view_is) (some_cell c.args.ptr c.args.self.now.row c.requires) in
    let around = c.neighbours_of-around.result in
    let round = rounds_of _ _ _ _ c.self.invariant.laid c.args.ptr v.cell around.prior around.before around.after c.neighbours_of-around.ensures.round in
    let hollow = hollow_is _ _ _ _ c.self.invariant.laid c.args.ptr v.cell around.prior around.before around.after round c.hole_left-hole.result c.hole_left-hole.ensures in
    let laid = c.self.invariant.laid in
    let left = closed_hole _ _ _ _ _ (length c.self.inside.words) c.hole_left-hole.result hollow in
    let bits = length-set c.self.inside.starts (c.args.ptr.place / 16) false in
    let laid_now : IsLaid c.close-ends.new.words c.set.new.self c.close-ends.result.top c.close-ends.result.first =
    rw (c.close-ends.ensures.words, c.close-ends.ensures.ends, c.set.ensures)
    (left.laid (sym (ap length c.close-ends.ensures.words) ∙ c.close-ends.ensures.count) (numbered-without _ _ laid.numbered) (omega (arith, laid.covered, bits)) laid.rounded laid.bounded) in
    let row : spelled c.close-ends.new.words c.close-ends.result.top ≡ without c.args.ptr (spelled c.self.inside.words c.self.inside.ends.top) =
    rw (c.close-ends.ensures.words, c.close-ends.ensures.ends) left.row ∙ ap (without c.args.ptr) (sym (spelled-laid _ _ _ _ laid)) in
    let lists = released _ _ _ _ laid _ c.self.invariant.room c.self.invariant.listed c.args.ptr v.cell around.prior around.before around.after round
    c.hole_left-hole.result _ c.hole_left-hole.ensures (ap (λ n. c.args.ptr.place + n) c.length_at.ensures) (spelled c.close-ends.new.words c.close-ends.result.top) row in
    let lengths : length c.close.new.self ≡ length c.self.inside.gaps = ap length c.close.ensures ∙ length-closed c.self.inside.gaps c.self.inside.ends.top _ c.hole_left-hole.result in
    record {
      laid = laid_now;
      listed = rw c.close.ensures lists.lists;
      room = omega (arith, c.self.invariant.room, c.close-ends.ensures.count, lengths);
    }

pub returns-clause-given : goal.returns-clause-given
returns-clause-given c =
    let v = valid _ _ _ _ c.self.invariant.laid c.args.ptr c.args.self.now.row (ap (λ v. v.row) c.self.view_is) (some_cell c.args.ptr c.args.self.now.row c.requires) in
    let around = c.neighbours_of-around.result in
    let round = rounds_of _ _ _ _ c.self.invariant.laid c.args.ptr v.cell around.prior around.before around.after c.neighbours_of-around.ensures.round in
    let hollow = hollow_is _ _ _ _ c.self.invariant.laid c.args.ptr v.cell around.prior around.before around.after round c.hole_left-hole.result c.hole_left-hole.ensures in
    let laid = c.self.invariant.laid in
    let left = closed_hole _ _ _ _ _ (length c.self.inside.words) c.hole_left-hole.result hollow in
    let row : spelled c.close-ends.new.words c.close-ends.result.top ≡ without c.args.ptr c.args.self.now.row =
    rw (c.close-ends.ensures.words, c.close-ends.ensures.ends) left.row
    ∙ ap (without c.args.ptr) (sym (spelled-laid _ _ _ _ laid) ∙ ap (λ v. v.row) c.self.view_is) in
    let held : 4 * length c.close-ends.new.words ≡ c.args.self.now.held =
    ap (λ n. 4 * n) c.close-ends.ensures.count ∙ ap (λ v. v.held) c.self.view_is in
    λ i. record { row = row i; held = held i }

pub returns-clause-sound : goal.returns-clause-sound
returns-clause-sound c = sound_laid _ _ _ _ (invariant_of-self c).laid
