use Rattle.std.proofs.Common.{◌≡◌, ◌+◌, ◌*◌, ◌≤◌, length, refl, sym, ap, ◌∙◌, arith}
use Rattle.std.proofs.lemmas.List.{length-set}
use Rattle.wb_heap_model.specs.CellRow.{with_length}
use Rattle.wb_heap_model.specs.Spelling.{spelled}
use Rattle.wb_cells.specs.declared.free_list.Hole.{Hole}
use Rattle.wb_cells.specs.Inside.{IsLaid}
use Rattle.wb_cells.proofs.Listing.{listed_laid, relisted, relisted_bounds, length-closed}
use Rattle.wb_cells.proofs.Linking.{gaps_from, links_laid}
use Rattle.wb_cells.proofs.Changing.{valid, some_cell}
use Rattle.wb_cells.proofs.Giving.{rounds_of, within_live, within_after}
use Rattle.wb_cells.proofs.Resizing.{lengthened_words, resized}
use Rattle.wb_cells.proofs.Sound.{sound_laid}
use Rattle.wb_cells.proofs.cells.Cells.resize.Goals as goal

pub neighbours_of-around-requires-clause-linked : goal.neighbours_of-around-requires-clause-linked
neighbours_of-around-requires-clause-linked c = (gaps_from 0 c.self.invariant.laid.segments, links_laid _ _ _ _ c.self.invariant.laid)

pub hole_after-hole-requires-clause-cell : goal.hole_after-hole-requires-clause-cell
hole_after-hole-requires-clause-cell c =
    let v = valid _ _ _ _ c.self.invariant.laid c.args.ptr c.args.self.now.row (ap (λ v. v.row) c.self.view_is) (some_cell c.args.ptr c.args.self.now.row c.requires.live) in
    let around = c.neighbours_of-around.result in
    let round = rounds_of _ _ _ _ c.self.invariant.laid c.args.ptr v.cell around.prior around.before around.after c.neighbours_of-around.ensures.round in
    within_live _ _ _ _ c.self.invariant.laid c.args.ptr v.cell around.prior around.before around.after round

pub hole_after-hole-requires-clause-above : goal.hole_after-hole-requires-clause-above
hole_after-hole-requires-clause-above c =
    let v = valid _ _ _ _ c.self.invariant.laid c.args.ptr c.args.self.now.row (ap (λ v. v.row) c.self.view_is) (some_cell c.args.ptr c.args.self.now.row c.requires.live) in
    let around = c.neighbours_of-around.result in
    let round = rounds_of _ _ _ _ c.self.invariant.laid c.args.ptr v.cell around.prior around.before around.after c.neighbours_of-around.ensures.round in
    within_after _ _ _ _ c.self.invariant.laid c.args.ptr v.cell around.prior around.before around.after round

pub close-requires-clause-end : goal.close-requires-clause-end
close-requires-clause-end c =
    let within : c.args.ptr.place + c.args.length ≤ 4 * length c.self.inside.words = omega (arith, c.requires.within, ap (λ v. v.held) c.self.view_is) in
    let r = resized _ _ _ _ c.self.invariant.laid c.args.ptr c.args.self.now.row (ap (λ v. v.row) c.self.view_is) (some_cell c.args.ptr c.args.self.now.row c.requires.live)
    c.neighbours_of-around.result c.neighbours_of-around.ensures.round c.args.length c.requires.rounded c.requires.least within c.requires.fits
    c.length_at-old.result c.length_at-old.ensures c.hole_after-hole.result c.hole_after-hole.ensures in
    let v = valid _ _ _ _ c.self.invariant.laid c.args.ptr c.args.self.now.row (ap (λ v. v.row) c.self.view_is) (some_cell c.args.ptr c.args.self.now.row c.requires.live) in
    let around = c.neighbours_of-around.result in
    let round = rounds_of _ _ _ _ c.self.invariant.laid c.args.ptr v.cell around.prior around.before around.after c.neighbours_of-around.ensures.round in
    let bounds = relisted_bounds _ _ _ _ c.self.invariant.laid _ c.self.invariant.room c.self.invariant.listed c.args.ptr v.cell around.prior around.before around.after round
    (record { start = c.args.ptr.place + c.args.length; end = c.hole_after-hole.result.end; before = c.hole_after-hole.result.before; next = c.hole_after-hole.result.next })
    (c.args.ptr.place + c.length_at-old.result) (ap (λ h. h.end) c.hole_after-hole.ensures) (ap (λ n. c.args.ptr.place + n) c.length_at-old.ensures) r.order in
    bounds.end_in

pub close-requires-clause-start : goal.close-requires-clause-start
close-requires-clause-start c =
    let within : c.args.ptr.place + c.args.length ≤ 4 * length c.self.inside.words = omega (arith, c.requires.within, ap (λ v. v.held) c.self.view_is) in
    let r = resized _ _ _ _ c.self.invariant.laid c.args.ptr c.args.self.now.row (ap (λ v. v.row) c.self.view_is) (some_cell c.args.ptr c.args.self.now.row c.requires.live)
    c.neighbours_of-around.result c.neighbours_of-around.ensures.round c.args.length c.requires.rounded c.requires.least within c.requires.fits
    c.length_at-old.result c.length_at-old.ensures c.hole_after-hole.result c.hole_after-hole.ensures in
    let v = valid _ _ _ _ c.self.invariant.laid c.args.ptr c.args.self.now.row (ap (λ v. v.row) c.self.view_is) (some_cell c.args.ptr c.args.self.now.row c.requires.live) in
    let around = c.neighbours_of-around.result in
    let round = rounds_of _ _ _ _ c.self.invariant.laid c.args.ptr v.cell around.prior around.before around.after c.neighbours_of-around.ensures.round in
    let bounds = relisted_bounds _ _ _ _ c.self.invariant.laid _ c.self.invariant.room c.self.invariant.listed c.args.ptr v.cell around.prior around.before around.after round
    (record { start = c.args.ptr.place + c.args.length; end = c.hole_after-hole.result.end; before = c.hole_after-hole.result.before; next = c.hole_after-hole.result.next })
    (c.args.ptr.place + c.length_at-old.result) (ap (λ h. h.end) c.hole_after-hole.ensures) (ap (λ n. c.args.ptr.place + n) c.length_at-old.ensures) r.order in
    bounds.start_in

pub close-requires-clause-order : goal.close-requires-clause-order
close-requires-clause-order c =
    let within : c.args.ptr.place + c.args.length ≤ 4 * length c.self.inside.words = omega (arith, c.requires.within, ap (λ v. v.held) c.self.view_is) in
    let r = resized _ _ _ _ c.self.invariant.laid c.args.ptr c.args.self.now.row (ap (λ v. v.row) c.self.view_is) (some_cell c.args.ptr c.args.self.now.row c.requires.live)
    c.neighbours_of-around.result c.neighbours_of-around.ensures.round c.args.length c.requires.rounded c.requires.least within c.requires.fits
    c.length_at-old.result c.length_at-old.ensures c.hole_after-hole.result c.hole_after-hole.ensures in
    let v = valid _ _ _ _ c.self.invariant.laid c.args.ptr c.args.self.now.row (ap (λ v. v.row) c.self.view_is) (some_cell c.args.ptr c.args.self.now.row c.requires.live) in
    let around = c.neighbours_of-around.result in
    let round = rounds_of _ _ _ _ c.self.invariant.laid c.args.ptr v.cell around.prior around.before around.after c.neighbours_of-around.ensures.round in
    let bounds = relisted_bounds _ _ _ _ c.self.invariant.laid _ c.self.invariant.room c.self.invariant.listed c.args.ptr v.cell around.prior around.before around.after round
    (record { start = c.args.ptr.place + c.args.length; end = c.hole_after-hole.result.end; before = c.hole_after-hole.result.before; next = c.hole_after-hole.result.next })
    (c.args.ptr.place + c.length_at-old.result) (ap (λ h. h.end) c.hole_after-hole.ensures) (ap (λ n. c.args.ptr.place + n) c.length_at-old.ensures) r.order in
    bounds.order

pub neighbours_of-around-requires-clause-rounded : goal.neighbours_of-around-requires-clause-rounded
neighbours_of-around-requires-clause-rounded c =
    let v = valid _ _ _ _ c.self.invariant.laid c.args.ptr c.args.self.now.row (ap (λ v. v.row) c.self.view_is) (some_cell c.args.ptr c.args.self.now.row c.requires.live) in
    omega (arith, v.cell.here, v.cell.rounded)

pub neighbours_of-around-requires-clause-listed : goal.neighbours_of-around-requires-clause-listed
neighbours_of-around-requires-clause-listed c = listed_laid _ _ _ _ c.self.invariant.laid _ c.self.invariant.listed

pub zero-requires : goal.zero-requires
zero-requires c =
    let within : c.args.ptr.place + c.args.length ≤ 4 * length c.self.inside.words = omega (arith, c.requires.within, ap (λ v. v.held) c.self.view_is) in
    let r = resized _ _ _ _ c.self.invariant.laid c.args.ptr c.args.self.now.row (ap (λ v. v.row) c.self.view_is) (some_cell c.args.ptr c.args.self.now.row c.requires.live)
    c.neighbours_of-around.result c.neighbours_of-around.ensures.round c.args.length c.requires.rounded c.requires.least within c.requires.fits
    c.length_at-old.result c.length_at-old.ensures c.hole_after-hole.result c.hole_after-hole.ensures in
    rw (c.words_in-2.ensures, c.words_in-3.ensures, c.set_word.ensures, length-set, c.saturating_sub.ensures) r.zeros

pub close-ends-requires-clause-start : goal.close-ends-requires-clause-start
close-ends-requires-clause-start c =
    let within : c.args.ptr.place + c.args.length ≤ 4 * length c.self.inside.words = omega (arith, c.requires.within, ap (λ v. v.held) c.self.view_is) in
    let r = resized _ _ _ _ c.self.invariant.laid c.args.ptr c.args.self.now.row (ap (λ v. v.row) c.self.view_is) (some_cell c.args.ptr c.args.self.now.row c.requires.live)
    c.neighbours_of-around.result c.neighbours_of-around.ensures.round c.args.length c.requires.rounded c.requires.least within c.requires.fits
    c.length_at-old.result c.length_at-old.ensures c.hole_after-hole.result c.hole_after-hole.ensures in
    rw (c.zero.ensures, c.set_word.ensures, c.words_in.ensures, c.words_in-2.ensures, c.words_in-3.ensures, c.saturating_sub.ensures) r.start

pub close-ends-requires-clause-order : goal.close-ends-requires-clause-order
close-ends-requires-clause-order c =
    let within : c.args.ptr.place + c.args.length ≤ 4 * length c.self.inside.words = omega (arith, c.requires.within, ap (λ v. v.held) c.self.view_is) in
    let r = resized _ _ _ _ c.self.invariant.laid c.args.ptr c.args.self.now.row (ap (λ v. v.row) c.self.view_is) (some_cell c.args.ptr c.args.self.now.row c.requires.live)
    c.neighbours_of-around.result c.neighbours_of-around.ensures.round c.args.length c.requires.rounded c.requires.least within c.requires.fits
    c.length_at-old.result c.length_at-old.ensures c.hole_after-hole.result c.hole_after-hole.ensures in
    r.order

pub invariant_of-self : goal.invariant_of-self
invariant_of-self c =
    let within : c.args.ptr.place + c.args.length ≤ 4 * length c.self.inside.words = omega (arith, c.requires.within, ap (λ v. v.held) c.self.view_is) in
    let r = resized _ _ _ _ c.self.invariant.laid c.args.ptr c.args.self.now.row (ap (λ v. v.row) c.self.view_is) (some_cell c.args.ptr c.args.self.now.row c.requires.live)
    c.neighbours_of-around.result c.neighbours_of-around.ensures.round c.args.length c.requires.rounded c.requires.least within c.requires.fits
    c.length_at-old.result c.length_at-old.ensures c.hole_after-hole.result c.hole_after-hole.ensures in
    let bytes : c.zero.new.words ≡ lengthened_words c.self.inside.words c.args.ptr.place c.length_at-old.result c.args.length =
    rw (c.zero.ensures, c.set_word.ensures, c.words_in.ensures, c.words_in-2.ensures, c.words_in-3.ensures, c.saturating_sub.ensures) refl in
    let count : length c.close-ends.new.words ≡ length c.self.inside.words = c.close-ends.ensures.count ∙ ap length bytes ∙ r.count in
    let laid_now : IsLaid c.close-ends.new.words c.self.inside.starts c.close-ends.result.top c.close-ends.result.first =
    rw (c.close-ends.ensures.words, c.close-ends.ensures.ends, bytes) (r.laid (rw (c.close-ends.ensures.words, bytes) at count)) in
    let row : spelled c.close-ends.new.words c.close-ends.result.top ≡ with_length c.args.ptr c.args.length c.args.self.now.row =
    rw (c.close-ends.ensures.words, c.close-ends.ensures.ends, bytes) r.spells in
    let v = valid _ _ _ _ c.self.invariant.laid c.args.ptr c.args.self.now.row (ap (λ v. v.row) c.self.view_is) (some_cell c.args.ptr c.args.self.now.row c.requires.live) in
    let around = c.neighbours_of-around.result in
    let round = rounds_of _ _ _ _ c.self.invariant.laid c.args.ptr v.cell around.prior around.before around.after c.neighbours_of-around.ensures.round in
    let hole : Hole = record { start = c.args.ptr.place + c.args.length; end = c.hole_after-hole.result.end; before = c.hole_after-hole.result.before; next = c.hole_after-hole.result.next } in
    let lists = relisted _ _ _ _ c.self.invariant.laid _ c.self.invariant.room c.self.invariant.listed c.args.ptr v.cell around.prior around.before around.after round
    hole (c.args.ptr.place + c.length_at-old.result) (ap (λ h. h.end) c.hole_after-hole.ensures) (ap (λ n. c.args.ptr.place + n) c.length_at-old.ensures) r.order
    c.args.length refl c.requires.rounded c.requires.least (spelled c.close-ends.new.words c.close-ends.result.top)
    (row ∙ ap (with_length c.args.ptr c.args.length) (sym (ap (λ v. v.row) c.self.view_is))) (sound_laid _ _ _ _ laid_now).row.spaced in
    let lengths : length c.close.new.self ≡ length c.self.inside.gaps = ap length c.close.ensures ∙ length-closed c.self.inside.gaps c.self.inside.ends.top _ hole in
    record {
      laid = laid_now;
      listed = rw c.close.ensures lists;
      room = omega (arith, c.self.invariant.room, count, lengths);
    }

pub returns-clause-resized : goal.returns-clause-resized
returns-clause-resized c =
    let within : c.args.ptr.place + c.args.length ≤ 4 * length c.self.inside.words = omega (arith, c.requires.within, ap (λ v. v.held) c.self.view_is) in
    let r = resized _ _ _ _ c.self.invariant.laid c.args.ptr c.args.self.now.row (ap (λ v. v.row) c.self.view_is) (some_cell c.args.ptr c.args.self.now.row c.requires.live)
    c.neighbours_of-around.result c.neighbours_of-around.ensures.round c.args.length c.requires.rounded c.requires.least within c.requires.fits
    c.length_at-old.result c.length_at-old.ensures c.hole_after-hole.result c.hole_after-hole.ensures in
    let bytes : c.zero.new.words ≡ lengthened_words c.self.inside.words c.args.ptr.place c.length_at-old.result c.args.length =
    rw (c.zero.ensures, c.set_word.ensures, c.words_in.ensures, c.words_in-2.ensures, c.words_in-3.ensures, c.saturating_sub.ensures) refl in
    let row : spelled c.close-ends.new.words c.close-ends.result.top ≡ with_length c.args.ptr c.args.length c.args.self.now.row =
    rw (c.close-ends.ensures.words, c.close-ends.ensures.ends, bytes) r.spells in
    let held : 4 * length c.close-ends.new.words ≡ c.args.self.now.held =
    ap (λ n. 4 * n) (c.close-ends.ensures.count ∙ ap length bytes ∙ r.count) ∙ ap (λ v. v.held) c.self.view_is in
    λ i. record { row = row i; held = held i }

pub returns-clause-sound : goal.returns-clause-sound
returns-clause-sound c = sound_laid _ _ _ _ (invariant_of-self c).laid
