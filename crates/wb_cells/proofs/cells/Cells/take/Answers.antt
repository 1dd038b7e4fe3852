use Rattle.std.proofs.Common.{◌≡◌, ℕ, List, ◌+◌, ◌-◌, ◌*◌, ◌/◌, ◌<◌, ◌≤◌, ◌≢◌, All, [], ◌∷◌, length, replicate, subst, ap, sym, ◌∙◌, arith}
use Rattle.std.specs.List.{replace_range}
use Rattle.wb_heap_model.specs.Row.{Cell, headers, inserted}
use Rattle.wb_heap_model.specs.LimitedHeap.{zero_words}
use Rattle.wb_heap_model.specs.Spelling.{spelled}
use Rattle.wb_cells.specs.Inside.{IsLaid, cells_in}
use Rattle.wb_cells.specs.Segments.{state_of}
use Rattle.wb_cells.proofs.Laying.{spelled-laid}
use Rattle.wb_cells.proofs.Linking.{gaps_from, links_laid}
use Rattle.wb_cells.proofs.Placing.{hole_within, laid_taken, length-written}
use Rattle.wb_cells.proofs.Listing.{granted, granted_room, length-opened, listed_laid}
use Rattle.wb_cells.proofs.Taking.{openable_laid, placed, view_taken}
use Rattle.wb_cells.proofs.Sound.{sound_laid}
use Rattle.wb_cells.proofs.cells.Cells.take.Goals as goal

pub open-ends-requires-clause-linked : goal.open-ends-requires-clause-linked
open-ends-requires-clause-linked c = (gaps_from 0 c.self.invariant.laid.segments, links_laid _ _ _ _ c.self.invariant.laid)

pub open-ends-requires-clause-listed : goal.open-ends-requires-clause-listed
open-ends-requires-clause-listed c = listed_laid _ _ _ _ c.self.invariant.laid _ c.self.invariant.listed

pub open-requires-clause-start : goal.open-requires-clause-start
open-requires-clause-start c =
    λ low. (granted_room _ _ _ _ c.self.invariant.laid _ c.self.invariant.room c.self.invariant.listed c.args.place c.args.length c.requires.rounded c.requires.least _ (ap (λ v. v.row) c.self.view_is) c.requires.gap low).start

pub open-requires-clause-end : goal.open-requires-clause-end
open-requires-clause-end c =
    λ low. (granted_room _ _ _ _ c.self.invariant.laid _ c.self.invariant.room c.self.invariant.listed c.args.place c.args.length c.requires.rounded c.requires.least _ (ap (λ v. v.row) c.self.view_is) c.requires.gap low).end

pub open-requires-clause-fits : goal.open-requires-clause-fits
open-requires-clause-fits c =
    λ low. (granted_room _ _ _ _ c.self.invariant.laid _ c.self.invariant.room c.self.invariant.listed c.args.place c.args.length c.requires.rounded c.requires.least _ (ap (λ v. v.row) c.self.view_is) c.requires.gap low).fits

pub open-ends-requires-clause-gap : goal.open-ends-requires-clause-gap
open-ends-requires-clause-gap c =
    openable_laid _ _ _ _ c.self.invariant.laid c.args.place c.args.length c.requires.rounded c.requires.least _ (ap (λ v. v.row) c.self.view_is) c.requires.gap

pub write_header-requires : goal.write_header-requires
write_header-requires c =
    let within : c.args.place + c.args.length ≤ 4 * length c.self.inside.words = omega (arith, c.requires.within, ap (λ v. v.held) c.self.view_is) in
    let hole = placed _ _ _ _ c.self.invariant.laid c.args.place c.args.length c.requires.rounded c.requires.least _ (ap (λ v. v.row) c.self.view_is) c.requires.gap
    c.open-ends.new.words c.open-ends.result within c.open-ends.ensures.top c.open-ends.ensures.gap in
    omega (arith, hole_within _ _ _ _ _ _ _ hole c.requires.rounded c.requires.least c.args.header.kind c.args.header.level c.args.header.number)

pub zero-requires : goal.zero-requires
zero-requires c =
    let within : c.args.place + c.args.length ≤ 4 * length c.self.inside.words = omega (arith, c.requires.within, ap (λ v. v.held) c.self.view_is) in
    let hole = placed _ _ _ _ c.self.invariant.laid c.args.place c.args.length c.requires.rounded c.requires.least _ (ap (λ v. v.row) c.self.view_is) c.requires.gap
    c.open-ends.new.words c.open-ends.result within c.open-ends.ensures.top c.open-ends.ensures.gap in
    omega (arith, hole_within _ _ _ _ _ _ _ hole c.requires.rounded c.requires.least c.args.header.kind c.args.header.level c.args.header.number, c.write_header.ensures.count, c.payload_at.ensures, c.words_in.ensures)

pub invariant_of-self : goal.invariant_of-self
invariant_of-self c =
    let laid = c.self.invariant.laid in
    let within : c.args.place + c.args.length ≤ 4 * length c.self.inside.words = omega (arith, c.requires.within, ap (λ v. v.held) c.self.view_is) in
    let hole = placed _ _ _ _ laid c.args.place c.args.length c.requires.rounded c.requires.least _ (ap (λ v. v.row) c.self.view_is) c.requires.gap
    c.open-ends.new.words c.open-ends.result within c.open-ends.ensures.top c.open-ends.ensures.gap in
    let row = ap (λ v. v.row) (sym c.self.view_is) ∙ spelled-laid _ _ _ _ laid in
    let i = c.args.place / 16 * 4 in
    let n = c.args.length / 16 * 4 - 4 in
    let zeroed = c.zero.ensures
    ∙ ap (λ k. replace_range c.write_header.new.words k (k + (c.words_in.result - 4)) (replicate (c.words_in.result - 4) 0)) c.payload_at.ensures
    ∙ ap (λ m. replace_range c.write_header.new.words (i + 4) (i + 4 + (m - 4)) (replicate (m - 4) 0)) c.words_in.ensures in
    let bytes = zeroed
    ∙ ap (λ ws. replace_range ws (i + 4) (i + 4 + n) (replicate n 0)) (c.write_header.ensures.words
    ∙ ap (λ s. replace_range c.open-ends.new.words i (i + 4) (c.args.length ∷ s ∷ c.args.header.level ∷ c.args.header.number ∷ [])) c.state_of.ensures.word) in
    let bound : state_of c.args.header.kind < 65552 = rw (← c.state_of.ensures.word) c.state_of.ensures.bound in
    let laid_now : IsLaid c.zero.new.self c.set.new.self c.open-ends.result.top c.open-ends.result.first =
    rw (bytes, c.set.ensures)
    (laid_taken _ _ _ _ _ _ _ hole c.requires.rounded c.requires.least c.args.header.kind c.args.header.level c.args.header.number
    c.requires.numbered bound (subst (λ r. All (λ h. h.number ≢ c.args.header.number) (headers r)) row c.requires.unused) laid.numbered
    (omega (arith, laid.covered, c.open-ends.ensures.count)) (rw c.open-ends.ensures.count laid.rounded) (omega (arith, laid.bounded, c.open-ends.ensures.count))) in
    let cell : Cell (List ℕ) = record { head = c.args.header; content = zero_words c.args.length } in
    let row_now : spelled c.zero.new.self c.open-ends.result.top ≡ inserted cell c.args.self.now.row =
    ap (λ v. v.row) (ap (λ ws. cells_in ws c.open-ends.result.top) bytes
    ∙ view_taken c.self.inside.words c.open-ends.new.words c.self.inside.starts c.self.inside.ends.top _ _ c.args.place c.args.length laid.segments hole
    c.requires.rounded c.requires.least c.args.header c.args.self.now c.requires.placed c.requires.long c.requires.numbered bound c.open-ends.ensures.count (spelled-laid _ _ _ _ laid) c.self.view_is) in
    let count : length c.zero.new.self ≡ length c.self.inside.words =
    ap length bytes ∙ length-written _ _ _ _ _ _ _ hole c.requires.rounded c.requires.least c.args.header.kind c.args.header.level c.args.header.number ∙ c.open-ends.ensures.count in
    let lengths : length c.open.new.self ≡ length c.self.inside.gaps = ap length c.open.ensures ∙ length-opened c.self.inside.gaps c.self.inside.ends.top c.args.place c.args.length in
    record {
      laid = laid_now;
      listed = rw c.open.ensures (granted _ _ _ _ laid _ c.self.invariant.room c.self.invariant.listed c.args.place c.args.length c.requires.rounded c.requires.least _ (ap (λ v. v.row) c.self.view_is) c.requires.gap
          (spelled c.zero.new.self c.open-ends.result.top) cell row_now c.requires.placed c.requires.long (sound_laid _ _ _ _ laid_now).row.spaced);
      room = omega (arith, c.self.invariant.room, count, lengths);
    }

pub returns-clause-taken : goal.returns-clause-taken
returns-clause-taken c =
    let laid = c.self.invariant.laid in
    let within : c.args.place + c.args.length ≤ 4 * length c.self.inside.words = omega (arith, c.requires.within, ap (λ v. v.held) c.self.view_is) in
    let hole = placed _ _ _ _ laid c.args.place c.args.length c.requires.rounded c.requires.least _ (ap (λ v. v.row) c.self.view_is) c.requires.gap
    c.open-ends.new.words c.open-ends.result within c.open-ends.ensures.top c.open-ends.ensures.gap in
    let i = c.args.place / 16 * 4 in
    let n = c.args.length / 16 * 4 - 4 in
    let zeroed = c.zero.ensures
    ∙ ap (λ k. replace_range c.write_header.new.words k (k + (c.words_in.result - 4)) (replicate (c.words_in.result - 4) 0)) c.payload_at.ensures
    ∙ ap (λ m. replace_range c.write_header.new.words (i + 4) (i + 4 + (m - 4)) (replicate (m - 4) 0)) c.words_in.ensures in
    let bytes = zeroed
    ∙ ap (λ ws. replace_range ws (i + 4) (i + 4 + n) (replicate n 0)) (c.write_header.ensures.words
    ∙ ap (λ s. replace_range c.open-ends.new.words i (i + 4) (c.args.length ∷ s ∷ c.args.header.level ∷ c.args.header.number ∷ [])) c.state_of.ensures.word) in
    let bound : state_of c.args.header.kind < 65552 = rw (← c.state_of.ensures.word) c.state_of.ensures.bound in
    ap (λ ws. cells_in ws c.open-ends.result.top) bytes
    ∙ view_taken c.self.inside.words c.open-ends.new.words c.self.inside.starts c.self.inside.ends.top _ _ c.args.place c.args.length laid.segments hole
    c.requires.rounded c.requires.least c.args.header c.args.self.now c.requires.placed c.requires.long c.requires.numbered bound c.open-ends.ensures.count (spelled-laid _ _ _ _ laid) c.self.view_is

pub returns-clause-sound : goal.returns-clause-sound
returns-clause-sound c = sound_laid _ _ _ _ (invariant_of-self c).laid
