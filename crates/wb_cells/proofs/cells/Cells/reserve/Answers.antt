use Rattle.std.proofs.Common.{◌≡◌, ◌+◌, ◌-◌, ◌*◌, ◌/◌, length, max, replicate, ap, ◌∙◌, arith, length-append}
use Rattle.std.proofs.lemmas.Bool.{false≢true}
use Rattle.std.proofs.lemmas.List.{length-replicate}
use Rattle.wb_heap_model.specs.Spelling.{spelled}
use Rattle.wb_cells.proofs.Growing.{spelled-grown}
use Rattle.wb_cells.proofs.Indexed.{indexed_grown, indexed_listed, indexed_marked}
use Rattle.wb_cells.proofs.Sound.{sound_laid}
use Rattle.wb_cells.proofs.cells.Cells.reserve.Goals as goal

pub invariant_of-self-in_err-grow_to-2 : goal.invariant_of-self-in_err-grow_to-2
invariant_of-self-in_err-grow_to-2 c =
    rw (c.in_err-grow_to-2.ensures.refused, c.in_ok-grow_to.ensures.grown)
    (indexed_marked c.self.inside.words c.self.inside.starts c.self.inside.gaps c.self.inside.ends.top c.self.inside.ends.first c.self.invariant
    (32 * ((c.args.bytes / 16 + 31) / 32) - length c.self.inside.starts))

pub invariant_of-self-in_err-grow_to-3 : goal.invariant_of-self-in_err-grow_to-3
invariant_of-self-in_err-grow_to-3 c =
    rw (c.in_err-grow_to-3.ensures.refused, c.in_ok-grow_to-2.ensures.grown, c.in_ok-grow_to.ensures.grown)
    (indexed_listed c.self.inside.words c.self.inside.starts c.self.inside.gaps c.self.inside.ends.top c.self.inside.ends.first c.self.invariant
    (32 * ((c.args.bytes / 16 + 31) / 32) - length c.self.inside.starts) (c.args.bytes / 16 - length c.self.inside.gaps))

pub invariant_of-self-2 : goal.invariant_of-self-2
invariant_of-self-2 c =
    let laid = c.self.invariant.laid in
    let n = c.words_in.result - length c.self.inside.words in
    rw (c.in_ok-grow_to-3.ensures.grown, c.in_ok-grow_to-2.ensures.grown, c.in_ok-grow_to.ensures.grown)
    (indexed_grown c.self.inside.words c.self.inside.starts c.self.inside.gaps c.self.inside.ends.top c.self.inside.ends.first c.self.invariant
    (replicate n 0) (32 * ((c.args.bytes / 16 + 31) / 32) - length c.self.inside.starts) (c.args.bytes / 16 - length c.self.inside.gaps)
    (rw length-replicate (omega (arith, laid.covered, c.requires.rounded, c.words_in.ensures)))
    (rw length-replicate (omega (arith, laid.rounded, c.requires.rounded, c.words_in.ensures)))
    (rw length-replicate (omega (arith, laid.bounded, c.requires.within, c.words_in.ensures)))
    (rw length-replicate (omega (arith, c.self.invariant.room, c.requires.rounded, c.words_in.ensures))))

pub returns-clause-ok : goal.returns-clause-ok
returns-clause-ok c =
    let laid = c.self.invariant.laid in
    let n = c.words_in.result - length c.self.inside.words in
    let grown = c.in_ok-grow_to-3.ensures.grown in
    let row : spelled c.grow_to-3.new.words c.self.inside.ends.top ≡ c.args.self.now.row =
    rw grown (spelled-grown c.self.inside.words c.self.inside.starts c.self.inside.ends.top c.self.inside.ends.first laid (replicate n 0) (32 * ((c.args.bytes / 16 + 31) / 32) - length c.self.inside.starts))
    ∙ ap (λ v. v.row) c.self.view_is in
    let held : 4 * length c.grow_to-3.new.words ≡ max c.args.self.now.held c.args.bytes =
    rw (grown, length-append, length-replicate) (omega (arith, ap (λ v. v.held) c.self.view_is, c.requires.rounded, c.words_in.ensures)) in
    λ i. record { row = row i; held = held i }

pub returns-clause-sound : goal.returns-clause-sound
returns-clause-sound c = sound_laid _ _ _ _ (invariant_of-self-2 c).laid

pub returns-in_err-grow_to-3-clause-sound : goal.returns-in_err-grow_to-3-clause-sound
returns-in_err-grow_to-3-clause-sound c = sound_laid _ _ _ _ (invariant_of-self-in_err-grow_to-3 c).laid

pub returns-in_err-grow_to-clause-sound : goal.returns-in_err-grow_to-clause-sound
returns-in_err-grow_to-clause-sound c = sound_laid c.self.inside.words c.self.inside.starts c.self.inside.ends.top c.self.inside.ends.first c.self.invariant.laid

-- where so many bytes are held, there are bits and words for them
pub returns-in_err-grow_to-clause-there : goal.returns-in_err-grow_to-clause-there
returns-in_err-grow_to-clause-there c held =
    absurd (false≢true (c.in_err-grow_to.ensures.enough (omega (arith, held, ap (λ v. v.held) c.self.view_is, c.self.invariant.laid.covered))))

pub returns-in_err-grow_to-3-clause-there : goal.returns-in_err-grow_to-3-clause-there
returns-in_err-grow_to-3-clause-there c held =
    absurd (false≢true (c.in_err-grow_to-3.ensures.enough (omega (arith, held, ap (λ v. v.held) c.self.view_is, c.words_in.ensures))))

pub returns-in_err-grow_to-2-clause-there : goal.returns-in_err-grow_to-2-clause-there
returns-in_err-grow_to-2-clause-there c held =
    absurd (false≢true (c.in_err-grow_to-2.ensures.enough (omega (arith, held, ap (λ v. v.held) c.self.view_is, c.self.invariant.room))))

pub returns-in_err-grow_to-2-clause-sound : goal.returns-in_err-grow_to-2-clause-sound
returns-in_err-grow_to-2-clause-sound c = sound_laid _ _ _ _ (invariant_of-self-in_err-grow_to-2 c).laid
