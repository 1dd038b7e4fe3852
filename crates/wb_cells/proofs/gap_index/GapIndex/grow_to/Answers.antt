use Rattle.std.proofs.Common.{◌≡◌, ◌-◌, ◌++◌, List, ℕ, length, replicate, sym, ◌∙◌, arith}
use Rattle.std.proofs.lemmas.List.{append-nil}
use Rattle.wb_cells.proofs.Spans.{grown_blocks}
use Rattle.wb_cells.proofs.gap_index.GapIndex.grow_to.Goals as goal

-- words that were not appended
same : (words grown : List ℕ) → grown ≡ words → grown ≡ words ++ replicate 0 0
same words grown e = e ∙ sym (append-nil words)

pub invariant_of-self-in_err-grow_to-2 : goal.invariant_of-self-in_err-grow_to-2
invariant_of-self-in_err-grow_to-2 c =
    let inside = c.self.inside in
    let is = c.self.invariant in
    let blocks = c.div_ceil.result - length inside.blocks in
    let all = grown_blocks inside.lengths inside.blocks is 0 blocks (omega (arith, is.room)) (omega (arith, is.bounded)) in
    rw (same _ _ c.in_err-grow_to-2.ensures.refused, c.in_ok-grow_to.ensures.grown) all

pub invariant_of-self-2 : goal.invariant_of-self-2
invariant_of-self-2 c =
    let inside = c.self.inside in
    let is = c.self.invariant in
    let blocks = c.div_ceil.result - length inside.blocks in
    let all = grown_blocks inside.lengths inside.blocks is (c.args.count - length inside.lengths) blocks
    (omega (arith, is.room, c.div_ceil.ensures)) (omega (arith, is.bounded, c.requires)) in
    rw (c.in_ok-grow_to-2.ensures.grown, c.in_ok-grow_to.ensures.grown) all
