use Rattle.std.proofs.Common.{◌≡◌, ◌*◌, ◌≤◌, ◌++◌, false, length, ap, ◌∙◌, arith}
use Rattle.wb_chunk.specs.Fields.{words_of}
use Rattle.wb_chunk.proofs.KeptFields.{kept-grown}
use Rattle.wb_chunk.proofs.WrittenHalves.{zeros}
use Rattle.wb_chunk.proofs.Chunk.grow.Goals as goal

pub invariant_of-self-2 : goal.invariant_of-self-2
invariant_of-self-2 c =
    let inside = c.self.inside in
    let kept = c.self.invariant in
    let ws = words_of inside.region in
    let capacity = c.larger-capacity.result in
    let made = c.in_ok-make_room.ensures.made in
    let words : words_of c.extend-2.new.region ≡ ws ++ zeros c.args.n = c.extend-2.ensures.words ∙ ap (λ us. us ++ zeros c.args.n) made.0 in
    let long : length ws ≤ 256 * length inside.marks.items = omega (arith, kept.counted, kept.within, kept.covered) in
    let blocks : capacity ≤ 256 * length c.resize.new.self.items =
    omega (arith, c.div_ceil.ensures, c.in_ok-resize.ensures.len, c.resize.new.self.ok.0) in
    kept-grown c.extend-2.new.region ws inside.count c.args.n capacity inside.marks.items c.resize.new.self.items inside.alloc kept.counted words c.extend-2.ensures.room
    c.larger-capacity.ensures.room.0 c.larger-capacity.ensures.most.1 blocks kept.marked
    (λ j lt. c.resize.ensures.by_index.0 j false (omega (arith, lt, kept.counted, c.larger-capacity.ensures.room.0, c.div_ceil.ensures)) (omega (arith, lt, long, inside.marks.ok.0)))
