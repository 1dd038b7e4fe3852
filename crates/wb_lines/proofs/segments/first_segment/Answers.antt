use Rattle.std.proofs.Common.{◌+◌, length, sym, ◌∙◌, arith, add-one}
use Rattle.std.proofs.lemmas.List.{drop_all}
use Rattle.wb_lines.specs.Segments.{ends_of}
use Rattle.wb_lines.proofs.FirstSegments.{ends_above, last_piece, one_more, piece_ends, quoted_above, to_end}
use Rattle.wb_lines.proofs.segments.first_segment.Goals as goal
use Rattle.wb_lines.proofs.segments.first_segment.Goals.{then-byte-le34+else-ends_at, else-byte-le34}

pub returns-then-ends_at-clause-pieces : goal.returns-then-ends_at-clause-pieces
returns-then-ends_at-clause-pieces c =
    rw (to_end (c.loop-index.index + 1) c.args.bytes.now, add-one)
    (piece_ends (ends_of c.args.cut) c.args.bytes.now c.loop-index.quoted c.loop-index.index c.loop-index-test.true (sym c.ends_at.ensures ∙ c.if-ends_at.true) c.loop-index.invariant)

pub loop-index-preserved : goal.loop-index-preserved
loop-index-preserved c =
    let ends = ends_of c.args.cut in
    let bytes = c.args.bytes.now in
    let at = c.loop-index.index in
    let quoted = c.loop-index.quoted in
    elim c.if-byte-le34.branch [
      | then-byte-le34+else-ends_at w ↦
          rw (w.quoted-is, w.quoted_after-quoted.ensures)
          (one_more ends bytes quoted at c.loop-index-test.true (sym w.ends_at.ensures ∙ w.if-ends_at.false) c.loop-index.invariant)
      | else-byte-le34 w ↦
          let above = w.if-byte-le34.false in
          let on = one_more ends bytes quoted at c.loop-index-test.true (ends_above c.args.cut quoted _ above) c.loop-index.invariant in
          rw w.quoted-is (rw (quoted_above quoted _ above) at on)
    ]

pub returns-clause-pieces : goal.returns-clause-pieces
returns-clause-pieces c =
    rw (to_end (length c.args.bytes.now) c.args.bytes.now, drop_all (length c.args.bytes.now) c.args.bytes.now (omega arith))
    (last_piece (ends_of c.args.cut) c.args.bytes.now c.loop-index.quoted c.loop-index.index c.requires c.loop-index-test.false c.loop-index.invariant)
