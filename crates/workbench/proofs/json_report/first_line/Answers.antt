-- Proof: first_line. A line feed ends the line, and every other byte goes on with it.
use Rattle.std.proofs.Common.{◌∙◌, ◌+◌, false, length, take, drop, sym, ap, arith, add-one, eq-eqb}
use Rattle.std.proofs.lemmas.Bool.{ne_eqb}
use Rattle.std.proofs.lemmas.List.{drop_all}
use Rattle.wb_language.specs.Lines.{ends_line}
use Rattle.wb_lines.proofs.FirstSegments.{last_piece, one_more, onto_all, piece_ends, to_end}
use Rattle.workbench.proofs.JsonLemmas.{unquoted}
use Rattle.workbench.proofs.json_report.first_line.Goals as goal

pub returns-then-byte-eq10-clause-lines : goal.returns-then-byte-eq10-clause-lines
returns-then-byte-eq10-clause-lines c =
    rw (to_end (c.loop-index.index + 1) c.args.bytes.now, add-one)
    (piece_ends ends_line c.args.bytes.now false c.loop-index.index c.loop-index-test.true (eq-eqb _ _ c.if-byte-eq10.true) c.loop-index.invariant)

pub loop-index-preserved : goal.loop-index-preserved
loop-index-preserved c =
    ap (onto_all (take (c.loop-index.index + 1) c.args.bytes.now)) (sym (unquoted _ (drop (c.loop-index.index + 1) c.args.bytes.now)))
    ∙ one_more ends_line c.args.bytes.now false c.loop-index.index c.loop-index-test.true (ne_eqb _ _ c.if-byte-eq10.false) c.loop-index.invariant

pub returns-clause-lines : goal.returns-clause-lines
returns-clause-lines c =
    rw (to_end (length c.args.bytes.now) c.args.bytes.now, drop_all (length c.args.bytes.now) c.args.bytes.now (omega arith))
    (last_piece ends_line c.args.bytes.now false c.loop-index.index c.requires c.loop-index-test.false c.loop-index.invariant)
