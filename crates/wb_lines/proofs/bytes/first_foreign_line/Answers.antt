use Rattle.std.proofs.Common.{ℕ, ◌+◌, ap, sym, ◌∙◌, arith, drop}
use Rattle.wb_language.specs.Lines.{lines_of}
use Rattle.wb_lines.proofs.Foreign.{first_foreign, at_most, next_line, none_foreign, same_line}
use Rattle.wb_lines.proofs.bytes.first_foreign_line.Goals as goal
use Rattle.wb_lines.proofs.bytes.first_foreign_line.Goals.{then-byte-eq10, else-byte-eq10}

pub returns-then-not-has_foreign : goal.returns-then-not-has_foreign
returns-then-not-has_foreign c = sym (none_foreign c.args.bytes.now (sym c.has_foreign.ensures ∙ c.if-not-has_foreign.true))

pub overflow_add-line : goal.overflow_add-line
overflow_add-line c = let short = at_most c.args.bytes.now c.requires in omega arith

pub loop-byte-preserved : goal.loop-byte-preserved
loop-byte-preserved c =
    let at = c.loop-byte.byte-index in
    let line = c.loop-byte.line in
    let so_far = c.loop-byte.invariant.so_far in
    let renumbered = λ (n : ℕ). first_foreign n (lines_of (drop (at + 1) c.args.bytes.now)) in
    elim c.if-byte-eq10.branch [
      | then-byte-eq10 w ↦ record {
        counted = omega (arith, w.line-is);
        so_far = ap renumbered w.line-is ∙ sym (next_line c.args.bytes.now at line c.loop-byte-test.true w.if-byte-eq10.true) ∙ so_far;
      }
      | else-byte-eq10 w ↦ record {
        counted = omega (arith, w.line-is);
        so_far = ap renumbered w.line-is ∙ sym (same_line c.args.bytes.now at line c.loop-byte-test.true w.if-byte-eq10.false (sym c.is_foreign.ensures ∙ c.if-is_foreign.false)) ∙ so_far;
      }
    ]
