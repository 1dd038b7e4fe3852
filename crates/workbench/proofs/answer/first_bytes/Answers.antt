-- Proof: first_bytes. Each read brings the bytes after those that are kept.
use Rattle.std.proofs.Common.{rules, ◌≡◌, false, sym, subst}
use Rattle.workbench.proofs.KnownBytesLemmas.{Consumes-more, taken_more}
use Rattle.wb_streams.specs.Streams.{Reads, none}
use Rattle.workbench.specs.Answer.{is_read_fault}
use Rattle.wb_streams.proofs.TriesLemmas.{read_ended, read_failed, read_more, read_on}
use Rattle.workbench.proofs.answer.first_bytes.Goals as goal

pub loop-part-init : goal.loop-part-init
loop-part-init g c = record { within = search rules; gave = search rules; tried = none }

pub returns-in_err-count-clause-read : goal.returns-in_err-count-clause-read
returns-in_err-count-clause-read g c = read_failed _ _ _ _ _ (search rules) c.loop-part.invariant.tried c.in_err-count.ensures.once

pub returns-then-count-eq0-clause-read : goal.returns-then-count-eq0-clause-read
returns-then-count-eq0-clause-read g c = read_ended _ _ _ _ _ c.if-count-eq0.true c.loop-part.invariant.tried c.in_ok-count.ensures.once

pub loop-part-preserved : goal.loop-part-preserved
loop-part-preserved g c =
    let before = c.loop-part.invariant in
    let read = c.in_ok-count.ensures in
    record {
      within = search rules;
      gave = Consumes-more _ _ _ c.loop-part.bytes.items c.read_some.new.buffer _ _ c.in_ok-count.count c.in_ok-extend_from_slice.ensures.items (search rules)
          before.gave read.bytes.0;
      tried = read_more _ _ _ _ _ (search rules) before.tried read.once;
    }

pub returns-in_err-extend_from_slice-clause-taken : goal.returns-in_err-extend_from_slice-clause-taken
returns-in_err-extend_from_slice-clause-taken g c =
    taken_more _ _ _ _ c.loop-part.bytes.items c.read_some.new.buffer c.in_ok-count.count (search rules) c.loop-part.invariant.gave c.in_ok-count.ensures.bytes.0

pub returns-in_err-extend_from_slice-clause-read : goal.returns-in_err-extend_from_slice-clause-read
returns-in_err-extend_from_slice-clause-read g c =
    let before = read_more _ _ _ _ _ (search rules) c.loop-part.invariant.tried c.in_ok-count.ensures.once in
    let unfailed : is_read_fault c.from_residual-in_err-extend_from_slice.result ≡ false = search rules in
    subst (λ b. Reads g.R.Source.reads c.args.reader.now b c.read_some.new.reader) (sym unfailed) (read_on _ _ _ before)
