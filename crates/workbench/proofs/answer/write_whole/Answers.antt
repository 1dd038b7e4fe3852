-- Proof: write_whole. Each write goes on where the one before it stopped.
use Rattle.std.proofs.Common.{rules}
use Rattle.workbench.proofs.KnownBytesLemmas.{Appends-more, Appends-nothing}
use Rattle.wb_streams.specs.Streams.{more, none}
use Rattle.wb_streams.proofs.TriesLemmas.{more_failed}
use Rattle.workbench.proofs.answer.write_whole.Goals as goal

pub loop-written-init : goal.loop-written-init
loop-written-init g c = record { within = search rules; took = Appends-nothing _; wrote = none }

pub loop-written-preserved : goal.loop-written-preserved
loop-written-preserved g c = record {
  within = search rules;
  took = Appends-more _ _ _ c.args.text.now _ _ c.loop-written.invariant.took c.in_ok-written.ensures.bytes;
  wrote = more _ _ _ c.loop-written.invariant.wrote c.in_ok-written.ensures.once;
}

pub returns-in_err-written-clause-wrote : goal.returns-in_err-written-clause-wrote
returns-in_err-written-clause-wrote g c = more_failed _ _ _ _ _ (search rules) c.loop-written.invariant.wrote c.in_err-written.ensures.once
