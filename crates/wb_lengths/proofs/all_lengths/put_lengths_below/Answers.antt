-- Proof: put_lengths_below. One run answers for all lengths from its greatest end up to its own.
use Rattle.std.proofs.Common.{rules, ◌-◌}
use Rattle.wb_runs.specs.RunEnds.{end_of}
use Rattle.wb_lengths.specs.SetHeaps.{TellsRunIn}
use Rattle.wb_lengths.specs.Walk.{range, IsPutBefore}
use Rattle.wb_lengths.proofs.TableLemmas.{from_shorter, grants_within, put_right}
use Rattle.wb_lengths.proofs.all_lengths.put_lengths_below.Goals as goal

pub highest_end-from-requires : goal.highest_end-from-requires
highest_end-from-requires g c =
    let tells : TellsRunIn c.args.script.now c.args.conditions.budget c.args.conditions.shape (c.args.next - 1) c.in-Some.run_result = search rules in
    grants_within c.args.script.now c.args.conditions.budget c.args.conditions.shape c.args.next c.in-Some.run_result c.requires.within.0 c.requires.within.1 tells

pub returns-clause-shorter : goal.returns-clause-shorter
returns-clause-shorter g c =
    let tells : TellsRunIn c.args.script.now c.args.conditions.budget c.args.conditions.shape (c.args.next - 1) c.in-Some.run_result = search rules in
    from_shorter c.args.script.now c.args.conditions.budget c.args.conditions.shape c.args.next c.highest_end-from.result c.in-Some.run_result c.requires.within.0 tells c.highest_end-from.ensures

pub returns-clause-right : goal.returns-clause-right
returns-clause-right g c =
    let tells : TellsRunIn c.args.script.now c.args.conditions.budget c.args.conditions.shape (c.args.next - 1) c.in-Some.run_result = search rules in
    let put : IsPutBefore (range c.highest_end-from.result (end_of c.in-Some.run_result.outcome)) c.args.table.now c.put_before.new.self = search rules in
    put_right c.args.script.now c.args.conditions.budget c.args.conditions.shape c.args.next c.highest_end-from.result c.in-Some.run_result c.args.table.now c.put_before.new.self
    c.requires.within.0 c.requires.within.1 tells c.highest_end-from.ensures c.requires.so_far put
