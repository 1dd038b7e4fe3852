use Rattle.std.proofs.Common.{rules, ap, ◌∙◌, sym, subst, arith}
use Rattle.wb_tree.specs.declared.script.Statement.TheViews.{out-Statement}
use Rattle.wb_machine.specs.RunState.{RunState}
use Rattle.wb_machine.specs.Flow.{context_of, FitsStep, rest_of_statement}
use Rattle.wb_machine.proofs.effects.Outcomes.{on_ok_then}
use Rattle.wb_machine.proofs.kept.WholeCells.{stepped_whole}
use Rattle.wb_machine.proofs.kept.SlotsKept.{stepped_free}
use Rattle.wb_machine.proofs.control.Control.step_code.Goals as goal

pub returns-clause-kept : goal.returns-clause-kept
returns-clause-kept c =
    on_ok_then c.begin_any.result c.begin_any.ensures.kept (λ kept r budget f.
    kept r budget (subst (λ (x : RunState). FitsStep r x c.begin_any.new.self.ending c.begin_any.new.state) (sym c.tick.ensures) f)
    ∙ ap (λ (x : RunState). rest_of_statement c.args.script.now budget r (context_of c.args.at) (out-Statement c.args.first.now.statement) c.args.self.now.pieces.items x) c.tick.ensures)

pub returns-clause-whole : goal.returns-clause-whole
returns-clause-whole c =
    on_ok_then c.begin_any.result c.begin_any.ensures.whole (λ stays whole.
    stays (stepped_whole c.args.script.now c.args.state.now c.tick.new.self c.tick.ensures whole))

pub begin_any-requires-clause-may : goal.begin_any-requires-clause-may
begin_any-requires-clause-may c =
    let pieces = c.args.self.now.pieces.items in
    record {
      going = c.requires.may.going;
      sound = c.requires.may.sound;
      free = stepped_free pieces pieces c.args.state.now c.tick.new.self c.tick.ensures (omega arith) c.requires.may.free;
      stack = search rules;
      number = search rules;
      level = search rules;
    }

pub returns-clause-room : goal.returns-clause-room
returns-clause-room c =
    on_ok_then c.begin_any.result c.begin_any.ensures.room (λ room. room)
