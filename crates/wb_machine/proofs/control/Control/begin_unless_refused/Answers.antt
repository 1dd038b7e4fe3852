use Rattle.std.proofs.Common.{sym, ◌∙◌}
use Rattle.wb_tree.specs.declared.script.Statement.TheViews.{out-Statement}
use Rattle.wb_machine.specs.Flow.{context_of}
use Rattle.wb_machine.proofs.turns.Heads.{refused_rest}
use Rattle.wb_machine.proofs.control.Control.begin_unless_refused.Goals as goal

pub returns-in-Some-clause-kept : goal.returns-in-Some-clause-kept
returns-in-Some-clause-kept c r budget f =
    refused_rest c.args.script.now budget r (context_of c.args.at) (out-Statement c.args.statement.now) c.in-Some.panic c.args.self.now.pieces.items c.args.state.now
    (sym c.operands_refusal.ensures ∙ c.in-Some.is)
