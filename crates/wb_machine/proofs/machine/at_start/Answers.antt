use Rattle.std.proofs.Common.{◌≡◌, ap, sym, subst, arith}
use Rattle.std.proofs.lemmas.List.Elements.{All-nil}
use Rattle.wb_machine.specs.RunState.{RunState}
use Rattle.wb_machine.specs.ObjectInvariant.{AreWhole}
use Rattle.wb_machine.specs.Flow.{AreSound, IsFirst}
use Rattle.wb_machine.proofs.turns.FirstTurn.{rest_first}
use Rattle.wb_machine.proofs.whole_runs.Fitting.{fits-limit}
use Rattle.wb_machine.proofs.machine.at_start.Goals as goal

pub invariant_of-result : goal.invariant_of-result
invariant_of-result c =
    let script = c.args.script.now in
    let h = c.args.state in
    let start = c.requires.start in
    let is_first : IsFirst c.new.result.ending c.new.result.pieces.items h = record { goes_on = c.new.ensures.ending; nothing = c.new.ensures.pieces; start = start } in
    record {
      sound = λ well. record {
        script = c.requires.script;
        least = c.args.conditions.least;
        small = c.args.conditions.greatest;
        shape = c.requires.shape;
        shaped = c.args.conditions.shaped;
        between = record {
          within = omega (arith, ap (λ x. x.steps) start);
          counted = omega (arith, ap (λ x. x.debug.attempts) start);
          level = omega (arith, ap (λ x. x.debug.heap.level) start);
          first = λ e. is_first;
          settled = λ e. cc;
          stack = λ e going. cc;
          room = λ e. cc;
          pieces_are = subst (AreSound script) (sym c.new.ensures.pieces) tt;
          whole = subst (λ (x : RunState). AreWhole script x.debug.heap.row) (sym start) (All-nil _);
        };
        no_line = λ e. c.new.ensures.line;
        leaks = λ e goes. cc;
      };
      keeps = λ well r f. rest_first r script c.args.conditions.budget c.new.result.ending c.new.result.pieces.items h start (fits-limit r h.debug.rule _ _ f);
    }
