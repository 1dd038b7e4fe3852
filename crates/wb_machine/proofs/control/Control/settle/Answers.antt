use Rattle.std.proofs.Common.{◌++◌, ◌∙◌, ap, sym, arith, ◌≡◌, ◌+◌, ◌≤◌, ◌∷◌, [], true}
use Rattle.std.specs.Prelude.{option_to_list}
use Rattle.wb_machine.specs.Flow.{pending_of, callers_under, pending_in}
use Rattle.wb_machine.proofs.asking.Quiet.{quiet_then}
use Rattle.wb_machine.proofs.turns.Steps.{pending_pushed, rest_known}
use Rattle.wb_machine.proofs.turns.Scripts.{sound_below, weight_pushed}
use Rattle.wb_machine.proofs.kept.SlotsKept.{entered_under, room_under}
use Rattle.wb_machine.proofs.control.Control.settle.Goals as goal

pub loop-self-preserved-in-Continue-1 : goal.loop-self-preserved-in-Continue-1
loop-self-preserved-in-Continue-1 c =
    let done = c.is_done.ensures.yes c.loop-self-test.true in
    let old = c.loop-self.self.pieces.items in
    let new = c.pop.new.self.items in
    let piece = c.in-Some.piece in
    let st = c.loop-self.state in
    let unwound = c.in_ok-unwind.ensures in
    let top : old ≡ new ++ piece ∷ [] = c.pop.ensures.items ∙ ap (λ o. new ++ option_to_list o) c.in-Some.is in
    record {
      kept = λ script r budget within.
          let still : st.steps ≤ budget = omega (arith, within, c.loop-self.invariant.quiet.steps) in
          unwound.kept script r budget still
          ∙ sym (rest_known script budget r c.loop-self.self.ending old (pending_of st.callers piece ∷ pending_in (callers_under st.callers piece) new) st (pending_pushed st.callers new old piece top))
          ∙ c.loop-self.invariant.kept script r budget within;
      stop = λ was. let x = sym (c.loop-self.invariant.stop was) ∙ done.0 in cc;
      line = unwound.line ∙ c.loop-self.invariant.line;
      room = λ before.
          let was = c.loop-self.invariant.room before in
          unwound.room (entered_under c.loop-self.self.ending new old piece st top done.0 was) (room_under c.loop-self.self.ending new old piece st top (λ e. done.2 new piece top e) was);
      quiet = quiet_then c.args.state.now st c.unwind.new.state c.loop-self.invariant.quiet unwound.quiet;
      sound = λ script s. unwound.sound script (sound_below script new old piece top (c.loop-self.invariant.sound script s));
    }

pub loop-self-smaller-in-Continue-1 : goal.loop-self-smaller-in-Continue-1
loop-self-smaller-in-Continue-1 c =
    let old = c.loop-self.self.pieces.items in
    let new = c.pop.new.self.items in
    let piece = c.in-Some.piece in
    let top : old ≡ new ++ piece ∷ [] = c.pop.ensures.items ∙ ap (λ o. new ++ option_to_list o) c.in-Some.is in
    omega (arith, c.in_ok-unwind.ensures.lighter, weight_pushed new old piece top)
