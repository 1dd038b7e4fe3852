-- The attempt that a machine asks for next is made in its run, unless the ceiling cuts the run there.
use Rattle.std.proofs.Common.{◌≡◌, true, false, inl, refl, subst}
use Rattle.wb_heap_model.specs.declared.heap.Rule.{Rule}
use Rattle.wb_heap_model.specs.Debug.{keeps_rises}
use Rattle.wb_meaning.specs.Run.{whole_run}
use Rattle.wb_machine.specs.Asks.{asks_next}
use Rattle.wb_machine.specs.RunState.{account_of}
use Rattle.wb_machine.specs.Seen.{Seen}
use Rattle.wb_machine.specs.Turns.{MakesMore}
use Rattle.wb_machine.specs.Whole.{progress_in, rest_in, seen, IsMachine, has_failed}
use Rattle.wb_machine.specs.declared.machine.Machine.TheInside.{Inside}
use Rattle.wb_machine.proofs.asking.Made.{rest_asked, with_lines, ComesPast}

pub asked_next : (m : Inside) (s : Seen) → seen m ≡ s → IsMachine m → has_failed m ≡ false → asks_next m.script.now m.budget (progress_in m) ≡ true → MakesMore s
asked_next m s is machine fine asked = subst MakesMore is (with_lines (keeps_rises m.state.debug) m.script.now own m.budget m.state.debug.shape m.state.debug.attempts comes)
  where
    own : Rule
    own = m.state.debug.rule

    left : ComesPast m.state.debug.attempts (rest_in own m)
    left = rest_asked m.script.now m.budget m.state.debug.shape own (progress_in m) (account_of m.state) asked

    comes : ComesPast m.state.debug.attempts (whole_run (keeps_rises m.state.debug) m.script.now own m.budget m.state.debug.shape)
    comes = subst (ComesPast m.state.debug.attempts) (machine.keeps fine own (inl refl)) left
