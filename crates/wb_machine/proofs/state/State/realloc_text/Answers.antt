use Rattle.std.proofs.Common.{refl, sym, ◌∙◌}
use Rattle.wb_machine.specs.StateView.{run_state}
use Rattle.wb_machine.proofs.kept.TextInvariant.{text_of_base, none_is}
use Rattle.wb_machine.proofs.state.State.realloc_text.Goals as goal

pub length-requires : goal.length-requires
length-requires c =
    let fine = none_is c.refusal.result c.in_default.not-Some in
    text_of_base (run_state c.self.inside) c.args.self.now _ c.pointer-ptr.result c.self.view_is c.self.invariant.texts refl (sym c.refusal.ensures ∙ fine)
