use Rattle.std.proofs.Common.{◌∙◌, sym}
use Rattle.wb_machine.proofs.asking.Asked.{text_seen}
use Rattle.wb_machine.proofs.state.State.text_asks.Goals as goal

pub length-requires : goal.length-requires
length-requires c =
    text_seen c.args.ptr c.self.inside.heap c.in-Some.header (sym c.in-Some.is ∙ c.header.ensures.header) (sym c.is_text.ensures ∙ c.if-is_text.true) c.self.invariant.texts
