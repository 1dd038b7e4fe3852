use Rattle.std.proofs.Common.{◌≡◌, ◌-◌, Some, None, length, slice_get, option_copied, ap, ◌∙◌, sym}
use Rattle.wb_machine.specs.Flow.{first_statement}
use Rattle.wb_machine.proofs.asking.AskedPieces.{over_asks, asked_of, settled_asks}
use Rattle.wb_machine.proofs.control.Control.asks.Goals as goal

pub returns-then-is_over : goal.returns-then-is_over
returns-then-is_over c budget sound less =
    sym (over_asks c.args.script.now budget c.args.self.now.ending c.args.self.now.pieces.items c.args.state.now (sym c.is_over.ensures ∙ c.if-is_over.true))

pub returns-in-Some-first_statement : goal.returns-in-Some-first_statement
returns-in-Some-first_statement c budget sound less =
    let script = c.args.script.now in
    let pieces = c.args.self.now.pieces.items in
    let h = c.args.state.now in
    let top : slice_get pieces (length pieces - 1) ≡ Some c.in-Some.piece.now =
    sym (ap (λ ps. slice_get ps (length ps - 1)) c.deref.ensures.value) ∙ sym c.last.ensures.value ∙ ap option_copied c.in-Some.is in
    let first : first_statement c.in-Some.piece.now ≡ Some c.in-Some-first_statement.first.now = sym c.first_statement.ensures ∙ ap option_copied c.in-Some-first_statement.is in
    c.asks.ensures ∙ sym (ap (asked_of script budget h) first)
    ∙ sym (settled_asks script budget c.args.self.now.ending pieces c.in-Some.piece.now h top c.requires (sym c.is_over.ensures ∙ c.if-is_over.false) sound less)

pub returns-in-None : goal.returns-in-None
returns-in-None c budget sound less =
    let script = c.args.script.now in
    let pieces = c.args.self.now.pieces.items in
    let h = c.args.state.now in
    let top : slice_get pieces (length pieces - 1) ≡ Some c.in-Some.piece.now =
    sym (ap (λ ps. slice_get ps (length ps - 1)) c.deref.ensures.value) ∙ sym c.last.ensures.value ∙ ap option_copied c.in-Some.is in
    let first : first_statement c.in-Some.piece.now ≡ None = sym c.first_statement.ensures ∙ ap option_copied c.in-None.is in
    sym (ap (asked_of script budget h) first)
    ∙ sym (settled_asks script budget c.args.self.now.ending pieces c.in-Some.piece.now h top c.requires (sym c.is_over.ensures ∙ c.if-is_over.false) sound less)
