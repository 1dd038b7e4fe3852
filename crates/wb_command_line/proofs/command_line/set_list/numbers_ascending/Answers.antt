use Rattle.std.proofs.Common.{◌∙◌, ◌+◌, List, subst, sym, ℕ}
use Rattle.wb_command_line.proofs.SetLemmas.{IsReadTo, all_read, next_none, next_some, none_next, one_more}
use Rattle.wb_command_line.proofs.command_line.set_list.numbers_ascending.Goals as goal

pub loop-text-preserved : goal.loop-text-preserved
loop-text-preserved c =
    let next = next_some _ _ c.in-Some.number (sym c.in-Some.is ∙ c.number_after.ensures) in
    subst (λ (numbers : List ℕ). IsReadTo (λ text. text.now) c.args.texts.now (c.loop-text.text-index + 1) numbers c.in-Some.number)
    (sym c.in_ok-push-in-Some.ensures.pushed)
    (one_more (λ text. text.now) c.args.texts.now c.loop-text.text-index c.loop-text.last c.in-Some.number c.loop-text.numbers _ c.loop-text-test.true c.loop-text.invariant next.0 next.1)

pub returns-in-None : goal.returns-in-None
returns-in-None c =
    let stopped = next_none _ _ (sym c.in-None.is ∙ c.number_after.ensures) in
    none_next (λ text. text.now) c.args.texts.now c.loop-text.text-index c.loop-text.last c.loop-text.numbers _ c.loop-text-test.true c.loop-text.invariant stopped

pub returns : goal.returns
returns c = all_read (λ text. text.now) c.args.texts.now c.loop-text.text-index c.loop-text.last c.loop-text.numbers c.loop-text-test.false c.loop-text.invariant
