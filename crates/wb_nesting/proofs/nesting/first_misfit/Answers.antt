use Rattle.std.proofs.Common.{◌≡◌, ◌∙◌, ap, sym, refl, arith, reverse, length}
use Rattle.std.proofs.Common.{Some}
use Rattle.std.proofs.lemmas.Grind.{common_steps}
use Rattle.std.proofs.lemmas.Bool.Decides.{nat_tests}
use Rattle.std.proofs.lemmas.List.{nil_from_length, length-reverse}
use Rattle.wb_nesting.proofs.Misfits.{one_line, all_read, misfit_here, end_missing, grammatical}
use Rattle.wb_nesting.proofs.nesting.first_misfit.Goals as goal

pub returns-then-not-branch : goal.returns-then-not-branch
returns-then-not-branch c =
    let told = rw c.if-not-branch.true at c.in_ok-read_line.ensures.fits in
    misfit_here _ _ _ c.loop-index-test.true c.loop-index.invariant (one_line _ _ _ _ c.loop-index-test.true refl c.loop-index.invariant ∙ told)

pub loop-index-preserved : goal.loop-index-preserved
loop-index-preserved c =
    let told = rw c.if-not-branch.false at c.in_ok-read_line.ensures.fits in
    one_line _ _ _ _ c.loop-index-test.true refl c.loop-index.invariant ∙ told

pub returns-then-is_empty : goal.returns-then-is_empty
returns-then-is_empty c =
    let none : length c.loop-index.stack.items ≡ 0 = grind (arith, common_steps, nat_tests, c.if-is_empty.ensures) in
    let empty = nil_from_length c.loop-index.stack.items none in
    grammatical c.args.roles.now (all_read c.args.roles.now c.loop-index.index _ c.loop-index-test.false c.loop-index.invariant ∙ ap (λ l. Some (reverse l)) empty)

pub returns : goal.returns
returns c =
    let some : length c.loop-index.stack.items ≡ 0 → ⊥ = λ none. grind (arith, common_steps, nat_tests, none, c.if-is_empty.ensures) in
    end_missing c.args.roles.now (reverse c.loop-index.stack.items) (all_read c.args.roles.now c.loop-index.index _ c.loop-index-test.false c.loop-index.invariant)
    (λ empty. some (sym (length-reverse c.loop-index.stack.items) ∙ ap length empty))
