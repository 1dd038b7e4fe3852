-- What is left once the other's numbers are taken off is past the attempt by its first number.
use Rattle.std.proofs.Common.{◌≡◌, ◌++◌, arith, Some, sym, ◌∙◌, ap}
use Rattle.std.proofs.lemmas.Bool.{ltb-true}
use Rattle.std.proofs.lemmas.Bool.Decides.{Decides-eqb}
use Rattle.std.proofs.lemmas.Slice.Eq.{strip_prefix_is}
use Rattle.std.specs.Prelude.{slice_index_or}
use Rattle.wb_states.proofs.PastNumbers.{left-past}
use Rattle.wb_states.proofs.again.goes_on_from.Goals as goal

pub returns-in-Some-empty : goal.returns-in-Some-empty
returns-in-Some-empty c so =
    let rest = c.in-Some-empty.field-0 in
    let stripped = strip_prefix_is Decides-eqb c.as_slice.result.now c.as_slice-2.result.now (Some rest) c.in-Some-empty.ensures.cases in
    let same : c.args.set.now ≡ c.args.other.now ++ rest.now = sym c.as_slice.ensures ∙ stripped ∙ ap (λ xs. xs ++ rest.now) c.as_slice-2.ensures in
    left-past c.args.attempts c.args.set.now c.args.other.now rest.now c.requires.set same (λ some. absurd (omega (arith, some, c.in-Some-empty.len_below)))

pub returns-in-Some-len1-up : goal.returns-in-Some-len1-up
returns-in-Some-len1-up c so =
    let rest = c.in-Some-len1-up.field-0 in
    let stripped = strip_prefix_is Decides-eqb c.as_slice.result.now c.as_slice-2.result.now (Some rest) c.in-Some-len1-up.ensures.cases in
    let same : c.args.set.now ≡ c.args.other.now ++ rest.now = sym c.as_slice.ensures ∙ stripped ∙ ap (λ xs. xs ++ rest.now) c.as_slice-2.ensures in
    left-past c.args.attempts c.args.set.now c.args.other.now rest.now c.requires.set same (λ some. ltb-true c.args.attempts (slice_index_or rest.now 0 0) so)
