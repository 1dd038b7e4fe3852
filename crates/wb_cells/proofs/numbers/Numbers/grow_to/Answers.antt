use Rattle.std.proofs.Common.{◌+◌, ◌-◌, ◌*◌, ◌/◌, length, ap, arith}
use Rattle.std.proofs.lemmas.Bool.{false≢true}
use Rattle.std.proofs.lemmas.List.{append-nil}
use Rattle.wb_cells.proofs.LastBits.{marked_grown}
use Rattle.wb_cells.proofs.numbers.Numbers.grow_to.Goals as goal

pub invariant_of-self-in_err-grow_to-2 : goal.invariant_of-self-in_err-grow_to-2
invariant_of-self-in_err-grow_to-2 c =
    let inside = c.self.inside in
    let n = 32 * ((c.args.count + 31) / 32) - length inside.marks in
    let all = marked_grown inside.words inside.marks 0 n (omega (arith, c.self.invariant.room)) c.self.invariant in
    rw (c.in_err-grow_to-2.ensures.refused, c.in_ok-grow_to.ensures.grown) (rw (append-nil inside.words) at all)

pub invariant_of-self-2 : goal.invariant_of-self-2
invariant_of-self-2 c =
    let inside = c.self.inside in
    let n = 32 * ((c.args.count + 31) / 32) - length inside.marks in
    rw (c.in_ok-grow_to-2.ensures.grown, c.in_ok-grow_to.ensures.grown)
    (marked_grown inside.words inside.marks (c.args.count - length inside.words) n (omega (arith, c.self.invariant.room)) c.self.invariant)

-- there are bits for all numbers that are there
pub returns-in_err-grow_to-clause-enough : goal.returns-in_err-grow_to-clause-enough
returns-in_err-grow_to-clause-enough c few = absurd (false≢true (c.in_err-grow_to.ensures.enough (omega (arith, few, ap length c.self.view_is, c.self.invariant.room))))
