use Rattle.std.proofs.Common.{◌≡◌, ◌≤◌, List, ap, sym, ◌∙◌, subst, arith, Some, None, OnErr, Result, Ok, Err}
use Rattle.std.proofs.lemmas.Bool.{eqb-true}
use Rattle.wb_renaming.specs.SameButNumbers.{Renames, Renaming, up_to, since_fork}
use Rattle.wb_machine.specs.declared.alike.names.Name.{Name}
use Rattle.wb_machine.specs.Alike.{names_of, pair_of, IsGrown}
use Rattle.wb_machine.proofs.likeness.Maps.{shared-renames, found-renames, among_first, kept-or-added, added-renames}
use Rattle.wb_machine.proofs.alike.names.Names.relate.Goals.{then-here-self-via-then-here-self, then-here-self-via-else-here-self+then-there-self, then-pair-here, else-pair-here}
use Rattle.wb_machine.proofs.alike.names.Names.relate.Goals as goal

-- a push that found no room left the pairs
kept-items : {E V : Type 0} (items : V → List Name) (r : Result (Unit {0}) E) (old new : V) → OnErr r (new ≡ old) → OnErr r (items new ≡ items old)
kept-items items (Ok x) old new same = tt
kept-items items (Err e) old new same = ap items same

pub returns-then-here-self-clause-related : goal.returns-then-here-self-clause-related
returns-then-here-self-clause-related c e =
    let n = c.self.inside in
    let same : c.args.here ≡ c.args.there = eqb-true c.args.here c.args.there e in
    let low : c.args.here ≤ n.since = elim c.then-here-self.branch [
      | then-here-self-via-then-here-self w ↦ w.if-here-self.true
      | then-here-self-via-else-here-self+then-there-self w ↦ omega (arith, same, w.if-there-self.true)
    ] in
    subst (λ (w : Renaming). Renames w.names c.args.here c.args.there) c.self.view_is (shared-renames n.since c.args.here c.args.there (names_of n.added.items) same low)

pub returns-in-Some-clause-related : goal.returns-in-Some-clause-related
returns-in-Some-clause-related c e =
    let n = c.self.inside in
    let pair = c.in-Some.pair in
    let found : pair_of c.args.here c.args.there n.added.items ≡ Some pair =
    ap (λ (ps : List Name). pair_of c.args.here c.args.there ps) (sym c.as_slice.ensures.value) ∙ sym c.pair_of.ensures ∙ c.in-Some.is in
    let there : Renames (names_of n.added.items) pair.here pair.there = found-renames c.args.here c.args.there n.added.items pair found in
    subst (λ (w : Renaming). Renames w.names c.args.here c.args.there) c.self.view_is
    (among_first (names_of n.added.items) (up_to n.since) c.args.here c.args.there
    (elim c.if-pair-here.branch [
      | then-pair-here w ↦
          subst (λ x. Renames (names_of n.added.items) x c.args.there) w.if-pair-here.true
          (subst (λ y. Renames (names_of n.added.items) pair.here y) (eqb-true pair.there c.args.there (sym w.result-is ∙ e)) there)
      | else-pair-here w ↦ absurd (omega (arith, w.if-pair-here.false, eqb-true pair.here c.args.here (sym w.result-is ∙ e)))
    ]))

pub invariant_of-self : goal.invariant_of-self
invariant_of-self c =
    let n = c.self.inside in
    let ps = n.added.items in
    let none : pair_of c.args.here c.args.there ps ≡ None =
    ap (λ (xs : List Name). pair_of c.args.here c.args.there xs) (sym c.as_slice.ensures.value) ∙ sym c.pair_of.ensures ∙ c.in_default.is in
    (kept-or-added c.try_push.result n.since c.args.here c.args.there n.made n.other_made ps c.try_push.new.self.items c.try_push.ensures.ok
    (kept-items (λ v. v.items) c.try_push.result n.added c.try_push.new.self c.try_push.ensures.err) none
    (omega (arith, c.if-here-self.false)) (omega (arith, c.if-there-self.false))
    (omega (arith, c.if-self-here.false)) (omega (arith, c.if-self-there.false)) c.self.invariant).added

pub returns-clause-related : goal.returns-clause-related
returns-clause-related c e =
    let n = c.self.inside in
    added-renames c.try_push.result n.since c.args.here c.args.there n.added.items c.try_push.new.self.items (sym c.is_ok.ensures.value ∙ e) c.try_push.ensures.ok

pub returns-clause-grown : goal.returns-clause-grown
returns-clause-grown c =
    let n = c.self.inside in
    let ps = n.added.items in
    let none : pair_of c.args.here c.args.there ps ≡ None =
    ap (λ (xs : List Name). pair_of c.args.here c.args.there xs) (sym c.as_slice.ensures.value) ∙ sym c.pair_of.ensures ∙ c.in_default.is in
    subst (λ (w : Renaming). IsGrown w (since_fork n.since (names_of c.try_push.new.self.items) n.made n.other_made)) c.self.view_is
    (kept-or-added c.try_push.result n.since c.args.here c.args.there n.made n.other_made ps c.try_push.new.self.items c.try_push.ensures.ok
    (kept-items (λ v. v.items) c.try_push.result n.added c.try_push.new.self c.try_push.ensures.err) none
    (omega (arith, c.if-here-self.false)) (omega (arith, c.if-there-self.false))
    (omega (arith, c.if-self-here.false)) (omega (arith, c.if-self-there.false)) c.self.invariant).grown
