use Rattle.std.proofs.Common.{subst}
use Rattle.std.proofs.lemmas.Bool.{eqb-true}
use Rattle.wb_heap_model.specs.declared.text.Base.TheVariants as B
use Rattle.wb_renaming.specs.SameButNumbers.{IsSameBase, same_nothing, same_literal, same_local, same_cell}
use Rattle.wb_machine.proofs.likeness.GrownMaps.{by-both}
use Rattle.wb_machine.proofs.locals.same.same_base.Goals as goal

pub returns-in-Nothing-Nothing-clause-same : goal.returns-in-Nothing-Nothing-clause-same
returns-in-Nothing-Nothing-clause-same c e = by-both (IsSameBase c.args.names.now.names) c.in-Nothing-Nothing.is-0 c.in-Nothing-Nothing.is-1 same_nothing

pub returns-in-Literal-Literal-clause-same : goal.returns-in-Literal-Literal-clause-same
returns-in-Literal-Literal-clause-same c e =
    let names = c.args.names.now.names in
    let w = c.in-Literal-Literal in
    by-both (IsSameBase names) w.is-0 w.is-1 (subst (λ n. IsSameBase names (B.Literal w.index) (B.Literal n)) (eqb-true w.index w.other e) (same_literal w.index))

pub returns-in-Local-Local-clause-same : goal.returns-in-Local-Local-clause-same
returns-in-Local-Local-clause-same c e =
    let names = c.args.names.now.names in
    let w = c.in-Local-Local in
    by-both (IsSameBase names) w.is-0 w.is-1 (subst (λ n. IsSameBase names (B.Local w.index) (B.Local n)) (eqb-true w.index w.other e) (same_local w.index))

pub returns-in-Cell-Cell-clause-same : goal.returns-in-Cell-Cell-clause-same
returns-in-Cell-Cell-clause-same c e =
    by-both (IsSameBase c.relate_pointers.new.self.names) c.in-Cell-Cell.is-0 c.in-Cell-Cell.is-1 (same_cell (c.relate_pointers.ensures.same e))
