use Rattle.std.proofs.Common.{subst}
use Rattle.std.proofs.lemmas.Bool.{eqb-true}
use Rattle.wb_machine.specs.declared.pieces.After.TheVariants.{Gives}
use Rattle.wb_machine.specs.SamePieces.{IsSameAfter, same_nothing, same_gives, same_releases}
use Rattle.wb_machine.proofs.likeness.GrownMaps.{by-both}
use Rattle.wb_machine.proofs.control.same.same_after.Goals as goal

pub returns-in-Nothing-Nothing-clause-same : goal.returns-in-Nothing-Nothing-clause-same
returns-in-Nothing-Nothing-clause-same c e = by-both (IsSameAfter c.args.names.now.names) c.in-Nothing-Nothing.is-0 c.in-Nothing-Nothing.is-1 same_nothing

pub returns-in-Gives-Gives-clause-same : goal.returns-in-Gives-Gives-clause-same
returns-in-Gives-Gives-clause-same c e =
    let names = c.args.names.now.names in
    let w = c.in-Gives-Gives in
    by-both (IsSameAfter names) w.is-0 w.is-1 (subst (λ n. IsSameAfter names (Gives w.local) (Gives n)) (eqb-true w.local w.other e) (same_gives w.local))

pub returns-in-Releases-Releases-clause-same : goal.returns-in-Releases-Releases-clause-same
returns-in-Releases-Releases-clause-same c e =
    by-both (IsSameAfter c.relate_pointers.new.self.names) c.in-Releases-Releases.is-0 c.in-Releases-Releases.is-1 (same_releases (c.relate_pointers.ensures.same e))
