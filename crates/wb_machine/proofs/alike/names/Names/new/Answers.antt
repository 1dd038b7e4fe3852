use Rattle.std.proofs.Common.{◌≡◌, List, [], sym, subst}
use Rattle.wb_renaming.specs.SameButNumbers.{IsRenaming, since_fork}
use Rattle.wb_renaming.proofs.SameForks.{forked-renaming}
use Rattle.wb_machine.specs.declared.alike.names.Name.{Name}
use Rattle.wb_machine.specs.Alike.{names_of}
use Rattle.wb_machine.proofs.likeness.Maps.{none-added}
use Rattle.wb_machine.proofs.alike.names.Names.new.Goals as goal

pub returns-clause-renaming : goal.returns-clause-renaming
returns-clause-renaming c =
    let none : c.new.result.items ≡ [] = c.new.ensures in
    subst (λ (ps : List Name). IsRenaming (since_fork c.args.since (names_of ps) c.args.made c.args.other_made)) (sym none)
    (forked-renaming c.args.since c.args.made c.args.other_made [] (none-added c.args.since c.args.made c.args.other_made c.requires.here c.requires.there))
