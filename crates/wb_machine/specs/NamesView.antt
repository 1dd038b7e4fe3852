-- What contracts see of the map of numbers that a comparison makes.
use Rattle.wb_renaming.specs.SameButNumbers.{Renaming, AreAddedSince, since_fork}
use Rattle.wb_machine.specs.declared.alike.names.Names.TheInside.{Inside}
use Rattle.wb_machine.specs.Alike.{names_of}

abbrev pub renaming_of : Inside → Renaming
renaming_of n = since_fork n.since (names_of n.added.items) n.made n.other_made

abbrev pub AreAdded : Inside → Type 0
AreAdded n = AreAddedSince n.since (names_of n.added.items) n.made n.other_made
