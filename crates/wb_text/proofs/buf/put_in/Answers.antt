-- The units in front of a place are units, and stay so as others are appended.
use Rattle.std.proofs.Common.{◌<◌, ◌^◌, sym, subst}
use Rattle.std.proofs.lemmas.List.Elements.{All-take}
use Rattle.wb_heap_model.specs.Texts.{AreUnits}
use Rattle.wb_text.proofs.buf.put_in.Goals as goal

pub returns-clause-are_units : goal.returns-clause-are_units
returns-clause-are_units g c = λ all.
    let front = All-take (λ u. u < 2 ^ 16) c.args.at c.args.units.now.items all in
    c.append_units-2.ensures.are_units (c.append_to.ensures.are_units (subst AreUnits (sym c.truncate.ensures.items) front))
