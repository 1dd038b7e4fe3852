-- What a destruction comes to where the bodies that it carries out cannot leave.
use Rattle.std.specs.Prelude.{◌≡◌, List}
use Rattle.wb_heap_model.specs.declared.heap.Item.{Item}
use Rattle.wb_meaning.specs.declared.run.Why.TheVariants.{Budget}
use Rattle.wb_meaning.specs.State.{goes_on, Stop, panics, is_cut, Process, ends, stops, asks, notes}

-- what can stop a run where no attempt is made
abbrev pub StopsUnasked : Stop → Type 0
StopsUnasked (panics panic) = Unit {0}
StopsUnasked (is_cut Budget) = Unit {0}
StopsUnasked _ = ⊥

-- A process that asks for no attempt, and neither leaves nor returns: it panics, or is cut at the budget, or goes on with these
-- items on the cleanup stack.
abbrev pub GoesOnWith : List Item → Process → Type 0
GoesOnWith items (ends goes_on st) = st.items ≡ items
GoesOnWith items (ends way st) = ⊥
GoesOnWith items (stops stop st) = StopsUnasked stop
GoesOnWith items (asks t cut go) = ⊥
GoesOnWith items (notes q p) = GoesOnWith items p
