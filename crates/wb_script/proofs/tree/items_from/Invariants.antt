use Rattle.std.proofs.Common.{◌≡◌, ◌+◌, map, take, Some}
use Rattle.wb_language.specs.Forms.{role_of_form}
use Rattle.wb_language.specs.Trees.{counted_from}
use Rattle.wb_script.specs.Building.{counts_of}
use Rattle.wb_script.specs.Growing.{AreCounts, IsBelow, IsSound, building_lines, building_places, declared_in_space}
use Rattle.wb_nesting.proofs.Misfits.{blocks_after}
use Rattle.wb_script.proofs.names.LinesOfRows.{AreLeft}
use Rattle.wb_script.proofs.tree.items_from.Given as goal

abbrev pub invariant-loop-row : goal.invariant-loop-row
invariant-loop-row l = record {
  left : AreLeft l.rows l.row-index l.left l.fn.lines;
  number : l.number ≡ l.row-index;
  lines : building_lines l.building ≡ counted_from 1 (take l.row-index l.fn.lines);
  places : blocks_after (map role_of_form (take l.row-index l.fn.lines)) ≡ Some (building_places l.building);
  counts : AreCounts l.building (counts_of (take l.row-index l.fn.lines));
  sound : IsSound (declared_in_space l.fn.space) l.building;
  below : IsBelow (l.number + 1) l.building;
}
