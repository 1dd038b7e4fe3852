-- Which statements are carried out without memory for more than the state has.
use Rattle.std.specs.Prelude.{Bool, true, false}
use Rattle.wb_tree.specs.declared.script.Statement.TheOpen.{Statement-F}
use Rattle.wb_meaning.specs.Statements.{Layer}

abbrev pub is_in_place : Layer → Bool
is_in_place (Statement-F.Free p) = true
is_in_place (Statement-F.AllocLen x p) = true
is_in_place (Statement-F.Store p i v) = true
is_in_place (Statement-F.Load x p i) = true
is_in_place (Statement-F.Set target source) = true
is_in_place (Statement-F.SetNumber x v) = true
is_in_place (Statement-F.SetNull target) = true
is_in_place (Statement-F.Add x v) = true
is_in_place (Statement-F.Leave code) = true
is_in_place (Statement-F.LeaveIfError code) = true
is_in_place (Statement-F.LeaveIfNull p) = true
is_in_place Statement-F.Return = true
is_in_place (Statement-F.ReturnPointer p) = true
is_in_place Statement-F.Mark = true
is_in_place (Statement-F.MarkEnd count) = true
is_in_place (Statement-F.Check count) = true
is_in_place (Statement-F.CheckAll count) = true
is_in_place (Statement-F.FailNext rate) = true
is_in_place (Statement-F.FailEvery rate) = true
is_in_place Statement-F.FailNone = true
is_in_place (Statement-F.Pop count) = true
is_in_place (Statement-F.PopCheck p) = true
is_in_place _ = false
