-- Which statements are on texts.
use Rattle.std.specs.Prelude.{Bool, true, false}
use Rattle.wb_tree.specs.declared.script.Statement.TheOpen.{Statement-F}
use Rattle.wb_meaning.specs.Statements.{Layer}

abbrev pub is_on_text : Layer → Bool
is_on_text (Statement-F.NewText target units refusal) = true
is_on_text (Statement-F.ReallocText target source units) = true
is_on_text (Statement-F.Copy target text) = true
is_on_text (Statement-F.Append target text) = true
is_on_text (Statement-F.Insert target position text) = true
is_on_text (Statement-F.DeleteText target position count) = true
is_on_text (Statement-F.SetLength target units) = true
is_on_text (Statement-F.Left x text count) = true
is_on_text (Statement-F.Right x text count) = true
is_on_text (Statement-F.Mid x text position count) = true
is_on_text (Statement-F.GetLength x text) = true
is_on_text (Statement-F.GetMaximum x target) = true
is_on_text (Statement-F.PrintText text) = true
is_on_text _ = false
