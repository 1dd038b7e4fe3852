-- What references to texts lend: the same forms, operands, kinds of locals and texts, with bytes in place of references to bytes.
use Rattle.std.specs.Prelude.{List, map}
use Rattle.std.specs.Borrow.{Bor}
use Rattle.std.specs.Option.{option_map}
use Rattle.wb_tree.specs.declared.script_lines.Form.{Form}
use Rattle.wb_tree.specs.declared.script_lines.Operand.{Operand}
use Rattle.wb_tree.specs.declared.script_lines.LocalKind.{LocalKind}
use Rattle.wb_tree.specs.declared.script_lines.LocalKind.TheVariants.{Pointer, Number, Buffer, View}
use Rattle.wb_language.specs.Forms.{renamed, renamed_operand}
use Rattle.wb_language.specs.Names.{Text}

abbrev pub bytes_of_text : Bor Text → Text
bytes_of_text text = text.now

abbrev pub bytes_of_texts : List (Bor Text) → List Text
bytes_of_texts = map bytes_of_text

abbrev pub bytes_of_operand : Operand (Bor Text) → Operand Text
bytes_of_operand = renamed_operand bytes_of_text

abbrev pub bytes_of_operands : List (Operand (Bor Text)) → List (Operand Text)
bytes_of_operands = map bytes_of_operand

abbrev pub bytes_of_form : Form (Bor Text) → Form Text
bytes_of_form = renamed bytes_of_text

abbrev pub bytes_of_forms : List (Form (Bor Text)) → List (Form Text)
bytes_of_forms = map bytes_of_form

abbrev pub bytes_of_kind : LocalKind (Bor Text) → LocalKind Text
bytes_of_kind (Pointer class) = Pointer (option_map bytes_of_text class)
bytes_of_kind Number = Number
bytes_of_kind Buffer = Buffer
bytes_of_kind View = View
