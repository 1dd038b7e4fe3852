-- What items lend that hold references to texts: the same with bytes in place of the references. And what the items of a script
-- tell of its classes and procedures.
use Rattle.std.specs.Prelude.{ℕ, List, None, length, map}
use Rattle.wb_tree.specs.declared.script_lines.ParameterType.{ParameterType}
use Rattle.wb_tree.specs.declared.script_lines.ParameterType.TheVariants as parameter_type
use Rattle.wb_tree.specs.declared.script.Parameter.{Parameter}
use Rattle.wb_tree.specs.declared.script.Parameter.TheVariants as parameter
use Rattle.wb_language.specs.Forms.{renamed_parameter_type}
use Rattle.wb_language.specs.Resolved.{class_named}
use Rattle.wb_tree.specs.declared.script_lines.ItemKind.TheVariants as kind
use Rattle.wb_language.specs.Names.{Text, of_kind, count_among}
use Rattle.wb_language.specs.Names as model
use Rattle.wb_tree.specs.Sound.{Declared}
use Rattle.wb_lines.specs.BytesOf.{bytes_of_text}
use Rattle.wb_script.specs.declared.checks.items.Declaration.{Declaration}

abbrev pub bytes_of_item : Declaration → model.Declaration
bytes_of_item item = record { name = item.name.now; kind = item.kind; parameters = map (renamed_parameter_type bytes_of_text) item.parameters; fields = map bytes_of_text item.fields }

abbrev pub bytes_of_items : List Declaration → List model.Declaration
bytes_of_items = map bytes_of_item

-- the parameter that takes this, where a class has its index among items
abbrev pub parameter_named : List model.Declaration → ParameterType Text → Parameter
parameter_named items parameter_type.Pointer = parameter.OfPointer None
parameter_named items parameter_type.Number = parameter.OfNumber
parameter_named items (parameter_type.OfClass class) = parameter.OfPointer (class_named items class)

-- the parameters of each procedure among items
abbrev pub signatures_among : List model.Declaration → List (List Parameter)
signatures_among items = map (λ i. map (parameter_named items) i.parameters) (of_kind kind.Procedure items)

-- how many fields each class among items has
abbrev pub fields_among : List model.Declaration → List ℕ
fields_among items = map (λ i. length i.fields) (of_kind kind.Class items)

-- what the statements of a script with these items may name
abbrev pub declared_by : ℕ → List Declaration → Declared
declared_by literals items = record {
  literals = literals;
  fields = fields_among (bytes_of_items items);
  signatures = signatures_among (bytes_of_items items);
  operations = count_among kind.Operation (bytes_of_items items);
}
