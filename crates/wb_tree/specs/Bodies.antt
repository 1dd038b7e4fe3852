-- The bodies and the classes of a script, by their indexes. One that the script doesn't have stands for one without a line.
use Rattle.std.specs.Prelude.{ℕ, [], None, slice_get, unwrap_or, ◌+◌, ◌*◌, length}
use Rattle.wb_tree.specs.declared.script.Script.{Script}
use Rattle.wb_tree.specs.declared.script.Body.{Body}
use Rattle.wb_tree.specs.declared.script.Class.{Class}

-- a body without a line
abbrev pub no_body : Body
no_body = record { locals = []; statements = [] }

-- the body of an operation
abbrev pub operation_at : Script → ℕ → Body
operation_at script i = (unwrap_or (slice_get script.operations i) (record { line = 0; body = no_body })).body

-- the body of a procedure
abbrev pub procedure_at : Script → ℕ → Body
procedure_at script i = (unwrap_or (slice_get script.procedures i) (record { line = 0; parameters = []; body = no_body })).body

-- a class
abbrev pub class_at : Script → ℕ → Class
class_at script i = unwrap_or (slice_get script.classes i) (record { line = 0; extra = 0; fields = []; construct = None; destroy = None })

-- the bytes that an object asks for
abbrev pub payload_of_object : Class → ℕ
payload_of_object class = 8 + 8 * length class.fields + class.extra
