-- The bodies of a script as a machine is lent them, and the classes of objects.
use Rattle.std.specs.Prelude.{◌≡◌, ℕ, ◌-◌, length, take, Result}
use Rattle.wb_heap_model.specs.declared.heap.Panic.{Panic}
use Rattle.wb_heap_model.specs.declared.heap.Ptr.{Ptr}
use Rattle.wb_tree.specs.declared.script.Body.{Body}
use Rattle.wb_objects.specs.Objects.{class_found}
use Rattle.wb_machine.specs.declared.bodies.BodyContent.{BodyContent}
use Rattle.wb_machine.specs.declared.pieces.After.{After}
use Rattle.wb_machine.specs.declared.pieces.After.TheVariants.{Nothing, Gives, Releases}
use Rattle.wb_meaning.specs.State.{pointer}
use Rattle.wb_machine.specs.RunState.{RunState}
use Rattle.wb_machine.specs.Effects.{Effect, gone_on, stored, free_effect}

-- lent are the locals and the statements of a body
pub record IsBody (lines : BodyContent) (body : Body) : Type 0 where
  pub locals : lines.locals.now ≡ body.locals
  pub statements : lines.statements.now ≡ body.statements

-- the class of an object, or what refuses its pointer
abbrev pub class_read : RunState → Ptr → Result ℕ Panic
class_read h p = class_found h.debug p

-- what follows the end of a body that gave a result, in its caller's frame
abbrev pub followed_effect : RunState → After → Ptr → Effect
followed_effect h Nothing result = gone_on h
followed_effect h (Gives x) result = gone_on (stored h x (pointer result))
followed_effect h (Releases p) result = free_effect h p

-- the newest item is taken off
abbrev pub without_newest : RunState → RunState
without_newest h = record h { items = take (length h.items - 1) h.items }
