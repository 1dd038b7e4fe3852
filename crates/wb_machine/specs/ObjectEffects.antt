-- What carrying out statements on objects makes of the state of a run.
use Rattle.std.specs.Prelude.{ℕ}
use Rattle.wb_tree.specs.declared.script.Pointer.{Pointer}
use Rattle.wb_tree.specs.declared.script.Refusal.{Refusal}
use Rattle.wb_tree.specs.declared.script.Script.{Script}
use Rattle.wb_tree.specs.Bodies.{class_at}
use Rattle.wb_objects.specs.Objects.{object_made}
use Rattle.wb_machine.specs.RunState.{RunState}
use Rattle.wb_machine.specs.Effects.{Effect, made_effect}

-- a target gets a new object of a class, whose fields all are null
abbrev pub new_effect : Script → RunState → Pointer → ℕ → Refusal → Effect
new_effect script h p class x = made_effect h p x (object_made h.debug class (class_at script class))
