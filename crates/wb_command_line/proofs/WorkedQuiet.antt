-- What words spell that ask for no progress, computed on worked command lines.
use Rattle.std.proofs.Common.{true, [], ◌∷◌, Some, None, codes, refl}
use Rattle.std.specs.Str.{chars}
use Rattle.clap.specs.Faults.{defaults_fault, flags_fault, walk_fault}
use Rattle.clap.specs.Takes.{flags_pass, walk_passes}
use Rattle.clap.specs.Walk.{bundle_met, walked}
use Rattle.clap.specs.declared.error.kind.ErrorKind.TheVariants.{ArgumentConflict, TooManyValues}
use Rattle.wb_runs.specs.declared.failures.Failures.TheVariants.{Single}
use Rattle.wb_heap_model.specs.declared.heap.Rule.TheVariants.{Number}
use Rattle.wb_command_line.specs.declared.command.Search.TheVariants.{Least}
use Rattle.wb_command_line.specs.declared.command.Task.TheVariants.{Size, Lengths, Check}
use Rattle.wb_command_line.proofs.WorkedWords.{Fail, Spell, command_with, run_with}

-- ---- words that spell a command

quiet-check : Spell (codes "check" ∷ codes "--quiet" ∷ []) (record (command_with (Check (Least Single)) 10000 4096 4096 None) { quiet = true })
unfolding walked walk_passes walk_fault defaults_fault
quiet-check = record { taken = refl; faultless = refl; listed = refl; one_rule = refl; in_order = refl; meaning = refl }

quiet-run-of-a-file : Spell (codes "run" ∷ codes "--fail=5" ∷ codes "a.oom" ∷ codes "--quiet" ∷ []) (record (run_with (Number 5) 4096 4096 (Some (codes "a.oom"))) { quiet = true })
unfolding walked walk_passes walk_fault defaults_fault
quiet-run-of-a-file = record { taken = refl; faultless = refl; listed = refl; one_rule = refl; in_order = refl; meaning = refl }

quiet-lengths-as-json : Spell (codes "lengths" ∷ codes "--quiet" ∷ codes "--json" ∷ []) (record (command_with Lengths 10000 4096 4096 None) { json = true; quiet = true })
unfolding walked walk_passes walk_fault defaults_fault
quiet-lengths-as-json = record { taken = refl; faultless = refl; listed = refl; one_rule = refl; in_order = refl; meaning = refl }

quiet-as-a-file : Spell (codes "size" ∷ codes "--" ∷ codes "--quiet" ∷ []) (command_with Size 10000 4096 4096 (Some (codes "--quiet")))
unfolding walked walk_passes walk_fault defaults_fault
quiet-as-a-file = record { taken = refl; faultless = refl; listed = refl; one_rule = refl; in_order = refl; meaning = refl }

-- ---- words that clap refuses

quiet-twice : Fail (codes "sweep" ∷ codes "--quiet" ∷ codes "--quiet" ∷ []) (ArgumentConflict ∷ [])
unfolding walked walk_passes walk_fault defaults_fault flags_fault flags_pass bundle_met chars
quiet-twice = record { refused = refl; fault = refl }

quiet-with-a-value : Fail (codes "run" ∷ codes "--quiet=1" ∷ []) (TooManyValues ∷ [])
unfolding walked walk_passes walk_fault defaults_fault flags_fault flags_pass bundle_met chars
quiet-with-a-value = record { refused = refl; fault = refl }
