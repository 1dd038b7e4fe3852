-- What words spell that ask for a SARIF log, computed on worked command lines.
use Rattle.std.proofs.Common.{[], ◌∷◌, Some, None, codes, refl}
use Rattle.std.specs.Str.{chars}
use Rattle.clap.specs.Faults.{defaults_fault, flags_fault, walk_fault}
use Rattle.clap.specs.Takes.{flags_pass, walk_passes}
use Rattle.clap.specs.Walk.{bundle_met, walked}
use Rattle.clap.specs.declared.error.kind.ErrorKind.TheVariants.{ArgumentConflict, InvalidValue}
use Rattle.wb_runs.specs.declared.failures.Failures.TheVariants.{Single}
use Rattle.wb_heap_model.specs.declared.heap.Rule.TheVariants.{Number}
use Rattle.wb_command_line.specs.declared.command.Search.TheVariants.{Least}
use Rattle.wb_command_line.specs.declared.command.Task.TheVariants.{Size, Lengths, Check}
use Rattle.wb_command_line.proofs.WorkedWords.{Fail, Spell, command_with, run_with}

-- ---- words that spell a command

log-alone : Spell (codes "check" ∷ codes "--sarif" ∷ codes "a.sarif" ∷ []) (record (command_with (Check (Least Single)) 10000 4096 4096 None) { sarif = Some (codes "a.sarif") })
unfolding walked walk_passes walk_fault defaults_fault
log-alone = record { taken = refl; faultless = refl; listed = refl; one_rule = refl; in_order = refl; meaning = refl }

log-of-a-file : Spell (codes "run" ∷ codes "--sarif=a.sarif" ∷ codes "--fail=5" ∷ codes "a.oom" ∷ []) (record (run_with (Number 5) 4096 4096 (Some (codes "a.oom"))) { sarif = Some (codes "a.sarif") })
unfolding walked walk_passes walk_fault defaults_fault
log-of-a-file = record { taken = refl; faultless = refl; listed = refl; one_rule = refl; in_order = refl; meaning = refl }

log-and-picture : Spell (codes "lengths" ∷ codes "--sarif" ∷ codes "a.sarif" ∷ codes "--picture" ∷ codes "a.svg" ∷ [])
    (record (command_with Lengths 10000 4096 4096 None) { picture = Some (codes "a.svg"); sarif = Some (codes "a.sarif") })
unfolding walked walk_passes walk_fault defaults_fault
log-and-picture = record { taken = refl; faultless = refl; listed = refl; one_rule = refl; in_order = refl; meaning = refl }

log-as-a-file : Spell (codes "size" ∷ codes "--" ∷ codes "--sarif" ∷ []) (command_with Size 10000 4096 4096 (Some (codes "--sarif")))
unfolding walked walk_passes walk_fault defaults_fault
log-as-a-file = record { taken = refl; faultless = refl; listed = refl; one_rule = refl; in_order = refl; meaning = refl }

-- ---- words that clap refuses

log-twice : Fail (codes "sweep" ∷ codes "--sarif=a.sarif" ∷ codes "--sarif=b.sarif" ∷ []) (ArgumentConflict ∷ [])
unfolding walked walk_passes walk_fault defaults_fault flags_fault flags_pass bundle_met chars
log-twice = record { refused = refl; fault = refl }

log-without-its-file : Fail (codes "run" ∷ codes "a.oom" ∷ codes "--sarif" ∷ []) (InvalidValue ∷ [])
unfolding walked walk_passes walk_fault defaults_fault flags_fault flags_pass bundle_met chars
log-without-its-file = record { refused = refl; fault = refl }
