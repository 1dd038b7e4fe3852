-- What words spell that ask for a heap in which each cell that grows moves, computed on worked command lines.
use Rattle.std.proofs.Common.{true, [], ◌∷◌, ℕ, Some, None, codes, refl}
use Rattle.std.specs.Str.{chars}
use Rattle.clap.specs.Faults.{defaults_fault, flags_fault, walk_fault}
use Rattle.clap.specs.Takes.{flags_pass, walk_passes}
use Rattle.clap.specs.Walk.{bundle_met, walked}
use Rattle.clap.specs.declared.error.kind.ErrorKind.TheVariants.{ArgumentConflict, TooManyValues}
use Rattle.wb_runs.specs.declared.failures.Failures.TheVariants.{Single}
use Rattle.wb_heap_model.specs.declared.heap.Rule.TheVariants.{Limit, Unlimited}
use Rattle.wb_heap_model.specs.declared.heap.Shape.{Shape}
use Rattle.wb_command_line.specs.Spelled.{whole}
use Rattle.wb_command_line.specs.declared.command.Search.TheVariants.{Least, All, EverySet}
use Rattle.wb_command_line.specs.declared.command.Task.TheVariants.{Size, Lengths, Sweep, Check}
use Rattle.wb_command_line.proofs.WorkedWords.{Double, Fail, Spell, command_with, run_with}

-- a moving heap with this minimum length and step
abbrev moving : ℕ → ℕ → Shape
moving min step = record { min = min; step = step; moving = true }

-- ---- words that spell a command

flag-of-a-run : Spell (codes "run" ∷ codes "--moving" ∷ [])
    (record (run_with Unlimited 4096 4096 None) { shape = moving 4096 4096 })
unfolding walked walk_passes walk_fault defaults_fault
flag-of-a-run = record { taken = refl; faultless = refl; listed = refl; one_rule = refl; in_order = refl; meaning = refl }

flag-with-a-limit-and-a-shape : Spell (codes "run" ∷ codes "--limit=303" ∷ codes "--moving" ∷ codes "a.oom" ∷ codes "--min" ∷ codes "256" ∷ codes "--step=64" ∷ [])
    (record (run_with (Limit 303) 256 64 (Some (codes "a.oom"))) { shape = moving 256 64 })
unfolding walked walk_passes walk_fault defaults_fault
flag-with-a-limit-and-a-shape = record { taken = refl; faultless = refl; listed = refl; one_rule = refl; in_order = refl; meaning = refl }

flag-of-a-size : Spell (codes "size" ∷ codes "--moving" ∷ codes "a.oom" ∷ [])
    (record (command_with Size 10000 4096 4096 (Some (codes "a.oom"))) { shape = moving 4096 4096 })
unfolding walked walk_passes walk_fault defaults_fault
flag-of-a-size = record { taken = refl; faultless = refl; listed = refl; one_rule = refl; in_order = refl; meaning = refl }

flag-of-lengths : Spell (codes "lengths" ∷ codes "--budget=500" ∷ codes "--moving" ∷ [])
    (record (command_with Lengths 500 4096 4096 None) { shape = moving 4096 4096 })
unfolding walked walk_passes walk_fault defaults_fault
flag-of-lengths = record { taken = refl; faultless = refl; listed = refl; one_rule = refl; in_order = refl; meaning = refl }

flag-of-a-sweep : Spell (codes "sweep" ∷ codes "--moving" ∷ codes "--all" ∷ [])
    (record (command_with (Sweep (All Single) whole) 10000 4096 4096 None) { shape = moving 4096 4096 })
unfolding walked walk_passes walk_fault defaults_fault
flag-of-a-sweep = record { taken = refl; faultless = refl; listed = refl; one_rule = refl; in_order = refl; meaning = refl }

flag-of-a-check : Spell (codes "check" ∷ codes "--moving" ∷ [])
    (record (command_with (Check (Least Single)) 10000 4096 4096 None) { shape = moving 4096 4096 })
unfolding walked walk_passes walk_fault defaults_fault
flag-of-a-check = record { taken = refl; faultless = refl; listed = refl; one_rule = refl; in_order = refl; meaning = refl }

flag-with-all-sets : Spell (codes "check" ∷ codes "--sets" ∷ codes "--moving" ∷ [])
    (record (command_with (Check (EverySet 100000)) 10000 4096 4096 None) { shape = moving 4096 4096 })
unfolding walked walk_passes walk_fault defaults_fault
flag-with-all-sets = record { taken = refl; faultless = refl; listed = refl; one_rule = refl; in_order = refl; meaning = refl }

flag-as-a-file : Spell (codes "size" ∷ codes "--" ∷ codes "--moving" ∷ [])
    (command_with Size 10000 4096 4096 (Some (codes "--moving")))
unfolding walked walk_passes walk_fault defaults_fault
flag-as-a-file = record { taken = refl; faultless = refl; listed = refl; one_rule = refl; in_order = refl; meaning = refl }

-- ---- words that give more than one of a limit, a number and a rate

flag-with-two-rules : Double (codes "run" ∷ codes "--moving" ∷ codes "--limit=9" ∷ codes "--every=4" ∷ [])
unfolding walked walk_passes walk_fault defaults_fault
flag-with-two-rules = record { taken = refl; faultless = refl; listed = refl; doubled = refl }

-- ---- words that are refused

flag-twice : Fail (codes "sweep" ∷ codes "--moving" ∷ codes "--moving" ∷ []) (ArgumentConflict ∷ [])
unfolding walked walk_passes walk_fault defaults_fault flags_fault flags_pass bundle_met chars
flag-twice = record { refused = refl; fault = refl }

flag-with-a-value : Fail (codes "run" ∷ codes "--moving=1" ∷ []) (TooManyValues ∷ [])
unfolding walked walk_passes walk_fault defaults_fault flags_fault flags_pass bundle_met chars
flag-with-a-value = record { refused = refl; fault = refl }

flag-of-lengths-with-a-value : Fail (codes "lengths" ∷ codes "--moving=true" ∷ []) (TooManyValues ∷ [])
unfolding walked walk_passes walk_fault defaults_fault flags_fault flags_pass bundle_met chars
flag-of-lengths-with-a-value = record { refused = refl; fault = refl }
