-- What words spell that ask for failures that persist, or for each number's end, computed on worked command lines.
use Rattle.std.proofs.Common.{[], ◌∷◌, Some, None, codes, refl}
use Rattle.std.specs.Str.{chars}
use Rattle.clap.specs.Faults.{defaults_fault, flags_fault, walk_fault}
use Rattle.clap.specs.Takes.{flags_pass, walk_passes}
use Rattle.clap.specs.Walk.{bundle_met, walked}
use Rattle.clap.specs.declared.error.kind.ErrorKind.TheVariants.{ArgumentConflict, TooManyValues, UnknownArgument, ValueValidation}
use Rattle.wb_runs.specs.declared.failures.Failures.TheVariants.{Every, Persistent, Single}
use Rattle.wb_heap_model.specs.declared.heap.Rule.TheVariants.{From}
use Rattle.wb_command_line.specs.Spelled.{whole}
use Rattle.wb_command_line.specs.declared.command.Search.TheVariants.{Least, All, Ends}
use Rattle.wb_command_line.specs.declared.command.Task.TheVariants.{Sweep, Check}
use Rattle.wb_command_line.proofs.WorkedWords.{Disorder, Double, Fail, Spell, command_with, run_with}

-- ---- words that spell a command

all-from-one-on : Spell (codes "run" ∷ codes "--fail-from" ∷ codes "3" ∷ []) (run_with (From 3) 4096 4096 None)
unfolding walked walk_passes walk_fault defaults_fault
all-from-one-on = record { taken = refl; faultless = refl; listed = refl; one_rule = refl; in_order = refl; meaning = refl }

greatest-first : Spell (codes "run" ∷ codes "--fail-from=16777216" ∷ codes "a.oom" ∷ []) (run_with (From 16777216) 4096 4096 (Some (codes "a.oom")))
unfolding walked walk_passes walk_fault defaults_fault
greatest-first = record { taken = refl; faultless = refl; listed = refl; one_rule = refl; in_order = refl; meaning = refl }

persistent-sweep : Spell (codes "sweep" ∷ codes "--persistent" ∷ []) (command_with (Sweep (Least Persistent) whole) 10000 4096 4096 None)
unfolding walked walk_passes walk_fault defaults_fault
persistent-sweep = record { taken = refl; faultless = refl; listed = refl; one_rule = refl; in_order = refl; meaning = refl }

persistent-list : Spell (codes "check" ∷ codes "--all" ∷ codes "--persistent" ∷ codes "a.oom" ∷ []) (command_with (Check (All Persistent)) 10000 4096 4096 (Some (codes "a.oom")))
unfolding walked walk_passes walk_fault defaults_fault
persistent-list = record { taken = refl; faultless = refl; listed = refl; one_rule = refl; in_order = refl; meaning = refl }

each-end : Spell (codes "sweep" ∷ codes "--ends" ∷ codes "--from=2" ∷ codes "--to" ∷ codes "3" ∷ []) (command_with (Sweep (Ends Single) (record { from = 2; to = 3 })) 10000 4096 4096 None)
unfolding walked walk_passes walk_fault defaults_fault
each-end = record { taken = refl; faultless = refl; listed = refl; one_rule = refl; in_order = refl; meaning = refl }

each-end-of-rates : Spell (codes "check" ∷ codes "--every" ∷ codes "--ends" ∷ []) (command_with (Check (Ends Every)) 10000 4096 4096 None)
unfolding walked walk_passes walk_fault defaults_fault
each-end-of-rates = record { taken = refl; faultless = refl; listed = refl; one_rule = refl; in_order = refl; meaning = refl }

each-end-of-persistent-failures : Spell (codes "sweep" ∷ codes "--ends" ∷ codes "--persistent" ∷ []) (command_with (Sweep (Ends Persistent) whole) 10000 4096 4096 None)
unfolding walked walk_passes walk_fault defaults_fault
each-end-of-persistent-failures = record { taken = refl; faultless = refl; listed = refl; one_rule = refl; in_order = refl; meaning = refl }

-- ---- what doesn't go together

first-and-limit : Double (codes "run" ∷ codes "--fail-from" ∷ codes "2" ∷ codes "--limit" ∷ codes "500" ∷ [])
unfolding walked walk_passes walk_fault defaults_fault
first-and-limit = record { taken = refl; faultless = refl; listed = refl; doubled = refl }

first-and-a-set : Double (codes "run" ∷ codes "--set=2,3" ∷ codes "--fail-from=2" ∷ [])
unfolding walked walk_passes walk_fault defaults_fault
first-and-a-set = record { taken = refl; faultless = refl; listed = refl; doubled = refl }

first-and-also : Disorder (codes "run" ∷ codes "--fail-from" ∷ codes "2" ∷ codes "--also" ∷ codes "3" ∷ [])
unfolding walked walk_passes walk_fault defaults_fault
first-and-also = record { taken = refl; faultless = refl; listed = refl; one_rule = refl; disordered = refl }

persistent-and-rates : Double (codes "sweep" ∷ codes "--persistent" ∷ codes "--every" ∷ [])
unfolding walked walk_passes walk_fault defaults_fault
persistent-and-rates = record { taken = refl; faultless = refl; listed = refl; doubled = refl }

persistent-and-sets : Double (codes "check" ∷ codes "--persistent" ∷ codes "--sets" ∷ [])
unfolding walked walk_passes walk_fault defaults_fault
persistent-and-sets = record { taken = refl; faultless = refl; listed = refl; doubled = refl }

persistent-and-few-failures : Double (codes "check" ∷ codes "--failures=3" ∷ codes "--persistent" ∷ [])
unfolding walked walk_passes walk_fault defaults_fault
persistent-and-few-failures = record { taken = refl; faultless = refl; listed = refl; doubled = refl }

both-lists : Double (codes "sweep" ∷ codes "--ends" ∷ codes "--all" ∷ [])
unfolding walked walk_passes walk_fault defaults_fault
both-lists = record { taken = refl; faultless = refl; listed = refl; doubled = refl }

each-end-of-pairs : Double (codes "sweep" ∷ codes "--ends" ∷ codes "--pairs" ∷ [])
unfolding walked walk_passes walk_fault defaults_fault
each-end-of-pairs = record { taken = refl; faultless = refl; listed = refl; doubled = refl }

each-end-of-sets : Double (codes "sweep" ∷ codes "--sets" ∷ codes "--ends" ∷ [])
unfolding walked walk_passes walk_fault defaults_fault
each-end-of-sets = record { taken = refl; faultless = refl; listed = refl; doubled = refl }

-- ---- words that are refused

past-the-greatest-first : Fail (codes "run" ∷ codes "--fail-from=16777217" ∷ []) (ValueValidation ∷ [])
unfolding walked walk_passes walk_fault defaults_fault flags_fault flags_pass bundle_met chars
past-the-greatest-first = record { refused = refl; fault = refl }

persistent-of-a-size : Fail (codes "size" ∷ codes "--persistent" ∷ []) (UnknownArgument ∷ [])
unfolding walked walk_passes walk_fault defaults_fault flags_fault flags_pass bundle_met chars
persistent-of-a-size = record { refused = refl; fault = refl }

first-of-a-sweep : Fail (codes "sweep" ∷ codes "--fail-from=3" ∷ []) (UnknownArgument ∷ [])
unfolding walked walk_passes walk_fault defaults_fault flags_fault flags_pass bundle_met chars
first-of-a-sweep = record { refused = refl; fault = refl }

persistent-twice : Fail (codes "check" ∷ codes "--persistent" ∷ codes "--persistent" ∷ []) (ArgumentConflict ∷ [])
unfolding walked walk_passes walk_fault defaults_fault flags_fault flags_pass bundle_met chars
persistent-twice = record { refused = refl; fault = refl }

each-end-with-a-value : Fail (codes "sweep" ∷ codes "--ends=3" ∷ []) (TooManyValues ∷ [])
unfolding walked walk_passes walk_fault defaults_fault flags_fault flags_pass bundle_met chars
each-end-with-a-value = record { refused = refl; fault = refl }
