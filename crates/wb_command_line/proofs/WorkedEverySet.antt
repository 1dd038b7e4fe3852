-- What words spell that ask for all sets of attempts to be tried, computed on worked command lines.
use Rattle.std.proofs.Common.{[], ◌∷◌, Some, None, codes, refl}
use Rattle.std.specs.Str.{chars}
use Rattle.clap.specs.Faults.{defaults_fault, flags_fault, walk_fault}
use Rattle.clap.specs.Takes.{flags_pass, walk_passes}
use Rattle.clap.specs.Walk.{bundle_met, walked}
use Rattle.clap.specs.declared.error.kind.ErrorKind.TheVariants.{ArgumentConflict, InvalidValue, TooManyValues, UnknownArgument, ValueValidation}
use Rattle.wb_runs.specs.declared.failures.Failures.TheVariants.{Every, Single}
use Rattle.wb_command_line.specs.Spelled.{whole}
use Rattle.wb_command_line.specs.declared.command.Search.TheVariants.{Least, Sets, EverySet}
use Rattle.wb_command_line.specs.declared.command.Task.TheVariants.{Sweep, Check}
use Rattle.wb_command_line.proofs.WorkedWords.{Double, Fail, Spell, command_with}

-- ---- words that spell a command

sweep-of-every-set : Spell (codes "sweep" ∷ codes "--sets" ∷ []) (command_with (Sweep (EverySet 100000) whole) 10000 4096 4096 None)
unfolding walked walk_passes walk_fault defaults_fault
sweep-of-every-set = record { taken = refl; faultless = refl; listed = refl; one_rule = refl; in_order = refl; meaning = refl }

least-number-of-states : Spell (codes "sweep" ∷ codes "--states=1" ∷ codes "--sets" ∷ []) (command_with (Sweep (EverySet 1) whole) 10000 4096 4096 None)
unfolding walked walk_passes walk_fault defaults_fault
least-number-of-states = record { taken = refl; faultless = refl; listed = refl; one_rule = refl; in_order = refl; meaning = refl }

greatest-number-of-states : Spell (codes "check" ∷ codes "--sets" ∷ codes "--states" ∷ codes "10000000" ∷ codes "a.oom" ∷ []) (command_with (Check (EverySet 10000000)) 10000 4096 4096 (Some (codes "a.oom")))
unfolding walked walk_passes walk_fault defaults_fault
greatest-number-of-states = record { taken = refl; faultless = refl; listed = refl; one_rule = refl; in_order = refl; meaning = refl }

part-of-every-set : Spell (codes "sweep" ∷ codes "--to" ∷ codes "9" ∷ codes "--sets" ∷ codes "--from=3" ∷ []) (command_with (Sweep (EverySet 100000) (record { from = 3; to = 9 })) 10000 4096 4096 None)
unfolding walked walk_passes walk_fault defaults_fault
part-of-every-set = record { taken = refl; faultless = refl; listed = refl; one_rule = refl; in_order = refl; meaning = refl }

sets-as-a-file : Spell (codes "sweep" ∷ codes "--" ∷ codes "--sets" ∷ []) (command_with (Sweep (Least Single) whole) 10000 4096 4096 (Some (codes "--sets")))
unfolding walked walk_passes walk_fault defaults_fault
sets-as-a-file = record { taken = refl; faultless = refl; listed = refl; one_rule = refl; in_order = refl; meaning = refl }

-- ---- a number of states makes no difference where not all sets are asked for

states-of-single-attempts : Spell (codes "sweep" ∷ codes "--states" ∷ codes "5" ∷ []) (command_with (Sweep (Least Single) whole) 10000 4096 4096 None)
unfolding walked walk_passes walk_fault defaults_fault
states-of-single-attempts = record { taken = refl; faultless = refl; listed = refl; one_rule = refl; in_order = refl; meaning = refl }

states-of-rates : Spell (codes "sweep" ∷ codes "--every" ∷ codes "--states=5" ∷ []) (command_with (Sweep (Least Every) whole) 10000 4096 4096 None)
unfolding walked walk_passes walk_fault defaults_fault
states-of-rates = record { taken = refl; faultless = refl; listed = refl; one_rule = refl; in_order = refl; meaning = refl }

states-of-few-failures : Spell (codes "sweep" ∷ codes "--failures" ∷ codes "3" ∷ codes "--states=5" ∷ []) (command_with (Sweep (Sets 3) whole) 10000 4096 4096 None)
unfolding walked walk_passes walk_fault defaults_fault
states-of-few-failures = record { taken = refl; faultless = refl; listed = refl; one_rule = refl; in_order = refl; meaning = refl }

-- ---- all sets together with rates, pairs, sets of so many attempts or all that is found

every-set-and-rates : Double (codes "sweep" ∷ codes "--sets" ∷ codes "--every" ∷ [])
unfolding walked walk_passes walk_fault defaults_fault
every-set-and-rates = record { taken = refl; faultless = refl; listed = refl; doubled = refl }

every-set-and-pairs : Double (codes "check" ∷ codes "--pairs" ∷ codes "a.oom" ∷ codes "--sets" ∷ [])
unfolding walked walk_passes walk_fault defaults_fault
every-set-and-pairs = record { taken = refl; faultless = refl; listed = refl; doubled = refl }

every-set-and-few-failures : Double (codes "sweep" ∷ codes "--sets" ∷ codes "--failures" ∷ codes "3" ∷ [])
unfolding walked walk_passes walk_fault defaults_fault
every-set-and-few-failures = record { taken = refl; faultless = refl; listed = refl; doubled = refl }

every-set-and-all : Double (codes "check" ∷ codes "--all" ∷ codes "--states=7" ∷ codes "--sets" ∷ [])
unfolding walked walk_passes walk_fault defaults_fault
every-set-and-all = record { taken = refl; faultless = refl; listed = refl; doubled = refl }

every-set-and-all-and-a-bad-shape : Double (codes "sweep" ∷ codes "--min=8" ∷ codes "--all" ∷ codes "--from" ∷ codes "3" ∷ codes "--to" ∷ codes "2" ∷ codes "--sets" ∷ [])
unfolding walked walk_passes walk_fault defaults_fault
every-set-and-all-and-a-bad-shape = record { taken = refl; faultless = refl; listed = refl; doubled = refl }

-- ---- words that are refused

no-state : Fail (codes "sweep" ∷ codes "--sets" ∷ codes "--states" ∷ codes "0" ∷ []) (ValueValidation ∷ [])
unfolding walked walk_passes walk_fault defaults_fault flags_fault flags_pass bundle_met chars
no-state = record { refused = refl; fault = refl }

one-state-too-many : Fail (codes "check" ∷ codes "--sets" ∷ codes "--states=10000001" ∷ []) (ValueValidation ∷ [])
unfolding walked walk_passes walk_fault defaults_fault flags_fault flags_pass bundle_met chars
one-state-too-many = record { refused = refl; fault = refl }

no-state-without-sets : Fail (codes "sweep" ∷ codes "--states" ∷ codes "0" ∷ []) (ValueValidation ∷ [])
unfolding walked walk_passes walk_fault defaults_fault flags_fault flags_pass bundle_met chars
no-state-without-sets = record { refused = refl; fault = refl }

states-without-a-number : Fail (codes "sweep" ∷ codes "--sets" ∷ codes "--states" ∷ []) (InvalidValue ∷ [])
unfolding walked walk_passes walk_fault defaults_fault flags_fault flags_pass bundle_met chars
states-without-a-number = record { refused = refl; fault = refl }

sets-with-a-number : Fail (codes "sweep" ∷ codes "--sets=3" ∷ []) (TooManyValues ∷ [])
unfolding walked walk_passes walk_fault defaults_fault flags_fault flags_pass bundle_met chars
sets-with-a-number = record { refused = refl; fault = refl }

sets-twice : Fail (codes "check" ∷ codes "--sets" ∷ codes "--sets" ∷ []) (ArgumentConflict ∷ [])
unfolding walked walk_passes walk_fault defaults_fault flags_fault flags_pass bundle_met chars
sets-twice = record { refused = refl; fault = refl }

sets-of-a-run : Fail (codes "run" ∷ codes "--sets" ∷ []) (UnknownArgument ∷ [])
unfolding walked walk_passes walk_fault defaults_fault flags_fault flags_pass bundle_met chars
sets-of-a-run = record { refused = refl; fault = refl }

states-of-lengths : Fail (codes "lengths" ∷ codes "--states=3" ∷ []) (UnknownArgument ∷ [])
unfolding walked walk_passes walk_fault defaults_fault flags_fault flags_pass bundle_met chars
states-of-lengths = record { refused = refl; fault = refl }
