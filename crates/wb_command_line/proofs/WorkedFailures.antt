-- What words spell that ask for sets of attempts to be tried, computed on worked command lines.
use Rattle.std.proofs.Common.{[], ◌∷◌, Some, None, codes, refl}
use Rattle.std.specs.Str.{chars}
use Rattle.clap.specs.Faults.{defaults_fault, flags_fault, walk_fault}
use Rattle.clap.specs.Takes.{flags_pass, walk_passes}
use Rattle.clap.specs.Walk.{bundle_met, walked}
use Rattle.clap.specs.declared.error.kind.ErrorKind.TheVariants.{ArgumentConflict, InvalidValue, UnknownArgument, ValueValidation}
use Rattle.wb_runs.specs.declared.failures.Failures.TheVariants.{Single}
use Rattle.wb_command_line.specs.Spelled.{whole}
use Rattle.wb_command_line.specs.declared.command.Search.TheVariants.{Least, Sets}
use Rattle.wb_command_line.specs.declared.command.Task.TheVariants.{Sweep, Check}
use Rattle.wb_command_line.proofs.WorkedWords.{Double, Fail, Spell, command_with}

-- ---- words that spell a command

sweep-of-sets : Spell (codes "sweep" ∷ codes "--failures" ∷ codes "3" ∷ []) (command_with (Sweep (Sets 3) whole) 10000 4096 4096 None)
unfolding walked walk_passes walk_fault defaults_fault
sweep-of-sets = record { taken = refl; faultless = refl; listed = refl; one_rule = refl; in_order = refl; meaning = refl }

least-number-of-failures : Spell (codes "sweep" ∷ codes "--failures=1" ∷ []) (command_with (Sweep (Sets 1) whole) 10000 4096 4096 None)
unfolding walked walk_passes walk_fault defaults_fault
least-number-of-failures = record { taken = refl; faultless = refl; listed = refl; one_rule = refl; in_order = refl; meaning = refl }

greatest-number-of-failures : Spell (codes "check" ∷ codes "--failures=+008" ∷ codes "a.oom" ∷ []) (command_with (Check (Sets 8)) 10000 4096 4096 (Some (codes "a.oom")))
unfolding walked walk_passes walk_fault defaults_fault
greatest-number-of-failures = record { taken = refl; faultless = refl; listed = refl; one_rule = refl; in_order = refl; meaning = refl }

part-of-the-sets : Spell (codes "sweep" ∷ codes "--to" ∷ codes "9" ∷ codes "--failures" ∷ codes "2" ∷ codes "--from=3" ∷ []) (command_with (Sweep (Sets 2) (record { from = 3; to = 9 })) 10000 4096 4096 None)
unfolding walked walk_passes walk_fault defaults_fault
part-of-the-sets = record { taken = refl; faultless = refl; listed = refl; one_rule = refl; in_order = refl; meaning = refl }

check-of-sets-with-other-options : Spell (codes "check" ∷ codes "--budget=500" ∷ codes "a.oom" ∷ codes "--failures" ∷ codes "4" ∷ codes "--min" ∷ codes "0" ∷ codes "--step=32" ∷ []) (command_with (Check (Sets 4)) 500 0 32 (Some (codes "a.oom")))
unfolding walked walk_passes walk_fault defaults_fault
check-of-sets-with-other-options = record { taken = refl; faultless = refl; listed = refl; one_rule = refl; in_order = refl; meaning = refl }

failures-as-a-file : Spell (codes "sweep" ∷ codes "--" ∷ codes "--failures" ∷ []) (command_with (Sweep (Least Single) whole) 10000 4096 4096 (Some (codes "--failures")))
unfolding walked walk_passes walk_fault defaults_fault
failures-as-a-file = record { taken = refl; faultless = refl; listed = refl; one_rule = refl; in_order = refl; meaning = refl }

-- ---- sets together with rates, pairs or all that is found

sets-and-pairs : Double (codes "sweep" ∷ codes "--failures" ∷ codes "2" ∷ codes "--pairs" ∷ [])
unfolding walked walk_passes walk_fault defaults_fault
sets-and-pairs = record { taken = refl; faultless = refl; listed = refl; doubled = refl }

sets-and-rates : Double (codes "check" ∷ codes "--every" ∷ codes "a.oom" ∷ codes "--failures=1" ∷ [])
unfolding walked walk_passes walk_fault defaults_fault
sets-and-rates = record { taken = refl; faultless = refl; listed = refl; doubled = refl }

sets-and-all : Double (codes "sweep" ∷ codes "--failures" ∷ codes "8" ∷ codes "--all" ∷ codes "a.oom" ∷ [])
unfolding walked walk_passes walk_fault defaults_fault
sets-and-all = record { taken = refl; faultless = refl; listed = refl; doubled = refl }

sets-and-rates-and-all : Double (codes "check" ∷ codes "--all" ∷ codes "--every" ∷ codes "--failures" ∷ codes "3" ∷ [])
unfolding walked walk_passes walk_fault defaults_fault
sets-and-rates-and-all = record { taken = refl; faultless = refl; listed = refl; doubled = refl }

sets-and-all-and-a-bad-shape : Double (codes "sweep" ∷ codes "--min=8" ∷ codes "--all" ∷ codes "--from" ∷ codes "3" ∷ codes "--to" ∷ codes "2" ∷ codes "--failures=3" ∷ [])
unfolding walked walk_passes walk_fault defaults_fault
sets-and-all-and-a-bad-shape = record { taken = refl; faultless = refl; listed = refl; doubled = refl }

-- ---- words that are refused

no-failure : Fail (codes "sweep" ∷ codes "--failures" ∷ codes "0" ∷ []) (ValueValidation ∷ [])
unfolding walked walk_passes walk_fault defaults_fault flags_fault flags_pass bundle_met chars
no-failure = record { refused = refl; fault = refl }

nine-failures : Fail (codes "check" ∷ codes "--failures=9" ∷ []) (ValueValidation ∷ [])
unfolding walked walk_passes walk_fault defaults_fault flags_fault flags_pass bundle_met chars
nine-failures = record { refused = refl; fault = refl }

nine-failures-and-pairs : Fail (codes "sweep" ∷ codes "--pairs" ∷ codes "--failures" ∷ codes "9" ∷ []) (ValueValidation ∷ [])
unfolding walked walk_passes walk_fault defaults_fault flags_fault flags_pass bundle_met chars
nine-failures-and-pairs = record { refused = refl; fault = refl }

failures-without-a-number : Fail (codes "sweep" ∷ codes "--failures" ∷ []) (InvalidValue ∷ [])
unfolding walked walk_passes walk_fault defaults_fault flags_fault flags_pass bundle_met chars
failures-without-a-number = record { refused = refl; fault = refl }

failures-twice : Fail (codes "check" ∷ codes "--failures=3" ∷ codes "--failures" ∷ codes "3" ∷ []) (ArgumentConflict ∷ [])
unfolding walked walk_passes walk_fault defaults_fault flags_fault flags_pass bundle_met chars
failures-twice = record { refused = refl; fault = refl }

failures-of-a-run : Fail (codes "run" ∷ codes "--failures" ∷ codes "3" ∷ []) (UnknownArgument ∷ [])
unfolding walked walk_passes walk_fault defaults_fault flags_fault flags_pass bundle_met chars
failures-of-a-run = record { refused = refl; fault = refl }

failures-of-lengths : Fail (codes "lengths" ∷ codes "--failures=3" ∷ []) (UnknownArgument ∷ [])
unfolding walked walk_passes walk_fault defaults_fault flags_fault flags_pass bundle_met chars
failures-of-lengths = record { refused = refl; fault = refl }
