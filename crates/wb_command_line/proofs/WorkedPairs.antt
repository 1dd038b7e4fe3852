-- What words with a second number or with pairs spell, computed on worked command lines.
use Rattle.std.proofs.Common.{true, [], ◌∷◌, Some, None, codes, refl}
use Rattle.std.specs.Str.{chars}
use Rattle.clap.specs.Faults.{defaults_fault, flags_fault, walk_fault}
use Rattle.clap.specs.Takes.{flags_pass, walk_passes}
use Rattle.clap.specs.Walk.{bundle_met, walked}
use Rattle.clap.specs.declared.error.kind.ErrorKind.TheVariants.{ArgumentConflict, InvalidValue, TooManyValues, UnknownArgument, ValueValidation}
use Rattle.wb_runs.specs.declared.failures.Failures.TheVariants.{Pairs, Single}
use Rattle.wb_heap_model.specs.declared.heap.Rule.TheVariants.{Pair, Unlimited}
use Rattle.wb_command_line.specs.Spelled.{whole}
use Rattle.wb_command_line.specs.declared.command.Search.TheVariants.{Least}
use Rattle.wb_command_line.specs.declared.command.Task.TheVariants.{Run, Sweep, Check}
use Rattle.wb_command_line.proofs.WorkedWords.{Disorder, Double, Fail, Spell, command_with, run_with}

-- ---- words that spell a command

pair-apart : Spell (codes "run" ∷ codes "--fail" ∷ codes "3" ∷ codes "--also" ∷ codes "4" ∷ []) (run_with (Pair 3 4) 4096 4096 None)
unfolding walked walk_passes walk_fault defaults_fault
pair-apart = record { taken = refl; faultless = refl; listed = refl; one_rule = refl; in_order = refl; meaning = refl }

pair-backwards : Spell (codes "run" ∷ codes "--also=7" ∷ codes "--fail=2" ∷ []) (run_with (Pair 2 7) 4096 4096 None)
unfolding walked walk_passes walk_fault defaults_fault
pair-backwards = record { taken = refl; faultless = refl; listed = refl; one_rule = refl; in_order = refl; meaning = refl }

least-pair : Spell (codes "run" ∷ codes "--fail=1" ∷ codes "--also=2" ∷ []) (run_with (Pair 1 2) 4096 4096 None)
unfolding walked walk_passes walk_fault defaults_fault
least-pair = record { taken = refl; faultless = refl; listed = refl; one_rule = refl; in_order = refl; meaning = refl }

greatest-pair : Spell (codes "run" ∷ codes "--fail" ∷ codes "16777215" ∷ codes "--also" ∷ codes "16777216" ∷ []) (run_with (Pair 16777215 16777216) 4096 4096 None)
unfolding walked walk_passes walk_fault defaults_fault
greatest-pair = record { taken = refl; faultless = refl; listed = refl; one_rule = refl; in_order = refl; meaning = refl }

pair-around-a-file : Spell (codes "run" ∷ codes "--also" ∷ codes "9" ∷ codes "a.oom" ∷ codes "--budget=500" ∷ codes "--fail=+8" ∷ codes "--min" ∷ codes "0" ∷ codes "--step=32" ∷ []) (command_with (Run (Pair 8 9)) 500 0 32 (Some (codes "a.oom")))
unfolding walked walk_passes walk_fault defaults_fault
pair-around-a-file = record { taken = refl; faultless = refl; listed = refl; one_rule = refl; in_order = refl; meaning = refl }

second-number-as-a-file : Spell (codes "run" ∷ codes "--" ∷ codes "--also" ∷ []) (command_with (Run Unlimited) 10000 4096 4096 (Some (codes "--also")))
unfolding walked walk_passes walk_fault defaults_fault
second-number-as-a-file = record { taken = refl; faultless = refl; listed = refl; one_rule = refl; in_order = refl; meaning = refl }

sweep-of-pairs : Spell (codes "sweep" ∷ codes "--pairs" ∷ []) (command_with (Sweep (Least Pairs) whole) 10000 4096 4096 None)
unfolding walked walk_passes walk_fault defaults_fault
sweep-of-pairs = record { taken = refl; faultless = refl; listed = refl; one_rule = refl; in_order = refl; meaning = refl }

check-of-pairs : Spell (codes "check" ∷ codes "--pairs" ∷ []) (command_with (Check (Least Pairs)) 10000 4096 4096 None)
unfolding walked walk_passes walk_fault defaults_fault
check-of-pairs = record { taken = refl; faultless = refl; listed = refl; one_rule = refl; in_order = refl; meaning = refl }

sweep-of-pairs-on-a-file : Spell (codes "sweep" ∷ codes "--pairs" ∷ codes "3" ∷ []) (command_with (Sweep (Least Pairs) whole) 10000 4096 4096 (Some (codes "3")))
unfolding walked walk_passes walk_fault defaults_fault
sweep-of-pairs-on-a-file = record { taken = refl; faultless = refl; listed = refl; one_rule = refl; in_order = refl; meaning = refl }

check-of-pairs-with-all : Spell (codes "check" ∷ codes "--budget=500" ∷ codes "a.oom" ∷ codes "--pairs" ∷ codes "--min" ∷ codes "0" ∷ codes "--step=32" ∷ codes "--json" ∷ []) (record (command_with (Check (Least Pairs)) 500 0 32 (Some (codes "a.oom"))) { json = true })
unfolding walked walk_passes walk_fault defaults_fault
check-of-pairs-with-all = record { taken = refl; faultless = refl; listed = refl; one_rule = refl; in_order = refl; meaning = refl }

pairs-as-a-file : Spell (codes "sweep" ∷ codes "--" ∷ codes "--pairs" ∷ []) (command_with (Sweep (Least Single) whole) 10000 4096 4096 (Some (codes "--pairs")))
unfolding walked walk_passes walk_fault defaults_fault
pairs-as-a-file = record { taken = refl; faultless = refl; listed = refl; one_rule = refl; in_order = refl; meaning = refl }

-- ---- words that give more than one of a limit, a number and a rate, or flags that don't go together

limit-beside-a-pair : Double (codes "run" ∷ codes "--limit" ∷ codes "9" ∷ codes "--fail" ∷ codes "3" ∷ codes "--also" ∷ codes "4" ∷ [])
unfolding walked walk_passes walk_fault defaults_fault
limit-beside-a-pair = record { taken = refl; faultless = refl; listed = refl; doubled = refl }

pair-and-rate : Double (codes "run" ∷ codes "--fail=3" ∷ codes "--also=4" ∷ codes "--every=4" ∷ [])
unfolding walked walk_passes walk_fault defaults_fault
pair-and-rate = record { taken = refl; faultless = refl; listed = refl; doubled = refl }

limit-and-disorder : Double (codes "run" ∷ codes "--limit" ∷ codes "9" ∷ codes "--fail" ∷ codes "3" ∷ codes "--also" ∷ codes "3" ∷ [])
unfolding walked walk_passes walk_fault defaults_fault
limit-and-disorder = record { taken = refl; faultless = refl; listed = refl; doubled = refl }

rate-and-disorder : Double (codes "run" ∷ codes "--every" ∷ codes "2" ∷ codes "--fail" ∷ codes "0" ∷ codes "--also" ∷ codes "0" ∷ codes "--min" ∷ codes "17" ∷ [])
unfolding walked walk_passes walk_fault defaults_fault
rate-and-disorder = record { taken = refl; faultless = refl; listed = refl; doubled = refl }

rates-and-pairs : Double (codes "sweep" ∷ codes "--every" ∷ codes "--pairs" ∷ [])
unfolding walked walk_passes walk_fault defaults_fault
rates-and-pairs = record { taken = refl; faultless = refl; listed = refl; doubled = refl }

pairs-and-rates : Double (codes "check" ∷ codes "--pairs" ∷ codes "a.oom" ∷ codes "--every" ∷ codes "--json" ∷ [])
unfolding walked walk_passes walk_fault defaults_fault
pairs-and-rates = record { taken = refl; faultless = refl; listed = refl; doubled = refl }

both-flags-and-a-bad-shape : Double (codes "check" ∷ codes "--every" ∷ codes "--min" ∷ codes "8" ∷ codes "--pairs" ∷ [])
unfolding walked walk_passes walk_fault defaults_fault
both-flags-and-a-bad-shape = record { taken = refl; faultless = refl; listed = refl; doubled = refl }

-- ---- words that give a second number which doesn't come after a first

second-number-alone : Disorder (codes "run" ∷ codes "--also" ∷ codes "3" ∷ [])
unfolding walked walk_passes walk_fault defaults_fault
second-number-alone = record { taken = refl; faultless = refl; listed = refl; one_rule = refl; disordered = refl }

second-number-zero-alone : Disorder (codes "run" ∷ codes "--also=0" ∷ [])
unfolding walked walk_passes walk_fault defaults_fault
second-number-zero-alone = record { taken = refl; faultless = refl; listed = refl; one_rule = refl; disordered = refl }

limit-and-second-number : Disorder (codes "run" ∷ codes "--limit" ∷ codes "64" ∷ codes "--also" ∷ codes "3" ∷ [])
unfolding walked walk_passes walk_fault defaults_fault
limit-and-second-number = record { taken = refl; faultless = refl; listed = refl; one_rule = refl; disordered = refl }

rate-and-second-number : Disorder (codes "run" ∷ codes "--every" ∷ codes "2" ∷ codes "--also" ∷ codes "3" ∷ [])
unfolding walked walk_passes walk_fault defaults_fault
rate-and-second-number = record { taken = refl; faultless = refl; listed = refl; one_rule = refl; disordered = refl }

first-number-zero : Disorder (codes "run" ∷ codes "--fail" ∷ codes "0" ∷ codes "--also" ∷ codes "3" ∷ [])
unfolding walked walk_passes walk_fault defaults_fault
first-number-zero = record { taken = refl; faultless = refl; listed = refl; one_rule = refl; disordered = refl }

both-numbers-zero : Disorder (codes "run" ∷ codes "--fail=0" ∷ codes "--also=0" ∷ [])
unfolding walked walk_passes walk_fault defaults_fault
both-numbers-zero = record { taken = refl; faultless = refl; listed = refl; one_rule = refl; disordered = refl }

equal-numbers : Disorder (codes "run" ∷ codes "--fail" ∷ codes "3" ∷ codes "--also" ∷ codes "3" ∷ [])
unfolding walked walk_passes walk_fault defaults_fault
equal-numbers = record { taken = refl; faultless = refl; listed = refl; one_rule = refl; disordered = refl }

lesser-second-number : Disorder (codes "run" ∷ codes "--fail" ∷ codes "3" ∷ codes "--also" ∷ codes "2" ∷ [])
unfolding walked walk_passes walk_fault defaults_fault
lesser-second-number = record { taken = refl; faultless = refl; listed = refl; one_rule = refl; disordered = refl }

disorder-and-a-bad-shape : Disorder (codes "run" ∷ codes "--fail" ∷ codes "3" ∷ codes "--also" ∷ codes "3" ∷ codes "--min" ∷ codes "17" ∷ [])
unfolding walked walk_passes walk_fault defaults_fault
disorder-and-a-bad-shape = record { taken = refl; faultless = refl; listed = refl; one_rule = refl; disordered = refl }

second-number-alone-and-a-bad-shape : Disorder (codes "run" ∷ codes "--step=17" ∷ codes "a.oom" ∷ codes "--also=3" ∷ [])
unfolding walked walk_passes walk_fault defaults_fault
second-number-alone-and-a-bad-shape = record { taken = refl; faultless = refl; listed = refl; one_rule = refl; disordered = refl }

-- ---- words that are refused

past-the-greatest-second-number : Fail (codes "run" ∷ codes "--fail" ∷ codes "3" ∷ codes "--also" ∷ codes "16777217" ∷ []) (ValueValidation ∷ [])
unfolding walked walk_passes walk_fault defaults_fault flags_fault flags_pass bundle_met chars
past-the-greatest-second-number = record { refused = refl; fault = refl }

second-number-out-of-range-alone : Fail (codes "run" ∷ codes "--also=16777217" ∷ []) (ValueValidation ∷ [])
unfolding walked walk_passes walk_fault defaults_fault flags_fault flags_pass bundle_met chars
second-number-out-of-range-alone = record { refused = refl; fault = refl }

second-number-below-zero : Fail (codes "run" ∷ codes "--fail=3" ∷ codes "--also=-1" ∷ []) (ValueValidation ∷ [])
unfolding walked walk_passes walk_fault defaults_fault flags_fault flags_pass bundle_met chars
second-number-below-zero = record { refused = refl; fault = refl }

second-without-its-number : Fail (codes "run" ∷ codes "--fail" ∷ codes "3" ∷ codes "--also" ∷ []) (InvalidValue ∷ [])
unfolding walked walk_passes walk_fault defaults_fault flags_fault flags_pass bundle_met chars
second-without-its-number = record { refused = refl; fault = refl }

second-number-twice : Fail (codes "run" ∷ codes "--fail" ∷ codes "1" ∷ codes "--also" ∷ codes "3" ∷ codes "--also" ∷ codes "3" ∷ []) (ArgumentConflict ∷ [])
unfolding walked walk_passes walk_fault defaults_fault flags_fault flags_pass bundle_met chars
second-number-twice = record { refused = refl; fault = refl }

second-number-of-a-sweep : Fail (codes "sweep" ∷ codes "--also" ∷ codes "3" ∷ []) (UnknownArgument ∷ [])
unfolding walked walk_passes walk_fault defaults_fault flags_fault flags_pass bundle_met chars
second-number-of-a-sweep = record { refused = refl; fault = refl }

second-number-of-a-check : Fail (codes "check" ∷ codes "--fail=3" ∷ codes "--also=4" ∷ []) (UnknownArgument ∷ [])
unfolding walked walk_passes walk_fault defaults_fault flags_fault flags_pass bundle_met chars
second-number-of-a-check = record { refused = refl; fault = refl }

second-number-of-a-size : Fail (codes "size" ∷ codes "--also=3" ∷ []) (UnknownArgument ∷ [])
unfolding walked walk_passes walk_fault defaults_fault flags_fault flags_pass bundle_met chars
second-number-of-a-size = record { refused = refl; fault = refl }

pairs-of-a-run : Fail (codes "run" ∷ codes "--pairs" ∷ []) (UnknownArgument ∷ [])
unfolding walked walk_passes walk_fault defaults_fault flags_fault flags_pass bundle_met chars
pairs-of-a-run = record { refused = refl; fault = refl }

pairs-of-a-size : Fail (codes "size" ∷ codes "--pairs" ∷ []) (UnknownArgument ∷ [])
unfolding walked walk_passes walk_fault defaults_fault flags_fault flags_pass bundle_met chars
pairs-of-a-size = record { refused = refl; fault = refl }

pairs-with-a-value : Fail (codes "sweep" ∷ codes "--pairs=3" ∷ []) (TooManyValues ∷ [])
unfolding walked walk_passes walk_fault defaults_fault flags_fault flags_pass bundle_met chars
pairs-with-a-value = record { refused = refl; fault = refl }

pairs-of-a-check-with-a-value : Fail (codes "check" ∷ codes "--pairs=3" ∷ []) (TooManyValues ∷ [])
unfolding walked walk_passes walk_fault defaults_fault flags_fault flags_pass bundle_met chars
pairs-of-a-check-with-a-value = record { refused = refl; fault = refl }

pairs-twice : Fail (codes "check" ∷ codes "--pairs" ∷ codes "--pairs" ∷ []) (ArgumentConflict ∷ [])
unfolding walked walk_passes walk_fault defaults_fault flags_fault flags_pass bundle_met chars
pairs-twice = record { refused = refl; fault = refl }
