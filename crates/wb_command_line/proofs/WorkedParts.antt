-- What words spell that ask for all that is found, or for a part of the numbers, computed on worked command lines.
use Rattle.std.proofs.Common.{◌≡◌, false, [], ◌∷◌, Some, None, codes, refl}
use Rattle.std.specs.Str.{chars}
use Rattle.clap.specs.Faults.{defaults_fault, flags_fault, walk_fault}
use Rattle.clap.specs.Takes.{flags_pass, walk_passes}
use Rattle.clap.specs.Walk.{bundle_met, walked}
use Rattle.clap.specs.declared.error.kind.ErrorKind.TheVariants.{ArgumentConflict, DisplayVersion, InvalidValue, TooManyValues, UnknownArgument, ValueValidation}
use Rattle.wb_runs.specs.declared.failures.Failures.TheVariants.{Every, Pairs, Single}
use Rattle.wb_command_line.specs.Command.{is_filled}
use Rattle.wb_command_line.specs.Spelled.{whole}
use Rattle.wb_command_line.specs.declared.command.Search.TheVariants.{Least, All}
use Rattle.wb_command_line.specs.declared.command.Task.TheVariants.{Sweep, Check}
use Rattle.wb_command_line.proofs.WorkedWords.{Double, Fail, Spell, command_with}

-- ---- words that spell a command

all-of-a-sweep : Spell (codes "sweep" ∷ codes "--all" ∷ []) (command_with (Sweep (All Single) whole) 10000 4096 4096 None)
unfolding walked walk_passes walk_fault defaults_fault
all-of-a-sweep = record { taken = refl; faultless = refl; listed = refl; one_rule = refl; in_order = refl; meaning = refl }

all-rates-of-a-sweep : Spell (codes "sweep" ∷ codes "--all" ∷ codes "a.oom" ∷ codes "--every" ∷ []) (command_with (Sweep (All Every) whole) 10000 4096 4096 (Some (codes "a.oom")))
unfolding walked walk_passes walk_fault defaults_fault
all-rates-of-a-sweep = record { taken = refl; faultless = refl; listed = refl; one_rule = refl; in_order = refl; meaning = refl }

all-of-a-check : Spell (codes "check" ∷ codes "--all" ∷ []) (command_with (Check (All Single)) 10000 4096 4096 None)
unfolding walked walk_passes walk_fault defaults_fault
all-of-a-check = record { taken = refl; faultless = refl; listed = refl; one_rule = refl; in_order = refl; meaning = refl }

all-rates-of-a-check : Spell (codes "check" ∷ codes "--every" ∷ codes "--all" ∷ []) (command_with (Check (All Every)) 10000 4096 4096 None)
unfolding walked walk_passes walk_fault defaults_fault
all-rates-of-a-check = record { taken = refl; faultless = refl; listed = refl; one_rule = refl; in_order = refl; meaning = refl }

part-of-a-sweep : Spell (codes "sweep" ∷ codes "--from" ∷ codes "3" ∷ codes "--to" ∷ codes "5" ∷ []) (command_with (Sweep (Least Single) (record { from = 3; to = 5 })) 10000 4096 4096 None)
unfolding walked walk_passes walk_fault defaults_fault
part-of-a-sweep = record { taken = refl; faultless = refl; listed = refl; one_rule = refl; in_order = refl; meaning = refl }

part-without-its-end : Spell (codes "sweep" ∷ codes "--from=16777216" ∷ []) (command_with (Sweep (Least Single) (record { from = 16777216; to = 16777216 })) 10000 4096 4096 None)
unfolding walked walk_passes walk_fault defaults_fault
part-without-its-end = record { taken = refl; faultless = refl; listed = refl; one_rule = refl; in_order = refl; meaning = refl }

part-without-its-beginning : Spell (codes "sweep" ∷ codes "--to=0" ∷ codes "--pairs" ∷ []) (command_with (Sweep (Least Pairs) (record { from = 0; to = 0 })) 10000 4096 4096 None)
unfolding walked walk_passes walk_fault defaults_fault
part-without-its-beginning = record { taken = refl; faultless = refl; listed = refl; one_rule = refl; in_order = refl; meaning = refl }

all-of-a-part : Spell (codes "sweep" ∷ codes "--to" ∷ codes "9" ∷ codes "--every" ∷ codes "--all" ∷ codes "--from=+09" ∷ []) (command_with (Sweep (All Every) (record { from = 9; to = 9 })) 10000 4096 4096 None)
unfolding walked walk_passes walk_fault defaults_fault
all-of-a-part = record { taken = refl; faultless = refl; listed = refl; one_rule = refl; in_order = refl; meaning = refl }

all-as-a-file : Spell (codes "sweep" ∷ codes "--" ∷ codes "--all" ∷ []) (command_with (Sweep (Least Single) whole) 10000 4096 4096 (Some (codes "--all")))
unfolding walked walk_passes walk_fault defaults_fault
all-as-a-file = record { taken = refl; faultless = refl; listed = refl; one_rule = refl; in_order = refl; meaning = refl }

-- ---- words that spell a part that ends before it begins

reversed-part : Spell (codes "sweep" ∷ codes "--from" ∷ codes "3" ∷ codes "--to" ∷ codes "2" ∷ []) (command_with (Sweep (Least Single) (record { from = 3; to = 2 })) 10000 4096 4096 None)
unfolding walked walk_passes walk_fault defaults_fault
reversed-part = record { taken = refl; faultless = refl; listed = refl; one_rule = refl; in_order = refl; meaning = refl }

reversed-part-is-empty : is_filled (Sweep (Least Single) (record { from = 3; to = 2 })) ≡ false
reversed-part-is-empty = refl

-- ---- words that ask for pairs together with all that is found

all-and-pairs : Double (codes "check" ∷ codes "--all" ∷ codes "--pairs" ∷ [])
unfolding walked walk_passes walk_fault defaults_fault
all-and-pairs = record { taken = refl; faultless = refl; listed = refl; doubled = refl }

pairs-and-all-of-a-reversed-part : Double (codes "sweep" ∷ codes "--pairs" ∷ codes "--from=3" ∷ codes "--to=2" ∷ codes "--min=8" ∷ codes "--all" ∷ [])
unfolding walked walk_passes walk_fault defaults_fault
pairs-and-all-of-a-reversed-part = record { taken = refl; faultless = refl; listed = refl; doubled = refl }

all-three-flags : Double (codes "sweep" ∷ codes "--pairs" ∷ codes "--all" ∷ codes "--every" ∷ [])
unfolding walked walk_passes walk_fault defaults_fault
all-three-flags = record { taken = refl; faultless = refl; listed = refl; doubled = refl }

-- ---- words that are refused

part-of-a-check : Fail (codes "check" ∷ codes "--from" ∷ codes "3" ∷ []) (UnknownArgument ∷ [])
unfolding walked walk_passes walk_fault defaults_fault flags_fault flags_pass bundle_met chars
part-of-a-check = record { refused = refl; fault = refl }

end-of-a-check : Fail (codes "check" ∷ codes "--to=3" ∷ []) (UnknownArgument ∷ [])
unfolding walked walk_passes walk_fault defaults_fault flags_fault flags_pass bundle_met chars
end-of-a-check = record { refused = refl; fault = refl }

part-of-a-run : Fail (codes "run" ∷ codes "--from=3" ∷ []) (UnknownArgument ∷ [])
unfolding walked walk_passes walk_fault defaults_fault flags_fault flags_pass bundle_met chars
part-of-a-run = record { refused = refl; fault = refl }

all-of-a-run : Fail (codes "run" ∷ codes "--all" ∷ []) (UnknownArgument ∷ [])
unfolding walked walk_passes walk_fault defaults_fault flags_fault flags_pass bundle_met chars
all-of-a-run = record { refused = refl; fault = refl }

all-of-lengths : Fail (codes "lengths" ∷ codes "--all" ∷ []) (UnknownArgument ∷ [])
unfolding walked walk_passes walk_fault defaults_fault flags_fault flags_pass bundle_met chars
all-of-lengths = record { refused = refl; fault = refl }

all-twice : Fail (codes "sweep" ∷ codes "--all" ∷ codes "--all" ∷ []) (ArgumentConflict ∷ [])
unfolding walked walk_passes walk_fault defaults_fault flags_fault flags_pass bundle_met chars
all-twice = record { refused = refl; fault = refl }

all-with-a-value : Fail (codes "check" ∷ codes "--all=3" ∷ []) (TooManyValues ∷ [])
unfolding walked walk_passes walk_fault defaults_fault flags_fault flags_pass bundle_met chars
all-with-a-value = record { refused = refl; fault = refl }

past-the-greatest-beginning : Fail (codes "sweep" ∷ codes "--from=16777217" ∷ []) (ValueValidation ∷ [])
unfolding walked walk_passes walk_fault defaults_fault flags_fault flags_pass bundle_met chars
past-the-greatest-beginning = record { refused = refl; fault = refl }

past-the-greatest-end : Fail (codes "sweep" ∷ codes "--to" ∷ codes "16777217" ∷ []) (ValueValidation ∷ [])
unfolding walked walk_passes walk_fault defaults_fault flags_fault flags_pass bundle_met chars
past-the-greatest-end = record { refused = refl; fault = refl }

beginning-without-its-number : Fail (codes "sweep" ∷ codes "--from" ∷ codes "--to=3" ∷ []) (InvalidValue ∷ [])
unfolding walked walk_passes walk_fault defaults_fault flags_fault flags_pass bundle_met chars
beginning-without-its-number = record { refused = refl; fault = refl }

version : Fail (codes "--version" ∷ []) (DisplayVersion ∷ [])
unfolding walked walk_passes walk_fault defaults_fault flags_fault flags_pass bundle_met chars
version = record { refused = refl; fault = refl }

short-version : Fail (codes "-V" ∷ []) (DisplayVersion ∷ [])
unfolding walked walk_passes walk_fault defaults_fault flags_fault flags_pass bundle_met chars
short-version = record { refused = refl; fault = refl }

version-of-a-run : Fail (codes "run" ∷ codes "--version" ∷ []) (UnknownArgument ∷ [])
unfolding walked walk_passes walk_fault defaults_fault flags_fault flags_pass bundle_met chars
version-of-a-run = record { refused = refl; fault = refl }
