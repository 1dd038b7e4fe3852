-- What words with a set spell, computed on worked command lines.
use Rattle.std.proofs.Common.{◌≡◌, true, false, [], ◌∷◌, Some, None, codes, refl}
use Rattle.std.specs.List.{range_with_len}
use Rattle.std.specs.Str.{chars}
use Rattle.clap.specs.Faults.{defaults_fault, flags_fault, walk_fault}
use Rattle.clap.specs.Takes.{flags_pass, walk_passes}
use Rattle.clap.specs.Walk.{bundle_met, walked}
use Rattle.clap.specs.declared.error.kind.ErrorKind.TheVariants.{ArgumentConflict, InvalidValue, UnknownArgument}
use Rattle.wb_heap_model.specs.declared.heap.Rule.TheVariants.{Set, Unlimited}
use Rattle.wb_command_line.specs.Command.{are_of_set}
use Rattle.wb_command_line.specs.SetList.{between_commas, is_list}
use Rattle.wb_command_line.specs.declared.command.Task.TheVariants.{Run}
use Rattle.wb_command_line.proofs.WorkedWords.{Disorder, Double, Fail, Mislist, Spell, command_with, run_with}

-- ---- words that spell a set

three-apart : Spell (codes "run" ∷ codes "--set" ∷ codes "3,4,5" ∷ []) (run_with (Set (3 ∷ 4 ∷ 5 ∷ [])) 4096 4096 None)
unfolding walked walk_passes walk_fault defaults_fault
three-apart = record { taken = refl; faultless = refl; listed = refl; one_rule = refl; in_order = refl; meaning = refl }

one-attached : Spell (codes "run" ∷ codes "--set=7" ∷ []) (run_with (Set (7 ∷ [])) 4096 4096 None)
unfolding walked walk_passes walk_fault defaults_fault
one-attached = record { taken = refl; faultless = refl; listed = refl; one_rule = refl; in_order = refl; meaning = refl }

leading-zeros : Spell (codes "run" ∷ codes "--set" ∷ codes "003,0010" ∷ []) (run_with (Set (3 ∷ 10 ∷ [])) 4096 4096 None)
unfolding walked walk_passes walk_fault defaults_fault
leading-zeros = record { taken = refl; faultless = refl; listed = refl; one_rule = refl; in_order = refl; meaning = refl }

least-and-greatest : Spell (codes "run" ∷ codes "--set=1,16777216" ∷ []) (run_with (Set (1 ∷ 16777216 ∷ [])) 4096 4096 None)
unfolding walked walk_passes walk_fault defaults_fault
least-and-greatest = record { taken = refl; faultless = refl; listed = refl; one_rule = refl; in_order = refl; meaning = refl }

set-around-a-file : Spell (codes "run" ∷ codes "--min" ∷ codes "0" ∷ codes "--set" ∷ codes "2,9" ∷ codes "a.oom" ∷ codes "--budget=500" ∷ codes "--step=32" ∷ []) (command_with (Run (Set (2 ∷ 9 ∷ []))) 500 0 32 (Some (codes "a.oom")))
unfolding walked walk_passes walk_fault defaults_fault
set-around-a-file = record { taken = refl; faultless = refl; listed = refl; one_rule = refl; in_order = refl; meaning = refl }

set-as-a-file : Spell (codes "run" ∷ codes "--" ∷ codes "--set" ∷ []) (command_with (Run Unlimited) 10000 4096 4096 (Some (codes "--set")))
unfolding walked walk_passes walk_fault defaults_fault
set-as-a-file = record { taken = refl; faultless = refl; listed = refl; one_rule = refl; in_order = refl; meaning = refl }

-- as many numbers as there may be, and one more
most-numbers : are_of_set (range_with_len 1 256) ≡ true
most-numbers = refl

too-many-numbers : are_of_set (range_with_len 1 257) ≡ false
too-many-numbers = refl

-- a text between commas may be empty, and is then no number
empty-between : between_commas (codes "3,,4") ≡ codes "3" ∷ [] ∷ codes "4" ∷ []
empty-between = refl

no-list-though-in-order : is_list (codes "3,,4") ≡ false
no-list-though-in-order = refl

-- ---- words whose set is no list

number-zero : Mislist (codes "run" ∷ codes "--set" ∷ codes "0,3" ∷ [])
unfolding walked walk_passes walk_fault defaults_fault
number-zero = record { taken = refl; faultless = refl; mislisted = refl }

zero-alone : Mislist (codes "run" ∷ codes "--set=0" ∷ [])
unfolding walked walk_passes walk_fault defaults_fault
zero-alone = record { taken = refl; faultless = refl; mislisted = refl }

equal-numbers : Mislist (codes "run" ∷ codes "--set" ∷ codes "3,3" ∷ [])
unfolding walked walk_passes walk_fault defaults_fault
equal-numbers = record { taken = refl; faultless = refl; mislisted = refl }

descending-numbers : Mislist (codes "run" ∷ codes "--set" ∷ codes "4,3" ∷ [])
unfolding walked walk_passes walk_fault defaults_fault
descending-numbers = record { taken = refl; faultless = refl; mislisted = refl }

past-the-greatest-number : Mislist (codes "run" ∷ codes "--set" ∷ codes "3,16777217" ∷ [])
unfolding walked walk_passes walk_fault defaults_fault
past-the-greatest-number = record { taken = refl; faultless = refl; mislisted = refl }

far-past-the-greatest-number : Mislist (codes "run" ∷ codes "--set" ∷ codes "99999999999999999999" ∷ [])
unfolding walked walk_passes walk_fault defaults_fault
far-past-the-greatest-number = record { taken = refl; faultless = refl; mislisted = refl }

plus-of-a-first : Mislist (codes "run" ∷ codes "--set=+3,4" ∷ [])
unfolding walked walk_passes walk_fault defaults_fault
plus-of-a-first = record { taken = refl; faultless = refl; mislisted = refl }

plus-of-a-second : Mislist (codes "run" ∷ codes "--set" ∷ codes "3,+4" ∷ [])
unfolding walked walk_passes walk_fault defaults_fault
plus-of-a-second = record { taken = refl; faultless = refl; mislisted = refl }

minus : Mislist (codes "run" ∷ codes "--set" ∷ codes "3,-4" ∷ [])
unfolding walked walk_passes walk_fault defaults_fault
minus = record { taken = refl; faultless = refl; mislisted = refl }

blank-after-a-comma : Mislist (codes "run" ∷ codes "--set" ∷ codes "3, 4" ∷ [])
unfolding walked walk_passes walk_fault defaults_fault
blank-after-a-comma = record { taken = refl; faultless = refl; mislisted = refl }

blank-alone : Mislist (codes "run" ∷ codes "--set" ∷ codes " " ∷ [])
unfolding walked walk_passes walk_fault defaults_fault
blank-alone = record { taken = refl; faultless = refl; mislisted = refl }

empty-text : Mislist (codes "run" ∷ codes "--set=" ∷ [])
unfolding walked walk_passes walk_fault defaults_fault
empty-text = record { taken = refl; faultless = refl; mislisted = refl }

comma-alone : Mislist (codes "run" ∷ codes "--set" ∷ codes "," ∷ [])
unfolding walked walk_passes walk_fault defaults_fault
comma-alone = record { taken = refl; faultless = refl; mislisted = refl }

comma-at-the-end : Mislist (codes "run" ∷ codes "--set" ∷ codes "3," ∷ [])
unfolding walked walk_passes walk_fault defaults_fault
comma-at-the-end = record { taken = refl; faultless = refl; mislisted = refl }

comma-at-the-beginning : Mislist (codes "run" ∷ codes "--set=,3" ∷ [])
unfolding walked walk_passes walk_fault defaults_fault
comma-at-the-beginning = record { taken = refl; faultless = refl; mislisted = refl }

another-separator : Mislist (codes "run" ∷ codes "--set" ∷ codes "3;4" ∷ [])
unfolding walked walk_passes walk_fault defaults_fault
another-separator = record { taken = refl; faultless = refl; mislisted = refl }

letter : Mislist (codes "run" ∷ codes "--set" ∷ codes "3,x" ∷ [])
unfolding walked walk_passes walk_fault defaults_fault
letter = record { taken = refl; faultless = refl; mislisted = refl }

no-list-and-a-limit : Mislist (codes "run" ∷ codes "--set" ∷ codes "3,3" ∷ codes "--limit" ∷ codes "200" ∷ [])
unfolding walked walk_passes walk_fault defaults_fault
no-list-and-a-limit = record { taken = refl; faultless = refl; mislisted = refl }

no-list-and-a-second-number : Mislist (codes "run" ∷ codes "--set" ∷ codes "4,3" ∷ codes "--also" ∷ codes "5" ∷ [])
unfolding walked walk_passes walk_fault defaults_fault
no-list-and-a-second-number = record { taken = refl; faultless = refl; mislisted = refl }

no-list-and-a-bad-shape : Mislist (codes "run" ∷ codes "--min=8" ∷ codes "--set=0" ∷ [])
unfolding walked walk_passes walk_fault defaults_fault
no-list-and-a-bad-shape = record { taken = refl; faultless = refl; mislisted = refl }

-- ---- words that give a set beside another rule

set-and-limit : Double (codes "run" ∷ codes "--set" ∷ codes "3,4" ∷ codes "--limit" ∷ codes "200" ∷ [])
unfolding walked walk_passes walk_fault defaults_fault
set-and-limit = record { taken = refl; faultless = refl; listed = refl; doubled = refl }

number-and-set : Double (codes "run" ∷ codes "--fail=2" ∷ codes "--set=3,4" ∷ [])
unfolding walked walk_passes walk_fault defaults_fault
number-and-set = record { taken = refl; faultless = refl; listed = refl; doubled = refl }

rate-and-set : Double (codes "run" ∷ codes "--every" ∷ codes "0" ∷ codes "--set" ∷ codes "3" ∷ [])
unfolding walked walk_passes walk_fault defaults_fault
rate-and-set = record { taken = refl; faultless = refl; listed = refl; doubled = refl }

set-and-pair : Double (codes "run" ∷ codes "--fail" ∷ codes "1" ∷ codes "--also" ∷ codes "2" ∷ codes "--set" ∷ codes "3" ∷ [])
unfolding walked walk_passes walk_fault defaults_fault
set-and-pair = record { taken = refl; faultless = refl; listed = refl; doubled = refl }

set-and-limit-and-disorder : Double (codes "run" ∷ codes "--limit=5" ∷ codes "--set=3" ∷ codes "--also=4" ∷ [])
unfolding walked walk_passes walk_fault defaults_fault
set-and-limit-and-disorder = record { taken = refl; faultless = refl; listed = refl; doubled = refl }

set-and-number-and-a-bad-shape : Double (codes "run" ∷ codes "--set=3" ∷ codes "--fail=3" ∷ codes "--min=17" ∷ [])
unfolding walked walk_passes walk_fault defaults_fault
set-and-number-and-a-bad-shape = record { taken = refl; faultless = refl; listed = refl; doubled = refl }

-- ---- words that give a set and a second number

set-and-second-number : Disorder (codes "run" ∷ codes "--set" ∷ codes "3,4" ∷ codes "--also" ∷ codes "5" ∷ [])
unfolding walked walk_passes walk_fault defaults_fault
set-and-second-number = record { taken = refl; faultless = refl; listed = refl; one_rule = refl; disordered = refl }

second-number-and-set-and-a-bad-shape : Disorder (codes "run" ∷ codes "--also=5" ∷ codes "--set=3" ∷ codes "--step=17" ∷ [])
unfolding walked walk_passes walk_fault defaults_fault
second-number-and-set-and-a-bad-shape = record { taken = refl; faultless = refl; listed = refl; one_rule = refl; disordered = refl }

-- ---- words that are refused

set-without-its-list : Fail (codes "run" ∷ codes "--set" ∷ []) (InvalidValue ∷ [])
unfolding walked walk_passes walk_fault defaults_fault flags_fault flags_pass bundle_met chars
set-without-its-list = record { refused = refl; fault = refl }

set-twice : Fail (codes "run" ∷ codes "--set" ∷ codes "3" ∷ codes "--set" ∷ codes "4" ∷ []) (ArgumentConflict ∷ [])
unfolding walked walk_passes walk_fault defaults_fault flags_fault flags_pass bundle_met chars
set-twice = record { refused = refl; fault = refl }

set-of-a-sweep : Fail (codes "sweep" ∷ codes "--set" ∷ codes "3,4" ∷ []) (UnknownArgument ∷ [])
unfolding walked walk_passes walk_fault defaults_fault flags_fault flags_pass bundle_met chars
set-of-a-sweep = record { refused = refl; fault = refl }

set-of-a-check : Fail (codes "check" ∷ codes "--set=3" ∷ []) (UnknownArgument ∷ [])
unfolding walked walk_passes walk_fault defaults_fault flags_fault flags_pass bundle_met chars
set-of-a-check = record { refused = refl; fault = refl }

set-of-a-size : Fail (codes "size" ∷ codes "--set=3" ∷ []) (UnknownArgument ∷ [])
unfolding walked walk_passes walk_fault defaults_fault flags_fault flags_pass bundle_met chars
set-of-a-size = record { refused = refl; fault = refl }

set-of-lengths : Fail (codes "lengths" ∷ codes "--set" ∷ codes "3" ∷ []) (UnknownArgument ∷ [])
unfolding walked walk_passes walk_fault defaults_fault flags_fault flags_pass bundle_met chars
set-of-lengths = record { refused = refl; fault = refl }
