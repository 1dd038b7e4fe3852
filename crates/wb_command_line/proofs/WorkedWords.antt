-- What words with options spell, computed on worked command lines.
use Rattle.std.proofs.Common.{◌≡◌, ℕ, true, false, List, [], ◌∷◌, Option, Some, None, codes, refl}
use Rattle.std.specs.Str.{chars}
use Rattle.clap.specs.Faults.{defaults_fault, fault_of, flags_fault, walk_fault}
use Rattle.clap.specs.Kinds.{Kinds}
use Rattle.clap.specs.Takes.{flags_pass, takes, walk_passes}
use Rattle.clap.specs.Walk.{Text, bundle_met, walked}
use Rattle.clap.specs.declared.error.kind.ErrorKind.TheVariants.{ArgumentConflict, InvalidValue, TooManyValues, UnknownArgument, ValueValidation}
use Rattle.wb_runs.specs.declared.failures.Failures.TheVariants.{Single}
use Rattle.wb_runs.specs.declared.failures.Failures.TheVariants as failures
use Rattle.wb_heap_model.specs.declared.heap.Rule.{Rule}
use Rattle.wb_heap_model.specs.declared.heap.Rule.TheVariants.{Every, Limit, Number, Unlimited}
use Rattle.wb_command_line.specs.CommandLine.{command_line}
use Rattle.wb_command_line.specs.Spelled.{spell_both, spell_disorder, spell_no_list, spelled, whole}
use Rattle.wb_command_line.specs.declared.command.Command.{Command}
use Rattle.wb_command_line.specs.declared.command.Task.{Task}
use Rattle.wb_command_line.specs.declared.command.Search.TheVariants.{Least}
use Rattle.wb_command_line.specs.declared.command.Task.TheVariants.{Run, Size, Lengths, Sweep, Check}

-- the words after the program's name
abbrev pub all_words : List Text → List Text
all_words words = codes "workbench" ∷ words

abbrev pub command_with : Task → ℕ → ℕ → ℕ → Option Text → Command
command_with task budget min step file = record { task = task; file = file; budget = budget; shape = record { min = min; step = step; moving = false }; json = false; quiet = false; brief = false; picture = None; sarif = None; follow = None; around = None }

abbrev pub run_with : Rule → ℕ → ℕ → Option Text → Command
run_with rule = command_with (Run rule) 10000

-- clap takes the words, and they spell the command
pub record Spell (words : List Text) (command : Command) : Type 0 where
  pub taken : takes command_line (all_words words) ≡ true
  pub faultless : fault_of command_line (all_words words) ≡ []
  pub listed : spell_no_list (all_words words) ≡ false
  pub one_rule : spell_both (all_words words) ≡ false
  pub in_order : spell_disorder (all_words words) ≡ false
  pub meaning : spelled (all_words words) ≡ Some command

-- clap takes them, but the text of a set that they give is no list
pub record Mislist (words : List Text) : Type 0 where
  pub taken : takes command_line (all_words words) ≡ true
  pub faultless : fault_of command_line (all_words words) ≡ []
  pub mislisted : spell_no_list (all_words words) ≡ true

-- clap takes them, but they give more than one of a limit, a number, a rate and a set, or flags that don't go together
pub record Double (words : List Text) : Type 0 where
  pub taken : takes command_line (all_words words) ≡ true
  pub faultless : fault_of command_line (all_words words) ≡ []
  pub listed : spell_no_list (all_words words) ≡ false
  pub doubled : spell_both (all_words words) ≡ true

-- clap takes them, and they don't do that, but they give a second number that doesn't come after a first
pub record Disorder (words : List Text) : Type 0 where
  pub taken : takes command_line (all_words words) ≡ true
  pub faultless : fault_of command_line (all_words words) ≡ []
  pub listed : spell_no_list (all_words words) ≡ false
  pub one_rule : spell_both (all_words words) ≡ false
  pub disordered : spell_disorder (all_words words) ≡ true

-- clap refuses them, by an error of this kind
pub record Fail (words : List Text) (kinds : Kinds) : Type 0 where
  pub refused : takes command_line (all_words words) ≡ false
  pub fault : fault_of command_line (all_words words) ≡ kinds

-- ---- words that spell a command

limit-apart : Spell (codes "run" ∷ codes "--limit" ∷ codes "303" ∷ []) (run_with (Limit 303) 4096 4096 None)
unfolding walked walk_passes walk_fault defaults_fault
limit-apart = record { taken = refl; faultless = refl; listed = refl; one_rule = refl; in_order = refl; meaning = refl }

limit-attached : Spell (codes "run" ∷ codes "--limit=0" ∷ []) (run_with (Limit 0) 4096 4096 None)
unfolding walked walk_passes walk_fault defaults_fault
limit-attached = record { taken = refl; faultless = refl; listed = refl; one_rule = refl; in_order = refl; meaning = refl }

greatest-limit : Spell (codes "run" ∷ codes "--limit" ∷ codes "16777216" ∷ []) (run_with (Limit 16777216) 4096 4096 None)
unfolding walked walk_passes walk_fault defaults_fault
greatest-limit = record { taken = refl; faultless = refl; listed = refl; one_rule = refl; in_order = refl; meaning = refl }

shape : Spell (codes "run" ∷ codes "--min" ∷ codes "256" ∷ codes "--step" ∷ codes "64" ∷ []) (run_with Unlimited 256 64 None)
unfolding walked walk_passes walk_fault defaults_fault
shape = record { taken = refl; faultless = refl; listed = refl; one_rule = refl; in_order = refl; meaning = refl }

shape-backwards : Spell (codes "run" ∷ codes "--step=16" ∷ codes "--min=0" ∷ []) (run_with Unlimited 0 16 None)
unfolding walked walk_passes walk_fault defaults_fault
shape-backwards = record { taken = refl; faultless = refl; listed = refl; one_rule = refl; in_order = refl; meaning = refl }

around-a-file : Spell (codes "run" ∷ codes "--min" ∷ codes "32" ∷ codes "a.oom" ∷ codes "--limit=190" ∷ codes "--step" ∷ codes "16" ∷ []) (run_with (Limit 190) 32 16 (Some (codes "a.oom")))
unfolding walked walk_passes walk_fault defaults_fault
around-a-file = record { taken = refl; faultless = refl; listed = refl; one_rule = refl; in_order = refl; meaning = refl }

before-dashes : Spell (codes "run" ∷ codes "--step" ∷ codes "1048576" ∷ codes "--" ∷ codes "--limit" ∷ []) (run_with Unlimited 4096 1048576 (Some (codes "--limit")))
unfolding walked walk_passes walk_fault defaults_fault
before-dashes = record { taken = refl; faultless = refl; listed = refl; one_rule = refl; in_order = refl; meaning = refl }

plus-and-zeros : Spell (codes "run" ∷ codes "--limit" ∷ codes "+5" ∷ codes "--min" ∷ codes "0032" ∷ []) (run_with (Limit 5) 32 4096 None)
unfolding walked walk_passes walk_fault defaults_fault
plus-and-zeros = record { taken = refl; faultless = refl; listed = refl; one_rule = refl; in_order = refl; meaning = refl }

no-multiple-of-16 : Spell (codes "run" ∷ codes "--min" ∷ codes "8" ∷ []) (run_with Unlimited 8 4096 None)
unfolding walked walk_passes walk_fault defaults_fault
no-multiple-of-16 = record { taken = refl; faultless = refl; listed = refl; one_rule = refl; in_order = refl; meaning = refl }

number-apart : Spell (codes "run" ∷ codes "--fail" ∷ codes "5" ∷ []) (run_with (Number 5) 4096 4096 None)
unfolding walked walk_passes walk_fault defaults_fault
number-apart = record { taken = refl; faultless = refl; listed = refl; one_rule = refl; in_order = refl; meaning = refl }

number-zero : Spell (codes "run" ∷ codes "--fail" ∷ codes "0" ∷ []) (run_with (Number 0) 4096 4096 None)
unfolding walked walk_passes walk_fault defaults_fault
number-zero = record { taken = refl; faultless = refl; listed = refl; one_rule = refl; in_order = refl; meaning = refl }

greatest-number : Spell (codes "run" ∷ codes "--fail=16777216" ∷ []) (run_with (Number 16777216) 4096 4096 None)
unfolding walked walk_passes walk_fault defaults_fault
greatest-number = record { taken = refl; faultless = refl; listed = refl; one_rule = refl; in_order = refl; meaning = refl }

number-around-a-file : Spell (codes "run" ∷ codes "--step=32" ∷ codes "a.oom" ∷ codes "--fail" ∷ codes "2" ∷ codes "--min" ∷ codes "0" ∷ []) (run_with (Number 2) 0 32 (Some (codes "a.oom")))
unfolding walked walk_passes walk_fault defaults_fault
number-around-a-file = record { taken = refl; faultless = refl; listed = refl; one_rule = refl; in_order = refl; meaning = refl }

least-budget : Spell (codes "run" ∷ codes "--budget" ∷ codes "1" ∷ codes "--fail=2" ∷ []) (command_with (Run (Number 2)) 1 4096 4096 None)
unfolding walked walk_passes walk_fault defaults_fault
least-budget = record { taken = refl; faultless = refl; listed = refl; one_rule = refl; in_order = refl; meaning = refl }

size-with-all : Spell (codes "size" ∷ codes "--step=32" ∷ codes "a.oom" ∷ codes "--budget=1000000" ∷ codes "--min" ∷ codes "0" ∷ []) (command_with Size 1000000 0 32 (Some (codes "a.oom")))
unfolding walked walk_passes walk_fault defaults_fault
size-with-all = record { taken = refl; faultless = refl; listed = refl; one_rule = refl; in_order = refl; meaning = refl }

lengths-alone : Spell (codes "lengths" ∷ []) (command_with Lengths 10000 4096 4096 None)
unfolding walked walk_passes walk_fault defaults_fault
lengths-alone = record { taken = refl; faultless = refl; listed = refl; one_rule = refl; in_order = refl; meaning = refl }

lengths-with-all : Spell (codes "lengths" ∷ codes "--step=32" ∷ codes "--json" ∷ codes "a.oom" ∷ codes "--budget=1000000" ∷ codes "--picture" ∷ codes "a.svg" ∷ codes "--min" ∷ codes "0" ∷ [])
    (record (command_with Lengths 1000000 0 32 (Some (codes "a.oom"))) { json = true; picture = Some (codes "a.svg") })
unfolding walked walk_passes walk_fault defaults_fault
lengths-with-all = record { taken = refl; faultless = refl; listed = refl; one_rule = refl; in_order = refl; meaning = refl }

sweep-with-a-budget : Spell (codes "sweep" ∷ codes "--budget" ∷ codes "+0500" ∷ []) (command_with (Sweep (Least Single) whole) 500 4096 4096 None)
unfolding walked walk_passes walk_fault defaults_fault
sweep-with-a-budget = record { taken = refl; faultless = refl; listed = refl; one_rule = refl; in_order = refl; meaning = refl }

check-with-a-shape : Spell (codes "check" ∷ codes "--min=256" ∷ codes "--step" ∷ codes "64" ∷ codes "--" ∷ codes "check" ∷ []) (command_with (Check (Least Single)) 10000 256 64 (Some (codes "check")))
unfolding walked walk_passes walk_fault defaults_fault
check-with-a-shape = record { taken = refl; faultless = refl; listed = refl; one_rule = refl; in_order = refl; meaning = refl }

json-alone : Spell (codes "check" ∷ codes "--json" ∷ []) (record (command_with (Check (Least Single)) 10000 4096 4096 None) { json = true })
unfolding walked walk_passes walk_fault defaults_fault
json-alone = record { taken = refl; faultless = refl; listed = refl; one_rule = refl; in_order = refl; meaning = refl }

json-following-a-file : Spell (codes "run" ∷ codes "--limit=5" ∷ codes "a.oom" ∷ codes "--json" ∷ []) (record (run_with (Limit 5) 4096 4096 (Some (codes "a.oom"))) { json = true })
unfolding walked walk_passes walk_fault defaults_fault
json-following-a-file = record { taken = refl; faultless = refl; listed = refl; one_rule = refl; in_order = refl; meaning = refl }

json-as-a-file : Spell (codes "size" ∷ codes "--" ∷ codes "--json" ∷ []) (command_with Size 10000 4096 4096 (Some (codes "--json")))
unfolding walked walk_passes walk_fault defaults_fault
json-as-a-file = record { taken = refl; faultless = refl; listed = refl; one_rule = refl; in_order = refl; meaning = refl }

picture-alone : Spell (codes "check" ∷ codes "--picture" ∷ codes "a.svg" ∷ []) (record (command_with (Check (Least Single)) 10000 4096 4096 None) { picture = Some (codes "a.svg") })
unfolding walked walk_passes walk_fault defaults_fault
picture-alone = record { taken = refl; faultless = refl; listed = refl; one_rule = refl; in_order = refl; meaning = refl }

picture-of-a-file : Spell (codes "run" ∷ codes "--picture=a.svg" ∷ codes "--fail=5" ∷ codes "a.oom" ∷ []) (record (run_with (Number 5) 4096 4096 (Some (codes "a.oom"))) { picture = Some (codes "a.svg") })
unfolding walked walk_passes walk_fault defaults_fault
picture-of-a-file = record { taken = refl; faultless = refl; listed = refl; one_rule = refl; in_order = refl; meaning = refl }

picture-as-a-file : Spell (codes "size" ∷ codes "--" ∷ codes "--picture" ∷ []) (command_with Size 10000 4096 4096 (Some (codes "--picture")))
unfolding walked walk_passes walk_fault defaults_fault
picture-as-a-file = record { taken = refl; faultless = refl; listed = refl; one_rule = refl; in_order = refl; meaning = refl }

rate-apart : Spell (codes "run" ∷ codes "--every" ∷ codes "3" ∷ []) (run_with (Every 3) 4096 4096 None)
unfolding walked walk_passes walk_fault defaults_fault
rate-apart = record { taken = refl; faultless = refl; listed = refl; one_rule = refl; in_order = refl; meaning = refl }

rate-zero : Spell (codes "run" ∷ codes "--every=0" ∷ []) (run_with (Every 0) 4096 4096 None)
unfolding walked walk_passes walk_fault defaults_fault
rate-zero = record { taken = refl; faultless = refl; listed = refl; one_rule = refl; in_order = refl; meaning = refl }

greatest-rate : Spell (codes "run" ∷ codes "--every" ∷ codes "16777216" ∷ []) (run_with (Every 16777216) 4096 4096 None)
unfolding walked walk_passes walk_fault defaults_fault
greatest-rate = record { taken = refl; faultless = refl; listed = refl; one_rule = refl; in_order = refl; meaning = refl }

rate-around-a-file : Spell (codes "run" ∷ codes "--step=32" ∷ codes "a.oom" ∷ codes "--every" ∷ codes "2" ∷ codes "--min" ∷ codes "0" ∷ []) (run_with (Every 2) 0 32 (Some (codes "a.oom")))
unfolding walked walk_passes walk_fault defaults_fault
rate-around-a-file = record { taken = refl; faultless = refl; listed = refl; one_rule = refl; in_order = refl; meaning = refl }

sweep-of-one-attempt : Spell (codes "sweep" ∷ []) (command_with (Sweep (Least Single) whole) 10000 4096 4096 None)
unfolding walked walk_passes walk_fault defaults_fault
sweep-of-one-attempt = record { taken = refl; faultless = refl; listed = refl; one_rule = refl; in_order = refl; meaning = refl }

check-of-one-attempt : Spell (codes "check" ∷ []) (command_with (Check (Least Single)) 10000 4096 4096 None)
unfolding walked walk_passes walk_fault defaults_fault
check-of-one-attempt = record { taken = refl; faultless = refl; listed = refl; one_rule = refl; in_order = refl; meaning = refl }

sweep-of-rates : Spell (codes "sweep" ∷ codes "--every" ∷ []) (command_with (Sweep (Least failures.Every) whole) 10000 4096 4096 None)
unfolding walked walk_passes walk_fault defaults_fault
sweep-of-rates = record { taken = refl; faultless = refl; listed = refl; one_rule = refl; in_order = refl; meaning = refl }

check-of-rates : Spell (codes "check" ∷ codes "--every" ∷ []) (command_with (Check (Least failures.Every)) 10000 4096 4096 None)
unfolding walked walk_passes walk_fault defaults_fault
check-of-rates = record { taken = refl; faultless = refl; listed = refl; one_rule = refl; in_order = refl; meaning = refl }

sweep-of-rates-on-a-file : Spell (codes "sweep" ∷ codes "--every" ∷ codes "3" ∷ []) (command_with (Sweep (Least failures.Every) whole) 10000 4096 4096 (Some (codes "3")))
unfolding walked walk_passes walk_fault defaults_fault
sweep-of-rates-on-a-file = record { taken = refl; faultless = refl; listed = refl; one_rule = refl; in_order = refl; meaning = refl }

check-of-rates-with-all : Spell (codes "check" ∷ codes "--budget=500" ∷ codes "a.oom" ∷ codes "--every" ∷ codes "--min" ∷ codes "0" ∷ codes "--step=32" ∷ []) (command_with (Check (Least failures.Every)) 500 0 32 (Some (codes "a.oom")))
unfolding walked walk_passes walk_fault defaults_fault
check-of-rates-with-all = record { taken = refl; faultless = refl; listed = refl; one_rule = refl; in_order = refl; meaning = refl }

rates-as-a-file : Spell (codes "sweep" ∷ codes "--" ∷ codes "--every" ∷ []) (command_with (Sweep (Least Single) whole) 10000 4096 4096 (Some (codes "--every")))
unfolding walked walk_passes walk_fault defaults_fault
rates-as-a-file = record { taken = refl; faultless = refl; listed = refl; one_rule = refl; in_order = refl; meaning = refl }

-- ---- words that give more than one of a limit, a number and a rate

limit-and-number : Double (codes "run" ∷ codes "--limit" ∷ codes "5" ∷ codes "--fail" ∷ codes "5" ∷ [])
unfolding walked walk_passes walk_fault defaults_fault
limit-and-number = record { taken = refl; faultless = refl; listed = refl; doubled = refl }

number-and-limit : Double (codes "run" ∷ codes "--fail=0" ∷ codes "a.oom" ∷ codes "--limit=0" ∷ [])
unfolding walked walk_passes walk_fault defaults_fault
number-and-limit = record { taken = refl; faultless = refl; listed = refl; doubled = refl }

both-and-a-bad-shape : Double (codes "run" ∷ codes "--min" ∷ codes "8" ∷ codes "--fail" ∷ codes "1" ∷ codes "--step=17" ∷ codes "--limit" ∷ codes "303" ∷ [])
unfolding walked walk_passes walk_fault defaults_fault
both-and-a-bad-shape = record { taken = refl; faultless = refl; listed = refl; doubled = refl }

limit-and-rate : Double (codes "run" ∷ codes "--limit" ∷ codes "1" ∷ codes "--every" ∷ codes "3" ∷ [])
unfolding walked walk_passes walk_fault defaults_fault
limit-and-rate = record { taken = refl; faultless = refl; listed = refl; doubled = refl }

rate-and-limit : Double (codes "run" ∷ codes "--every=5" ∷ codes "a.oom" ∷ codes "--limit=5" ∷ [])
unfolding walked walk_passes walk_fault defaults_fault
rate-and-limit = record { taken = refl; faultless = refl; listed = refl; doubled = refl }

number-and-rate : Double (codes "run" ∷ codes "--fail" ∷ codes "2" ∷ codes "--every" ∷ codes "2" ∷ [])
unfolding walked walk_passes walk_fault defaults_fault
number-and-rate = record { taken = refl; faultless = refl; listed = refl; doubled = refl }

rate-and-number : Double (codes "run" ∷ codes "--every=0" ∷ codes "--fail=0" ∷ [])
unfolding walked walk_passes walk_fault defaults_fault
rate-and-number = record { taken = refl; faultless = refl; listed = refl; doubled = refl }

all-three : Double (codes "run" ∷ codes "--limit" ∷ codes "7" ∷ codes "--fail" ∷ codes "7" ∷ codes "--every" ∷ codes "7" ∷ [])
unfolding walked walk_passes walk_fault defaults_fault
all-three = record { taken = refl; faultless = refl; listed = refl; doubled = refl }

two-rules-and-a-bad-shape : Double (codes "run" ∷ codes "--min" ∷ codes "8" ∷ codes "--every" ∷ codes "1" ∷ codes "--fail=2" ∷ [])
unfolding walked walk_passes walk_fault defaults_fault
two-rules-and-a-bad-shape = record { taken = refl; faultless = refl; listed = refl; doubled = refl }

-- ---- words that are refused

past-the-greatest-limit : Fail (codes "run" ∷ codes "--limit" ∷ codes "16777217" ∷ []) (ValueValidation ∷ [])
unfolding walked walk_passes walk_fault defaults_fault flags_fault flags_pass bundle_met chars
past-the-greatest-limit = record { refused = refl; fault = refl }

past-the-greatest-number : Fail (codes "run" ∷ codes "--fail" ∷ codes "16777217" ∷ []) (ValueValidation ∷ [])
unfolding walked walk_passes walk_fault defaults_fault flags_fault flags_pass bundle_met chars
past-the-greatest-number = record { refused = refl; fault = refl }

past-the-greatest-rate : Fail (codes "run" ∷ codes "--every" ∷ codes "16777217" ∷ []) (ValueValidation ∷ [])
unfolding walked walk_passes walk_fault defaults_fault flags_fault flags_pass bundle_met chars
past-the-greatest-rate = record { refused = refl; fault = refl }

rate-without-its-number : Fail (codes "run" ∷ codes "--every" ∷ []) (InvalidValue ∷ [])
unfolding walked walk_passes walk_fault defaults_fault flags_fault flags_pass bundle_met chars
rate-without-its-number = record { refused = refl; fault = refl }

rate-twice : Fail (codes "run" ∷ codes "--every" ∷ codes "1" ∷ codes "--every" ∷ codes "1" ∷ []) (ArgumentConflict ∷ [])
unfolding walked walk_passes walk_fault defaults_fault flags_fault flags_pass bundle_met chars
rate-twice = record { refused = refl; fault = refl }

rate-below-zero : Fail (codes "run" ∷ codes "--every=-1" ∷ []) (ValueValidation ∷ [])
unfolding walked walk_passes walk_fault defaults_fault flags_fault flags_pass bundle_met chars
rate-below-zero = record { refused = refl; fault = refl }

limit-and-a-rate-out-of-range : Fail (codes "run" ∷ codes "--limit" ∷ codes "5" ∷ codes "--every=16777217" ∷ []) (ValueValidation ∷ [])
unfolding walked walk_passes walk_fault defaults_fault flags_fault flags_pass bundle_met chars
limit-and-a-rate-out-of-range = record { refused = refl; fault = refl }

both-and-one-out-of-range : Fail (codes "run" ∷ codes "--limit" ∷ codes "5" ∷ codes "--fail" ∷ codes "16777217" ∷ []) (ValueValidation ∷ [])
unfolding walked walk_passes walk_fault defaults_fault flags_fault flags_pass bundle_met chars
both-and-one-out-of-range = record { refused = refl; fault = refl }

number-twice : Fail (codes "run" ∷ codes "--fail" ∷ codes "1" ∷ codes "--fail" ∷ codes "2" ∷ []) (ArgumentConflict ∷ [])
unfolding walked walk_passes walk_fault defaults_fault flags_fault flags_pass bundle_met chars
number-twice = record { refused = refl; fault = refl }

below-the-least-step : Fail (codes "run" ∷ codes "--step=15" ∷ []) (ValueValidation ∷ [])
unfolding walked walk_passes walk_fault defaults_fault flags_fault flags_pass bundle_met chars
below-the-least-step = record { refused = refl; fault = refl }

no-number : Fail (codes "run" ∷ codes "--min" ∷ codes "many" ∷ []) (ValueValidation ∷ [])
unfolding walked walk_passes walk_fault defaults_fault flags_fault flags_pass bundle_met chars
no-number = record { refused = refl; fault = refl }

twice : Fail (codes "run" ∷ codes "--limit" ∷ codes "5" ∷ codes "a.oom" ∷ codes "--limit" ∷ codes "5" ∷ []) (ArgumentConflict ∷ [])
unfolding walked walk_passes walk_fault defaults_fault flags_fault flags_pass bundle_met chars
twice = record { refused = refl; fault = refl }

without-a-number : Fail (codes "run" ∷ codes "--min" ∷ codes "--step" ∷ codes "16" ∷ []) (InvalidValue ∷ [])
unfolding walked walk_passes walk_fault defaults_fault flags_fault flags_pass bundle_met chars
without-a-number = record { refused = refl; fault = refl }

at-the-end : Fail (codes "run" ∷ codes "a.oom" ∷ codes "--limit" ∷ []) (InvalidValue ∷ [])
unfolding walked walk_passes walk_fault defaults_fault flags_fault flags_pass bundle_met chars
at-the-end = record { refused = refl; fault = refl }

without-its-number : Fail (codes "run" ∷ codes "--fail" ∷ []) (InvalidValue ∷ [])
unfolding walked walk_passes walk_fault defaults_fault flags_fault flags_pass bundle_met chars
without-its-number = record { refused = refl; fault = refl }

below-zero : Fail (codes "run" ∷ codes "--limit" ∷ codes "-1" ∷ []) (UnknownArgument ∷ [])
unfolding walked walk_passes walk_fault defaults_fault flags_fault flags_pass bundle_met chars
below-zero = record { refused = refl; fault = refl }

before-another-option : Fail (codes "run" ∷ codes "--limit=5" ∷ codes "--other=1" ∷ []) (UnknownArgument ∷ [])
unfolding walked walk_passes walk_fault defaults_fault flags_fault flags_pass bundle_met chars
before-another-option = record { refused = refl; fault = refl }

no-budget : Fail (codes "run" ∷ codes "--budget=0" ∷ []) (ValueValidation ∷ [])
unfolding walked walk_passes walk_fault defaults_fault flags_fault flags_pass bundle_met chars
no-budget = record { refused = refl; fault = refl }

past-the-largest-budget : Fail (codes "check" ∷ codes "--budget" ∷ codes "1000001" ∷ []) (ValueValidation ∷ [])
unfolding walked walk_passes walk_fault defaults_fault flags_fault flags_pass bundle_met chars
past-the-largest-budget = record { refused = refl; fault = refl }

json-twice : Fail (codes "sweep" ∷ codes "--json" ∷ codes "--json" ∷ []) (ArgumentConflict ∷ [])
unfolding walked walk_passes walk_fault defaults_fault flags_fault flags_pass bundle_met chars
json-twice = record { refused = refl; fault = refl }

json-with-a-value : Fail (codes "run" ∷ codes "--json=yes" ∷ []) (TooManyValues ∷ [])
unfolding walked walk_passes walk_fault defaults_fault flags_fault flags_pass bundle_met chars
json-with-a-value = record { refused = refl; fault = refl }

picture-twice : Fail (codes "sweep" ∷ codes "--picture=a.svg" ∷ codes "--picture=b.svg" ∷ []) (ArgumentConflict ∷ [])
unfolding walked walk_passes walk_fault defaults_fault flags_fault flags_pass bundle_met chars
picture-twice = record { refused = refl; fault = refl }

picture-without-its-file : Fail (codes "run" ∷ codes "a.oom" ∷ codes "--picture" ∷ []) (InvalidValue ∷ [])
unfolding walked walk_passes walk_fault defaults_fault flags_fault flags_pass bundle_met chars
picture-without-its-file = record { refused = refl; fault = refl }

rates-with-a-value : Fail (codes "sweep" ∷ codes "--every=3" ∷ []) (TooManyValues ∷ [])
unfolding walked walk_passes walk_fault defaults_fault flags_fault flags_pass bundle_met chars
rates-with-a-value = record { refused = refl; fault = refl }

rates-of-a-check-with-a-value : Fail (codes "check" ∷ codes "--every=3" ∷ []) (TooManyValues ∷ [])
unfolding walked walk_passes walk_fault defaults_fault flags_fault flags_pass bundle_met chars
rates-of-a-check-with-a-value = record { refused = refl; fault = refl }

rates-twice : Fail (codes "check" ∷ codes "--every" ∷ codes "--every" ∷ []) (ArgumentConflict ∷ [])
unfolding walked walk_passes walk_fault defaults_fault flags_fault flags_pass bundle_met chars
rates-twice = record { refused = refl; fault = refl }

rates-by-their-id : Fail (codes "sweep" ∷ codes "--rates" ∷ []) (UnknownArgument ∷ [])
unfolding walked walk_passes walk_fault defaults_fault flags_fault flags_pass bundle_met chars
rates-by-their-id = record { refused = refl; fault = refl }

rates-of-a-run : Fail (codes "run" ∷ codes "--rates" ∷ []) (UnknownArgument ∷ [])
unfolding walked walk_passes walk_fault defaults_fault flags_fault flags_pass bundle_met chars
rates-of-a-run = record { refused = refl; fault = refl }

limit-of-a-size : Fail (codes "size" ∷ codes "--limit" ∷ codes "5" ∷ []) (UnknownArgument ∷ [])
unfolding walked walk_passes walk_fault defaults_fault flags_fault flags_pass bundle_met chars
limit-of-a-size = record { refused = refl; fault = refl }

number-of-a-sweep : Fail (codes "sweep" ∷ codes "--fail=5" ∷ []) (UnknownArgument ∷ [])
unfolding walked walk_passes walk_fault defaults_fault flags_fault flags_pass bundle_met chars
number-of-a-sweep = record { refused = refl; fault = refl }

limit-and-number-of-a-check : Fail (codes "check" ∷ codes "--fail=5" ∷ codes "--limit=5" ∷ []) (UnknownArgument ∷ [])
unfolding walked walk_passes walk_fault defaults_fault flags_fault flags_pass bundle_met chars
limit-and-number-of-a-check = record { refused = refl; fault = refl }

rates-of-a-size : Fail (codes "size" ∷ codes "--every" ∷ []) (UnknownArgument ∷ [])
unfolding walked walk_passes walk_fault defaults_fault flags_fault flags_pass bundle_met chars
rates-of-a-size = record { refused = refl; fault = refl }

rate-of-a-size : Fail (codes "size" ∷ codes "--every=3" ∷ []) (UnknownArgument ∷ [])
unfolding walked walk_passes walk_fault defaults_fault flags_fault flags_pass bundle_met chars
rate-of-a-size = record { refused = refl; fault = refl }

limit-of-lengths : Fail (codes "lengths" ∷ codes "--limit=5" ∷ []) (UnknownArgument ∷ [])
unfolding walked walk_passes walk_fault defaults_fault flags_fault flags_pass bundle_met chars
limit-of-lengths = record { refused = refl; fault = refl }

rates-of-lengths : Fail (codes "lengths" ∷ codes "--every" ∷ []) (UnknownArgument ∷ [])
unfolding walked walk_passes walk_fault defaults_fault flags_fault flags_pass bundle_met chars
rates-of-lengths = record { refused = refl; fault = refl }

pairs-of-lengths : Fail (codes "lengths" ∷ codes "--pairs" ∷ []) (UnknownArgument ∷ [])
unfolding walked walk_passes walk_fault defaults_fault flags_fault flags_pass bundle_met chars
pairs-of-lengths = record { refused = refl; fault = refl }
