-- What words spell that ask for the steps of a run, computed on worked command lines.
use Rattle.std.proofs.Common.{[], ◌∷◌, Some, None, codes, refl}
use Rattle.std.specs.Str.{chars}
use Rattle.clap.specs.Faults.{defaults_fault, flags_fault, walk_fault}
use Rattle.clap.specs.Takes.{flags_pass, walk_passes}
use Rattle.clap.specs.Walk.{bundle_met, walked}
use Rattle.clap.specs.declared.error.kind.ErrorKind.TheVariants.{ArgumentConflict, InvalidValue, TooManyValues, UnknownArgument, ValueValidation}
use Rattle.wb_heap_model.specs.declared.heap.Rule.TheVariants.{Limit, Number, Unlimited}
use Rattle.wb_command_line.proofs.WorkedWords.{Double, Fail, Spell, run_with}

-- ---- words that spell a command

steps-of-a-run : Spell (codes "run" ∷ codes "--follow" ∷ []) (record (run_with Unlimited 4096 4096 None) { follow = Some 1000 })
unfolding walked walk_passes walk_fault defaults_fault
steps-of-a-run = record { taken = refl; faultless = refl; one_rule = refl; in_order = refl; listed = refl; meaning = refl }

five-steps-of-a-file : Spell (codes "run" ∷ codes "--follow-steps" ∷ codes "5" ∷ codes "a.oom" ∷ codes "--follow" ∷ []) (record (run_with Unlimited 4096 4096 (Some (codes "a.oom"))) { follow = Some 5 })
unfolding walked walk_passes walk_fault defaults_fault
five-steps-of-a-file = record { taken = refl; faultless = refl; one_rule = refl; in_order = refl; listed = refl; meaning = refl }

most-steps-under-a-limit : Spell (codes "run" ∷ codes "--follow" ∷ codes "--limit=300" ∷ codes "--follow-steps=1000000" ∷ []) (record (run_with (Limit 300) 4096 4096 None) { follow = Some 1000000 })
unfolding walked walk_passes walk_fault defaults_fault
most-steps-under-a-limit = record { taken = refl; faultless = refl; one_rule = refl; in_order = refl; listed = refl; meaning = refl }

least-steps-of-a-number : Spell (codes "run" ∷ codes "--follow" ∷ codes "--follow-steps=1" ∷ codes "--fail=3" ∷ []) (record (run_with (Number 3) 4096 4096 None) { follow = Some 1 })
unfolding walked walk_passes walk_fault defaults_fault
least-steps-of-a-number = record { taken = refl; faultless = refl; one_rule = refl; in_order = refl; listed = refl; meaning = refl }

number-of-steps-alone : Spell (codes "run" ∷ codes "--follow-steps=7" ∷ []) (run_with Unlimited 4096 4096 None)
unfolding walked walk_passes walk_fault defaults_fault
number-of-steps-alone = record { taken = refl; faultless = refl; one_rule = refl; in_order = refl; listed = refl; meaning = refl }

around-an-attempt : Spell (codes "run" ∷ codes "--follow-around" ∷ codes "3" ∷ codes "a.oom" ∷ []) (record (run_with Unlimited 4096 4096 (Some (codes "a.oom"))) { follow = Some 1000; around = Some 3 })
unfolding walked walk_passes walk_fault defaults_fault
around-an-attempt = record { taken = refl; faultless = refl; one_rule = refl; in_order = refl; listed = refl; meaning = refl }

few-steps-around-an-attempt : Spell (codes "run" ∷ codes "--follow-around=16777216" ∷ codes "--follow-steps" ∷ codes "5" ∷ codes "--follow" ∷ []) (record (run_with Unlimited 4096 4096 None) { follow = Some 5; around = Some 16777216 })
unfolding walked walk_passes walk_fault defaults_fault
few-steps-around-an-attempt = record { taken = refl; faultless = refl; one_rule = refl; in_order = refl; listed = refl; meaning = refl }

flag-as-a-file : Spell (codes "run" ∷ codes "--" ∷ codes "--follow" ∷ []) (run_with Unlimited 4096 4096 (Some (codes "--follow")))
unfolding walked walk_passes walk_fault defaults_fault
flag-as-a-file = record { taken = refl; faultless = refl; one_rule = refl; in_order = refl; listed = refl; meaning = refl }

-- ---- words that give more than one of a limit, a number and a rate

steps-of-two-rules : Double (codes "run" ∷ codes "--follow" ∷ codes "--limit=9" ∷ codes "--every=4" ∷ [])
unfolding walked walk_passes walk_fault defaults_fault
steps-of-two-rules = record { taken = refl; faultless = refl; listed = refl; doubled = refl }

-- ---- words that are refused

no-steps : Fail (codes "run" ∷ codes "--follow-steps" ∷ codes "0" ∷ codes "--follow" ∷ []) (ValueValidation ∷ [])
unfolding walked walk_passes walk_fault defaults_fault flags_fault flags_pass bundle_met chars
no-steps = record { refused = refl; fault = refl }

past-the-most-steps : Fail (codes "run" ∷ codes "--follow-steps=1000001" ∷ []) (ValueValidation ∷ [])
unfolding walked walk_passes walk_fault defaults_fault flags_fault flags_pass bundle_met chars
past-the-most-steps = record { refused = refl; fault = refl }

steps-without-their-number : Fail (codes "run" ∷ codes "--follow" ∷ codes "--follow-steps" ∷ []) (InvalidValue ∷ [])
unfolding walked walk_passes walk_fault defaults_fault flags_fault flags_pass bundle_met chars
steps-without-their-number = record { refused = refl; fault = refl }

flag-with-a-value : Fail (codes "run" ∷ codes "--follow=3" ∷ []) (TooManyValues ∷ [])
unfolding walked walk_passes walk_fault defaults_fault flags_fault flags_pass bundle_met chars
flag-with-a-value = record { refused = refl; fault = refl }

flag-twice : Fail (codes "run" ∷ codes "--follow" ∷ codes "--follow" ∷ []) (ArgumentConflict ∷ [])
unfolding walked walk_passes walk_fault defaults_fault flags_fault flags_pass bundle_met chars
flag-twice = record { refused = refl; fault = refl }

steps-of-a-check : Fail (codes "check" ∷ codes "--follow" ∷ []) (UnknownArgument ∷ [])
unfolding walked walk_passes walk_fault defaults_fault flags_fault flags_pass bundle_met chars
steps-of-a-check = record { refused = refl; fault = refl }

steps-of-a-size : Fail (codes "size" ∷ codes "--follow" ∷ []) (UnknownArgument ∷ [])
unfolding walked walk_passes walk_fault defaults_fault flags_fault flags_pass bundle_met chars
steps-of-a-size = record { refused = refl; fault = refl }

number-of-steps-of-a-sweep : Fail (codes "sweep" ∷ codes "--follow-steps=3" ∷ []) (UnknownArgument ∷ [])
unfolding walked walk_passes walk_fault defaults_fault flags_fault flags_pass bundle_met chars
number-of-steps-of-a-sweep = record { refused = refl; fault = refl }

around-no-attempt : Fail (codes "run" ∷ codes "--follow-around=0" ∷ []) (ValueValidation ∷ [])
unfolding walked walk_passes walk_fault defaults_fault flags_fault flags_pass bundle_met chars
around-no-attempt = record { refused = refl; fault = refl }

past-the-last-attempt : Fail (codes "run" ∷ codes "--follow-around=16777217" ∷ []) (ValueValidation ∷ [])
unfolding walked walk_passes walk_fault defaults_fault flags_fault flags_pass bundle_met chars
past-the-last-attempt = record { refused = refl; fault = refl }

around-two-attempts : Fail (codes "run" ∷ codes "--follow-around=3" ∷ codes "--follow-around=3" ∷ []) (ArgumentConflict ∷ [])
unfolding walked walk_passes walk_fault defaults_fault flags_fault flags_pass bundle_met chars
around-two-attempts = record { refused = refl; fault = refl }

around-an-attempt-of-a-check : Fail (codes "check" ∷ codes "--follow-around=3" ∷ []) (UnknownArgument ∷ [])
unfolding walked walk_passes walk_fault defaults_fault flags_fault flags_pass bundle_met chars
around-an-attempt-of-a-check = record { refused = refl; fault = refl }
