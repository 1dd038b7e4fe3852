-- Faults of words, by computing.
use Rattle.std.proofs.Common.{◌≡◌, ◌≢◌, inl, inr, [], ◌∷◌, None, refl, sym, ◌∙◌, subst}
use Rattle.std.specs.Str.{chars}
use Rattle.clap.specs.Words.{IsAmong}
use Rattle.clap.specs.Faults.{defaults_fault, fault_of, flags_fault, walk_fault}
use Rattle.clap.specs.Takes.{flags_pass, walk_passes}
use Rattle.clap.specs.Walk.{bundle_met, walked}
use Rattle.clap.specs.declared.error.kind.ErrorKind.{ErrorKind}
use Rattle.clap.specs.declared.error.kind.ErrorKind.TheVariants.{OutOfMemory, UnknownArgument}
use Rattle.wb_runs.specs.declared.failures.Failures.TheVariants.{Single}
use Rattle.wb_heap_model.specs.declared.heap.Rule.TheVariants.{Unlimited}
use Rattle.wb_command_line.specs.CommandLine.{command_line}
use Rattle.wb_command_line.specs.Fault.{IsMislisted}
use Rattle.wb_command_line.specs.Spelled.{IsSpelledBy}
use Rattle.wb_command_line.specs.declared.command.Command.{Command}
use Rattle.wb_command_line.specs.declared.command.Search.TheVariants.{Least}
use Rattle.wb_command_line.specs.declared.command.Task.TheVariants.{Run, Sweep}
use Rattle.wb_command_line.proofs.WorkedWords.{command_with, run_with}
use Rattle.wb_worked_words.specs.WorkedFaults.{no_list, no_multiple, reversed, unknown_option, NoList, NoMultiple, Reversed, SecondAlone, TwoRules, UnknownOption}

not-of-memory : (kind : ErrorKind) → kind ≡ UnknownArgument → kind ≢ OutOfMemory
not-of-memory kind is same = let clash : ◌≡◌ {A = ErrorKind} UnknownArgument OutOfMemory = sym is ∙ same in cc

their-fault : fault_of command_line unknown_option ≡ UnknownArgument ∷ []
unfolding walked walk_passes walk_fault defaults_fault flags_fault flags_pass bundle_met chars
their-fault = refl

pub unknown-option : UnknownOption
unknown-option error is = inl (not-of-memory error.kind is, subst (IsAmong error.kind) (sym their-fault) (inl is))

they-list-nothing : IsMislisted no_list
unfolding walked walk_passes walk_fault defaults_fault
they-list-nothing = record { faultless = refl; mislisted = refl }

pub is-no-list : NoList
is-no-list error is = inr (is, they-list-nothing)

pub two-rules : TwoRules
unfolding walked walk_passes walk_fault defaults_fault
two-rules = record { faultless = refl; listed = refl; doubled = refl }

pub second-alone : SecondAlone
unfolding walked walk_passes walk_fault defaults_fault
second-alone = record { faultless = refl; listed = refl; one_rule = refl; disordered = refl }

abbrev misshapen : Command
misshapen = run_with Unlimited 8 4096 None

spell-misshapen : IsSpelledBy no_multiple misshapen
unfolding walked walk_passes walk_fault defaults_fault
spell-misshapen = record { faultless = refl; listed = refl; one_rule = refl; in_order = refl; meaning = refl }

pub is-no-multiple : NoMultiple
is-no-multiple = record { command = misshapen; spelled = spell-misshapen; misshapen = refl }

abbrev backwards : Command
backwards = command_with (Sweep (Least Single) (record { from = 3; to = 2 })) 10000 4096 4096 None

spell-backwards : IsSpelledBy reversed backwards
unfolding walked walk_passes walk_fault defaults_fault
spell-backwards = record { faultless = refl; listed = refl; one_rule = refl; in_order = refl; meaning = refl }

pub is-reversed : Reversed
is-reversed = record { command = backwards; spelled = spell-backwards; shapely = refl; empty = refl }
