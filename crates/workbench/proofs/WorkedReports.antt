-- The definitions of the report, computed on worked runs. Each text is written out by hand, line by line.
use Rattle.std.proofs.Common.{◌≡◌, List, [], ◌∷◌, Some, None, pos, negsuc, codes, refl}
use Rattle.std.specs.Fmt.{digits}
use Rattle.std.specs.Prelude.{map}
use Rattle.serde_json.proofs.OnLiterals.{serde_json_on_literals}
use Rattle.serde_json.specs.Data.{array}
use Rattle.serde_json.specs.View.{items_of}
use Rattle.wb_command_line.specs.declared.command.Search.TheVariants as S
use Rattle.wb_command_line.specs.declared.command.Task.TheVariants as T
use Rattle.wb_runs.specs.declared.failures.Failing.TheVariants as failings
use Rattle.wb_runs.specs.declared.failures.Failures.TheVariants.{Single, Every, Pairs, Persistent}
use Rattle.wb_language.specs.declared.fault.ScriptFault.TheVariants as F
use Rattle.wb_heap_model.specs.declared.heap.Answer.TheVariants.{Granted, Simulated, Refused}
use Rattle.wb_heap_model.specs.declared.heap.Panic.TheVariants.{User, Alloc, Workbench}
use Rattle.wb_heap_model.specs.declared.heap.Rule.TheVariants.{Unlimited}
use Rattle.wb_runs.specs.declared.number_ends.NumberEnd.{NumberEnd}
use Rattle.wb_runs.specs.declared.run_end.RunEnd.TheVariants as ends
use Rattle.wb_heap_model.specs.declared.reported.Note.TheVariants.{Heap, Available, Compress}
use Rattle.wb_meaning.specs.declared.run.Outcome.TheVariants.{Ended, Panicked, NoCleanup, Cut}
use Rattle.wb_meaning.specs.declared.run.RunResult.{RunResult}
use Rattle.wb_meaning.specs.declared.run.Why.TheVariants.{Budget, Ceiling}
use Rattle.workbench.specs.declared.report_values.FailingNumber.TheVariants.{At, Never}
use Rattle.wb_command_line.specs.Spelled.{whole}
use Rattle.workbench.specs.AllReport.{all_text, fine_status, told_line, told_text}
use Rattle.workbench.specs.ReportValues.{all_values, both_values, cut_values, no_values, size_values, sweep_values}
use Rattle.workbench.specs.JsonReport.{json_text, line_string, line_strings, common_members, report_object}
use Rattle.workbench.specs.Report.{fault_line}
use Rattle.workbench.specs.RunText.{run_text, run_status, outcome_text, outcome_status, note_line, attempt_line, leak_line}
use Rattle.workbench.specs.TwoNumbers.{cut_at_line, failing_line, none_line, sweep_text}

-- a cell that is never freed
abbrev forgotten_cell : RunResult
forgotten_cell = record {
  outcome = Ended None (record { number = 2; length = 32; place = 144 } ∷ []);
  trace = record { number = 1; length = 144; place = 0; answer = Granted } ∷ record { number = 2; length = 32; place = 144; answer = Granted } ∷ [];
  lines = [];
  notes = [];
  steps = 1;
}

forgotten_cell-text : run_text forgotten_cell ≡ codes "attempt 1 length 144 place 0 granted\nattempt 2 length 32 place 144 granted\nended\nleaks 1\nleak 2 length 32 place 144\nsteps 1\n"
unfolding digits note_line attempt_line leak_line
forgotten_cell-text = refl

forgotten_cell-status : run_status forgotten_cell ≡ 1
forgotten_cell-status = refl

-- a check that finds a live cell, after prints and notes of every kind
abbrev failed_check : RunResult
failed_check = record {
  outcome = Panicked (Alloc 144);
  trace = record { number = 1; length = 144; place = 0; answer = Granted } ∷ record { number = 2; length = 32; place = 144; answer = Granted } ∷ record { number = 3; length = 1048592; place = 176; answer = Refused } ∷ record { number = 4; length = 48; place = 176; answer = Simulated } ∷ [];
  lines = codes "hello" ∷ [] ∷ codes "-7" ∷ [];
  notes = Heap 2 176 4096 ∷ Available 3920 3920 ∷ Compress 0 ∷ [];
  steps = 10;
}

failed_check-text : run_text failed_check ≡ codes "print hello\nprint \nprint -7\nnote heap 2 176 4096\nnote available 3920 3920\nnote compress 0\nattempt 1 length 144 place 0 granted\nattempt 2 length 32 place 144 granted\nattempt 3 length 1048592 place 176 refused\nattempt 4 length 48 place 176 simulated\npanic ALLOC 00000090\nsteps 10\n"
unfolding digits note_line attempt_line leak_line
failed_check-text = refl

failed_check-status : run_status failed_check ≡ 1
failed_check-status = refl

-- ---- the other ends of a run

left-text : outcome_text (Ended (Some (negsuc 3)) []) ≡ codes "left -4\nleaks 0\n"
unfolding digits note_line attempt_line leak_line
left-text = refl

left_by_zero-text : outcome_text (Ended (Some (pos 0)) []) ≡ codes "left 0\nleaks 0\n"
unfolding digits note_line attempt_line leak_line
left_by_zero-text = refl

user-text : outcome_text (Panicked (User 42)) ≡ codes "panic USER 42\n"
unfolding digits note_line attempt_line leak_line
user-text = refl

workbench-text : outcome_text (Panicked (Workbench 7)) ≡ codes "panic WORKBENCH 7\n"
unfolding digits note_line attempt_line leak_line
workbench-text = refl

lowest_place-text : outcome_text (Panicked (Alloc 0)) ≡ codes "panic ALLOC 00000000\n"
unfolding digits note_line attempt_line leak_line
lowest_place-text = refl

highest_place-text : outcome_text (Panicked (Alloc 4294967295)) ≡ codes "panic ALLOC ffffffff\n"
unfolding digits note_line attempt_line leak_line
highest_place-text = refl

no_cleanup-text : outcome_text NoCleanup ≡ codes "nocleanup\n"
no_cleanup-text = refl

budget-text : outcome_text (Cut Budget) ≡ codes "cut budget\n"
budget-text = refl

ceiling-text : outcome_text (Cut Ceiling) ≡ codes "cut ceiling\n"
ceiling-text = refl

-- a leave is no fault, nor is a run without a cleanup stack; a cut is neither fault nor success
statuses : (outcome_status (Ended (Some (negsuc 3)) []) ≡ 0) × (outcome_status NoCleanup ≡ 0) × (outcome_status (Cut Budget) ≡ 3) × (outcome_status (Cut Ceiling) ≡ 3)
statuses = (refl, refl, refl, refl)

-- ---- refused scripts

too_long-line : fault_line F.TooLong ≡ codes "refused 1\n"
unfolding digits note_line attempt_line leak_line
too_long-line = refl

not_ascii-line : fault_line (F.NotAscii 2) ≡ codes "refused 2 line 2\n"
unfolding digits note_line attempt_line leak_line
not_ascii-line = refl

grammar-line : fault_line (F.Grammar 11) ≡ codes "refused 3 line 11\n"
unfolding digits note_line attempt_line leak_line
grammar-line = refl

unknown_name-line : fault_line (F.UnknownName 65536) ≡ codes "refused 4 line 65536\n"
unfolding digits note_line attempt_line leak_line
unknown_name-line = refl

double_name-line : fault_line (F.DoubleName 1) ≡ codes "refused 5 line 1\n"
unfolding digits note_line attempt_line leak_line
double_name-line = refl

wrong_kind-line : fault_line (F.WrongKind 1) ≡ codes "refused 6 line 1\n"
unfolding digits note_line attempt_line leak_line
wrong_kind-line = refl

may_leave-line : fault_line (F.MayLeave 1) ≡ codes "refused 7 line 1\n"
unfolding digits note_line attempt_line leak_line
may_leave-line = refl

no_main-line : fault_line F.NoMain ≡ codes "refused 8\n"
unfolding digits note_line attempt_line leak_line
no_main-line = refl

too_many-line : fault_line (F.TooMany 1) ≡ codes "refused 9 line 1\n"
unfolding digits note_line attempt_line leak_line
too_many-line = refl

-- ---- what a sweep found

-- over numbers and over rates, where a cell is never freed without any failure
number-text : sweep_text (none_line Single) (record { attempts = 2; found = Some (record { at = failings.Number 0; result = forgotten_cell }) })
    ≡ codes "attempts 2\nnumber 0\nattempt 1 length 144 place 0 granted\nattempt 2 length 32 place 144 granted\nended\nleaks 1\nleak 2 length 32 place 144\nsteps 1\n"
unfolding digits note_line attempt_line leak_line
number-text = refl

every-text : sweep_text (none_line Every) (record { attempts = 2; found = Some (record { at = failings.Every 0; result = forgotten_cell }) })
    ≡ codes "attempts 2\nevery 0\nattempt 1 length 144 place 0 granted\nattempt 2 length 32 place 144 granted\nended\nleaks 1\nleak 2 length 32 place 144\nsteps 1\n"
unfolding digits note_line attempt_line leak_line
every-text = refl

failing-lines : (failing_line (failings.Number 12) ≡ codes "number 12\n") × (failing_line (failings.Every 12) ≡ codes "every 12\n") × (failing_line (failings.Pair 7 12) ≡ codes "pair 7 12\n") × (failing_line (failings.From 12) ≡ codes "persistent 12\n")
unfolding digits note_line attempt_line leak_line
failing-lines = (refl, refl, refl, refl)

cut-lines : (cut_at_line (failings.Every 12) Budget ≡ codes "cut 12 budget\n") × (cut_at_line (failings.Pair 7 12) Ceiling ≡ codes "cut 7 12 ceiling\n") × (cut_at_line (failings.From 12) Budget ≡ codes "cut 12 budget\n")
unfolding digits note_line attempt_line leak_line
cut-lines = (refl, refl, refl)

number_none-text : sweep_text (none_line Single) (record { attempts = 10; found = None }) ≡ codes "attempts 10\nnumber none\n"
unfolding digits note_line attempt_line leak_line
number_none-text = refl

every_none-text : sweep_text (none_line Every) (record { attempts = 10; found = None }) ≡ codes "attempts 10\nevery none\n"
unfolding digits note_line attempt_line leak_line
every_none-text = refl

pair_none-text : sweep_text (none_line Pairs) (record { attempts = 10; found = None }) ≡ codes "attempts 10\npair none\n"
unfolding digits note_line attempt_line leak_line
pair_none-text = refl

persistent_none-text : sweep_text (none_line Persistent) (record { attempts = 10; found = None }) ≡ codes "attempts 10\npersistent none\n"
unfolding digits note_line attempt_line leak_line
persistent_none-text = refl

-- ---- as JSON

-- the lines of a text, the empty one too
text-lines : line_strings (codes "print \"a\"\nprint \n\nsteps 2\n") ≡ array (items_of (map line_string (codes "print \"a\"" ∷ codes "print " ∷ [] ∷ codes "steps 2" ∷ [])))
text-lines = refl

-- the values of a check whose sweep found nothing, beside no lines
check-json : json_text (T.Check (S.Least Single)) [] (both_values (size_values 176 (record { number = 1; top = 144 } ∷ record { number = 2; top = 176 } ∷ [])) (sweep_values 2 Never)) 0
    ≡ codes "{\"attempts\":2,\"kind\":\"single\",\"lines\":[],\"number\":\"none\",\"required\":176,\"rises\":[[1,144],[2,176]],\"status\":0,\"version\":2}\n"
unfolding serde_json_on_literals digits report_object common_members
check-json = refl

-- those of sweeps that found a number and a rate
sweep-json : json_text (T.Sweep (S.Least Single) whole) [] (sweep_values 3 (At (failings.Number 0))) 1
    ≡ codes "{\"attempts\":3,\"kind\":\"single\",\"lines\":[],\"number\":0,\"required\":null,\"rises\":null,\"status\":1,\"version\":2}\n"
unfolding serde_json_on_literals digits report_object common_members
sweep-json = refl

rate-json : json_text (T.Sweep (S.Least Every) whole) [] (sweep_values 4 (At (failings.Every 2))) 1
    ≡ codes "{\"attempts\":4,\"kind\":\"every\",\"lines\":[],\"number\":2,\"required\":null,\"rises\":null,\"status\":1,\"version\":2}\n"
unfolding serde_json_on_literals digits report_object common_members
rate-json = refl

pair-json : json_text (T.Sweep (S.Least Pairs) whole) [] (sweep_values 4 (At (failings.Pair 2 4))) 1
    ≡ codes "{\"attempts\":4,\"kind\":\"pairs\",\"lines\":[],\"number\":[2,4],\"required\":null,\"rises\":null,\"status\":1,\"version\":2}\n"
unfolding serde_json_on_literals digits report_object common_members
pair-json = refl

-- where all attempts fail from one on, the version is a later one
persistent-json : json_text (T.Sweep (S.Least Persistent) whole) [] (sweep_values 4 (At (failings.From 2))) 1
    ≡ codes "{\"attempts\":4,\"kind\":\"persistent\",\"lines\":[],\"number\":2,\"required\":null,\"rises\":null,\"status\":1,\"version\":3}\n"
unfolding serde_json_on_literals digits report_object common_members
persistent-json = refl

-- those of a refused script or a cut, by what was asked for
plain-json : json_text (T.Run Unlimited) [] no_values 2
    ≡ codes "{\"attempts\":null,\"kind\":null,\"lines\":[],\"number\":null,\"required\":null,\"rises\":null,\"status\":2,\"version\":2}\n"
unfolding serde_json_on_literals digits report_object common_members
plain-json = refl

cut-json : json_text (T.Check (S.Least Every)) [] (cut_values (failings.Every 2)) 3
    ≡ codes "{\"attempts\":null,\"kind\":\"every\",\"lines\":[],\"number\":null,\"required\":null,\"rises\":null,\"status\":3,\"version\":2}\n"
unfolding serde_json_on_literals digits report_object common_members
cut-json = refl

-- ---- all that a sweep finds

-- a rate whose run leaks, between two that are cut or panic
abbrev three_ends : List NumberEnd
three_ends = record { number = 2; end = ends.Cut Ceiling } ∷ record { number = 3; end = ends.Leaked 2 } ∷ record { number = 12; end = ends.Panicked (User 42) } ∷ []

numbers-text : told_text Single (record { attempts = 12; ends = three_ends; bad = 2; found = Some (record { at = failings.Number 3; result = forgotten_cell }) })
    ≡ codes "attempts 12\nnumber 2 cut ceiling\nnumber 3 leaks 2\nnumber 12 panic USER 42\nbad 2\nattempt 1 length 144 place 0 granted\nattempt 2 length 32 place 144 granted\nended\nleaks 1\nleak 2 length 32 place 144\nsteps 1\n"
unfolding digits note_line attempt_line leak_line told_line
numbers-text = refl

rates-text : all_text Every 3 (record { number = 2; end = ends.Cut Budget } ∷ []) ≡ codes "attempts 3\nevery 2 cut budget\nbad 0\n"
unfolding digits note_line attempt_line leak_line told_line
rates-text = refl

persistent-text : all_text Persistent 3 (record { number = 2; end = ends.Cut Budget } ∷ []) ≡ codes "attempts 3\npersistent 2 cut budget\nbad 0\n"
unfolding digits note_line attempt_line leak_line told_line
persistent-text = refl

nothing-text : all_text Single 1 [] ≡ codes "attempts 1\nbad 0\n"
unfolding digits note_line attempt_line leak_line told_line
nothing-text = refl

-- a number that is listed though its run is fine makes no status 3
told-statuses : (fine_status [] ≡ 0) × (fine_status (record { number = 2; end = ends.Cut Budget } ∷ []) ≡ 3)
    × (fine_status (record { number = 0; end = ends.Plain } ∷ record { number = 1; end = ends.NoCleanup } ∷ []) ≡ 0)
    × (fine_status (record { number = 0; end = ends.Plain } ∷ record { number = 1; end = ends.Cut Ceiling } ∷ []) ≡ 3)
told-statuses = (refl, refl, refl, refl)

-- of every number its end is listed
ends-text : all_text Every 2 (record { number = 0; end = ends.Plain } ∷ record { number = 1; end = ends.NoCleanup } ∷ record { number = 2; end = ends.Left (negsuc 3) } ∷ [])
    ≡ codes "attempts 2\nevery 0 ended\nevery 1 nocleanup\nevery 2 left -4\nbad 0\n"
unfolding digits note_line attempt_line leak_line told_line
ends-text = refl

-- their key comes first, and the version is a later one, whatever was found
all-json : json_text (T.Sweep (S.All Single) whole) [] (all_values 12 three_ends (At (failings.Number 3))) 1
    ≡ codes "{\"all\":[[2,\"cut ceiling\"],[3,\"leaks 2\"],[12,\"panic USER 42\"]],\"attempts\":12,\"kind\":\"single\",\"lines\":[],\"number\":3,\"required\":null,\"rises\":null,\"status\":1,\"version\":3}\n"
unfolding serde_json_on_literals digits report_object common_members
all-json = refl

check_all-json : json_text (T.Check (S.All Every)) [] (both_values (size_values 144 (record { number = 1; top = 144 } ∷ [])) (all_values 1 [] Never)) 0
    ≡ codes "{\"all\":[],\"attempts\":1,\"kind\":\"every\",\"lines\":[],\"number\":\"none\",\"required\":144,\"rises\":[[1,144]],\"status\":0,\"version\":3}\n"
unfolding serde_json_on_literals digits report_object common_members
check_all-json = refl

ends-json : json_text (T.Sweep (S.Ends Persistent) whole) [] (all_values 1 (record { number = 0; end = ends.Plain } ∷ record { number = 1; end = ends.NoCleanup } ∷ []) Never) 0
    ≡ codes "{\"all\":[[0,\"ended\"],[1,\"nocleanup\"]],\"attempts\":1,\"kind\":\"persistent\",\"lines\":[],\"number\":\"none\",\"required\":null,\"rises\":null,\"status\":0,\"version\":3}\n"
unfolding serde_json_on_literals digits report_object common_members
ends-json = refl

untold-json : json_text (T.Sweep (S.All Every) whole) [] (cut_values (failings.Every 0)) 3
    ≡ codes "{\"all\":null,\"attempts\":null,\"kind\":\"every\",\"lines\":[],\"number\":null,\"required\":null,\"rises\":null,\"status\":3,\"version\":3}\n"
unfolding serde_json_on_literals digits report_object common_members
untold-json = refl
