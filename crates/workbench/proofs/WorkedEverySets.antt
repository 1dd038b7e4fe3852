-- The definitions of the report of a sweep over all sets, computed on worked runs. Each text is written out by hand, line by line.
use Rattle.std.proofs.Common.{◌≡◌, [], ◌∷◌, Some, None, codes, refl}
use Rattle.std.specs.Fmt.{digits}
use Rattle.serde_json.proofs.OnLiterals.{serde_json_on_literals}
use Rattle.wb_command_line.specs.declared.command.Search.TheVariants as S
use Rattle.wb_command_line.specs.declared.command.Task.TheVariants as T
use Rattle.wb_heap_model.specs.declared.heap.Answer.TheVariants.{Granted, Simulated}
use Rattle.wb_meaning.specs.declared.run.Outcome.TheVariants.{Ended}
use Rattle.wb_meaning.specs.declared.run.RunResult.{RunResult}
use Rattle.wb_command_line.specs.Spelled.{whole}
use Rattle.wb_runs.specs.declared.failures.Failing.TheVariants.{Set}
use Rattle.workbench.specs.declared.report_values.FailingNumber.TheVariants.{At, Never}
use Rattle.workbench.specs.EverySetReport.{many_states_text, no_set_at_all_line}
use Rattle.workbench.specs.JsonReport.{json_text, common_members, report_object}
use Rattle.workbench.specs.ReportValues.{both_values, cut_values, many_states_values, no_values, size_values, sweep_values}
use Rattle.workbench.specs.RunText.{note_line, attempt_line, leak_line}
use Rattle.workbench.specs.TwoNumbers.{sweep_text}

-- a cell that is never freed, where two requests fail
abbrev forgotten_name : RunResult
forgotten_name = record {
  outcome = Ended None (record { number = 1; length = 144; place = 0 } ∷ []);
  trace = record { number = 1; length = 144; place = 0; answer = Granted } ∷ record { number = 2; length = 32; place = 144; answer = Simulated } ∷ record { number = 3; length = 48; place = 144; answer = Simulated } ∷ [];
  lines = [];
  notes = [];
  steps = 4;
}

found-text : sweep_text no_set_at_all_line (record { attempts = 2; found = Some (record { at = Set (2 ∷ 3 ∷ []); result = forgotten_name }) })
    ≡ codes "attempts 2\nset 2 3\nattempt 1 length 144 place 0 granted\nattempt 2 length 32 place 144 simulated\nattempt 3 length 48 place 144 simulated\nended\nleaks 1\nleak 1 length 144 place 0\nsteps 4\n"
unfolding digits note_line attempt_line leak_line
found-text = refl

none-text : sweep_text no_set_at_all_line (record { attempts = 12; found = None }) ≡ codes "attempts 12\nset none\n"
unfolding digits
none-text = refl

many-text : many_states_text 6 1 ≡ codes "attempts 6\nset none to 1\ncut states\n"
unfolding digits
many-text = refl

found-json : json_text (T.Sweep (S.EverySet 100000) whole) [] (sweep_values 3 (At (Set (3 ∷ 4 ∷ 5 ∷ [])))) 1
    ≡ codes "{\"attempts\":3,\"kind\":\"sets\",\"lines\":[],\"most\":null,\"number\":[3,4,5],\"required\":null,\"rises\":null,\"status\":1,\"version\":3}\n"
unfolding serde_json_on_literals digits report_object common_members
found-json = refl

check_every_set-json : json_text (T.Check (S.EverySet 5)) [] (both_values (size_values 144 (record { number = 1; top = 144 } ∷ [])) (sweep_values 1 Never)) 0
    ≡ codes "{\"attempts\":1,\"kind\":\"sets\",\"lines\":[],\"most\":null,\"number\":\"none\",\"required\":144,\"rises\":[[1,144]],\"status\":0,\"version\":3}\n"
unfolding serde_json_on_literals digits report_object common_members
check_every_set-json = refl

cut-json : json_text (T.Sweep (S.EverySet 1) whole) [] (cut_values (Set (2 ∷ 3 ∷ []))) 3
    ≡ codes "{\"attempts\":null,\"kind\":\"sets\",\"lines\":[],\"most\":null,\"number\":null,\"required\":null,\"rises\":null,\"status\":3,\"version\":3}\n"
unfolding serde_json_on_literals digits report_object common_members
cut-json = refl

-- a search that met too many states has no value of its own, either
many-json : json_text (T.Sweep (S.EverySet 1) whole) [] (many_states_values 1) 3
    ≡ codes "{\"attempts\":null,\"kind\":\"sets\",\"lines\":[],\"most\":null,\"number\":null,\"required\":null,\"rises\":null,\"status\":3,\"version\":3}\n"
unfolding serde_json_on_literals digits report_object common_members
many-json = refl

refused-json : json_text (T.Check (S.EverySet 1)) [] no_values 2
    ≡ codes "{\"attempts\":null,\"kind\":\"sets\",\"lines\":[],\"most\":null,\"number\":null,\"required\":null,\"rises\":null,\"status\":2,\"version\":3}\n"
unfolding serde_json_on_literals digits report_object common_members
refused-json = refl
