-- The definitions of the report of a sweep over sets, computed on worked runs. Each text is written out by hand, line by line.
use Rattle.std.proofs.Common.{◌≡◌, [], ◌∷◌, Some, None, codes, refl}
use Rattle.std.specs.Fmt.{digits}
use Rattle.serde_json.proofs.OnLiterals.{serde_json_on_literals}
use Rattle.wb_command_line.specs.declared.command.Search.TheVariants as S
use Rattle.wb_command_line.specs.declared.command.Task.TheVariants as T
use Rattle.wb_heap_model.specs.declared.heap.Answer.TheVariants.{Granted, Simulated}
use Rattle.wb_meaning.specs.declared.run.Outcome.TheVariants.{Ended}
use Rattle.wb_meaning.specs.declared.run.RunResult.{RunResult}
use Rattle.wb_meaning.specs.declared.run.Why.TheVariants.{Budget, Ceiling}
use Rattle.wb_command_line.specs.Spelled.{whole}
use Rattle.wb_runs.specs.declared.failures.Failing.TheVariants.{Set}
use Rattle.wb_runs.specs.Sweeps.{failing_set}
use Rattle.workbench.specs.declared.report_values.FailingNumber.TheVariants.{At, Never}
use Rattle.workbench.specs.JsonReport.{json_text, common_members, report_object}
use Rattle.workbench.specs.ReportValues.{both_values, cut_values, no_values, size_values, sweep_values}
use Rattle.workbench.specs.RunText.{note_line, attempt_line, leak_line}
use Rattle.workbench.specs.SetsReport.{no_set_line}
use Rattle.workbench.specs.TwoNumbers.{cut_at_line, failing_line, sweep_text}

-- a cell that is never freed, where three requests fail
abbrev forgotten_header : RunResult
forgotten_header = record {
  outcome = Ended None (record { number = 2; length = 32; place = 144 } ∷ []);
  trace = record { number = 1; length = 144; place = 0; answer = Granted } ∷ record { number = 2; length = 32; place = 144; answer = Granted } ∷ record { number = 3; length = 48; place = 176; answer = Simulated } ∷ [];
  lines = [];
  notes = [];
  steps = 3;
}

found-text : sweep_text (no_set_line 4) (record { attempts = 3; found = Some (record { at = Set (3 ∷ 10 ∷ 12 ∷ []); result = forgotten_header }) })
    ≡ codes "attempts 3\nset 3 10 12\nattempt 1 length 144 place 0 granted\nattempt 2 length 32 place 144 granted\nattempt 3 length 48 place 176 simulated\nended\nleaks 1\nleak 2 length 32 place 144\nsteps 3\n"
unfolding digits note_line attempt_line leak_line
found-text = refl

none-text : sweep_text (no_set_line 8) (record { attempts = 12; found = None }) ≡ codes "attempts 12\nset none to 8\n"
unfolding digits
none-text = refl

-- a set of one attempt is its number, and the empty one number 0
single-lines : (failing_line (failing_set []) ≡ codes "number 0\n") × (failing_line (failing_set (7 ∷ [])) ≡ codes "number 7\n") × (failing_line (failing_set (1 ∷ 2 ∷ [])) ≡ codes "set 1 2\n")
unfolding digits
single-lines = (refl, refl, refl)

cut-lines : (cut_at_line (failing_set []) Budget ≡ codes "cut 0 budget\n") × (cut_at_line (failing_set (7 ∷ [])) Ceiling ≡ codes "cut 7 ceiling\n") × (cut_at_line (Set (2 ∷ 3 ∷ 5 ∷ [])) Budget ≡ codes "cut 2 3 5 budget\n")
unfolding digits
cut-lines = (refl, refl, refl)

found-json : json_text (T.Sweep (S.Sets 4) whole) [] (sweep_values 3 (At (Set (3 ∷ 4 ∷ 5 ∷ [])))) 1
    ≡ codes "{\"attempts\":3,\"kind\":\"sets\",\"lines\":[],\"most\":4,\"number\":[3,4,5],\"required\":null,\"rises\":null,\"status\":1,\"version\":3}\n"
unfolding serde_json_on_literals digits report_object common_members
found-json = refl

single-json : json_text (T.Sweep (S.Sets 3) whole) [] (sweep_values 3 (At (failing_set (2 ∷ [])))) 1
    ≡ codes "{\"attempts\":3,\"kind\":\"sets\",\"lines\":[],\"most\":3,\"number\":2,\"required\":null,\"rises\":null,\"status\":1,\"version\":3}\n"
unfolding serde_json_on_literals digits report_object common_members
single-json = refl

check_sets-json : json_text (T.Check (S.Sets 2)) [] (both_values (size_values 144 (record { number = 1; top = 144 } ∷ [])) (sweep_values 1 Never)) 0
    ≡ codes "{\"attempts\":1,\"kind\":\"sets\",\"lines\":[],\"most\":2,\"number\":\"none\",\"required\":144,\"rises\":[[1,144]],\"status\":0,\"version\":3}\n"
unfolding serde_json_on_literals digits report_object common_members
check_sets-json = refl

cut-json : json_text (T.Sweep (S.Sets 8) whole) [] (cut_values (Set (2 ∷ 3 ∷ []))) 3
    ≡ codes "{\"attempts\":null,\"kind\":\"sets\",\"lines\":[],\"most\":8,\"number\":null,\"required\":null,\"rises\":null,\"status\":3,\"version\":3}\n"
unfolding serde_json_on_literals digits report_object common_members
cut-json = refl

refused-json : json_text (T.Check (S.Sets 1)) [] no_values 2
    ≡ codes "{\"attempts\":null,\"kind\":\"sets\",\"lines\":[],\"most\":1,\"number\":null,\"required\":null,\"rises\":null,\"status\":2,\"version\":3}\n"
unfolding serde_json_on_literals digits report_object common_members
refused-json = refl
