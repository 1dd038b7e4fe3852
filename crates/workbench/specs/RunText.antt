-- The text of a run, line by line, and the exit status of one that is reported alone.
use Rattle.std.specs.Prelude.{ℕ, ℤ, List, [], ◌∷◌, ◌++◌, Option, Some, None, length, codes}
use Rattle.std.specs.List.{flat_map}
use Rattle.std.specs.Fmt.{decimal, signed_decimal}
use Rattle.wb_heap_model.specs.declared.heap.Answer.{Answer}
use Rattle.wb_heap_model.specs.declared.heap.Answer.TheVariants.{Granted, Simulated, Refused}
use Rattle.wb_heap_model.specs.declared.heap.Attempt.{Attempt}
use Rattle.wb_heap_model.specs.declared.reported.Leak.{Leak}
use Rattle.wb_heap_model.specs.declared.reported.Note.{Note}
use Rattle.wb_heap_model.specs.declared.reported.Note.TheVariants.{Heap, Available, Compress}
use Rattle.wb_meaning.specs.declared.run.Outcome.{Outcome}
use Rattle.wb_meaning.specs.declared.run.Outcome.TheVariants.{Ended, Panicked, NoCleanup, Cut}
use Rattle.wb_meaning.specs.declared.run.RunResult.{RunResult}
use Rattle.workbench.specs.EndWords.{cut_words, panic_words}

-- a line with the line feed that ends it
abbrev pub line : List ℕ → List ℕ
line text = text ++ 10 ∷ []

-- a printed line
abbrev pub print_line : List ℕ → List ℕ
print_line text = line (codes "print " ++ text)

unfoldable pub note_line : Note → List ℕ
note_line (Heap count total committed) = line (codes "note heap " ++ decimal count ++ codes " " ++ decimal total ++ codes " " ++ decimal committed)
note_line (Available total longest) = line (codes "note available " ++ decimal total ++ codes " " ++ decimal longest)
note_line (Compress reclaimed) = line (codes "note compress " ++ decimal reclaimed)

abbrev pub answer_word : Answer → List ℕ
answer_word Granted = codes "granted"
answer_word Simulated = codes "simulated"
answer_word Refused = codes "refused"

unfoldable pub attempt_line : Attempt → List ℕ
attempt_line a = line (codes "attempt " ++ decimal a.number ++ codes " length " ++ decimal a.length ++ codes " place " ++ decimal a.place ++ codes " " ++ answer_word a.answer)

unfoldable pub leak_line : Leak → List ℕ
leak_line l = line (codes "leak " ++ decimal l.number ++ codes " length " ++ decimal l.length ++ codes " place " ++ decimal l.place)

abbrev pub leaks_text : List Leak → List ℕ
leaks_text leaks = line (codes "leaks " ++ decimal (length leaks)) ++ flat_map leak_line leaks

abbrev pub end_line : Option ℤ → List ℕ
end_line None = line (codes "ended")
end_line (Some code) = line (codes "left " ++ signed_decimal code)

-- how the run ended, and the leaks of one that was not stopped
abbrev pub outcome_text : Outcome → List ℕ
outcome_text (Ended left leaks) = end_line left ++ leaks_text leaks
outcome_text (Panicked panic) = line (panic_words panic)
outcome_text NoCleanup = line (codes "nocleanup")
outcome_text (Cut why) = line (cut_words why)

-- the text of a run
abbrev pub run_text : RunResult → List ℕ
run_text r =
    flat_map print_line r.lines
    ++ flat_map note_line r.notes
    ++ flat_map attempt_line r.trace
    ++ outcome_text r.outcome
    ++ line (codes "steps " ++ decimal r.steps)

-- the exit status of a run: 1 for a panic or a leak, 3 for a cut
abbrev pub outcome_status : Outcome → ℕ
outcome_status (Ended left []) = 0
outcome_status (Ended left (l ∷ ls)) = 1
outcome_status (Panicked panic) = 1
outcome_status NoCleanup = 0
outcome_status (Cut why) = 3

abbrev pub run_status : RunResult → ℕ
run_status r = outcome_status r.outcome
