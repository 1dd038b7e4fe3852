-- The lines of reports are printable ASCII: each is made of words, numbers and what a script printed.
use Rattle.std.proofs.Common.{◌≡◌, ℕ, ◌-◌, true, false, List, [], ◌∷◌, ◌++◌, ℤ, Option, Some, None, inl, inr, refl, arith, length, replicate, codes, decimal, flat_map, All}
use Rattle.std.specs.Fmt.{digits, signed_decimal}
use Rattle.std.specs.List.{list_all}
use Rattle.std.proofs.lemmas.List.Elements.{All-nil, All-head, All-tail, All-append, All-push, All-replicate, All-weaker}
use Rattle.wb_language.specs.declared.fault.ScriptFault.{ScriptFault}
use Rattle.wb_language.specs.declared.fault.ScriptFault.TheVariants.{TooLong, NotAscii, Grammar, UnknownName, DoubleName, WrongKind, MayLeave, NoMain, TooMany, NoMemory}
use Rattle.wb_runs.specs.declared.failures.Failing.{Failing}
use Rattle.wb_runs.specs.declared.failures.Failing.TheVariants.{Number, Pair}
use Rattle.wb_runs.specs.declared.failures.Failing.TheVariants as failings
use Rattle.wb_runs.specs.declared.failures.Failures.{Failures}
use Rattle.wb_runs.specs.declared.failures.Failures.TheVariants.{Single, Every, Pairs, Persistent}
use Rattle.wb_heap_model.specs.declared.heap.Answer.{Answer}
use Rattle.wb_heap_model.specs.declared.heap.Answer.TheVariants.{Granted, Simulated, Refused}
use Rattle.wb_heap_model.specs.declared.heap.Attempt.{Attempt}
use Rattle.wb_heap_model.specs.declared.heap.Panic.{Panic}
use Rattle.wb_heap_model.specs.declared.heap.Panic.TheVariants.{User, Alloc, Workbench}
use Rattle.wb_runs.specs.declared.lengths.LengthRange.{LengthRange}
use Rattle.wb_runs.specs.declared.number_ends.NumberEnd.{NumberEnd}
use Rattle.wb_heap_model.specs.declared.reported.Leak.{Leak}
use Rattle.wb_heap_model.specs.declared.reported.Note.{Note}
use Rattle.wb_heap_model.specs.declared.reported.Note.TheVariants.{Heap, Available, Compress}
use Rattle.wb_meaning.specs.declared.run.Outcome.{Outcome}
use Rattle.wb_meaning.specs.declared.run.Outcome.TheVariants.{Ended, Panicked, NoCleanup, Cut}
use Rattle.wb_meaning.specs.declared.run.RunResult.{RunResult}
use Rattle.wb_meaning.specs.declared.run.Why.{Why}
use Rattle.wb_meaning.specs.declared.run.Why.TheVariants.{Budget, Ceiling}
use Rattle.wb_runs.specs.declared.run_end.RunEnd.{RunEnd}
use Rattle.wb_runs.specs.declared.run_end.RunEnd.TheVariants as ends
use Rattle.wb_heap_model.specs.declared.size.Rise.{Rise}
use Rattle.wb_meaning.specs.Printable.{IsPrintable, ArePrintable}
use Rattle.wb_runs.specs.AllNumbers.{bad_count}
use Rattle.wb_meaning.proofs.PrintableLemmas.{is_printable, printable_by_test, decimal-printable, hexadecimal-printable, signed_decimal-printable}
use Rattle.workbench.specs.Ascii.{IsPrintableText, IsTextByte}
use Rattle.workbench.specs.Report.{fault_line, no_memory, read_fault, refused, refused_at}
use Rattle.workbench.specs.EndWords.{cut_words, eight_digits, end_words, panic_words}
use Rattle.workbench.specs.AllReport.{all_text, bad_line, number_word, told_line, told_lines}
use Rattle.workbench.specs.EverySetReport.{cut_states_line, many_states_text, no_set_at_all_line}
use Rattle.workbench.specs.LengthsReport.{range_line, table_lines}
use Rattle.workbench.specs.RunText.{answer_word, attempt_line, end_line, leak_line, leaks_text, line, note_line, outcome_text, print_line, run_text}
use Rattle.workbench.specs.SetsReport.{no_set_line}
use Rattle.workbench.specs.TwoNumbers.{attempts_line, cut_at_line, failing_line, failing_text, failing_word, found_text, none_line, numbers_text, refuses_line, size_text, spaced, table_text, why_word}

-- ---- words and numbers

-- a word that is written out
abbrev IsWord : List ℕ → Type 0
IsWord word = list_all is_printable word ≡ true

and_word : (before word : List ℕ) → ArePrintable before → IsWord word → ArePrintable (before ++ word)
and_word before word are is = All-append IsPrintable before word are (printable_by_test word is)

and_number : (before : List ℕ) (n : ℕ) → ArePrintable before → ArePrintable (before ++ decimal n)
and_number before n are = All-append IsPrintable before (decimal n) are (decimal-printable n)

one_number : (word : List ℕ) (n : ℕ) → IsWord word → ArePrintable (word ++ decimal n)
one_number word n is = and_number word n (printable_by_test word is)

two_numbers : (first : List ℕ) (n : ℕ) (second : List ℕ) (m : ℕ) → IsWord first → IsWord second → ArePrintable (first ++ decimal n ++ second ++ decimal m)
two_numbers first n second m is also = and_number (first ++ decimal n ++ second) m (and_word (first ++ decimal n) second (one_number first n is) also)

three_numbers : (first : List ℕ) (n : ℕ) (second : List ℕ) (m : ℕ) (third : List ℕ) (k : ℕ) → IsWord first → IsWord second → IsWord third →
    ArePrintable (first ++ decimal n ++ second ++ decimal m ++ third ++ decimal k)
three_numbers first n second m third k is also too =
    let before = first ++ decimal n ++ second ++ decimal m in
    and_number (before ++ third) k (and_word before third (two_numbers first n second m is also) too)

-- ---- lines

of_line : (bytes : List ℕ) → ArePrintable bytes → IsPrintableText (line bytes)
of_line bytes are = All-push IsTextByte bytes 10 (All-weaker IsPrintable IsTextByte (λ byte is. inl is) bytes are) (inr refl)

pub of_word : (word : List ℕ) → IsWord word → IsPrintableText (line word)
of_word word is = of_line word (printable_by_test word is)

pub of_number : (word : List ℕ) (n : ℕ) → IsWord word → IsPrintableText (line (word ++ decimal n))
of_number word n is = of_line (word ++ decimal n) (one_number word n is)

of_numbers : (first : List ℕ) (n : ℕ) (second : List ℕ) (m : ℕ) → IsWord first → IsWord second → IsPrintableText (line (first ++ decimal n ++ second ++ decimal m))
of_numbers first n second m is also = of_line (first ++ decimal n ++ second ++ decimal m) (two_numbers first n second m is also)

pub both : (xs ys : List ℕ) → IsPrintableText xs → IsPrintableText ys → IsPrintableText (xs ++ ys)
both xs ys are also = All-append IsTextByte xs ys are also

of_each : {A : Type 0} (told : A → List ℕ) → ((a : A) → IsPrintableText (told a)) → (all : List A) → IsPrintableText (flat_map told all)
of_each told is [] = All-nil IsTextByte
of_each told is (a ∷ all) = both (told a) (flat_map told all) (is a) (of_each told is all)

-- ---- the text of a run

of_printed : (lines : List (List ℕ)) → All ArePrintable lines → IsPrintableText (flat_map print_line lines)
of_printed [] are = All-nil IsTextByte
of_printed (text ∷ lines) are =
    let word : ArePrintable (codes "print ") = printable_by_test (codes "print ") refl in
    both (print_line text) (flat_map print_line lines)
    (of_line (codes "print " ++ text) (All-append IsPrintable (codes "print ") text word (All-head ArePrintable text lines are)))
    (of_printed lines (All-tail ArePrintable text lines are))

of_note : (note : Note) → IsPrintableText (note_line note)
unfolding note_line
of_note (Heap count total committed) =
    of_line (codes "note heap " ++ decimal count ++ codes " " ++ decimal total ++ codes " " ++ decimal committed)
    (three_numbers (codes "note heap ") count (codes " ") total (codes " ") committed refl refl refl)
of_note (Available total longest) = of_numbers (codes "note available ") total (codes " ") longest refl refl
of_note (Compress reclaimed) = of_number (codes "note compress ") reclaimed refl

answer-printable : (answer : Answer) → IsWord (answer_word answer)
answer-printable Granted = refl
answer-printable Simulated = refl
answer-printable Refused = refl

of_attempt : (a : Attempt) → IsPrintableText (attempt_line a)
unfolding attempt_line
of_attempt a =
    let before = codes "attempt " ++ decimal a.number ++ codes " length " ++ decimal a.length ++ codes " place " ++ decimal a.place in
    of_line (before ++ codes " " ++ answer_word a.answer) (and_word (before ++ codes " ") (answer_word a.answer)
    (and_word before (codes " ") (three_numbers (codes "attempt ") a.number (codes " length ") a.length (codes " place ") a.place refl refl refl) refl)
    (answer-printable a.answer))

of_leak : (leak : Leak) → IsPrintableText (leak_line leak)
unfolding leak_line
of_leak leak =
    of_line (codes "leak " ++ decimal leak.number ++ codes " length " ++ decimal leak.length ++ codes " place " ++ decimal leak.place)
    (three_numbers (codes "leak ") leak.number (codes " length ") leak.length (codes " place ") leak.place refl refl refl)

of_leaks : (leaks : List Leak) → IsPrintableText (leaks_text leaks)
of_leaks leaks = both (line (codes "leaks " ++ decimal (length leaks))) (flat_map leak_line leaks) (of_number (codes "leaks ") (length leaks) refl) (of_each leak_line of_leak leaks)

left-printable : (code : ℤ) → ArePrintable (codes "left " ++ signed_decimal code)
left-printable code = All-append IsPrintable (codes "left ") (signed_decimal code) (printable_by_test (codes "left ") refl) (signed_decimal-printable code)

of_end : (left : Option ℤ) → IsPrintableText (end_line left)
of_end None = of_word (codes "ended") refl
of_end (Some code) = of_line (codes "left " ++ signed_decimal code) (left-printable code)

eight_digits-printable : (n : ℕ) → ArePrintable (eight_digits n)
eight_digits-printable n =
    let zeros = 8 - length (digits 16 false n) in
    All-append IsPrintable (replicate zeros 48) (digits 16 false n) (All-replicate IsPrintable zeros 48 (omega arith, omega arith)) (hexadecimal-printable n)

panic_words-printable : (panic : Panic) → ArePrintable (panic_words panic)
panic_words-printable (User n) = one_number (codes "panic USER ") n refl
panic_words-printable (Alloc place) =
    All-append IsPrintable (codes "panic ALLOC ") (eight_digits place) (printable_by_test (codes "panic ALLOC ") refl) (eight_digits-printable place)
panic_words-printable (Workbench n) = one_number (codes "panic WORKBENCH ") n refl

cut_words-printable : (why : Why) → ArePrintable (cut_words why)
cut_words-printable Budget = printable_by_test (codes "cut budget") refl
cut_words-printable Ceiling = printable_by_test (codes "cut ceiling") refl

pub printable_end_words : (end : RunEnd) → ArePrintable (end_words end)
printable_end_words ends.NoCleanup = printable_by_test (codes "nocleanup") refl
printable_end_words (ends.Panicked panic) = panic_words-printable panic
printable_end_words (ends.Leaked count) = one_number (codes "leaks ") count refl
printable_end_words (ends.Left code) = left-printable code
printable_end_words ends.Plain = printable_by_test (codes "ended") refl
printable_end_words (ends.Cut why) = cut_words-printable why

of_outcome : (outcome : Outcome) → IsPrintableText (outcome_text outcome)
of_outcome (Ended left leaks) = both (end_line left) (leaks_text leaks) (of_end left) (of_leaks leaks)
of_outcome (Panicked panic) = of_line (panic_words panic) (panic_words-printable panic)
of_outcome NoCleanup = of_word (codes "nocleanup") refl
of_outcome (Cut why) = of_line (cut_words why) (cut_words-printable why)

pub of_run : (r : RunResult) → All ArePrintable r.lines → IsPrintableText (run_text r)
of_run r are =
    let printed = flat_map print_line r.lines in
    let noted = printed ++ flat_map note_line r.notes in
    let traced = noted ++ flat_map attempt_line r.trace in
    both (traced ++ outcome_text r.outcome) (line (codes "steps " ++ decimal r.steps))
    (both traced (outcome_text r.outcome)
    (both noted (flat_map attempt_line r.trace)
    (both printed (flat_map note_line r.notes) (of_printed r.lines are) (of_each note_line of_note r.notes)) (of_each attempt_line of_attempt r.trace))
    (of_outcome r.outcome))
    (of_number (codes "steps ") r.steps refl)

-- ---- the two numbers

of_table : (from : ℕ) (rises : List Rise) → IsPrintableText (table_text from rises)
of_table from [] = All-nil IsTextByte
of_table from (rise ∷ rises) =
    both (refuses_line from rise.number) (table_text rise.top rises) (of_numbers (codes "from ") from (codes " refuses ") rise.number refl refl) (of_table rise.top rises)

pub of_size : (required : ℕ) (rises : List Rise) → IsPrintableText (size_text required rises)
of_size required rises =
    let first = line (codes "required " ++ decimal required) in
    both (first ++ table_text 0 rises) (line (codes "enough from " ++ decimal required))
    (both first (table_text 0 rises) (of_number (codes "required ") required refl) (of_table 0 rises)) (of_number (codes "enough from ") required refl)

spaced-printable : (n : ℕ) → ArePrintable (spaced n)
spaced-printable n = one_number (codes " ") n refl

numbers-printable : (numbers : List ℕ) → ArePrintable (numbers_text numbers)
numbers-printable [] = All-nil IsPrintable
numbers-printable (n ∷ ns) = All-append IsPrintable (spaced n) (numbers_text ns) (spaced-printable n) (numbers-printable ns)

failing_text-printable : (at : Failing) → ArePrintable (failing_text at)
failing_text-printable (Number n) = spaced-printable n
failing_text-printable (failings.Every n) = spaced-printable n
failing_text-printable (failings.From n) = spaced-printable n
failing_text-printable (Pair i j) = All-append IsPrintable (spaced i) (spaced j) (spaced-printable i) (spaced-printable j)
failing_text-printable (failings.Set numbers) = numbers-printable numbers

after_word : (word : List ℕ) (at : Failing) → IsWord word → ArePrintable (word ++ failing_text at)
after_word word at is = All-append IsPrintable word (failing_text at) (printable_by_test word is) (failing_text-printable at)

of_why : (why : Why) → IsPrintableText (why_word why)
of_why Budget = of_word (codes " budget") refl
of_why Ceiling = of_word (codes " ceiling") refl

pub of_cut_at : (at : Failing) (why : Why) → IsPrintableText (cut_at_line at why)
of_cut_at at why =
    both (codes "cut" ++ failing_text at) (why_word why)
    (All-weaker IsPrintable IsTextByte (λ byte is. inl is) (codes "cut" ++ failing_text at) (after_word (codes "cut") at refl)) (of_why why)

pub of_attempts : (attempts : ℕ) → IsPrintableText (attempts_line attempts)
of_attempts attempts = of_number (codes "attempts ") attempts refl

failing_word-printable : (at : Failing) → IsWord (failing_word at)
failing_word-printable (Number n) = refl
failing_word-printable (failings.Every n) = refl
failing_word-printable (failings.From n) = refl
failing_word-printable (Pair i j) = refl
failing_word-printable (failings.Set numbers) = refl

of_failing_line : (at : Failing) → IsPrintableText (failing_line at)
of_failing_line at = of_line (failing_word at ++ failing_text at) (after_word (failing_word at) at (failing_word-printable at))

pub of_found : (failing : Failing) (r : RunResult) → All ArePrintable r.lines → IsPrintableText (found_text failing r)
of_found failing r are = both (failing_line failing) (run_text r) (of_failing_line failing) (of_run r are)

pub of_none : (failures : Failures) → IsPrintableText (none_line failures)
of_none Single = of_word (codes "number none") refl
of_none Every = of_word (codes "every none") refl
of_none Pairs = of_word (codes "pair none") refl
of_none Persistent = of_word (codes "persistent none") refl

-- ---- all numbers

number_word-printable : (failures : Failures) → ArePrintable (number_word failures)
number_word-printable Single = printable_by_test (codes "number ") refl
number_word-printable Every = printable_by_test (codes "every ") refl
number_word-printable Pairs = printable_by_test (codes "number ") refl
number_word-printable Persistent = printable_by_test (codes "persistent ") refl

of_told : (failures : Failures) (told : NumberEnd) → IsPrintableText (told_line failures told)
unfolding told_line
of_told failures told =
    let before = number_word failures ++ decimal told.number in
    of_line (before ++ codes " " ++ end_words told.end) (All-append IsPrintable (before ++ codes " ") (end_words told.end)
    (and_word before (codes " ") (and_number (number_word failures) told.number (number_word-printable failures)) refl) (printable_end_words told.end))

pub of_all_text : (failures : Failures) (attempts : ℕ) (ends : List NumberEnd) → IsPrintableText (all_text failures attempts ends)
of_all_text failures attempts ends =
    both (attempts_line attempts ++ told_lines failures ends) (bad_line (bad_count ends))
    (both (attempts_line attempts) (told_lines failures ends) (of_attempts attempts) (of_each (told_line failures) (of_told failures) ends))
    (of_number (codes "bad ") (bad_count ends) refl)

-- ---- all lengths

of_range : (range : LengthRange) → IsPrintableText (range_line range)
unfolding range_line
of_range range =
    let before = codes "from " ++ decimal range.from in
    of_line (before ++ codes " " ++ end_words range.end) (All-append IsPrintable (before ++ codes " ") (end_words range.end)
    (and_word before (codes " ") (one_number (codes "from ") range.from refl) refl) (printable_end_words range.end))

pub of_table_lines : (table : List LengthRange) → IsPrintableText (table_lines table)
of_table_lines table = of_each range_line of_range table

-- ---- sets of failures

pub of_no_set : (most : ℕ) → IsPrintableText (no_set_line most)
of_no_set most = of_number (codes "set none to ") most refl

pub of_no_set_at_all : IsPrintableText no_set_at_all_line
of_no_set_at_all = of_word (codes "set none") refl

pub of_many_states : (attempts fine : ℕ) → IsPrintableText (many_states_text attempts fine)
of_many_states attempts fine =
    both (attempts_line attempts ++ no_set_line fine) cut_states_line
    (both (attempts_line attempts) (no_set_line fine) (of_attempts attempts) (of_no_set fine)) (of_word (codes "cut states") refl)

-- ---- the lines of a fault, and those that come in a report's place

of_refused : (fault : ℕ) → IsPrintableText (refused fault)
of_refused fault = of_number (codes "refused ") fault refl

of_refused_at : (fault at : ℕ) → IsPrintableText (refused_at fault at)
of_refused_at fault at = of_numbers (codes "refused ") fault (codes " line ") at refl refl

pub no_memory-printable : IsPrintableText no_memory
no_memory-printable = of_word (codes "no memory") refl

pub read_fault-printable : IsPrintableText read_fault
read_fault-printable = of_word (codes "read fault") refl

pub of_fault : (fault : ScriptFault) → IsPrintableText (fault_line fault)
of_fault TooLong = of_refused 1
of_fault (NotAscii at) = of_refused_at 2 at
of_fault (Grammar at) = of_refused_at 3 at
of_fault (UnknownName at) = of_refused_at 4 at
of_fault (DoubleName at) = of_refused_at 5 at
of_fault (WrongKind at) = of_refused_at 6 at
of_fault (MayLeave at) = of_refused_at 7 at
of_fault NoMain = of_refused 8
of_fault (TooMany at) = of_refused_at 9 at
of_fault NoMemory = no_memory-printable
