-- How a run ended, in words.
use Rattle.std.specs.Prelude.{ℕ, ◌-◌, List, ◌++◌, false, codes, length, replicate}
use Rattle.std.specs.Fmt.{decimal, digits, signed_decimal}
use Rattle.wb_heap_model.specs.declared.heap.Panic.{Panic}
use Rattle.wb_heap_model.specs.declared.heap.Panic.TheVariants.{User, Alloc, Workbench}
use Rattle.wb_meaning.specs.declared.run.Why.{Why}
use Rattle.wb_meaning.specs.declared.run.Why.TheVariants.{Budget, Ceiling}
use Rattle.wb_runs.specs.declared.run_end.RunEnd.{RunEnd}
use Rattle.wb_runs.specs.declared.run_end.RunEnd.TheVariants.{NoCleanup, Panicked, Leaked, Left, Plain, Cut}

-- eight lower-case hexadecimal digits, of a number below 2 ^ 32
abbrev pub eight_digits : ℕ → List ℕ
eight_digits n = replicate (8 - length (digits 16 false n)) 48 ++ digits 16 false n

abbrev pub panic_words : Panic → List ℕ
panic_words (User n) = codes "panic USER " ++ decimal n
panic_words (Alloc place) = codes "panic ALLOC " ++ eight_digits place
panic_words (Workbench n) = codes "panic WORKBENCH " ++ decimal n

abbrev pub cut_words : Why → List ℕ
cut_words Budget = codes "cut budget"
cut_words Ceiling = codes "cut ceiling"

abbrev pub end_words : RunEnd → List ℕ
end_words NoCleanup = codes "nocleanup"
end_words (Panicked panic) = panic_words panic
end_words (Leaked count) = codes "leaks " ++ decimal count
end_words (Left code) = codes "left " ++ signed_decimal code
end_words Plain = codes "ended"
end_words (Cut why) = cut_words why
