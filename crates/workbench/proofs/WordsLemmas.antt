-- Words that spell a command with its numbers in their ranges have no fault.
use Rattle.std.proofs.Common.{◌≡◌, List, refl, sym, ◌∙◌, ap, subst, true, false, inl, inr, Some, IsTrue, arith}
use Rattle.clap.specs.Words.{IsAmong, Text, kind_of}
use Rattle.wb_command_line.specs.Command.{is_answerable, is_filled, is_sixteenfold}
use Rattle.wb_command_line.specs.Fault.{IsFaultOf}
use Rattle.wb_command_line.specs.Spelled.{IsSpelledBy}
use Rattle.wb_command_line.specs.declared.command.Command.{Command}
use Rattle.wb_command_line.specs.declared.command.CommandFault.{CommandFault}
use Rattle.wb_command_line.specs.declared.command.CommandFault.TheVariants.{Usage, Both, Also, Shape as Misshapen, Range, NoMemory}
use Rattle.workbench.specs.Program.{IsWordsFault}
use Rattle.workbench.specs.declared.host.WordsFault.{WordsFault}
use Rattle.workbench.specs.declared.host.WordsFault.TheVariants.{NotUtf8, Refused}

sixteenfold : (command : Command) → is_answerable command ≡ true → is_sixteenfold command.shape ≡ true
sixteenfold command e = grind (arith, e)

filled : (command : Command) → is_answerable command ≡ true → is_filled command.task ≡ true
filled command e = grind (arith, e)

only_memory : (words : List Text) (command : Command) (fault : CommandFault) → IsSpelledBy words command → is_answerable command ≡ true → IsFaultOf words fault
    → Refused fault ≡ Refused NoMemory
only_memory words command (Usage e) spelled ranges (inl among) = absurd (subst (IsAmong (kind_of e)) spelled.faultless among.1)
only_memory words command (Usage e) spelled ranges (inr mislisted) = let no = spelled.listed in let yes = mislisted.1.mislisted in cc
only_memory words command Both spelled ranges found = let no = spelled.one_rule in let yes = found.doubled in cc
only_memory words command Also spelled ranges found = let no = spelled.in_order in let yes = found.disordered in cc
only_memory words command Misshapen spelled ranges found =
    let same : Some command ≡ Some found.command = sym spelled.meaning ∙ found.spelled.meaning in
    let one : command ≡ found.command = cc in
    let yes = sixteenfold command ranges in
    let no : is_sixteenfold command.shape ≡ false = ap (λ (c : Command). is_sixteenfold c.shape) one ∙ found.misshapen in
    cc
only_memory words command Range spelled ranges found =
    let same : Some command ≡ Some found.command = sym spelled.meaning ∙ found.spelled.meaning in
    let one : command ≡ found.command = cc in
    let yes = filled command ranges in
    let no : is_filled command.task ≡ false = ap (λ (c : Command). is_filled c.task) one ∙ found.empty in
    cc
only_memory words command NoMemory spelled ranges found = refl

pub blamed_for_memory : (words : List Text) (command : Command) (fault : WordsFault) → IsSpelledBy words command → IsTrue (is_answerable command) → IsWordsFault words fault
    → fault ≡ Refused NoMemory
blamed_for_memory words command NotUtf8 spelled ranges found = absurd found
blamed_for_memory words command (Refused fault) spelled ranges found = only_memory words command fault spelled ranges found.0
