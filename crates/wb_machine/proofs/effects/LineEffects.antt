-- What is printed and noted comes to what it means.
use Rattle.std.proofs.Common.{◌≡◌, ℕ, ◌-◌, [], ◌∷◌, ◌++◌, length, ap, ◌∙◌, sym, None}
use Rattle.std.specs.Fmt.{signed_decimal}
use Rattle.wb_heap_model.specs.declared.reported.Note.TheVariants.{Compress}
use Rattle.wb_tree.specs.declared.script.Script.{Script}
use Rattle.wb_tree.specs.declared.script.Number.{Number}
use Rattle.wb_tree.specs.declared.script.Statement.TheOpen.{Statement-F}
use Rattle.wb_heap_model.specs.Row.{headers, top_of, total_length}
use Rattle.wb_heap_model.specs.Space.{space_of, space_below, bound_below, compressed_to}
use Rattle.wb_meaning.specs.State.{heap_note, available_note, compress_note, goes_on, and_then}
use Rattle.wb_meaning.specs.Statements.{statement, print_line}
use Rattle.wb_meaning.specs.Account.{settled, noted}
use Rattle.wb_machine.specs.RunState.{RunState, state_of, account_of}
use Rattle.wb_machine.specs.Flow.{flow}
use Rattle.wb_machine.specs.PointerOperands.{operands_refusal}
use Rattle.wb_machine.specs.Effects.{gone_on, number_read, line_printed, heap_noted, available_noted, compress_noted}
use Rattle.wb_machine.proofs.kept.Rows.{headers_read, length_read}
use Rattle.wb_machine.proofs.whole_runs.Fitting.{fits-limit}
use Rattle.wb_machine.proofs.effects.StatementEffects.{Means, number_is}

pub number_kept : (script : Script) (h : RunState) (v : Number) → operands_refusal h (Statement-F.PrintNumber v) ≡ None →
    Means script h (Statement-F.PrintNumber v) (gone_on (line_printed h (signed_decimal (number_read h v))))
unfolding statement flow
number_kept script h v ok r f rec at k =
    sym (ap (λ z. flow r (and_then (print_line (signed_decimal z) (state_of script h)) k) h) (number_is script h v))

pub heap_kept : (script : Script) (h : RunState) → operands_refusal h Statement-F.NoteHeap ≡ None →
    Means script h Statement-F.NoteHeap (gone_on (heap_noted h))
unfolding statement flow and_then
heap_kept script h ok r f rec at k =
    let row = h.debug.heap.row in
    ap (λ q. settled r (space_of r h.debug.shape) (k goes_on (state_of script h)) (noted (space_of r h.debug.shape) q (account_of h)))
    (sym (ap (λ n. heap_note n (total_length (headers (state_of script h).heap.row))) (length_read script row)
    ∙ ap (λ hs. heap_note (length row) (total_length hs)) (headers_read script row)))

pub available_kept : (script : Script) (h : RunState) → operands_refusal h Statement-F.NoteAvailable ≡ None →
    Means script h Statement-F.NoteAvailable (gone_on (available_noted h))
unfolding statement flow and_then
available_kept script h ok r f rec at k =
    ap (λ hs. settled r (space_of r h.debug.shape) (k goes_on (state_of script h)) (noted (space_of r h.debug.shape) (available_note hs) (account_of h)))
    (sym (headers_read script h.debug.heap.row))

-- under a rule that fits, whose limit is that of the machine's own
pub compress_kept : (script : Script) (h : RunState) → operands_refusal h Statement-F.NoteCompress ≡ None →
    Means script h Statement-F.NoteCompress (gone_on (compress_noted h))
unfolding statement flow and_then
compress_kept script h ok r f rec at k =
    let d = h.debug in
    ap (λ (length : ℕ). settled r (space_of r d.shape) (k goes_on (state_of script h))
    (record { attempts = d.attempts; trace = d.trace; rises = d.rises; notes = h.notes ++ Compress (d.committed - length) ∷ []; committed = length }))
    (ap (λ b. compressed_to (space_below (bound_below b) d.shape) d.committed (top_of (headers d.heap.row))) (sym (fits-limit r d.rule _ _ f)))
    ∙ ap (λ hs. settled r (space_of r d.shape) (k goes_on (state_of script h)) (noted (space_of r d.shape) (compress_note (top_of hs)) (account_of h)))
    (sym (headers_read script d.heap.row))
