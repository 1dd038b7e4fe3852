-- What statements on texts make of the state of a run, and how they end.
use Rattle.std.specs.Prelude.{◌≡◌, ℕ, ℤ, pos, ◌+◌, ◌*◌, List, [], false, nat_le, length, if◌then◌else◌, Option, Some, None, ok_or, Result, Ok, Err}
use Rattle.wb_basics.specs.declared.limits.TheConstants.{MOST_UNITS}
use Rattle.wb_heap_model.specs.declared.heap.TheConstants.Panic.{NUMBER_OUT_OF_RANGE, SHORTER_THAN_TEXT, NULL_OR_STALE}
use Rattle.wb_heap_model.specs.declared.heap.Kind.TheVariants.{Text}
use Rattle.wb_heap_model.specs.declared.heap.Panic.{Panic}
use Rattle.wb_heap_model.specs.declared.heap.Ptr.{Ptr}
use Rattle.wb_tree.specs.declared.script.Pointer.{Pointer}
use Rattle.wb_tree.specs.declared.script.Script.{Script}
use Rattle.wb_tree.specs.declared.script.Refusal.{Refusal}
use Rattle.wb_tree.specs.declared.script.Refusal.TheVariants.{GivesNull}
use Rattle.wb_heap_model.specs.declared.text.Base.{Base}
use Rattle.wb_heap_model.specs.declared.text.Base.TheVariants as B
use Rattle.wb_heap_model.specs.declared.text.View.{View}
use Rattle.wb_heap_model.specs.Row.{Cell, cell_at}
use Rattle.wb_tree.specs.declared.script.Readable.{Readable}
use Rattle.wb_tree.specs.declared.script.Number.{Number}
use Rattle.wb_heap_model.specs.Texts.{Edited, delete_text, set_length_text, left_part, right_part, mid_part, view_of_part, printed}
use Rattle.wb_meaning.specs.State.{number, buffer, view}
use Rattle.wb_meaning.specs.Operands.{within, not_negative}
use Rattle.wb_meaning.specs.Reading.{is_same_base}
use Rattle.wb_heap_model.specs.Debug.{alloc_made, realloc_made}
use Rattle.wb_heap_model.specs.TextCells.{text_in, text_at, text_changed}
use Rattle.wb_hbuf.specs.declared.sources.Edit.{Edit}
use Rattle.wb_hbuf.specs.declared.sources.Edit.TheVariants.{Insert}
use Rattle.wb_hbuf.specs.Sources.{edit_text}
use Rattle.wb_machine.specs.declared.pieces.Ending.{Ending}
use Rattle.wb_machine.specs.declared.pieces.Ending.TheVariants.{GoesOn, Panics}
use Rattle.wb_machine.specs.RunState.{RunState, with_debug}
use Rattle.wb_machine.specs.Effects.{Effect, gone_on, panicked, stored, number_read, line_printed, made_effect}
use Rattle.wb_machine.specs.TextOperands.{text_refusal, base_refusal, base_text, base_max, window_read, window_found, window_units}

-- a new text of a number of units, which may be out of its range
abbrev pub new_text_within : RunState → Pointer → Refusal → Option ℕ → Effect
new_text_within h p x None = panicked h NUMBER_OUT_OF_RANGE
new_text_within h p x (Some n) = made_effect h p x (alloc_made h.debug (4 + 2 * n) Text)

abbrev pub new_text_effect : RunState → Pointer → Refusal → ℤ → Effect
new_text_effect h p x z = new_text_within h p x (within MOST_UNITS z)

-- a panic with a refusal, or what follows where there is none
abbrev pub unless_panics : RunState → Option Panic → Effect → Effect
unless_panics h (Some panic) c = panicked h panic
unless_panics h None c = c

-- a cell's text gets room for a number of units, which may be out of its range
abbrev pub realloc_text_within : RunState → Pointer → Cell (List ℕ) → Option ℕ → Effect
realloc_text_within h p c None = panicked h NUMBER_OUT_OF_RANGE
realloc_text_within h p c (Some n) =
    if nat_le (length (text_in c.content)) n then made_effect h p GivesNull (realloc_made h.debug c (4 + 2 * n)) else panicked h SHORTER_THAN_TEXT

abbrev pub realloc_text_found : RunState → Pointer → ℤ → Option (Cell (List ℕ)) → Effect
realloc_text_found h p z None = panicked h NULL_OR_STALE
realloc_text_found h p z (Some c) = unless_panics h (text_refusal (Some c)) (realloc_text_within h p c (within MOST_UNITS z))

abbrev pub realloc_text_effect : RunState → Pointer → Ptr → ℤ → Effect
realloc_text_effect h p q z = realloc_text_found h p z (cell_at q h.debug.heap.row)

-- it panicked, and nothing changed
abbrev pub HasPanicked : RunState → Panic → Ending → RunState → Type 0
HasPanicked h panic ending g = (ending ≡ Panics panic) × (g ≡ h)

-- an edit of a text was written, or was refused
abbrev pub IsWritten : RunState → Base → Edited → Ending → RunState → Type 0
IsWritten h to (Err panic) ending g = HasPanicked h panic ending g
IsWritten h (B.Local i) (Ok us) ending g = (ending ≡ GoesOn) × (g ≡ stored h i (buffer (base_max h (B.Local i)) us))
IsWritten h (B.Cell p) (Ok us) ending g = (ending ≡ GoesOn) × (g ≡ with_debug h (text_changed h.debug p us)) × (text_at p g.debug ≡ us)
IsWritten h to (Ok us) ending g = (ending ≡ GoesOn) × (g ≡ h)

-- how a statement ends whose edit was answered so
abbrev pub ending_by : Result (Unit {0}) Panic → Ending
ending_by (Ok done) = GoesOn
ending_by (Err panic) = Panics panic

-- a text isn't put into itself
abbrev pub SuitsBase : Edit → Base → Base → Type 0
SuitsBase (Insert at) to from = is_same_base to from ≡ false
SuitsBase change to from = Unit {0}

-- a refusal, or what follows where there is none
abbrev pub UnlessRefused : RunState → Option Panic → Ending → RunState → Type 0 → Type 0
UnlessRefused h (Some panic) ending g go = HasPanicked h panic ending g
UnlessRefused h None ending g go = go

-- a number in its range, for what follows
abbrev pub WithNumber : RunState → Option ℕ → Ending → RunState → (ℕ → Type 0) → Type 0
WithNumber h None ending g go = HasPanicked h NUMBER_OUT_OF_RANGE ending g
WithNumber h (Some n) ending g go = go n

-- a text was changed by what a view shows, where neither's base is gone
abbrev pub IsEditedBy : List (List ℕ) → RunState → Base → View → Edit → Ending → RunState → Type 0
IsEditedBy literals h to v change ending g =
    UnlessRefused h (base_refusal h to) ending g (UnlessRefused h (base_refusal h v.base) ending g
    (IsWritten h to (edit_text change (base_max h to) (base_text literals h to) (window_units literals h v)) ending g))

-- a text isn't put into itself
abbrev pub same_refusal : Base → Base → Option Panic
same_refusal to from = if is_same_base to from then Some NUMBER_OUT_OF_RANGE else None

abbrev pub IsInsertedBy : List (List ℕ) → RunState → Base → View → ℤ → Ending → RunState → Type 0
IsInsertedBy literals h to v z ending g =
    UnlessRefused h (base_refusal h to) ending g (UnlessRefused h (base_refusal h v.base) ending g
    (WithNumber h (not_negative z) ending g (λ n. UnlessRefused h (same_refusal to v.base) ending g
    (IsWritten h to (edit_text (Insert n) (base_max h to) (base_text literals h to) (window_units literals h v)) ending g))))

-- a number of units were taken out
abbrev pub IsDeletedBy : RunState → Base → ℤ → ℤ → Ending → RunState → Type 0
IsDeletedBy h to z y ending g =
    UnlessRefused h (base_refusal h to) ending g
    (WithNumber h (not_negative z) ending g (λ n. WithNumber h (not_negative y) ending g (λ m.
    IsWritten h to (delete_text (base_text [] h to) n m) ending g)))

-- the text got another length
abbrev pub IsLengthSet : RunState → Base → ℤ → Ending → RunState → Type 0
IsLengthSet h to z ending g =
    UnlessRefused h (base_refusal h to) ending g
    (WithNumber h (not_negative z) ending g (λ n. IsWritten h to (set_length_text (base_max h to) (base_text [] h to) n) ending g))

-- a view local gets a part of a view, or the part is refused
abbrev pub part_stored : RunState → ℕ → Result View Panic → Effect
part_stored h w (Ok v) = gone_on (stored h w (view v))
part_stored h w (Err panic) = panicked h panic

-- what follows a value that wasn't refused
abbrev pub when_fine : {A B : Type 0} → Result A Panic → (A → Result B Panic) → Result B Panic
when_fine (Err panic) go = Err panic
when_fine (Ok x) go = go x

-- a number that isn't negative, or the panic that refuses it
abbrev pub count_read : RunState → Number → Result ℕ Panic
count_read h z = ok_or (not_negative (number_read h z)) NUMBER_OUT_OF_RANGE

-- parts of what a readable text shows, or what refuses them: first its base, then the numbers
abbrev pub left_read : Script → RunState → Readable → Number → Result View Panic
left_read script h t z = when_fine (window_found script h t) (λ v. when_fine (count_read h z) (λ n. view_of_part v (left_part v.length n)))

abbrev pub right_read : Script → RunState → Readable → Number → Result View Panic
right_read script h t z = when_fine (window_found script h t) (λ v. when_fine (count_read h z) (λ n. view_of_part v (right_part v.length n)))

abbrev pub mid_read : Script → RunState → Readable → Number → Number → Result View Panic
mid_read script h t z y =
    when_fine (window_found script h t) (λ v. when_fine (count_read h z) (λ n. when_fine (count_read h y) (λ m. view_of_part v (mid_part v.length n m))))

-- what a view whose base isn't gone leads to
abbrev pub with_window : RunState → View → Effect → Effect
with_window h v go = unless_panics h (base_refusal h v.base) go

-- a number local gets the length of a text
abbrev pub length_effect : Script → RunState → ℕ → Readable → Effect
length_effect script h x t =
    let v = window_read script h t in
    with_window h v (gone_on (stored h x (number (pos v.length))))

-- or the maximum of one
abbrev pub max_effect : RunState → ℕ → Base → Effect
max_effect h x to = unless_panics h (base_refusal h to) (gone_on (stored h x (number (pos (base_max h to)))))

-- a text is printed
abbrev pub print_effect : Script → RunState → Readable → Effect
print_effect script h t =
    let v = window_read script h t in
    with_window h v (gone_on (line_printed h (printed (window_units script.literals h v))))
