-- A buffer that is edited where it is, in the locals that hold it.
use Rattle.std.proofs.Common.{◌≡◌, ℕ, ◌+◌, ◌≤◌, List, take, drop, length, get_or, ap, subst, sym, ◌∙◌}
use Rattle.std.specs.Prelude.{slice_set as set, Result, Ok, Err}
use Rattle.std.proofs.lemmas.List.{set-get_or}
use Rattle.wb_heap_model.specs.declared.heap.Panic.{Panic}
use Rattle.wb_heap_model.specs.declared.text.Base.TheVariants as B
use Rattle.wb_meaning.specs.State.{buffer}
use Rattle.wb_meaning.specs.Reading.{max_in}
use Rattle.wb_heap_model.specs.Texts.{Buffer, Edited, answer_of, edited}
use Rattle.wb_machine.specs.RunState.{RunState, value_in}
use Rattle.wb_machine.specs.StateView.{run_state}
use Rattle.wb_machine.specs.Effects.{stored}
use Rattle.wb_machine.specs.TextEffects.{IsWritten, ending_by}
use Rattle.wb_machine.specs.declared.pieces.Ending.{Ending}
use Rattle.wb_machine.specs.declared.state.State.TheInside.{Inside}
use Rattle.wb_machine.specs.declared.locals.BufferIndex.{BufferIndex}
use Rattle.wb_machine.specs.declared.locals.Stored.{Stored}
use Rattle.wb_machine.specs.declared.locals.Stored.TheVariants as T
use Rattle.wb_machine.specs.LocalValues.{Frames, buffer_in, value_of_buffer, no_buffer, value_stored, values_stored, stored_at, AreAscending}
use Rattle.wb_machine.specs.BufferEdits.{frames_edited}
use Rattle.wb_machine.proofs.frames.Frames.{local_set}
use Rattle.wb_machine.proofs.frames.Buffers.{read_stored, buffer_changed}

module _ (bs : List Buffer) (xs : List Stored) (base i end : ℕ) (was : Frames) (place : BufferIndex)
    (is : ◌≡◌ {A = Frames} (record { callers = take base (values_stored bs xs); locals = drop base (values_stored bs xs) }) was) (there : stored_at xs (base + i) ≡ T.Buffer place) where
  abbrev frames : List Buffer → Frames
  frames cs = record { callers = take base (values_stored cs xs); locals = drop base (values_stored cs xs) }

  -- what the local holds
  pub held : buffer_in (value_in was.locals i) ≡ get_or bs place.at no_buffer
  held = ap buffer_in (read_stored bs xs base i was is ∙ ap (value_stored bs) there)

  edited_as : (b c : Buffer) (e : Edited) → end ≤ length bs → AreAscending 0 end xs → b ≡ get_or bs place.at no_buffer → c ≡ edited b e → frames (set bs place.at c) ≡ frames_edited was i b e
  edited_as b c (Ok us) long ascends here made =
      local_set (values_stored bs xs) (values_stored (set bs place.at c) xs) base i (value_of_buffer c) was is (buffer_changed bs c 0 end (base + i) xs place long ascends there)
      ∙ ap (λ (x : Buffer). record was { locals = set was.locals i (value_of_buffer x) }) made
  edited_as b c (Err panic) long ascends here made =
      ap (λ (x : Buffer). frames (set bs place.at x)) (made ∙ here) ∙ ap frames (set-get_or bs place.at no_buffer) ∙ is

  -- the frames once it was edited
  pub edited_in_place : (e : Buffer → Edited) (b c : Buffer) → end ≤ length bs → AreAscending 0 end xs → b ≡ get_or bs place.at no_buffer → c ≡ edited b (e b) →
      frames (set bs place.at c) ≡ frames_edited was i (buffer_in (value_in was.locals i)) (e (buffer_in (value_in was.locals i)))
  edited_in_place e b c long ascends here made =
      edited_as b c (e b) long ascends here made ∙ ap (λ (x : Buffer). frames_edited was i x (e x)) (here ∙ sym held)

-- an edit of the buffer in a local, as it was carried out
written_as : (s : Inside) (h : RunState) (i : ℕ) (f : Frames) (e : Edited) (ending : Ending) → run_state s ≡ h → f ≡ frames_edited s.locals i (buffer_in (value_in s.locals.locals i)) e →
    ending ≡ ending_by (answer_of e) → IsWritten h (B.Local i) e ending (run_state (record s { locals = f }))
written_as s h i f (Ok us) ending seen is ends =
    (ends, ap (λ (g : Frames). run_state (record s { locals = g })) is ∙ ap (λ (x : RunState). stored x i (buffer (max_in (value_in x.locals i)) us)) seen)
written_as s h i f (Err panic) ending seen is ends = (ends, ap (λ (g : Frames). run_state (record s { locals = g })) is ∙ seen)

pub buffer_written : (s : Inside) (h : RunState) (i : ℕ) (f : Frames) (e as_seen : Edited) (answer : Result (Unit {0}) Panic) (ending : Ending) → run_state s ≡ h → e ≡ as_seen →
    f ≡ frames_edited s.locals i (buffer_in (value_in s.locals.locals i)) e → answer ≡ answer_of e → ending ≡ ending_by answer →
    IsWritten h (B.Local i) as_seen ending (run_state (record s { locals = f }))
buffer_written s h i f e as_seen answer ending seen same is says ends =
    subst (λ (x : Edited). IsWritten h (B.Local i) x ending (run_state (record s { locals = f }))) same (written_as s h i f e ending seen is (ends ∙ ap ending_by says))
