-- The frames of locals once the buffer in one of them was edited.
use Rattle.std.specs.Prelude.{ℕ, Result, Ok, Err, slice_set}
use Rattle.wb_heap_model.specs.declared.heap.Panic.{Panic}
use Rattle.wb_heap_model.specs.Texts.{Buffer, Edited, answer_of, edited}
use Rattle.wb_machine.specs.LocalValues.{Frames, value_of_buffer}

-- a buffer was put in a local, unless its edit was refused
abbrev pub frames_put_back : Frames → ℕ → Buffer → Result (Unit {0}) Panic → Frames
frames_put_back f i b (Ok done) = record f { locals = slice_set f.locals i (value_of_buffer b) }
frames_put_back f i b (Err panic) = f

-- the buffer in a local was edited, or its edit refused
abbrev pub frames_edited : Frames → ℕ → Buffer → Edited → Frames
frames_edited f i b e = frames_put_back f i (edited b e) (answer_of e)
