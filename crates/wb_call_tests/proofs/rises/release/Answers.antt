use Rattle.std.proofs.Common.{◌≡◌, Result, Ok, Err, OnOk, OnErr, Bool, true, false, cond, refl, ap, ◌∙◌}
use Rattle.wb_heap_model.specs.declared.heap.Panic.{Panic}
use Rattle.wb_heap_model.specs.declared.heap.Ptr.{Ptr}
use Rattle.wb_heap_model.specs.Debug.{Debug, keeps_rises, debug_without, with_row}
use Rattle.wb_heap_model.specs.Row.{without}
use Rattle.wb_heap_model.specs.Pointers.{is_null}
use Rattle.wb_call_tests.proofs.rises.release.Goals as goal

-- a release changes nothing about what is kept
kept : {T : Type 0} (d e : Debug) (p : Ptr) (answer : Result T Panic) → OnOk answer (e ≡ debug_without d p) → OnErr answer (e ≡ d) → keeps_rises e ≡ keeps_rises d
kept d e p (Err panic) released same = ap keeps_rises same
kept d e p (Ok x) released same = ap keeps_rises released ∙ by (is_null p)
  where
    by : (b : Bool) → keeps_rises (cond b d (with_row d (without p d.heap.row))) ≡ keeps_rises d
    by true = refl
    by false = refl

pub returns : goal.returns
returns c = kept c.args.heap.now c.release.new.self c.args.ptr c.release.result c.release.ensures.released c.release.ensures.err
