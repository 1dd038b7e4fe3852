-- What a sizing says of a script: the length that it needs, and what each shorter heap refuses first.
use Rattle.std.specs.Prelude.{◌≡◌, ◌≢◌, ℕ, ◌≤◌, ◌↔◌, Option, None}
use Rattle.wb_heap_model.specs.declared.heap.Rule.TheVariants.{Unlimited}
use Rattle.wb_heap_model.specs.declared.heap.Shape.{Shape}
use Rattle.wb_meaning.specs.declared.run.Outcome.TheVariants.{Cut}
use Rattle.wb_meaning.specs.declared.run.Why.{Why}
use Rattle.wb_tree.specs.declared.script.Script.{Script}
use Rattle.wb_meaning.specs.Run.{run, required, rises, first_rise_above}
use Rattle.wb_runs.specs.Sizes.{refused_first, IsHeapLength}
use Rattle.wb_size.specs.declared.sizing.Sizing.{Sizing}

-- the attempt that a sizing names for a length
abbrev pub refusal_in : Sizing → ℕ → Option ℕ
refusal_in sizing length = first_rise_above length sizing.rises

-- Every length is spoken of, also those past the ceiling.
pub record IsSizing (script : Script) (budget : ℕ) (shape : Shape) (sizing : Sizing) : Type 0 where
  -- the run without a limit isn't cut, and the numbers are those of the definitions
  pub uncut : (why : Why) → (run script Unlimited budget shape).outcome ≢ Cut why
  pub required : sizing.required ≡ required script budget shape
  pub rises : sizing.rises ≡ rises script budget shape
  -- and they are what runs under limits make of them
  pub needed : IsHeapLength script budget shape sizing.required sizing.rises
  -- the first attempt refused is the one that `refused_at` tells
  pub first : (length : ℕ) → refused_first script budget shape length ≡ refusal_in sizing length
  pub none : (length : ℕ) → (refusal_in sizing length ≡ None) ↔ (sizing.required ≤ length)
