-- What is said of all sets, and what is said of those of a part that begins with number 0 and has each attempt, come to the same.
use Rattle.std.proofs.Common.{◌≡◌, ◌+◌, ◌≤◌, arith, Bool, true, false, ℕ, List, refl, le_refl}
use Rattle.std.specs.Prelude.{nat_eq}
use Rattle.std.proofs.lemmas.Bool.{and_parts, eqb-true}
use Rattle.wb_runs.specs.declared.failures.Failures.TheVariants.{Single}
use Rattle.wb_heap_model.specs.declared.heap.Shape.{Shape}
use Rattle.wb_basics.specs.declared.limits.TheConstants.{CEILING, LARGEST_BUDGET}
use Rattle.wb_runs.specs.declared.part.Part.{Part}
use Rattle.wb_meaning.specs.declared.run.RunResult.{RunResult}
use Rattle.wb_meaning.specs.declared.run.Why.{Why}
use Rattle.wb_tree.specs.declared.script.Script.{Script}
use Rattle.wb_runs.specs.EverySet.{IsLeastSetCutIn, IsLeastSetFoundIn, IsNoSetOfAnySizeIn}
use Rattle.wb_runs.specs.Parts.{last_attempt}
use Rattle.wb_runs.specs.SetParts.{IsNoSetIn, IsSetCutIn, IsSetFoundIn}
use Rattle.wb_runs.specs.Sets.{set_run}
use Rattle.wb_runs.proofs.EverySetAnswers.{whole-every-cut, whole-every-found, whole-every-none}
use Rattle.wb_runs.proofs.SetPartAnswers.{whole-set-cut, whole-set-found, whole-set-none}
use Rattle.workbench.specs.EverySetReport.{IsLeastSetCutOver, IsLeastSetFoundOver, IsNoSetOfAnySizeOver}
use Rattle.workbench.specs.PartReport.{is_whole}
use Rattle.workbench.specs.SetsReport.{IsNoSetOver, IsSetCutOver, IsSetFoundOver}

-- ---- from all sets to those of a part

module _ (script : Script) (budget : ℕ) (shape : Shape) where
  -- the part that was given, or one that has exactly the attempts of the run without failure
  abbrev pub part_over : Bool → Part → Part
  part_over true part = record { from = 0; to = last_attempt Single script budget shape }
  part_over false part = part

  module _ (part : Part) (most : ℕ) where
    pub found-in : (whole : Bool) (numbers : List ℕ) (result : RunResult) → IsSetFoundOver whole part most script budget shape numbers result
        → IsSetFoundIn (part_over whole part) most script budget shape numbers result
    found-in true numbers result is = (whole-set-found (part_over true part) most script budget shape numbers result refl (le_refl _)).1 is
    found-in false numbers result is = is

    pub cut-in : (whole : Bool) (numbers : List ℕ) (why : Why) → IsSetCutOver whole part most script budget shape numbers why
        → IsSetCutIn (part_over whole part) most script budget shape numbers why
    cut-in true numbers why is = (whole-set-cut (part_over true part) most script budget shape numbers why refl (le_refl _)).1 is
    cut-in false numbers why is = is

    pub none-in : (whole : Bool) → IsNoSetOver whole part most script budget shape → IsNoSetIn (part_over whole part) most script budget shape
    none-in true is = (whole-set-none (part_over true part) most script budget shape refl (le_refl _)).1 is
    none-in false is = is

    -- what is printed is the run in which the attempts of the set fail
    pub run-over : (whole : Bool) (numbers : List ℕ) (result : RunResult) → IsSetFoundOver whole part most script budget shape numbers result
        → result ≡ set_run script budget shape numbers
    run-over true numbers result is = is.0.run_is
    run-over false numbers result is = is.run_is

  -- ---- of any size

  module _ (part : Part) where
    pub least-found-in : (whole : Bool) (numbers : List ℕ) (result : RunResult) → IsLeastSetFoundOver whole part script budget shape numbers result
        → IsLeastSetFoundIn (part_over whole part) script budget shape numbers result
    least-found-in true numbers result is = (whole-every-found (part_over true part) script budget shape numbers result refl (le_refl _)).1 is
    least-found-in false numbers result is = is

    pub least-cut-in : (whole : Bool) (numbers : List ℕ) (why : Why) → IsLeastSetCutOver whole part script budget shape numbers why
        → IsLeastSetCutIn (part_over whole part) script budget shape numbers why
    least-cut-in true numbers why is = (whole-every-cut (part_over true part) script budget shape numbers why refl (le_refl _)).1 is
    least-cut-in false numbers why is = is

    pub none-of-any-size-in : (whole : Bool) → IsNoSetOfAnySizeOver whole part script budget shape → IsNoSetOfAnySizeIn (part_over whole part) script budget shape
    none-of-any-size-in true is = (whole-every-none (part_over true part) script budget shape refl (le_refl _)).1 is
    none-of-any-size-in false is = is

    pub least-run-over : (whole : Bool) (numbers : List ℕ) (result : RunResult) → IsLeastSetFoundOver whole part script budget shape numbers result
        → result ≡ set_run script budget shape numbers
    least-run-over true numbers result is = is.run_is
    least-run-over false numbers result is = is.run_is

-- ---- from the sets of the whole to all

ends_of_whole : (part : Part) → is_whole part ≡ true → (part.from ≡ 0) × (part.to ≡ CEILING)
ends_of_whole part is =
    let both = and_parts (nat_eq part.from 0) (nat_eq part.to CEILING) is in
    (eqb-true part.from 0 both.0, eqb-true part.to CEILING both.1)

-- no run makes more attempts than the whole has numbers
module _ (part : Part) (script : Script) (budget : ℕ) (shape : Shape) (allowed : budget ≤ LARGEST_BUDGET)
    (few : last_attempt Single script budget shape ≤ budget + 1) where
  has_all : is_whole part ≡ true → last_attempt Single script budget shape ≤ part.to
  has_all is = let end = (ends_of_whole part is).1 in omega (arith, allowed, few, end)

  module _ (most : ℕ) where
    pub found-over : (whole : Bool) → is_whole part ≡ whole → (numbers : List ℕ) (result : RunResult) → IsSetFoundIn part most script budget shape numbers result
        → IsSetFoundOver whole part most script budget shape numbers result
    found-over true e numbers result is = (whole-set-found part most script budget shape numbers result (ends_of_whole part e).0 (has_all e)).0 is
    found-over false e numbers result is = is

    pub cut-over : (whole : Bool) → is_whole part ≡ whole → (numbers : List ℕ) (why : Why) → IsSetCutIn part most script budget shape numbers why
        → IsSetCutOver whole part most script budget shape numbers why
    cut-over true e numbers why is = (whole-set-cut part most script budget shape numbers why (ends_of_whole part e).0 (has_all e)).0 is
    cut-over false e numbers why is = is

    pub none-over : (whole : Bool) → is_whole part ≡ whole → IsNoSetIn part most script budget shape → IsNoSetOver whole part most script budget shape
    none-over true e is = (whole-set-none part most script budget shape (ends_of_whole part e).0 (has_all e)).0 is
    none-over false e is = is

  -- ---- of any size

  pub least-found-over : (whole : Bool) → is_whole part ≡ whole → (numbers : List ℕ) (result : RunResult) → IsLeastSetFoundIn part script budget shape numbers result
      → IsLeastSetFoundOver whole part script budget shape numbers result
  least-found-over true e numbers result is = (whole-every-found part script budget shape numbers result (ends_of_whole part e).0 (has_all e)).0 is
  least-found-over false e numbers result is = is

  pub least-cut-over : (whole : Bool) → is_whole part ≡ whole → (numbers : List ℕ) (why : Why) → IsLeastSetCutIn part script budget shape numbers why
      → IsLeastSetCutOver whole part script budget shape numbers why
  least-cut-over true e numbers why is = (whole-every-cut part script budget shape numbers why (ends_of_whole part e).0 (has_all e)).0 is
  least-cut-over false e numbers why is = is

  pub none-of-any-size-over : (whole : Bool) → is_whole part ≡ whole → IsNoSetOfAnySizeIn part script budget shape → IsNoSetOfAnySizeOver whole part script budget shape
  none-of-any-size-over true e is = (whole-every-none part script budget shape (ends_of_whole part e).0 (has_all e)).0 is
  none-of-any-size-over false e is = is
