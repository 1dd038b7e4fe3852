-- What a sweep over sets answers is one thing, case by case: one set is found, or one is cut, or there is none.
use Rattle.std.proofs.Common.{◌≡◌, ℕ, List}
use Rattle.wb_heap_model.specs.declared.heap.Shape.{Shape}
use Rattle.wb_runs.specs.declared.part.Part.{Part}
use Rattle.wb_meaning.specs.declared.run.RunResult.{RunResult}
use Rattle.wb_meaning.specs.declared.run.Why.{Why}
use Rattle.wb_tree.specs.declared.script.Script.{Script}
use Rattle.wb_runs.specs.SetAnswers.{found, cut, none}
use Rattle.wb_runs.specs.SetParts.{IsNoSetIn, IsSetCutIn, IsSetFoundIn}
use Rattle.wb_runs.proofs.OneSetAnswer.{once-of-sets}

module _ (part : Part) (most : ℕ) (script : Script) (budget : ℕ) (shape : Shape) where
  pub once-set : (a b : List ℕ) (r q : RunResult) → IsSetFoundIn part most script budget shape a r → IsSetFoundIn part most script budget shape b q → (a ≡ b) × (r ≡ q)
  once-set a b r q s t =
      let same : found a r ≡ found b q = once-of-sets part most script budget shape (found a r) (found b q) s t in
      let set : a ≡ b = cc in
      let run : r ≡ q = cc in
      (set, run)

  pub once-cut-set : (a b : List ℕ) (why reason : Why) → IsSetCutIn part most script budget shape a why → IsSetCutIn part most script budget shape b reason
      → (a ≡ b) × (why ≡ reason)
  once-cut-set a b why reason s t =
      let same : cut a why ≡ cut b reason = once-of-sets part most script budget shape (cut a why) (cut b reason) s t in
      let set : a ≡ b = cc in
      let cause : why ≡ reason = cc in
      (set, cause)

  pub set-uncut : (a b : List ℕ) (r : RunResult) (why : Why) → IsSetFoundIn part most script budget shape a r → IsSetCutIn part most script budget shape b why → ⊥
  set-uncut a b r why s t =
      let same : found a r ≡ cut b why = once-of-sets part most script budget shape (found a r) (cut b why) s t in
      absurd (cc)

  pub set-some : (a : List ℕ) (r : RunResult) → IsSetFoundIn part most script budget shape a r → IsNoSetIn part most script budget shape → ⊥
  set-some a r s t =
      let same : found a r ≡ none = once-of-sets part most script budget shape (found a r) none s t in
      absurd (cc)

  pub cut-set-some : (a : List ℕ) (why : Why) → IsSetCutIn part most script budget shape a why → IsNoSetIn part most script budget shape → ⊥
  cut-set-some a why s t =
      let same : cut a why ≡ none = once-of-sets part most script budget shape (cut a why) none s t in
      absurd (cc)
