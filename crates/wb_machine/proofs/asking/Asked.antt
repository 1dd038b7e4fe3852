-- Which statements ask for an attempt.
use Rattle.std.proofs.Common.{◌≡◌, ℕ, ℤ, ◌+◌, ◌*◌, ◌≤◌, length-append, Bool, true, false, cond, List, [], ◌∷◌, ◌++◌, refl, ap, ◌∙◌, sym, Option, Some, None, option_map, length}
use Rattle.std.specs.Prelude.{not, nat_eq, nat_le, ◌&&◌}
use Rattle.std.proofs.lemmas.Bool.{eq-eqb}
use Rattle.wb_basics.specs.declared.limits.TheConstants.{LARGEST_REQUEST, MOST_UNITS}
use Rattle.wb_heap_model.specs.declared.heap.TheConstants.Panic.{BAD_CELL, WRONG_KIND, NULL_OR_STALE, NUMBER_OUT_OF_RANGE, SHORTER_THAN_TEXT}
use Rattle.wb_heap_model.specs.declared.heap.Item.{Item}
use Rattle.wb_heap_model.specs.declared.heap.Item.TheVariants as I
use Rattle.wb_heap_model.specs.declared.heap.Kind.{Kind}
use Rattle.wb_heap_model.specs.declared.heap.Kind.TheVariants.{Raw, Object, Text, Cleanup}
use Rattle.wb_heap_model.specs.declared.heap.Panic.{Panic}
use Rattle.wb_heap_model.specs.declared.heap.Ptr.{Ptr}
use Rattle.wb_tree.specs.declared.script.Pointer.{Pointer}
use Rattle.wb_tree.specs.declared.script.Refusal.{Refusal}
use Rattle.wb_tree.specs.declared.script.Refusal.TheVariants.{GivesNull}
use Rattle.wb_tree.specs.declared.script.Script.{Script}
use Rattle.wb_tree.specs.declared.script.Statement.TheOpen.{Statement-F}
use Rattle.wb_heap_model.specs.Row.{Cell, cell_at}
use Rattle.wb_heap_model.specs.Spelling.{read_as}
use Rattle.wb_heap_model.specs.Contents.{Content, units}
use Rattle.wb_meaning.specs.State.{State, Process, with_some, require}
use Rattle.wb_meaning.specs.Operands.{within, number_of, units_of, with_cell, with_pointer}
use Rattle.wb_meaning.specs.Attempts.{after_growth, attempt, allocate, grow_if, push, reallocate, reallocate_longer}
use Rattle.wb_meaning.specs.Statements.{Layer, Context, is_raw, alloc_raw, realloc_of, realloc_raw, realloc_text, new_object, given_to, statement}
use Rattle.wb_heap_model.specs.Pointers.{is_null}
use Rattle.wb_heap_model.specs.declared.heap.Header.{Header}
use Rattle.wb_heap_model.specs.Debug.{Debug}
use Rattle.wb_heap_model.specs.TextCells.{IsTextAt, text_in}
use Rattle.wb_machine.specs.TextInvariant.{AreTexts}
use Rattle.wb_machine.proofs.kept.TextInvariant.{is_text_at}
use Rattle.wb_meaning.specs.Meaning.{meaning_of}
use Rattle.wb_machine.specs.declared.pieces.PendingPiece.TheVariants.{Object}
use Rattle.wb_machine.specs.RunState.{RunState, field_count, read_cell, state_of}
use Rattle.wb_machine.specs.Effects.{pointer_read, number_read}
use Rattle.wb_machine.specs.TextOperands.{is_text, text_refusal}
use Rattle.wb_machine.specs.Asks.{asks_at, is_some, is_longer, cell_asks, realloc_asks, text_asks, realloc_text_asks, growth_asks, push_asks, effect_asks, statement_asks}
use Rattle.wb_machine.specs.PointerOperands.{operands_refusal}
use Rattle.wb_machine.proofs.effects.Refused.{statement_refused}
use Rattle.wb_machine.proofs.effects.StatementEffects.{number_is, pointer_is, fine_first, fine_rest}
use Rattle.wb_machine.proofs.asking.Later.{later_asks}
use Rattle.wb_machine.proofs.asking.NothingAsked.{nothing_asked}
use Rattle.wb_machine.proofs.kept.Rows.{read_cell_at}

-- a cell whose header says so holds a text
pub text_seen : (p : Ptr) (d : Debug) (head : Header) → Some head ≡ option_map (λ c. c.head) (cell_at p d.heap.row) → is_text head.kind ≡ true → AreTexts d.heap.row → IsTextAt p d
text_seen p d head is text texts = is_text_at p d texts (by (cell_at p d.heap.row) is)
  where
    by : (o : Option (Cell (List ℕ))) → Some head ≡ option_map (λ c. c.head) o → text_refusal o ≡ None
    by None e = cc
    by (Some c) e = let same : head ≡ c.head = cc in ap (λ b. cond b None (Some WRONG_KIND)) (sym (ap (λ (x : Header). is_text x.kind) same) ∙ text)

module _ (script : Script) (h : RunState) where
  abbrev st : State
  st = state_of script h

  abbrev asked : Process → Bool
  asked p = asks_at h.steps p

  alloc_asked : (p : Pointer) (x : Refusal) (o : Option ℕ) → asked (with_some o NUMBER_OUT_OF_RANGE st (λ n. alloc_raw p x n st)) ≡ is_some o
  unfolding with_some alloc_raw allocate attempt
  alloc_asked p x None = refl
  alloc_asked p x (Some n) = eq-eqb h.steps h.steps refl

  new_text_asked : (p : Pointer) (x : Refusal) (o : Option ℕ) → asked (with_some o NUMBER_OUT_OF_RANGE st (λ n. allocate (4 + 2 * n) Text (units []) st (given_to p x))) ≡ is_some o
  unfolding with_some allocate attempt
  new_text_asked p x None = refl
  new_text_asked p x (Some n) = eq-eqb h.steps h.steps refl

  longer_asked : (p : Pointer) (x : Refusal) (c : Cell Content) (bytes : ℕ) (b : Bool) → asked (reallocate_longer b c bytes st st (given_to p x)) ≡ b
  unfolding reallocate_longer attempt given_to
  longer_asked p x c bytes true = eq-eqb h.steps h.steps refl
  longer_asked p x c bytes false = refl

  -- of a Raw cell, which may not be there
  raw_asked : (p : Pointer) (x : Refusal) (o : Option ℕ) (found : Option (Cell (List ℕ))) →
      asked (with_some (option_map (read_cell script) found) BAD_CELL st (λ c. require (is_raw c.head.kind) WRONG_KIND st (λ st.
      with_some o NUMBER_OUT_OF_RANGE st (λ bytes. reallocate c bytes st st (given_to p x)))))
      ≡ elim o [ None ↦ false | Some bytes ↦ cell_asks bytes found ]
  unfolding with_some require reallocate
  raw_asked p x None None = refl
  raw_asked p x (Some bytes) None = refl
  raw_asked p x None (Some c) = by c.head.kind
    where
      by : (kind : Kind) → asked (require (is_raw kind) WRONG_KIND st (λ st. with_some None NUMBER_OUT_OF_RANGE st (λ bytes. reallocate (read_cell script c) bytes st st (given_to p x)))) ≡ false
      by Raw = refl
      by (Object class) = refl
      by Text = refl
      by Cleanup = refl
  raw_asked p x (Some bytes) (Some c) = by c.head.kind
    where
      by : (kind : Kind) → asked (require (is_raw kind) WRONG_KIND st (λ st. with_some (Some bytes) NUMBER_OUT_OF_RANGE st (λ bytes. reallocate (read_cell script c) bytes st st (given_to p x))))
          ≡ (is_raw kind && is_longer c bytes)
      by Raw = longer_asked p x (read_cell script c) bytes (is_longer c bytes)
      by (Object class) = refl
      by Text = refl
      by Cleanup = refl

  realloc_asked : (p : Pointer) (x : Refusal) (q : Ptr) (z : ℤ) → asked (realloc_of (is_null q) p x q z st) ≡ realloc_asks h q (within LARGEST_REQUEST z)
  unfolding realloc_of realloc_raw
  realloc_asked p x q z = by (is_null q) (within LARGEST_REQUEST z) refl
    where
      asks_for : Bool → Option ℕ → Bool
      asks_for b None = false
      asks_for b (Some bytes) = cond b true (cell_asks bytes (cell_at q h.debug.heap.row))

      by : (b : Bool) (o : Option ℕ) → within LARGEST_REQUEST z ≡ o → asked (realloc_of b p x q z st) ≡ asks_for b o
      by true None e = ap (λ o. asked (with_some o NUMBER_OUT_OF_RANGE st (λ bytes. alloc_raw p x bytes st))) e ∙ alloc_asked p x None
      by true (Some bytes) e = ap (λ o. asked (with_some o NUMBER_OUT_OF_RANGE st (λ bytes. alloc_raw p x bytes st))) e ∙ alloc_asked p x (Some bytes)
      by false None e =
          ap (λ o. asked (with_some (cell_at q st.heap.row) BAD_CELL st (λ c. require (is_raw c.head.kind) WRONG_KIND st (λ st. with_some o NUMBER_OUT_OF_RANGE st (λ bytes. reallocate c bytes st st (given_to p x)))))) e
          ∙ ap (λ found. asked (with_some found BAD_CELL st (λ c. require (is_raw c.head.kind) WRONG_KIND st (λ st. with_some None NUMBER_OUT_OF_RANGE st (λ bytes. reallocate c bytes st st (given_to p x)))))) (read_cell_at script q h.debug.heap.row)
          ∙ raw_asked p x None (cell_at q h.debug.heap.row)
      by false (Some bytes) e =
          ap (λ o. asked (with_some (cell_at q st.heap.row) BAD_CELL st (λ c. require (is_raw c.head.kind) WRONG_KIND st (λ st. with_some o NUMBER_OUT_OF_RANGE st (λ bytes. reallocate c bytes st st (given_to p x)))))) e
          ∙ ap (λ found. asked (with_some found BAD_CELL st (λ c. require (is_raw c.head.kind) WRONG_KIND st (λ st. with_some (Some bytes) NUMBER_OUT_OF_RANGE st (λ bytes. reallocate c bytes st st (given_to p x)))))) (read_cell_at script q h.debug.heap.row)
          ∙ raw_asked p x (Some bytes) (cell_at q h.debug.heap.row)

  -- of a text, which may not be there
  text_asked : (p : Pointer) (o : Option ℕ) (found : Option (Cell (List ℕ))) →
      asked (with_some (option_map (read_cell script) found) NULL_OR_STALE st (λ c. with_some (units_of c.head.kind c.content) WRONG_KIND st (λ us.
      with_some o NUMBER_OUT_OF_RANGE st (λ n. realloc_text p c us n st))))
      ≡ elim o [ None ↦ false | Some n ↦ text_asks n found ]
  unfolding with_some realloc_text require reallocate
  text_asked p None None = refl
  text_asked p (Some n) None = refl
  text_asked p None (Some c) = by c.head.kind
    where
      by : (kind : Kind) → asked (with_some (units_of kind (read_as (field_count script) kind c.content)) WRONG_KIND st (λ us. with_some None NUMBER_OUT_OF_RANGE st (λ n. realloc_text p (read_cell script c) us n st))) ≡ false
      by Raw = refl
      by (Object class) = refl
      by Text = refl
      by Cleanup = refl
  text_asked p (Some n) (Some c) = by c.head.kind
    where
      short : (b : Bool) → asked (require b SHORTER_THAN_TEXT st (λ st. reallocate (read_cell script c) (4 + 2 * n) st st (given_to p GivesNull))) ≡ (b && is_longer c (4 + 2 * n))
      short true = longer_asked p GivesNull (read_cell script c) (4 + 2 * n) (is_longer c (4 + 2 * n))
      short false = refl

      by : (kind : Kind) → asked (with_some (units_of kind (read_as (field_count script) kind c.content)) WRONG_KIND st (λ us. with_some (Some n) NUMBER_OUT_OF_RANGE st (λ n. realloc_text p (read_cell script c) us n st)))
          ≡ (is_text kind && (nat_le (length (text_in c.content)) n && is_longer c (4 + 2 * n)))
      by Raw = refl
      by (Object class) = refl
      by Text = short (nat_le (length (text_in c.content)) n)
      by Cleanup = refl

  realloc_text_asked : (p : Pointer) (q : Ptr) (o : Option ℕ) →
      asked (with_cell st q (λ c. with_some (units_of c.head.kind c.content) WRONG_KIND st (λ us. with_some o NUMBER_OUT_OF_RANGE st (λ n. realloc_text p c us n st)))) ≡ realloc_text_asks h q o
  unfolding with_cell
  realloc_text_asked p q None =
      ap (λ found. asked (with_some found NULL_OR_STALE st (λ c. with_some (units_of c.head.kind c.content) WRONG_KIND st (λ us. with_some None NUMBER_OUT_OF_RANGE st (λ n. realloc_text p c us n st))))) (read_cell_at script q h.debug.heap.row)
      ∙ text_asked p None (cell_at q h.debug.heap.row)
  realloc_text_asked p q (Some n) =
      ap (λ found. asked (with_some found NULL_OR_STALE st (λ c. with_some (units_of c.head.kind c.content) WRONG_KIND st (λ us. with_some (Some n) NUMBER_OUT_OF_RANGE st (λ n. realloc_text p c us n st))))) (read_cell_at script q h.debug.heap.row)
      ∙ text_asked p (Some n) (cell_at q h.debug.heap.row)

  -- of the cleanup stack, whose cell may not be there
  growth_asked : (more : State) (found : Option (Cell (List ℕ))) → asked (with_some (option_map (read_cell script) found) NULL_OR_STALE more (λ c. reallocate c (16 * (h.slots + 4)) st more after_growth)) ≡ growth_asks h.slots found
  unfolding with_some reallocate reallocate_longer attempt after_growth
  growth_asked more None = refl
  growth_asked more (Some c) = by (is_longer c (16 * (h.slots + 4)))
    where
      by : (b : Bool) → asked (reallocate_longer b (read_cell script c) (16 * (h.slots + 4)) st more after_growth) ≡ b
      by true = eq-eqb h.steps h.steps refl
      by false = refl

  push_asked : (item : Item) → asked (push item st) ≡ push_asks h
  unfolding push grow_if with_cell
  push_asked item =
      ap (λ n. asked (grow_if (nat_eq n h.slots) st more)) (length-append h.items (item ∷ [])) ∙ by (nat_eq (length h.items + 1) h.slots)
    where
      more : State
      more = record st { items = h.items ++ item ∷ [] }

      by : (b : Bool) → asked (grow_if b st more) ≡ (b && growth_asks h.slots (cell_at h.cleanup h.debug.heap.row))
      by true =
          ap (λ found. asked (with_some found NULL_OR_STALE more (λ c. reallocate c (16 * (h.slots + 4)) st more after_growth))) (read_cell_at script h.cleanup h.debug.heap.row)
          ∙ growth_asked more (cell_at h.cleanup h.debug.heap.row)
      by false = refl

  -- where no operand is refused
  effect_asked : (budget : ℕ) (at : Context) (layer : Layer) → h.steps ≤ budget → operands_refusal h layer ≡ None →
      asked (statement script (meaning_of script budget) at layer st) ≡ effect_asks script h layer
  unfolding statement new_object allocate attempt
  effect_asked budget at (Statement-F.Alloc p v x) within_budget ok =
      ap asked (pointer_is script h p (λ _. with_some (within LARGEST_REQUEST (number_of st v)) NUMBER_OUT_OF_RANGE st (λ n. alloc_raw p x n st)) (fine_first h p [] ok))
      ∙ ap (λ z. asked (with_some (within LARGEST_REQUEST z) NUMBER_OUT_OF_RANGE st (λ n. alloc_raw p x n st))) (number_is script h v)
      ∙ alloc_asked p x (within LARGEST_REQUEST (number_read h v))
  effect_asked budget at (Statement-F.Realloc p q v x) within_budget ok =
      ap asked (pointer_is script h p (λ _. with_pointer st q (λ old. realloc_of (is_null old) p x old (number_of st v) st)) (fine_first h p (q ∷ []) ok)
      ∙ pointer_is script h q (λ old. realloc_of (is_null old) p x old (number_of st v) st) (fine_first h q [] (fine_rest h p (q ∷ []) ok)))
      ∙ ap (λ z. asked (realloc_of (is_null (pointer_read script h q)) p x (pointer_read script h q) z st)) (number_is script h v)
      ∙ realloc_asked p x (pointer_read script h q) (number_read h v)
  effect_asked budget at (Statement-F.NewText p v x) within_budget ok =
      ap asked (pointer_is script h p (λ _. with_some (within MOST_UNITS (number_of st v)) NUMBER_OUT_OF_RANGE st (λ n. allocate (4 + 2 * n) Text (units []) st (given_to p x))) (fine_first h p [] ok))
      ∙ ap (λ z. asked (with_some (within MOST_UNITS z) NUMBER_OUT_OF_RANGE st (λ n. allocate (4 + 2 * n) Text (units []) st (given_to p x)))) (number_is script h v)
      ∙ new_text_asked p x (within MOST_UNITS (number_read h v))
  effect_asked budget at (Statement-F.ReallocText p q v) within_budget ok =
      let from : Ptr → ℤ → Process = λ old z. with_cell st old (λ c. with_some (units_of c.head.kind c.content) WRONG_KIND st (λ us. with_some (within MOST_UNITS z) NUMBER_OUT_OF_RANGE st (λ n. realloc_text p c us n st))) in
      ap asked (pointer_is script h p (λ _. with_pointer st q (λ old. from old (number_of st v))) (fine_first h p (q ∷ []) ok)
      ∙ pointer_is script h q (λ old. from old (number_of st v)) (fine_first h q [] (fine_rest h p (q ∷ []) ok)))
      ∙ ap (λ z. asked (from (pointer_read script h q) z)) (number_is script h v)
      ∙ realloc_text_asked p (pointer_read script h q) (within MOST_UNITS (number_read h v))
  effect_asked budget at (Statement-F.New p class x) within_budget ok =
      ap asked (pointer_is script h p (λ _. new_object script p class x st) (fine_first h p [] ok)) ∙ eq-eqb h.steps h.steps refl
  effect_asked budget at (Statement-F.Push p) within_budget ok =
      ap asked (pointer_is script h p (λ q. push (I.Free q) st) (fine_first h p [] ok)) ∙ push_asked (I.Free (pointer_read script h p))
  effect_asked budget at (Statement-F.PushObject p) within_budget ok =
      ap asked (pointer_is script h p (λ q. push (I.Delete q) st) (fine_first h p [] ok)) ∙ push_asked (I.Delete (pointer_read script h p))
  effect_asked budget at (Statement-F.PushOperation p operation) within_budget ok =
      ap asked (pointer_is script h p (λ q. push (I.Call q operation) st) (fine_first h p [] ok)) ∙ push_asked (I.Call (pointer_read script h p) operation)
  effect_asked budget at layer within_budget ok =
      later_asks h.steps (statement script (meaning_of script budget) at layer st) (nothing_asked script budget at layer st within_budget refl)

  -- one that is refused for an operand asks for nothing
  pub statement_asked : (budget : ℕ) (at : Context) (layer : Layer) → h.steps ≤ budget →
      asked (statement script (meaning_of script budget) at layer st) ≡ statement_asks script h layer
  statement_asked budget at layer within_budget = by (operands_refusal h layer) refl
    where
      by : (o : Option Panic) → operands_refusal h layer ≡ o → asked (statement script (meaning_of script budget) at layer st) ≡ (not (is_some o) && effect_asks script h layer)
      by (Some panic) e = ap asked (statement_refused script h (meaning_of script budget) at layer panic e)
      by None e = effect_asked budget at layer within_budget e
