-- What the walks of a region share. Assumes `Logic`.
--     region_had, region_made      what a region owns, taken apart to its block, and made of it
--     shows_start                  what a `&` to a region shows of its pointer
--     snoc, words_room             a word after others; words, and room after them, are room
--     words_dropped                so are the words past a number of them
use mathlib.Core.Path.{◌≡◌, refl, ◌∙◌}
use mathlib.Core.List.{List, [], ◌∷◌, ◌++◌}
use Prim.Native.Nat.{ℕ, zero, suc, ◌+◌, ◌-◌, ◌*◌}
use native.Mathlib.Omega.{arith}
use lib.Dec.{T, lit<}
use lib.ListN.{length, take}
use seplogic.Ra.Ura.{Ura}
use mir.Syntax.{Ty, Args, w32, a_type, ty_int, ty_array, dcons, dnil}
use mir.Val.{Val, vint, vstruct, vcons, vnil, of_list, has_ty, WT}
use base.Logic.{ent, sep}
use base.Fraction.{full_share}
use base.Fml.{Lft, Fml, fsep, fat, froom}
use types.Logic.{Logic, sem}
use types.Kit.{Goal, Step, step, Seq, Item, ‵, ◌⊛◌, ◌$◌, ◌∵◌, !, qed, move, keep, drop, use1, use2, split, rewrite, fsplit, fjoin, fpick, feq_l, done}
use denote.RattleType.{RattleType, RowLaws}
use denote.Builtin.{u32}
use denote.Index.{row}
use denote.Memory.{hidden_shr, part_at}
use denote.Opens.{shr_dup, unhide, hide}
use denote.Laws.{Is, Tells}
use denote.Param.{param, bounded, layout}
use denote.Plain.{uint_out}
use denote.RawPtr.{Ptr, RawPtr, block_ptr, null_ptr, ptr_val, ptr_row_laws, room_for, ◌+ₚ◌}
use denote.Shadow.{pure_i}
use denote.Struct.Struct.{Struct, Struct-row_laws}
use denote.Struct.Owning.{shape}
use denote.Struct.Declared as Declared
use denote.Steps.{nothing}
use Rattle.std.specs.Allocator.{block_with_items}
use Rattle.std.proofs.alloc.Calls.{Al, token}
use Rattle.std.specs.contracts.marker.PhantomData as marker
use Rattle.wb_chunk.specs.contracts.region.Region as C

abbrev pub region_val : Ptr → Val
region_val p = vstruct (vcons (ptr_val p) (vcons (vstruct vnil) vnil))

-- room for n words
abbrev pub room_ty : ℕ → Ty
room_ty n = ty_array (ty_int w32) n

module _ (Z : Al) where
  abbrev pub args : Args
  args = bounded (a_type ∷ []) (Z.row, tt) (dcons Z.d (dcons Z.drops dnil))

  abbrev pub P : RattleType
  P = param 0 Z.row

  abbrev pub Rg : RattleType
  Rg = C.the_row P Z.g

  -- the data fields: the pointer, and the mark, which takes no bytes
  abbrev pub Fields : RattleType
  Fields = Struct (shape (C.the_type P Z.g))

  abbrev pub fields : Rg.Denot → Fields.Denot
  fields d = (d.start, (tt, tt))

  abbrev pub block : Rg.Denot → Fml
  block = C.the_heap P Z.g

  -- what lies at p, with these words in it
  abbrev pub block_at : Rg.Denot → Ptr → List ℕ → Fml
  block_at d p words = block_with_items (token Z d.alloc) u32 p (length words) d.capacity words

  -- the same after the first m words, with the right to free it
  abbrev pub spare_at : Rg.Denot → Ptr → ℕ → Fml
  spare_at d p m = fsep (room_for (room_ty (d.capacity - m)) (p +ₚ (m * 4))) (token Z d.alloc (room_ty d.capacity) p)

pub region_Tells : (Z : Al) → Tells (Rg Z) (Is (Rg Z)) (λ d. region_val d.start ∷ [])
region_Tells Z d vs is = is.0.1.0 ∙ (λ i. vstruct (of_list (is.0.1.1.0 i ++ (is.0.1.1.1.0.1.0 i ++ []))) ∷ [])

pub region_typed : (Z : Al) (p : Ptr) → T (has_ty (layout (Rg Z)) (region_val p)) × WT (region_val p)
region_typed Z (block_ptr b o) = (tt, (tt, (tt, tt)))
region_typed Z null_ptr = (tt, (record { fits = lit< tt }, (tt, tt)))

module _ (Z : Al) {M : Type 1} {𝓤 : Ura M} {𝓛 : Logic 𝓤} {K : Type 0} {Γ : List (Item 𝓤)} {G : Goal 𝓤 𝓛.H} where
  pub region_had : K → (d : (Rg Z).Denot) (vs : List Val) → (vs ≡ region_val d.start ∷ [] → Seq K 𝓛 (‵ (block Z d) ∷ Γ) G) → Seq K 𝓛 (‵ ((Rg Z).own_val d vs) ∷ Γ) G
  region_had t d vs k =
      fsplit t $ fpick t (λ vss. fsplit t $ feq_l t (λ all. fsplit t $ feq_l t (λ e₀. fsplit t $ fpick t (λ none. fsplit t $ feq_l t (λ e₁. drop t $ drop t $
      k (all ∙ (λ i. vstruct (of_list (e₀ i ++ (e₁ i ++ []))) ∷ [])))))))

  pub region_made : K → (d : (Rg Z).Denot) → Step K 𝓛 (‵ ((Rg Z).own_val d (region_val d.start ∷ [])) ∷ Γ) G (‵ (block Z d) ∷ Γ) G
  region_made t d = step (λ s.
      pure_i t ((Fields Z).own_val (fields Z d) (region_val d.start ∷ [])) (λ vss. (tt, (tt, ((λ uss. (tt, tt)), tt))))
      ((ptr_val d.start ∷ [], (vstruct vnil ∷ [], tt)), (refl, (refl, ((tt, (refl, tt)), tt)))) $ fjoin t $ s)

module _ (Z : Al) {M : Type 1} {𝓤 : Ura M} (𝓛 : Logic 𝓤) (κ : Lft) (b o : ℕ) (d : (Rg Z).Denot) where
  abbrev S : Fml
  S = hidden_shr (Fields Z) κ (fields Z d) b o

  laws : RowLaws (Fields Z)
  laws = Struct-row_laws (shape (C.the_type (P Z) Z.g)) (ptr_row_laws, (Struct-row_laws (Declared.shape (marker.the_type (P Z))) tt, tt))

  pub shows_start : ent 𝓤 (sem 𝓛 S) (sep 𝓤 (sem 𝓛 (hidden_shr RawPtr κ d.start b (o + 0))) (sem 𝓛 S))
  shows_start = qed 𝓛 (‵ S ∷ []) ∵ shr_dup ! (Fields Z) laws (fields Z d) b o κ $ unhide ! $ fsplit ! $ fsplit ! $ hide ! $ keep ! (0 ∷ 3 ∷ []) $ done !

module _ {M : Type 1} {𝓤 : Ura M} (𝓛 : Logic 𝓤) (b : ℕ) where
  abbrev Row : List ℕ → ℕ → Fml
  Row xs o = row u32 full_share xs b o

  pub snoc : (xs : List ℕ) (x o at : ℕ) → at ≡ length xs * 4 + o → ent 𝓤 (sep 𝓤 (sem 𝓛 (Row xs o)) (sem 𝓛 (part_at u32 full_share x b at))) (sem 𝓛 (Row (xs ++ x ∷ []) o))
  snoc [] x o at e =
      let same : at ≡ o = omega (arith, e) in
      qed 𝓛 (‵ (Row [] o) ∷ ‵ (part_at u32 full_share x b at) ∷ []) ∵ drop ! $ rewrite ! 0 (λ (k : ℕ). ‵ (part_at u32 full_share x b k)) same refl $ nothing ! $ move ! (1 ∷ 0 ∷ []) $ done !
  snoc (y ∷ ys) x o at e =
      let more : at ≡ length ys * 4 + (o + 4) = omega (arith, e) in
      qed 𝓛 (‵ (Row (y ∷ ys) o) ∷ ‵ (part_at u32 full_share x b at) ∷ []) ∵ fsplit ! $ move ! (1 ∷ 2 ∷ []) $
      use2 𝓛 (‵ (Row (ys ++ x ∷ []) (o + 4))) (snoc ys x (o + 4) at more) $ move ! (1 ∷ 0 ∷ []) $ done !

  pub words_room : (xs : List ℕ) (n o at : ℕ) → at ≡ o + length xs * 4 → ent 𝓤 (sep 𝓤 (sem 𝓛 (Row xs o)) (sem 𝓛 (froom (room_ty n) b at))) (sem 𝓛 (froom (room_ty (length xs + n)) b o))
  words_room [] n o at e =
      let same : at ≡ o = omega (arith, e) in let all : n ≡ 0 + n = omega arith in
      qed 𝓛 (‵ (Row [] o) ∷ ‵ (froom (room_ty n) b at) ∷ []) ∵ drop ! $
      rewrite ! 0 (λ (k : ℕ). ‵ (froom (room_ty n) b k)) same refl $ rewrite ! 0 (λ (k : ℕ). ‵ (froom (room_ty k) b o)) all refl $ done !
  words_room (y ∷ ys) n o at e =
      let more : at ≡ o + 4 + length ys * 4 = omega (arith, e) in let all : suc (length ys + n) ≡ suc (length ys) + n = omega arith in
      qed 𝓛 (‵ (Row (y ∷ ys) o) ∷ ‵ (froom (room_ty n) b at) ∷ []) ∵ fsplit ! $ move ! (1 ∷ 2 ∷ []) $
      use2 𝓛 (‵ (froom (room_ty (length ys + n)) b (o + 4))) (words_room ys n (o + 4) at more) $ move ! (1 ∷ []) $
      use1 𝓛 (‵ (fat full_share (ty_int w32) b o (vint w32 y))) (uint_out 𝓛 full_share w32 y b o) $ use1 𝓛 (‵ (froom (ty_int w32) b o)) (𝓛.laws.at_room (ty_int w32) b o (vint w32 y)) $
      move ! (0 ∷ 1 ∷ []) $ use2 𝓛 (‵ (froom (room_ty (suc (length ys + n))) b o)) (𝓛.laws.room_cons (ty_int w32) (length ys + n) b o) $
      rewrite ! 0 (λ (k : ℕ). ‵ (froom (room_ty k) b o)) all refl $ done !

  pub words_dropped : (xs : List ℕ) (n k m o at : ℕ) → length xs ≡ n + k → at ≡ o + length xs * 4 →
      ent 𝓤 (sep 𝓤 (sem 𝓛 (Row xs o)) (sem 𝓛 (froom (room_ty m) b at))) (sep 𝓤 (sem 𝓛 (Row (take n xs) o)) (sem 𝓛 (froom (room_ty (k + m)) b (o + n * 4))))
  words_dropped xs zero k m o at all e =
      let same : o ≡ o + zero * 4 = omega arith in let count : length xs + m ≡ k + m = omega (arith, all) in
      qed 𝓛 (‵ (Row xs o) ∷ ‵ (froom (room_ty m) b at) ∷ []) ∵
      use2 𝓛 (‵ (froom (room_ty (length xs + m)) b o)) (words_room xs m o at e) $
      rewrite ! 0 (λ (j : ℕ). ‵ (froom (room_ty (length xs + m)) b j)) same refl $ rewrite ! 0 (λ (j : ℕ). ‵ (froom (room_ty j) b (o + zero * 4))) count refl $ nothing ! $ done !
  words_dropped [] (suc n) k m o at all e = absurd (omega (arith, all))
  words_dropped (y ∷ ys) (suc n) k m o at all e =
      let rest : length ys ≡ n + k = omega (arith, all) in let more : at ≡ o + 4 + length ys * 4 = omega (arith, e) in
      let same : o + 4 + n * 4 ≡ o + suc n * 4 = omega arith in
      qed 𝓛 (‵ (Row (y ∷ ys) o) ∷ ‵ (froom (room_ty m) b at) ∷ []) ∵ fsplit ! $ move ! (1 ∷ 2 ∷ []) $
      use2 𝓛 (‵ (Row (take n ys) (o + 4)) ⊛ ‵ (froom (room_ty (k + m)) b (o + 4 + n * 4))) (words_dropped ys n k m (o + 4) at rest more) $ split ! $
      rewrite ! 1 (λ (j : ℕ). ‵ (froom (room_ty (k + m)) b j)) same refl $ move ! (2 ∷ 0 ∷ []) $ fjoin ! $ done !
