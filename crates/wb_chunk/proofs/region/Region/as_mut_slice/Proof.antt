-- `as_mut_slice` lends the words, and the region follows them. Assumes `Logic`.
use mathlib.Core.Path.{◌≡◌, refl, sym}
use mathlib.Core.List.{List, [], ◌∷◌}
use Prim.Native.Nat.{ℕ, ◌*◌, ◌<◌, ◌^◌}
use native.Mathlib.Omega.{arith}
use lib.ListN.{length}
use seplogic.Ra.Ura.{Ura}
use mir.Syntax.{Fn, named, w32}
use mir.MapTy.{inst_fn}
use mir.Val.{Val, vptr, vint}
use base.Fraction.{full_share}
use base.Logic.{SProp, ent, sep, id⊢, never, fst∗}
use base.Fml.{Lft, GName, Share, Fml, ftrue, feq, fsep, flft}
use prog.Memory.{Memory}
use prog.Routine.{Routine}
use prog.Wp.{WpFn, Tables}
use types.Logic.{Logic, sem}
use types.Kit.{‵, raw, ◌⊛◌, some, later, await, pick, at_ret, ◌$◌, ◌∵◌, !, qed, move, keep, drop, use1, split, split3, join, group, rewrite, fsplit, fsplit3, fjoin, fpack, feq_i, suffices, frame, done}
use types.Run.{stop, fld, load, un, of_opd, and_then, no_more, first, blocks, exec, returns, enter}
use types.Part.{whole, sub, look_in, agg}
use types.ByLocal.{alloc_all, pass_all, free_all, look_at, get, through, sets, sets_last, env}
use types.SemTy.{cells}
use contract.Monad.{Fun, fact}
use contract.BorrowLft.{◌⊑◌}
use contract.Running.{tables, tables_of}
use denote.Array.{Array}
use denote.ArrayMemory.{Array-apart, Array-whole}
use denote.Builtin.{u32}
use denote.Exit.{yes, no}
use denote.Follow.{follows}
use denote.FollowSlice.{Elements, lends_Elements}
use denote.Index.{row, whole_in, whole_out}
use denote.Memory.{mem, cell_at, part_at, part_of}
use denote.Plain.{uint_vals, uint_Tells}
use denote.RattleType.{owns}
use denote.RawPtr.{Ptr, block_ptr, null_ptr, in_a_block}
use denote.Ref.{MutBor, mut_vals, mut_Tells}
use denote.Signature.{Slot, plain, mut_ref_to, types_at}
use denote.Slice.{MutSlice, slice_val}
use denote.Steps.{heard, nothing, opens}
use denote.Triple.Clauses.{Ended, Clauses}
use denote.Triple.Walked.{says, Stays, stay_dropped, walk_of, ends_at, Goes-dropped, Goes-spent_ref}
use Rattle.std.proofs.alloc.Calls.{Al}
use Rattle.std.proofs.raw_atomic.Walks.{proved}
use Rattle.std.proofs.alloc.Shapes.{after}
use Rattle.wb_chunk.specs.Lending.{with_words}
use Rattle.wb_chunk.proofs.RegionSteps.{region_val, args, Rg, block_at, spare_at, region_had, region_made}
use Rattle.wb_chunk.specs.contracts.region.Region.as_mut_slice as F
use Rattle.wb_chunk.specs.contracts.region.Region.as_mut_slice.Key as key
use Rattle.wb_chunk.proofs.region.Region.as_mut_slice.Statement as stated
use Rattle.wb_chunk.proofs.region.Region.as_mut_slice.Code as code

module _ (Z : Al) where
  abbrev here : Fn
  here = inst_fn (args Z) code.function

  abbrev self : Slot 2
  self = mut_ref_to (0 ∷ []) tt (plain (λ _. Rg Z))

  abbrev ended : Ended
  ended = F.ended Z.row Z.g Z.d Z.drops

  abbrev stayed : Stays ended.signature.params ended.kept
  stayed = (stay_dropped self no, (stay_dropped (plain (λ _. u32)) yes, tt))

module _ (Z : Al) {M : Type 1} {𝓤 : Ura M} (𝓛 : Logic 𝓤) (at_mem : Memory → SProp 𝓤) (run : Routine → Fun 𝓤) (𝓣 : Tables 𝓤 𝓛.H) where
  open 𝓛 use {H, A}

  abbrev held : Clauses 𝓤 (ended Z)
  held = F.clauses Z.row Z.g Z.d Z.drops 𝓛 at_mem run

  module _ (κ₁ κ₂ : Lft) (q₁ q₂ : Share) (inn : κ₁ ⊑ κ₂) (r : MutBor (Rg Z).Denot) (n : ℕ) where
    abbrev bound : (walk_of 𝓛 (ended Z) (stayed Z) held).Ghost
    bound = (((κ₁, (κ₂, tt)), (q₁, (q₂, tt)), (inn, tt), (r, (n, tt)), (mut_vals r, (vint w32 n ∷ [], tt))), tt)

    abbrev vs : List Val
    vs = vptr r.ref_ptr.0 r.ref_ptr.1 ∷ vint w32 n ∷ []

    abbrev d : (Rg Z).Denot
    d = r.now

    abbrev new : List ℕ → (Rg Z).Denot
    new ws = with_words d ws

    abbrev Cell : Ptr → Fml
    Cell p = cell_at full_share (Rg Z).mir (region_val p ∷ []) r.ref_ptr.0 r.ref_ptr.1

    abbrev Rest : ℕ → ℕ → Fml
    Rest b o = fsep (spare_at Z d (block_ptr b o) (length d.words)) (Cell (block_ptr b o))

    back : (b o : ℕ) → d.start ≡ block_ptr b o → (ws : List ℕ) → length ws ≡ length d.words
        → ent 𝓤 (sep 𝓤 (sem 𝓛 (cells (mem u32) ws b o)) (sem 𝓛 (Rest b o))) (sem 𝓛 ((mem (Rg Z)).own_at (new ws) r.ref_ptr.0 r.ref_ptr.1))
    unfolding part_of
    back b o e ws same =
        qed 𝓛 (‵ (cells (mem u32) ws b o) ∷ ‵ (Rest b o) ∷ []) ∵ use1 𝓛 (‵ (row u32 full_share ws b o)) (whole_out 𝓛 u32 ws b o) $
        feq_i ! ℕ (length ws) (length ws) refl $ fjoin ! $ use1 𝓛 (‵ (part_at (Array u32 (length ws)) full_share ws b o)) (Array-whole 𝓛 u32 full_share (length ws) ws b o) $
        move ! (1 ∷ []) $ fsplit ! $ rewrite ! 0 (λ (m : ℕ). ‵ (spare_at Z d (block_ptr b o) m)) (sym same) refl $ move ! (2 ∷ 0 ∷ []) $ fjoin ! $
        rewrite ! 0 (λ (p : Ptr). ‵ (block_at Z d p ws)) (sym e) refl $ region_made Z ! (new ws) $
        move ! (1 ∷ []) $ rewrite ! 0 (λ (p : Ptr). ‵ (Cell p)) (sym e) refl $ fjoin ! $
        fpack ! (List Val) (λ us. fsep (cell_at full_share (Rg Z).mir us r.ref_ptr.0 r.ref_ptr.1) ((Rg Z).own_val (new ws) us)) (region_val d.start ∷ []) $ done !

    walk : n < 2 ^ 32 → ent 𝓤 ((walk_of 𝓛 (ended Z) (stayed Z) held).pre bound) (WpFn 𝓤 H 𝓣.C 𝓣.Λ (here Z) vs ((walk_of 𝓛 (ended Z) (stayed Z) held).post bound))
    walk small =
        let rb = r.ref_ptr.0 in let ro = r.ref_ptr.1 in let γ = r.ghost_name in let xs = d.words in
        let Post = (walk_of 𝓛 (ended Z) (stayed Z) held).post bound in
        let wide : n < 2 ^ 64 = omega arith in
        qed 𝓛 (((‵ (flft κ₁ q₁) ⊛ ‵ (flft κ₂ q₂) ⊛ ‵ ftrue) ⊛ ‵ (owns (types_at (ended Z).signature.params bound.0.0) bound.0.3 bound.0.4)) ∷ (raw (fact 𝓤 (κ₂ ⊑ Z.row.lives)) ⊛ raw (fact 𝓤 (n ≡ length d.words))) ∷ []) ∵
        move ! (1 ∷ []) $ split ! $ heard ! (κ₂ ⊑ Z.row.lives) (λ le. heard ! (n ≡ length d.words) (λ count.
        let roomy : length xs < 2 ^ 64 = omega (arith, count, small) in let fitting : length xs * 4 < 2 ^ 63 = omega (arith, count, small) in
        split ! $ split ! $ move ! (2 ∷ []) $ fsplit ! $ fsplit3 ! $ drop ! $ keep ! (0 ∷ 1 ∷ 3 ∷ 4 ∷ []) $
        -- [what γ is seen at; the borrow; the token of κ₁; the other tokens]
        enter ! 𝓣.C 𝓣.Λ (here Z) vs _ $ alloc_all ! (λ l. pass_all ! refl ((tt, tt), ((tt, record { fits = small }), tt)) $
        opens ! tt (Rg Z) {h = d} rb ro (λ us. move ! (1 ∷ []) $ region_had Z ! d us (λ is. rewrite ! 1 (λ (ws : List Val). ‵ (cell_at full_share (Rg Z).mir ws rb ro)) is refl $
        in_a_block ! d.start (λ p. block_at Z d p xs) (fst∗ 𝓤 (never 𝓤) (sem 𝓛 (spare_at Z d null_ptr (length xs)))) (λ b o e.
        rewrite ! 1 (λ (p : Ptr). ‵ (Cell p)) e refl $ fsplit ! $
        -- [the words; the spare block; the region's cell; the open borrow, in three entries; the other tokens]
        first ! $ blocks ! $
        sets ! (of_opd ! (load ! (through ! refl (fld ! refl (stop !))) (look_in ! 2 (sub ! 0 refl (whole !))))) refl (tt, tt) $
        sets ! (un ! (get ! refl) (record { fits = wide })) refl (tt, record { fits = wide }) $
        sets_last ! (agg ! (and_then ! (get ! refl) (and_then ! (get ! refl) (no_more !)))) refl (tt, (tt, (record { fits = wide }, tt))) $
        exec ! 𝓣.C 𝓣.Λ (env (here Z).locals l) (after 1 (here Z).body) (at_ret (env (here Z).locals l) Post) $
        sets ! (of_opd ! (get ! refl)) refl (tt, (tt, (record { fits = wide }, tt))) $
        use1 𝓛 (‵ (fsep (feq ℕ (length xs) (length xs)) (row u32 full_share xs b o))) (Array-apart 𝓛 u32 full_share tt (length xs) xs b o) $ fsplit ! $ drop ! $
        use1 𝓛 (‵ (cells (mem u32) xs b o)) (whole_in 𝓛 u32 xs b o) $ move ! (1 ∷ 2 ∷ []) $ fjoin ! $ move ! (2 ∷ 3 ∷ 4 ∷ 1 ∷ 0 ∷ []) $ group ! 5 $
        use1 𝓛 (later (some (λ (δ : GName). raw (Elements 𝓛 (Rg Z) u32 new (named 0) κ₁ q₁ rb ro b o γ xs (roomy, fitting) (sem 𝓛 (Rest b o)) (back b o e) δ))))
        (lends_Elements 𝓛 (Rg Z) u32 new (named 0) κ₁ q₁ rb ro b o γ xs (roomy, fitting) (sem 𝓛 (Rest b o)) (back b o e) ((Rg Z).coded.code d) ((Rg Z).coded.code d)) $ await ! tt $ pick ! (λ δ.
        let s : MutBor (List ℕ) = record { ref_ptr = (b, o); ghost_name = δ; now = xs } in
        use1 𝓛 (‵ ((MutSlice (named 0) κ₁ u32).own_val s (slice_val (b, o) (length xs) ∷ [])) ⊛ ‵ (flft κ₁ q₁) ⊛ ‵ (follows (Rg Z) (Array u32 0) γ δ new)) (id⊢ 𝓤 _) $ split3 ! $
        returns ! (look_at ! 0 refl) $ free_all ! refl $ keep ! (0 ∷ 1 ∷ 2 ∷ 3 ∷ []) $
        rewrite ! 0 (λ (k : ℕ). ‵ ((MutSlice (named 0) κ₁ u32).own_val s (slice_val (b, o) k ∷ []))) (sym count) refl $
        -- [the slice; the token of κ₁; how the region follows; the other tokens]
        suffices ! _ (ends_at 𝓛 (ended Z) (stayed Z) held bound (slice_val (b, o) n) s (tt, (tt, tt)) (tt, (tt, tt))) $
        nothing ! $ nothing ! $ fjoin ! $ nothing ! $ fjoin ! $ join ! $ move ! (1 ∷ 3 ∷ []) $ join ! $ join ! $ frame ! $ says ! refl $ done !)))))))

pub as_mut_slice_spec : {M : Type 1} → stated.statement M
unfolding tables_of
as_mut_slice_spec 𝓤 𝓛 𝓜 𝓡 wired Y L g d d' met _ =
    let Z : Al = record { row = Y; laws = L; g = g; d = d; drops = d' } in
    let A = 𝓛.A in
    let 𝓣 : Tables 𝓤 𝓛.H = tables_of 𝓤 𝓛.H 𝓜 (tables 𝓤 𝓛.H 𝓜 𝓡 𝓡.env) in
    proved 𝓛 (ended Z) (stayed Z) (F.clauses Y g d d' 𝓛 𝓜.mem 𝓡.returns) 𝓜 𝓡 (Goes-spent_ref 𝓛 2 (0 ∷ []) tt (plain (λ _. Rg Z)), (Goes-dropped 𝓛 2 (plain (λ _. u32)) yes (λ κs x f. refl), tt))
    (key.name (args Z)) (here Z) (code.unfolded 𝓤 𝓛.H 𝓜 𝓡 wired (Y, tt) d d')
    (λ κs. (mut_vals, (uint_vals w32, tt))) (λ κs. (mut_Tells (named 0) κs.0 (Rg Z), (uint_Tells w32, tt)))
    (λ κs qs bounds a g are. walk Z 𝓛 𝓜.mem 𝓡.returns 𝓣 κs.0 κs.1.0 qs.0 qs.1.0 bounds.0 a.0 a.1.0 are.1.0.1)
