-- `truncate` does nothing: the words past a number of them are room from then on. Assumes `Logic`.
use mathlib.Core.Path.{◌≡◌, refl, sym}
use mathlib.Core.List.{List, [], ◌∷◌}
use Prim.Native.Nat.{ℕ, ◌+◌, ◌-◌, ◌*◌, ◌<◌, ◌≤◌, ◌^◌}
use native.Mathlib.Omega.{arith}
use lib.ListN.{length, take}
use seplogic.Ra.Ura.{Ura}
use mir.Syntax.{Fn, named, w32}
use mir.MapTy.{inst_fn}
use mir.Val.{Val, vunit, vptr, vint}
use base.Fraction.{full_share}
use base.Logic.{SProp, ent, never, fst∗}
use base.Fml.{Lft, Share, Fml, ftrue, feq, fsep, froom, flft}
use prog.Memory.{Memory}
use prog.Routine.{Routine}
use prog.Wp.{WpFn, Tables}
use types.Logic.{Logic, sem}
use types.Kit.{‵, raw, ◌⊛◌, ◌$◌, ◌∵◌, !, qed, move, keep, drop, use1, use2, split, join, rewrite, fsplit, fsplit3, fjoin, fjoin3, feq_i, suffices, frame, done}
use types.Run.{unit_lit, of_opd, returns, enter}
use types.ByLocal.{alloc_all, pass_all, free_all, look_at, sets}
use contract.Monad.{Fun, fact}
use contract.BorrowLft.{◌⊑◌}
use contract.Running.{tables, tables_of}
use denote.Array.{Array}
use denote.ArrayMemory.{Array-apart, Array-whole}
use denote.Builtin.{u32}
use denote.Exit.{yes}
use denote.Index.{row}
use denote.Memory.{cell_at, part_at}
use denote.Plain.{uint_vals, uint_Tells}
use denote.RattleType.{owns}
use denote.RawPtr.{Ptr, null_ptr, in_a_block}
use denote.Ref.{MutBor, mut_vals, mut_Tells}
use denote.Signature.{plain, types_at}
use denote.Steps.{heard, nothing, opens, closes}
use denote.Triple.Clauses.{Ended, Clauses}
use denote.Triple.Walked.{says, Stays, stay_dropped, stay_ref, walk_of, ends_at, Goes-dropped, Goes-ref}
use Rattle.std.proofs.alloc.Calls.{Al}
use Rattle.std.proofs.lemmas.List.{length-take-le}
use Rattle.std.proofs.raw_atomic.Walks.{proved}
use Rattle.wb_chunk.specs.Lending.{with_words}
use Rattle.wb_chunk.proofs.RegionSteps.{region_val, room_ty, args, Rg, block_at, spare_at, region_had, region_made, words_dropped}
use Rattle.wb_chunk.specs.contracts.region.Region.truncate as F
use Rattle.wb_chunk.specs.contracts.region.Region.truncate.Key as key
use Rattle.wb_chunk.proofs.region.Region.truncate.Statement as stated
use Rattle.wb_chunk.proofs.region.Region.truncate.Code as code

module _ (Z : Al) where
  abbrev here : Fn
  here = inst_fn (args Z) code.function

  abbrev ended : Ended
  ended = F.ended Z.row Z.g Z.d Z.drops

  abbrev stayed : Stays ended.signature.params ended.kept
  stayed = (stay_ref (0 ∷ []) tt (plain (λ _. Rg Z)), (stay_dropped (plain (λ _. u32)) yes, (stay_dropped (plain (λ _. u32)) yes, tt)))

module _ (Z : Al) {M : Type 1} {𝓤 : Ura M} (𝓛 : Logic 𝓤) (at_mem : Memory → SProp 𝓤) (run : Routine → Fun 𝓤) (𝓣 : Tables 𝓤 𝓛.H) where
  open 𝓛 use {H}

  abbrev held : Clauses 𝓤 (ended Z)
  held = F.clauses Z.row Z.g Z.d Z.drops 𝓛 at_mem run

  module _ (κ₁ κ₂ : Lft) (q₁ q₂ : Share) (inn : κ₁ ⊑ κ₂) (r : MutBor (Rg Z).Denot) (count n : ℕ) where
    abbrev bound : (walk_of 𝓛 (ended Z) (stayed Z) held).Ghost
    bound = (((κ₁, (κ₂, tt)), (q₁, (q₂, tt)), (inn, tt), (r, (count, (n, tt))), (mut_vals r, (vint w32 count ∷ [], (vint w32 n ∷ [], tt)))), tt)

    abbrev vs : List Val
    vs = vptr r.ref_ptr.0 r.ref_ptr.1 ∷ vint w32 count ∷ vint w32 n ∷ []

    abbrev d : (Rg Z).Denot
    d = r.now

    abbrev Cell : Ptr → Fml
    Cell p = cell_at full_share (Rg Z).mir (region_val p ∷ []) r.ref_ptr.0 r.ref_ptr.1

    abbrev Asked : Type 0
    Asked = (count ≡ length d.words) × (count ≤ d.capacity) × (n ≤ count)

    walk : count < 2 ^ 32 → n < 2 ^ 32 → ent 𝓤 ((walk_of 𝓛 (ended Z) (stayed Z) held).pre bound) (WpFn 𝓤 H 𝓣.C 𝓣.Λ (here Z) vs ((walk_of 𝓛 (ended Z) (stayed Z) held).post bound))
    walk small fits =
        let rb = r.ref_ptr.0 in let ro = r.ref_ptr.1 in let xs = d.words in let ws = take n xs in let new = with_words d ws in
        qed 𝓛 (((‵ (flft κ₁ q₁) ⊛ ‵ (flft κ₂ q₂) ⊛ ‵ ftrue) ⊛ ‵ (owns (types_at (ended Z).signature.params bound.0.0) bound.0.3 bound.0.4)) ∷ (raw (fact 𝓤 (κ₂ ⊑ Z.row.lives)) ⊛ raw (fact 𝓤 Asked)) ∷ []) ∵
        move ! (1 ∷ []) $ split ! $ heard ! (κ₂ ⊑ Z.row.lives) (λ le. heard ! Asked (λ asked.
        let k = length xs - n in let left = d.capacity - length xs in
        let all : length xs ≡ n + k = omega (arith, asked.0, asked.2) in let long : length ws ≡ n = length-take-le n xs (omega (arith, asked.0, asked.2)) in
        split ! $ split ! $ move ! (2 ∷ []) $ fsplit ! $ fsplit3 ! $ drop ! $ keep ! (0 ∷ 1 ∷ 3 ∷ 4 ∷ []) $
        -- [what the ghost name is seen at; the borrow; the token of κ₁; the other tokens]
        enter ! 𝓣.C 𝓣.Λ (here Z) vs _ $ alloc_all ! (λ l. pass_all ! refl ((tt, tt), ((tt, record { fits = small }), ((tt, record { fits = fits }), tt))) $
        opens ! tt (Rg Z) {h = d} rb ro (λ us. move ! (1 ∷ []) $ region_had Z ! d us (λ is. rewrite ! 1 (λ (zs : List Val). ‵ (cell_at full_share (Rg Z).mir zs rb ro)) is refl $
        in_a_block ! d.start (λ p. block_at Z d p xs) (fst∗ 𝓤 (never 𝓤) (sem 𝓛 (spare_at Z d null_ptr (length xs)))) (λ b o e.
        let end : o + n * 4 ≡ o + length ws * 4 = omega (arith, long) in let rest : k + left ≡ d.capacity - length ws = omega (arith, long, asked.0, asked.1, asked.2) in
        rewrite ! 1 (λ (p : Ptr). ‵ (Cell p)) e refl $ fsplit ! $ move ! (1 ∷ []) $ fsplit ! $ move ! (2 ∷ 0 ∷ []) $
        use1 𝓛 (‵ (fsep (feq ℕ (length xs) (length xs)) (row u32 full_share xs b o))) (Array-apart 𝓛 u32 full_share tt (length xs) xs b o) $ fsplit ! $ drop ! $
        use2 𝓛 (‵ (row u32 full_share ws b o) ⊛ ‵ (froom (room_ty (k + left)) b (o + n * 4))) (words_dropped 𝓛 b xs n k left o (o + length xs * 4) all refl) $ split ! $
        feq_i ! ℕ (length ws) (length ws) refl $ fjoin ! $ use1 𝓛 (‵ (part_at (Array u32 (length ws)) full_share ws b o)) (Array-whole 𝓛 u32 full_share (length ws) ws b o) $
        -- [the words; the room after them; the token; the region's cell; the open borrow, in three entries; the other tokens]
        move ! (1 ∷ 2 ∷ []) $ rewrite ! 0 (λ (j : ℕ). ‵ (froom (room_ty (k + left)) b j)) end refl $
        rewrite ! 0 (λ (j : ℕ). ‵ (froom (room_ty j) b (o + length ws * 4))) rest refl $ fjoin ! $ move ! (1 ∷ 0 ∷ []) $ fjoin ! $
        rewrite ! 0 (λ (p : Ptr). ‵ (block_at Z d p ws)) (sym e) refl $ region_made Z ! new $ move ! (1 ∷ []) $ rewrite ! 0 (λ (p : Ptr). ‵ (Cell p)) (sym e) refl $
        closes ! tt (Rg Z) new (region_val d.start ∷ []) rb ro $
        sets ! (of_opd ! (unit_lit !)) refl (tt, tt) $
        returns ! (look_at ! 0 refl) $ free_all ! refl $ keep ! (2 ∷ 3 ∷ 0 ∷ 1 ∷ []) $
        suffices ! _ (ends_at 𝓛 (ended Z) (stayed Z) held bound vunit tt (new, (tt, (tt, tt))) (tt, (tt, (tt, tt)))) $ says ! (refl, refl, refl) $
        join ! $ frame ! $ feq_i ! (List Val) (vptr rb ro ∷ []) (vptr rb ro ∷ []) refl $ fjoin3 ! $
        nothing ! $ nothing ! $ fjoin ! $ nothing ! $ fjoin ! $ move ! (1 ∷ 0 ∷ []) $ fjoin ! $ feq_i ! (List Val) (vunit ∷ []) (vunit ∷ []) refl $ move ! (1 ∷ 0 ∷ []) $ done !))))))

pub truncate_spec : {M : Type 1} → stated.statement M
unfolding tables_of
truncate_spec 𝓤 𝓛 𝓜 𝓡 wired Y L g d d' met _ =
    let Z : Al = record { row = Y; laws = L; g = g; d = d; drops = d' } in
    let A = 𝓛.A in
    let 𝓣 : Tables 𝓤 𝓛.H = tables_of 𝓤 𝓛.H 𝓜 (tables 𝓤 𝓛.H 𝓜 𝓡 𝓡.env) in
    proved 𝓛 (ended Z) (stayed Z) (F.clauses Y g d d' 𝓛 𝓜.mem 𝓡.returns) 𝓜 𝓡 (Goes-ref 𝓛 2 0 tt (plain (λ _. Rg Z)), (Goes-dropped 𝓛 2 (plain (λ _. u32)) yes (λ κs x f. refl), (Goes-dropped 𝓛 2 (plain (λ _. u32)) yes (λ κs x f. refl), tt)))
    (key.name (args Z)) (here Z) (code.unfolded 𝓤 𝓛.H 𝓜 𝓡 wired (Y, tt) d d')
    (λ κs. (mut_vals, (uint_vals w32, (uint_vals w32, tt)))) (λ κs. (mut_Tells (named 0) κs.0 (Rg Z), (uint_Tells w32, (uint_Tells w32, tt))))
    (λ κs qs bounds a g are. walk Z 𝓛 𝓜.mem 𝓡.returns 𝓣 κs.0 κs.1.0 qs.0 qs.1.0 bounds.0 a.0 a.1.0 a.1.1.0 are.1.0.1 are.1.1.0.1)
