-- `free` takes a region apart, and gives its block back. Assumes `Logic`.
use mathlib.Core.Path.{◌≡◌, refl, sym, ap, subst, ◌∙◌}
use mathlib.Core.List.{List, [], ◌∷◌}
use Prim.Native.Nat.{ℕ, ◌+◌, ◌-◌, ◌*◌, ◌≤◌, ◌<◌, ◌^◌}
use native.Mathlib.Omega.{arith}
use lib.Dec.{T, lit<}
use lib.ListN.{length}
use seplogic.Ra.Ura.{Ura}
use mir.Syntax.{Fn, named, ty_unit, w32}
use mir.MapTy.{inst_fn}
use mir.Val.{Val, vunit, vptr, vint, has_ty, WT}
use base.Fraction.{full_share}
use base.Logic.{SProp, ent, never, fst∗, id⊢}
use base.Fml.{Lft, Share, ftrue, feq, fsep, froom, flft}
use prog.Capped.{capped_is}
use prog.Memory.{Memory, capped}
use prog.RawLaws.{size-raw, align-raw}
use prog.Routine.{Routine}
use prog.Wp.{WpFn, Tables}
use types.Logic.{Logic, sem}
use types.Kit.{‵, raw, ◌⊛◌, later, given, await, learn, at_ret, ◌$◌, ◌∵◌, !, qed, move, keep, drop, use1, use2, split, join, group, rewrite, fsplit, fjoin, feq_i, suffices, done}
use types.Run.{stop, fld, un, bin, lit, unit_lit, of_opd, and_then, no_more, first, blocks, exec, returns, enter}
use types.Part.{whole, sub}
use types.ByLocal.{alloc_all, pass_all, free_all, look_at, get, get_in, sets, is, lands_last, env}
use contract.Monad.{Fun, fact}
use contract.BorrowLft.{◌⊑◌, ⊑_trans}
use contract.Running.{tables, tables_of}
use sound.WpLaws.{fm_of}
use denote.ArrayMemory.{Array-apart}
use denote.Builtin.{u32, RefOf}
use denote.Exit.{yes, no}
use denote.Index.{row}
use denote.Plain.{uint_vals, uint_Tells}
use denote.RattleType.{owns}
use denote.RawPtr.{block_ptr, null_ptr, ptr_val, in_a_block}
use denote.Ref.{Bor, shr_vals, shr_Tells}
use denote.Signature.{Slot, plain, types_at}
use denote.Steps.{heard, nothing}
use denote.Triple.Call.{calls_at_last}
use denote.Triple.Clauses.{Ended, Clauses}
use denote.Triple.Statement.{Triple}
use denote.Triple.Walked.{Stays, stay_dropped, walk_of, ends_at, Goes-dropped}
use Rattle.std.proofs.alloc.Calls.{Al, seen, token, gives_key, Gives, at_gives, Gives-goes, Gives-Gives, Goes-blank}
use Rattle.std.proofs.raw_atomic.Walks.{proved}
use Rattle.std.proofs.alloc.Shapes.{after}
use Rattle.wb_chunk.proofs.RegionSteps.{region_val, room_ty, args, P, Rg, block_at, spare_at, region_had, region_typed, region_Tells, words_room}
use Rattle.wb_chunk.specs.contracts.region.Region.free as F
use Rattle.wb_chunk.specs.contracts.region.Region.free.Key as key
use Rattle.wb_chunk.proofs.region.Region.free.Statement as stated
use Rattle.wb_chunk.proofs.region.Region.free.Code as code

module _ (Z : Al) where
  abbrev here : Fn
  here = inst_fn (args Z) code.function

  abbrev handle : Slot 2
  handle = RefOf (0 ∷ []) tt (plain (λ _. P Z)) (λ _. tt)

  abbrev ended : Ended
  ended = F.ended Z.row Z.g Z.d Z.drops

  abbrev stayed : Stays ended.signature.params ended.kept
  stayed = (stay_dropped (plain (λ _. Rg Z)) no, (stay_dropped handle yes, (stay_dropped (plain (λ _. u32)) yes, tt)))

module _ (Z : Al) {M : Type 1} {𝓤 : Ura M} (𝓛 : Logic 𝓤) (at_mem : Memory → SProp 𝓤) (run : Routine → Fun 𝓤) (𝓣 : Tables 𝓤 𝓛.H) (callee : Triple 𝓤 (𝓣.C (gives_key Z)) (Gives Z 𝓛 at_mem run)) where
  open 𝓛 use {H}

  abbrev held : Clauses 𝓤 (ended Z)
  held = F.clauses Z.row Z.g Z.d Z.drops 𝓛 at_mem run

  module _ (κ₁ κ₂ : Lft) (q₁ q₂ : Share) (inn : κ₁ ⊑ κ₂) (d : (Rg Z).Denot) (r : Bor (P Z).Denot) (n : ℕ) where
    abbrev bound : (walk_of 𝓛 (ended Z) (stayed Z) held).Ghost
    bound = (((κ₁, (κ₂, tt)), (q₁, (q₂, tt)), (inn, tt), (d, (r, (n, tt))), (region_val d.start ∷ [], (shr_vals r, (vint w32 n ∷ [], tt)))), tt)

    abbrev vs : List Val
    vs = region_val d.start ∷ vptr r.ref_ptr.0 r.ref_ptr.1 ∷ vint w32 n ∷ []

    abbrev Asked : Type 0
    Asked = (d.capacity ≡ n) × (length d.words ≤ n)

    walk : n < 2 ^ 32 → ent 𝓤 ((walk_of 𝓛 (ended Z) (stayed Z) held).pre bound) (WpFn 𝓤 H 𝓣.C 𝓣.Λ (here Z) vs ((walk_of 𝓛 (ended Z) (stayed Z) held).post bound))
    walk small =
        let Post = (walk_of 𝓛 (ended Z) (stayed Z) held).post bound in let xs = d.words in let a = r.now in
        let wide : n < 2 ^ 64 = omega arith in let bytes : n * 4 < 2 ^ 64 = omega arith in
        let size = ap capped (size-raw (room_ty n)) ∙ capped_is (n * 4) bytes in let align = ap capped (align-raw (room_ty n)) ∙ capped_is 4 (lit< tt) in
        qed 𝓛 (((‵ (flft κ₁ q₁) ⊛ ‵ (flft κ₂ q₂) ⊛ ‵ ftrue) ⊛ ‵ (owns (types_at (ended Z).signature.params bound.0.0) bound.0.3 bound.0.4)) ∷
        (raw (fact 𝓤 (κ₂ ⊑ Z.row.lives)) ⊛ raw (fact 𝓤 (d.alloc ≡ a)) ⊛ raw (fact 𝓤 Asked)) ∷ []) ∵
        move ! (1 ∷ []) $ split ! $ heard ! (κ₂ ⊑ Z.row.lives) (λ le. split ! $ heard ! (d.alloc ≡ a) (λ same. heard ! Asked (λ asked.
        let all : length xs + (d.capacity - length xs) ≡ n = omega (arith, asked.0, asked.1) in
        split ! $ split ! $ move ! (2 ∷ []) $ fsplit ! $ region_had Z ! d (region_val d.start ∷ []) (λ _.
        in_a_block ! d.start (λ p. block_at Z d p xs) (fst∗ 𝓤 (never 𝓤) (sem 𝓛 (spare_at Z d null_ptr (length xs)))) (λ b o e.
        let y : (Gives Z 𝓛 at_mem run).Ghost = at_gives Z 𝓛 at_mem run κ₁ q₁ r.ref_ptr a b o (n * 4) 4 (room_ty n) in
        fsplit ! $ move ! (1 ∷ []) $ fsplit ! $ move ! (3 ∷ []) $ fsplit ! $ fsplit ! $ drop ! $ use1 𝓛 (‵ (seen Z κ₁ r.ref_ptr a)) (id⊢ 𝓤 _) $ keep ! (4 ∷ 2 ∷ 3 ∷ 0 ∷ 5 ∷ 6 ∷ []) $
        use1 𝓛 (‵ (fsep (feq ℕ (length xs) (length xs)) (row u32 full_share xs b o))) (Array-apart 𝓛 u32 full_share tt (length xs) xs b o) $ fsplit ! $ drop ! $
        use2 𝓛 (‵ (froom (room_ty (length xs + (d.capacity - length xs))) b o)) (words_room 𝓛 b xs (d.capacity - length xs) o (o + length xs * 4) refl) $
        rewrite ! 0 (λ (k : ℕ). ‵ (froom (room_ty k) b o)) all refl $ rewrite ! 1 (λ (z : Z.row.Denot). ‵ (token Z z (room_ty d.capacity) (block_ptr b o))) same refl $
        rewrite ! 1 (λ (k : ℕ). ‵ (token Z a (room_ty k) (block_ptr b o))) asked.0 refl $
        -- [the block's room; the token; what the `&` shows of the handle; the token of κ₁; the other tokens]
        enter ! 𝓣.C 𝓣.Λ (here Z) vs _ $ alloc_all ! (λ l. pass_all ! refl (region_typed Z d.start, ((tt, tt), ((tt, record { fits = small }), tt))) $
        sets ! (is ! (of_opd ! (get_in ! (fld ! refl (stop !)) (sub ! 0 refl (whole !)))) (ap ptr_val e)) refl (tt, tt) $
        first ! $ blocks ! $
        sets ! (of_opd ! (get ! refl)) refl (tt, tt) $
        sets ! (un ! (get ! refl) (record { fits = wide })) refl (tt, record { fits = wide }) $
        sets ! (bin ! (get ! refl) (lit ! tt) (record { fits = bytes })) refl (tt, record { fits = bytes }) $
        group ! 4 $ use1 𝓛 (raw ((Gives Z 𝓛 at_mem run).pre y)) (Gives-goes Z 𝓛 at_mem run κ₁ q₁ r.ref_ptr a (⊑_trans κ₁ κ₂ Z.row.lives inn le) b o (n * 4) 4 (room_ty n) size align bytes (lit< tt)) $
        calls_at_last ! (fm_of 𝓤 H 𝓛.laws 𝓣) (Gives Z 𝓛 at_mem run) callee y (and_then ! (get ! refl) (and_then ! (get ! refl) (and_then ! (get ! refl) (and_then ! (lit ! tt) (no_more !))))) (λ v.
        use1 𝓛 (later (given (v ≡ vunit) (‵ (flft κ₁ q₁)))) (Gives-Gives Z 𝓛 at_mem run κ₁ q₁ r.ref_ptr a b o (n * 4) 4 (room_ty n) v) $ await ! tt $ learn ! (λ is_unit.
        lands_last ! refl (subst (λ (z : Val). T (has_ty ty_unit z) × WT z) (sym is_unit) (tt, tt)) $
        exec ! 𝓣.C 𝓣.Λ (env (here Z).locals l) (after 2 (here Z).body) (at_ret (env (here Z).locals l) Post) $
        sets ! (of_opd ! (unit_lit !)) refl (tt, tt) $
        returns ! (look_at ! 0 refl) $ free_all ! refl $ keep ! (0 ∷ 1 ∷ []) $
        suffices ! _ (ends_at 𝓛 (ended Z) (stayed Z) held bound vunit tt (tt, (tt, (tt, tt))) (tt, (tt, (tt, tt)))) $
        join ! $ feq_i ! (List Val) (vunit ∷ []) (vunit ∷ []) refl $ nothing ! $ nothing ! $ fjoin ! $ nothing ! $ fjoin ! $ nothing ! $ fjoin ! $ join ! $
        move ! (1 ∷ 0 ∷ []) $ join ! $ nothing ! $ move ! (1 ∷ 0 ∷ []) $ done !))))))))

pub free_spec : {M : Type 1} → stated.statement M
unfolding tables_of
free_spec 𝓤 𝓛 𝓜 𝓡 wired Y L g d d' met _ =
    let Z : Al = record { row = Y; laws = L; g = g; d = d; drops = d' } in
    let A = 𝓛.A in
    let 𝓣 : Tables 𝓤 𝓛.H = tables_of 𝓤 𝓛.H 𝓜 (tables 𝓤 𝓛.H 𝓜 𝓡 𝓡.env) in
    proved 𝓛 (ended Z) (stayed Z) (F.clauses Y g d d' 𝓛 𝓜.mem 𝓡.returns) 𝓜 𝓡 (Goes-blank 𝓛 2 (plain (λ _. Rg Z)) no (λ κs x f. tt), (Goes-dropped 𝓛 2 (handle Z) yes (λ κs x f. refl), (Goes-dropped 𝓛 2 (plain (λ _. u32)) yes (λ κs x f. refl), tt)))
    (key.name (args Z)) (here Z) (code.unfolded 𝓤 𝓛.H 𝓜 𝓡 wired (Y, tt) d d')
    (λ κs. ((λ x. region_val x.start ∷ []), (shr_vals, (uint_vals w32, tt)))) (λ κs. (region_Tells Z, (shr_Tells (named 0) κs.0 (P Z), (uint_Tells w32, tt))))
    (λ κs qs bounds a g are. walk Z 𝓛 𝓜.mem 𝓡.returns 𝓣 (met.deallocate d') κs.0 κs.1.0 qs.0 qs.1.0 bounds.0 a.0 a.1.0 a.1.1.0 are.1.1.0.1)
