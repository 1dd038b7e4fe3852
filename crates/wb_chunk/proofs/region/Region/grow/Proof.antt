-- `grow` asks for a larger block, and has the region begin where that one does. Assumes `Logic`.
use mathlib.Core.Path.{◌≡◌, refl, sym, subst}
use mathlib.Core.List.{List, [], ◌∷◌}
use Prim.Native.Nat.{ℕ, ◌*◌, ◌≤◌, ◌<◌, ◌^◌}
use native.Mathlib.Omega.{arith}
use lib.Dec.{T, lit<}
use lib.ListN.{length}
use seplogic.Ra.Ura.{Ura}
use mir.Syntax.{Fn, named, Body, w32}
use mir.MapTy.{inst_fn}
use mir.Val.{Val, vunit, vptr, vint, vstruct, vcons, vnil, has_ty, WT}
use base.Fraction.{full_share}
use base.Logic.{SProp, ent, ex, never, fst∗, id⊢}
use base.Fml.{Lft, Share, Fml, ftrue, flft}
use prog.Memory.{Memory}
use prog.Routine.{Routine}
use prog.Wp.{Env, Wp, WpFn, Tables, after_seq, at_return}
use types.Logic.{Logic, sem}
use types.Kit.{Post as After, any_q, ‵, raw, ◌⊛◌, later, await, at_ret, ◌$◌, ◌∵◌, !, qed, move, keep, drop, use0, use1, use3, split, split3, join, rewrite, fsplit, fsplit3, fjoin, fjoin3, feq_i, suffices, frame, done}
use types.Run.{stop, fld, load, un, lit, unit_lit, of_opd, and_then, no_more, assigns, first, blocks, exec, returns, enter, switches_on}
use types.Part.{whole, sub, look_in, store_in, agg}
use types.Match.{live, vrt, in_variant}
use types.ByLocal.{alloc_all, pass_all, free_all, look_at, get, get_in, get_tag, through, sets, sets_last, is, lands_last, env}
use contract.Monad.{Fun, fact}
use contract.BorrowLft.{◌⊑◌, ⊑_refl, ⊑_trans}
use contract.Running.{tables, tables_of}
use sound.WpLaws.{fm_of}
use denote.Builtin.{u32, unit, RefOf}
use denote.Exit.{yes}
use denote.Laws.{Is}
use denote.Memory.{cell_at}
use denote.Param.{layout, param}
use denote.Param.Laws.{Laws, of_field}
use denote.Param.Shared.{copy_shared}
use denote.Plain.{uint_vals, uint_Tells}
use denote.RattleType.{RattleType, owns}
use denote.RawPtr.{Ptr, block_ptr, null_ptr, in_a_block}
use denote.Ref.{Bor, MutBor, mut_vals, mut_Tells, shr_vals, shr_Tells}
use denote.Signature.{Slot, plain, types_at}
use denote.Steps.{heard, nothing, opens, closes, owned}
use denote.Struct.Field.{u32-field}
use denote.Struct.Laws.{u32-laws, u32-copy}
use denote.Struct.Struct.{Struct, Struct-Makes}
use denote.Struct.Declared as Declared
use denote.Triple.Call.{calls_at_last}
use denote.Triple.Clauses.{Ended, Clauses}
use denote.Triple.Statement.{Triple}
use denote.Triple.Walked.{says, Stays, stay_dropped, stay_ref, walk_of, ends_at, Goes-dropped, Goes-ref}
use Rattle.std.specs.Allocator.{block_with_items, resized_if_ok}
use Rattle.std.specs.Prelude.{true, false, Ok, Err}
use Rattle.std.specs.contracts.result.Result as RS
use Rattle.std.specs.contracts.alloc.AllocError as AE
use Rattle.std.proofs.alloc.Calls.{Al, token, seen, Answer, Answer-typed}
use Rattle.std.proofs.alloc.Resizes.{Grows, resize_key, Resizes, at_resizes, Resized, Resizes-goes, Resizes-gives, flagged}
use Rattle.std.proofs.alloc.Shapes.{after, head, arm_body}
use Rattle.std.proofs.raw_atomic.Walks.{proved}
use Rattle.std.proofs.RcSteps.{first_Good}
use Rattle.std.proofs.ResultValues.{ok_of, err_of}
use Rattle.wb_chunk.proofs.RegionSteps.{region_val, args, P, Rg, block_at, spare_at, region_had, region_made}
use Rattle.wb_chunk.specs.contracts.region.Region.grow as F
use Rattle.wb_chunk.specs.contracts.region.Region.grow.Key as key
use Rattle.wb_chunk.proofs.region.Region.grow.Statement as stated
use Rattle.wb_chunk.proofs.region.Region.grow.Code as code

abbrev words_laws : Laws u32
words_laws = of_field u32-field u32-laws refl (copy_shared u32-field u32-copy)

abbrev Out : RattleType
Out = RS.the_row unit AE.the_row

module _ (Z : Al) where
  abbrev here : Fn
  here = inst_fn (args Z) code.function

  abbrev handle : Slot 3
  handle = RefOf (1 ∷ []) tt (plain (λ _. P Z)) (λ _. tt)

  abbrev ended : Ended
  ended = F.ended Z.row Z.g Z.d Z.drops

  abbrev stayed : Stays ended.signature.params ended.kept
  stayed = (stay_ref (0 ∷ []) tt (plain (λ _. Rg Z)), (stay_dropped handle yes, (stay_dropped (plain (λ _. u32)) yes, (stay_dropped (plain (λ _. u32)) yes, (stay_dropped (plain (λ _. u32)) yes, tt)))))

module _ (Z : Al) {M : Type 1} {𝓤 : Ura M} (𝓛 : Logic 𝓤) (at_mem : Memory → SProp 𝓤) (run : Routine → Fun 𝓤) (𝓣 : Tables 𝓤 𝓛.H)
    (callee : Triple 𝓤 (𝓣.C (resize_key Z u32 2)) (Resizes Z u32 (Grows u32) 𝓛 at_mem run)) where
  open 𝓛 use {H}

  abbrev held : Clauses 𝓤 (ended Z)
  held = F.clauses Z.row Z.g Z.d Z.drops 𝓛 at_mem run

  module _ (κ κh ρ : Lft) (q qh qρ : Share) (inn : κ ⊑ ρ) (inh : κh ⊑ ρ) (r : MutBor (Rg Z).Denot) (h : Bor (P Z).Denot) (n c w : ℕ) where
    abbrev bound : (walk_of 𝓛 (ended Z) (stayed Z) held).Ghost
    bound = (((κ, (κh, (ρ, tt))), (q, (qh, (qρ, tt))), (inn, (inh, tt)), (r, (h, (n, (c, (w, tt))))), (mut_vals r, (shr_vals h, (vint w32 n ∷ [], (vint w32 c ∷ [], (vint w32 w ∷ [], tt)))))), tt)

    abbrev vs : List Val
    vs = vptr r.ref_ptr.0 r.ref_ptr.1 ∷ vptr h.ref_ptr.0 h.ref_ptr.1 ∷ vint w32 n ∷ vint w32 c ∷ vint w32 w ∷ []

    abbrev d : (Rg Z).Denot
    d = r.now

    abbrev Cell : Ptr → Fml
    Cell p = cell_at full_share (Rg Z).mir (region_val p ∷ []) r.ref_ptr.0 r.ref_ptr.1

    abbrev Counted : Type 0
    Counted = (n ≡ length d.words) × (n ≤ c)

    abbrev Roomy : Type 0
    Roomy = (d.capacity ≡ c) × (c ≤ w)

    walk : n < 2 ^ 32 → c < 2 ^ 32 → w < 2 ^ 32 → ent 𝓤 ((walk_of 𝓛 (ended Z) (stayed Z) held).pre bound) (WpFn 𝓤 H 𝓣.C 𝓣.Λ (here Z) vs ((walk_of 𝓛 (ended Z) (stayed Z) held).post bound))
    walk small_n small_c small_w =
        let rb = r.ref_ptr.0 in let ro = r.ref_ptr.1 in let xs = d.words in let a = h.now in
        let Post = (walk_of 𝓛 (ended Z) (stayed Z) held).post bound in
        let fn : n < 2 ^ 64 = omega arith in let fc : c < 2 ^ 64 = omega arith in let fw : w < 2 ^ 64 = omega arith in let bytes : w * 4 < 2 ^ 63 = omega arith in
        qed 𝓛 (((‵ (flft κ q) ⊛ ‵ (flft κh qh) ⊛ ‵ (flft ρ qρ) ⊛ ‵ ftrue) ⊛ ‵ (owns (types_at (ended Z).signature.params bound.0.0) bound.0.3 bound.0.4)) ∷
        (raw (fact 𝓤 (ρ ⊑ Z.row.lives)) ⊛ raw (fact 𝓤 (d.alloc ≡ a)) ⊛ raw (fact 𝓤 Counted) ⊛ raw (fact 𝓤 Roomy)) ∷ []) ∵
        move ! (1 ∷ []) $ split ! $ heard ! (ρ ⊑ Z.row.lives) (λ le. split ! $ heard ! (d.alloc ≡ a) (λ same. split ! $ heard ! Counted (λ counted. heard ! Roomy (λ roomy.
        split ! $ split3 ! $ move ! (3 ∷ []) $ fsplit ! $ fsplit3 ! $ drop ! $ move ! (2 ∷ []) $ fsplit ! $ fsplit ! $ drop ! $ use1 𝓛 (‵ (seen Z κh h.ref_ptr a)) (id⊢ 𝓤 _) $
        keep ! (2 ∷ 3 ∷ 4 ∷ 0 ∷ 5 ∷ 6 ∷ []) $
        -- [what the ghost name is seen at; the borrow; the token of κ; what the `&` shows of the handle; the token of κh; the other tokens]
        enter ! 𝓣.C 𝓣.Λ (here Z) vs _ $ alloc_all ! (λ l. pass_all ! refl ((tt, tt), ((tt, tt), ((tt, record { fits = small_n }), ((tt, record { fits = small_c }), ((tt, record { fits = small_w }), tt))))) $
        let En : Env 𝓤 H = env (here Z).locals l in let arms : Body = head (after 2 (here Z).body) in
        let Then : After 𝓤 H = any_q (after_seq 𝓤 H (Wp 𝓤 H 𝓣.C 𝓣.Λ En (after 3 (here Z).body) (at_return 𝓤 H En Post)) (at_return 𝓤 H En Post)) in
        opens ! tt (Rg Z) {h = d} rb ro (λ us. move ! (1 ∷ []) $ region_had Z ! d us (λ is_val. rewrite ! 1 (λ (zs : List Val). ‵ (cell_at full_share (Rg Z).mir zs rb ro)) is_val refl $
        in_a_block ! d.start (λ p. block_at Z d p xs) (fst∗ 𝓤 (never 𝓤) (sem 𝓛 (spare_at Z d null_ptr (length xs)))) (λ b o e.
        let y : (Resizes Z u32 (Grows u32) 𝓛 at_mem run).Ghost = at_resizes Z u32 (Grows u32) 𝓛 at_mem run κh [] qh full_share h.ref_ptr a b o n c w xs in
        rewrite ! 1 (λ (p : Ptr). ‵ (Cell p)) e refl $
        -- [the block; the region's cell; the open borrow, in three entries; what the `&` shows of the handle; the token of κh; the other tokens]
        first ! $ blocks ! $
        sets ! (of_opd ! (load ! (through ! refl (fld ! refl (stop !))) (look_in ! 1 (sub ! 0 refl (whole !))))) refl (tt, tt) $
        sets ! (un ! (get ! refl) (record { fits = fn })) refl (tt, record { fits = fn }) $
        sets ! (un ! (get ! refl) (record { fits = fc })) refl (tt, record { fits = fc }) $
        sets ! (un ! (get ! refl) (record { fits = fw })) refl (tt, record { fits = fw }) $
        rewrite ! 0 (λ (z : Z.row.Denot). ‵ (block_with_items (token Z z) u32 (block_ptr b o) (length xs) d.capacity xs)) same refl $
        rewrite ! 0 (λ (k : ℕ). ‵ (block_with_items (token Z a) u32 (block_ptr b o) (length xs) k xs)) roomy.0 refl $
        rewrite ! 0 (λ (k : ℕ). ‵ (block_with_items (token Z a) u32 (block_ptr b o) k c xs)) (sym counted.0) refl $
        use0 𝓛 (‵ (flft [] full_share)) (𝓛.lfts.lft-nil full_share) $ move ! (7 ∷ 0 ∷ []) $ join ! $ move ! (1 ∷ 6 ∷ 0 ∷ []) $
        use3 𝓛 (raw ((Resizes Z u32 (Grows u32) 𝓛 at_mem run).pre y))
        (Resizes-goes Z u32 (Grows u32) 𝓛 at_mem run κh [] qh full_share h.ref_ptr a b o n c w xs (⊑_trans κh ρ Z.row.lives inh le) (⊑_refl []) (counted.1, roomy.1, bytes) fn fc fw) $
        calls_at_last ! (fm_of 𝓤 H 𝓛.laws 𝓣) (Resizes Z u32 (Grows u32) 𝓛 at_mem run) callee y
        (and_then ! (get ! refl) (and_then ! (get ! refl) (and_then ! (get ! refl) (and_then ! (get ! refl) (and_then ! (get ! refl) (no_more !)))))) (λ v.
        use1 𝓛 (later (raw (ex 𝓤 (Resized Z u32 (Grows u32) 𝓛 at_mem run κh [] qh full_share h.ref_ptr a b o n c w xs v)) ⊛ ‵ (flft κh qh) ⊛ ‵ (flft [] full_share)))
        (Resizes-gives Z u32 (Grows u32) 𝓛 at_mem run κh [] qh full_share h.ref_ptr a b o n c w xs v) $ await ! tt $ split3 ! $ move ! (2 ∷ []) $ drop ! $
        -- [what came back; the token of κh; the region's cell; the open borrow, in three entries; the other tokens]
        flagged ! v (resized_if_ok (token Z a) (param 1 u32) (block_ptr b o) n c w xs)
        (λ b' o' is_ok.
        let new : (Rg Z).Denot = record { start = block_ptr b' o'; mark = d.mark; words = xs; capacity = w; alloc = d.alloc } in
        let good = first_Good (layout unit) vunit (tt, tt) in let all : Val = live 0 (vcons vunit vnil) in
        lands_last ! refl (subst (λ (z : Val). T (has_ty (layout Answer) z) × WT z) (sym is_ok) (Answer-typed true b' o')) $
        exec ! 𝓣.C 𝓣.Λ En (after 1 (here Z).body) (at_ret En Post) $
        sets ! (is ! (of_opd ! (get ! refl)) is_ok) refl (Answer-typed true b' o') $
        first ! $ switches_on ! (get_tag ! (vrt ! refl (fld ! refl (stop !))) (whole !)) $ exec ! 𝓣.C 𝓣.Λ En (arm_body 0 arms) Then $
        sets ! (of_opd ! (get_in ! (vrt ! refl (fld ! refl (stop !))) (in_variant ! 0 0 refl refl (whole !)))) refl (tt, tt) $
        assigns ! (of_opd ! (get ! refl)) (through ! refl (fld ! refl (stop !))) (store_in ! 2 (sub ! 0 refl (whole !)) (tt, tt)) $
        sets_last ! (agg ! (and_then ! (lit ! tt) (and_then ! (unit_lit !) (no_more !)))) refl good $
        exec ! 𝓣.C 𝓣.Λ En (after 3 (here Z).body) (at_ret En Post) $ sets ! (of_opd ! (get ! refl)) refl good $
        rewrite ! 0 (λ (k : ℕ). ‵ (block_with_items (token Z a) u32 (block_ptr b' o') k w xs)) counted.0 refl $
        rewrite ! 0 (λ (z : Z.row.Denot). ‵ (block_with_items (token Z z) u32 (block_ptr b' o') (length xs) w xs)) (sym same) refl $
        region_made Z ! new $ move ! (2 ∷ 0 ∷ 3 ∷ 4 ∷ 5 ∷ []) $ closes ! tt (Rg Z) new (region_val (block_ptr b' o') ∷ []) rb ro $
        returns ! (look_at ! 0 refl) $ free_all ! refl $ keep ! (2 ∷ 3 ∷ 4 ∷ 0 ∷ 1 ∷ []) $
        feq_i ! (List Val) (vunit ∷ []) (vunit ∷ []) refl $ use1 𝓛 (‵ (Out.own_val (Ok tt) (all ∷ []))) (ok_of 𝓛 unit AE.the_row tt vunit) $
        suffices ! _ (ends_at 𝓛 (ended Z) (stayed Z) held bound all (Ok tt) (new, (tt, (tt, (tt, (tt, tt))))) (tt, (tt, (tt, (tt, (tt, tt)))))) $ says ! ((refl, refl, refl), tt) $
        move ! (2 ∷ 3 ∷ []) $ join ! $ move ! (2 ∷ 0 ∷ []) $ join ! $ frame ! $ move ! (1 ∷ 2 ∷ []) $ feq_i ! (List Val) (vptr rb ro ∷ []) (vptr rb ro ∷ []) refl $ fjoin3 ! $
        nothing ! $ nothing ! $ fjoin ! $ nothing ! $ fjoin ! $ nothing ! $ fjoin ! $ nothing ! $ fjoin ! $ move ! (1 ∷ 0 ∷ []) $ fjoin ! $ done !)
        (λ is_err.
        let Refusal : RattleType = Struct (Declared.shape AE.the_type) in let none : Val = live 1 (vcons (vstruct vnil) vnil) in
        lands_last ! refl (subst (λ (z : Val). T (has_ty (layout Answer) z) × WT z) (sym is_err) (Answer-typed false 0 0)) $
        exec ! 𝓣.C 𝓣.Λ En (after 1 (here Z).body) (at_ret En Post) $
        sets ! (is ! (of_opd ! (get ! refl)) is_err) refl (Answer-typed false 0 0) $
        first ! $ switches_on ! (get_tag ! (vrt ! refl (fld ! refl (stop !))) (whole !)) $ exec ! 𝓣.C 𝓣.Λ En (arm_body 1 arms) Then $
        sets ! (of_opd ! (get_in ! (vrt ! refl (fld ! refl (stop !))) (in_variant ! 1 0 refl refl (whole !)))) refl (tt, tt) $
        sets_last ! (agg ! (and_then ! (lit ! tt) (and_then ! (get ! refl) (no_more !)))) refl (tt, (record { fits = lit< tt }, (tt, tt))) $
        exec ! 𝓣.C 𝓣.Λ En (after 3 (here Z).body) (at_ret En Post) $ sets ! (of_opd ! (get ! refl)) refl (tt, (record { fits = lit< tt }, (tt, tt))) $
        rewrite ! 0 (λ (k : ℕ). ‵ (block_with_items (token Z a) u32 (block_ptr b o) k c xs)) counted.0 refl $
        rewrite ! 0 (λ (k : ℕ). ‵ (block_with_items (token Z a) u32 (block_ptr b o) (length xs) k xs)) (sym roomy.0) refl $
        rewrite ! 0 (λ (z : Z.row.Denot). ‵ (block_with_items (token Z z) u32 (block_ptr b o) (length xs) d.capacity xs)) (sym same) refl $
        rewrite ! 0 (λ (p : Ptr). ‵ (block_at Z d p xs)) (sym e) refl $
        region_made Z ! d $ move ! (2 ∷ 0 ∷ 3 ∷ 4 ∷ 5 ∷ []) $ rewrite ! 0 (λ (p : Ptr). ‵ (Cell p)) (sym e) refl $ closes ! tt (Rg Z) d (region_val d.start ∷ []) rb ro $
        returns ! (look_at ! 0 refl) $ free_all ! refl $ keep ! (2 ∷ 3 ∷ 4 ∷ 0 ∷ 1 ∷ []) $
        owned ! Refusal (Is Refusal) (Struct-Makes 𝓛 (Declared.shape AE.the_type) tt) tt (vstruct vnil ∷ []) (tt, (refl, tt)) $
        use1 𝓛 (‵ (Out.own_val (Err (record {})) (none ∷ []))) (err_of 𝓛 unit AE.the_row (record {}) (vstruct vnil)) $
        suffices ! _ (ends_at 𝓛 (ended Z) (stayed Z) held bound none (Err (record {})) (d, (tt, (tt, (tt, (tt, tt))))) (tt, (tt, (tt, (tt, (tt, tt)))))) $ says ! (tt, refl) $
        move ! (2 ∷ 3 ∷ []) $ join ! $ move ! (2 ∷ 0 ∷ []) $ join ! $ frame ! $ move ! (1 ∷ 2 ∷ []) $ feq_i ! (List Val) (vptr rb ro ∷ []) (vptr rb ro ∷ []) refl $ fjoin3 ! $
        nothing ! $ nothing ! $ fjoin ! $ nothing ! $ fjoin ! $ nothing ! $ fjoin ! $ nothing ! $ fjoin ! $ move ! (1 ∷ 0 ∷ []) $ fjoin ! $ done !))))))))))

pub grow_spec : {M : Type 1} → stated.statement M
unfolding tables_of
grow_spec 𝓤 𝓛 𝓜 𝓡 wired Y L g d d' met _ =
    let Z : Al = record { row = Y; laws = L; g = g; d = d; drops = d' } in
    let A = 𝓛.A in
    let 𝓣 : Tables 𝓤 𝓛.H = tables_of 𝓤 𝓛.H 𝓜 (tables 𝓤 𝓛.H 𝓜 𝓡 𝓡.env) in
    let gone = Goes-dropped 𝓛 3 (plain (λ _. u32)) yes (λ κs x f. refl) in
    proved 𝓛 (ended Z) (stayed Z) (F.clauses Y g d d' 𝓛 𝓜.mem 𝓡.returns) 𝓜 𝓡 (Goes-ref 𝓛 3 0 tt (plain (λ _. Rg Z)), (Goes-dropped 𝓛 3 (handle Z) yes (λ κs x f. refl), (gone, (gone, (gone, tt)))))
    (key.name (args Z)) (here Z) (code.unfolded 𝓤 𝓛.H 𝓜 𝓡 wired (Y, tt) d d')
    (λ κs. (mut_vals, (shr_vals, (uint_vals w32, (uint_vals w32, (uint_vals w32, tt)))))) (λ κs. (mut_Tells (named 0) κs.0 (Rg Z), (shr_Tells (named 1) κs.1.0 (P Z), (uint_Tells w32, (uint_Tells w32, (uint_Tells w32, tt))))))
    (λ κs qs bounds a g are. walk Z 𝓛 𝓜.mem 𝓡.returns 𝓣 (met.grow d' u32 words_laws) κs.0 κs.1.0 κs.1.1.0 qs.0 qs.1.0 qs.1.1.0 bounds.0 bounds.1.0 a.0 a.1.0 a.1.1.0 a.1.1.1.0 a.1.1.1.1.0
    are.1.1.0.1 are.1.1.1.0.1 are.1.1.1.1.0.1)
