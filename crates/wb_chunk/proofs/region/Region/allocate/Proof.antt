-- `allocate` makes a region of a new block, with no words in it. Assumes `Logic`.
use mathlib.Core.Path.{◌≡◌, refl, ap, ◌∙◌}
use mathlib.Core.List.{List, [], ◌∷◌}
use Prim.Native.Nat.{ℕ, ◌+◌, ◌-◌, ◌*◌, ◌<◌, ◌^◌}
use native.Mathlib.Omega.{arith}
use lib.Dec.{lit<}
use seplogic.Ra.Ura.{Ura}
use mir.Syntax.{Fn, named, Body, w32}
use mir.MapTy.{inst_fn}
use mir.Val.{Val, vptr, vint, vstruct, vcons, vnil}
use base.Fraction.{full_share}
use base.Logic.{SProp, ent, id⊢}
use base.Fml.{Lft, Share, ftrue, froom, flft}
use prog.Capped.{capped_is}
use prog.Memory.{Memory, capped}
use prog.RawLaws.{size-raw, align-raw}
use prog.Routine.{Routine}
use prog.Wp.{Env, Wp, WpFn, Tables, after_seq, at_return}
use types.Logic.{Logic}
use types.Kit.{Post as After, any_q, ‵, raw, ◌⊛◌, later, await, at_ret, ◌$◌, ◌∵◌, !, qed, move, keep, drop, use1, use2, split, join, rewrite, fsplit, fjoin, feq_i, suffices, frame, done}
use types.Run.{stop, fld, un, bin, lit, of_opd, and_then, no_more, first, exec, returns, enter, switches_on}
use types.Part.{whole, agg}
use types.Match.{live, vrt, in_variant}
use types.ByLocal.{alloc_all, pass_all, free_all, look_at, get, get_in, get_tag, sets, sets_last, lands_as, env}
use contract.Monad.{Fun, fact}
use contract.BorrowLft.{◌⊑◌, ⊑_trans}
use contract.Running.{tables, tables_of}
use sound.WpLaws.{fm_of}
use denote.Array.{Array}
use denote.ArrayMemory.{Array-whole}
use denote.Builtin.{u32, RefOf}
use denote.Exit.{yes}
use denote.Laws.{Is}
use denote.Memory.{part_at}
use denote.Param.{layout}
use denote.Plain.{uint_vals, uint_Tells}
use denote.RattleType.{RattleType, owns}
use denote.RawPtr.{block_ptr}
use denote.Ref.{Bor, shr_vals, shr_Tells}
use denote.Signature.{Slot, plain, types_at}
use denote.Steps.{heard, nothing, owned}
use denote.Struct.Struct.{Struct, Struct-Makes}
use denote.Struct.Declared as Declared
use denote.Triple.Call.{calls_at}
use denote.Triple.Clauses.{Ended, Clauses}
use denote.Triple.Statement.{Triple}
use denote.Triple.Walked.{says, Stays, stay_dropped, walk_of, ends_at, Goes-dropped}
use Rattle.std.specs.Prelude.{true, false, Ok, Err}
use Rattle.std.specs.contracts.result.Result as RS
use Rattle.std.specs.contracts.alloc.AllocError as AE
use Rattle.std.proofs.alloc.Calls.{Al, seen, Answer-typed, takes_key, Takes, at_takes, Answered, Takes-goes, Takes-gives, answers}
use Rattle.std.proofs.raw_atomic.Walks.{proved}
use Rattle.std.proofs.alloc.Shapes.{after, head, arm_body}
use Rattle.std.proofs.RcSteps.{first_Good}
use Rattle.std.proofs.ResultValues.{ok_of, err_of}
use Rattle.wb_chunk.proofs.RegionSteps.{region_val, room_ty, args, P, Rg, region_made, region_typed}
use Rattle.wb_chunk.specs.contracts.region.Region.allocate as F
use Rattle.wb_chunk.specs.contracts.region.Region.allocate.Key as key
use Rattle.wb_chunk.proofs.region.Region.allocate.Statement as stated
use Rattle.wb_chunk.proofs.region.Region.allocate.Code as code

module _ (Z : Al) where
  abbrev here : Fn
  here = inst_fn (args Z) code.function

  abbrev handle : Slot 2
  handle = RefOf (0 ∷ []) tt (plain (λ _. P Z)) (λ _. tt)

  abbrev ended : Ended
  ended = F.ended Z.row Z.g Z.d Z.drops

  abbrev stayed : Stays ended.signature.params ended.kept
  stayed = (stay_dropped handle yes, (stay_dropped (plain (λ _. u32)) yes, tt))

  abbrev Out : RattleType
  Out = RS.the_row (Rg Z) AE.the_row

module _ (Z : Al) {M : Type 1} {𝓤 : Ura M} (𝓛 : Logic 𝓤) (at_mem : Memory → SProp 𝓤) (run : Routine → Fun 𝓤) (𝓣 : Tables 𝓤 𝓛.H) (callee : Triple 𝓤 (𝓣.C (takes_key Z)) (Takes Z 𝓛 at_mem run)) where
  open 𝓛 use {H}

  abbrev held : Clauses 𝓤 (ended Z)
  held = F.clauses Z.row Z.g Z.d Z.drops 𝓛 at_mem run

  module _ (κ₁ κ₂ : Lft) (q₁ q₂ : Share) (inn : κ₁ ⊑ κ₂) (r : Bor (P Z).Denot) (n : ℕ) where
    abbrev bound : (walk_of 𝓛 (ended Z) (stayed Z) held).Ghost
    bound = (((κ₁, (κ₂, tt)), (q₁, (q₂, tt)), (inn, tt), (r, (n, tt)), (shr_vals r, (vint w32 n ∷ [], tt))), tt)

    abbrev vs : List Val
    vs = vptr r.ref_ptr.0 r.ref_ptr.1 ∷ vint w32 n ∷ []

    walk : n < 2 ^ 32 → ent 𝓤 ((walk_of 𝓛 (ended Z) (stayed Z) held).pre bound) (WpFn 𝓤 H 𝓣.C 𝓣.Λ (here Z) vs ((walk_of 𝓛 (ended Z) (stayed Z) held).post bound))
    walk small =
        let Post = (walk_of 𝓛 (ended Z) (stayed Z) held).post bound in let a = r.now in
        let wide : n < 2 ^ 64 = omega arith in let bytes : n * 4 < 2 ^ 64 = omega arith in
        let size = ap capped (size-raw (room_ty n)) ∙ capped_is (n * 4) bytes in let align = ap capped (align-raw (room_ty n)) ∙ capped_is 4 (lit< tt) in
        let y : (Takes Z 𝓛 at_mem run).Ghost = at_takes Z 𝓛 at_mem run κ₁ q₁ r.ref_ptr a (n * 4) 4 (room_ty n) in
        qed 𝓛 (((‵ (flft κ₁ q₁) ⊛ ‵ (flft κ₂ q₂) ⊛ ‵ ftrue) ⊛ ‵ (owns (types_at (ended Z).signature.params bound.0.0) bound.0.3 bound.0.4)) ∷ (raw (fact 𝓤 (κ₂ ⊑ Z.row.lives)) ⊛ ‵ ftrue) ∷ []) ∵
        move ! (1 ∷ []) $ split ! $ heard ! (κ₂ ⊑ Z.row.lives) (λ le. drop ! $
        split ! $ split ! $ move ! (2 ∷ []) $ fsplit ! $ fsplit ! $ drop ! $ use1 𝓛 (‵ (seen Z κ₁ r.ref_ptr a)) (id⊢ 𝓤 _) $ keep ! (0 ∷ 2 ∷ 3 ∷ []) $
        -- [what the `&` shows of the handle; the token of κ₁; the other tokens]
        enter ! 𝓣.C 𝓣.Λ (here Z) vs _ $ alloc_all ! (λ l. pass_all ! refl ((tt, tt), ((tt, record { fits = small }), tt)) $
        let En : Env 𝓤 H = env (here Z).locals l in let arms : Body = head (after 3 (here Z).body) in let rest : Body = after 4 (here Z).body in
        let Then : After 𝓤 H = any_q (after_seq 𝓤 H (Wp 𝓤 H 𝓣.C 𝓣.Λ En rest (at_return 𝓤 H En Post)) (at_return 𝓤 H En Post)) in
        sets ! (un ! (get ! refl) (record { fits = wide })) refl (tt, record { fits = wide }) $
        sets ! (bin ! (get ! refl) (lit ! tt) (record { fits = bytes })) refl (tt, record { fits = bytes }) $
        use2 𝓛 (raw ((Takes Z 𝓛 at_mem run).pre y)) (Takes-goes Z 𝓛 at_mem run κ₁ q₁ r.ref_ptr a (⊑_trans κ₁ κ₂ Z.row.lives inn le) (n * 4) 4 (room_ty n) size align bytes (lit< tt)) $
        calls_at ! (fm_of 𝓤 H 𝓛.laws 𝓣) (Takes Z 𝓛 at_mem run) callee y (and_then ! (get ! refl) (and_then ! (get ! refl) (and_then ! (lit ! tt) (no_more !)))) (λ v.
        use1 𝓛 (later (raw (Answered Z 𝓛 at_mem run a (room_ty n) v) ⊛ ‵ (flft κ₁ q₁))) (Takes-gives Z 𝓛 at_mem run κ₁ q₁ r.ref_ptr a (n * 4) 4 (room_ty n) v) $ await ! tt $ split ! $
        answers Z ! at_mem run a (room_ty n) v
        (λ b o e.
        let d : (Rg Z).Denot = record { start = block_ptr b o; mark = record {}; words = []; capacity = n; alloc = a } in
        let made : Val = region_val (block_ptr b o) in let typed = region_typed Z (block_ptr b o) in let ok = first_Good (layout (Rg Z)) made typed in
        let all : n ≡ n - 0 = omega arith in let at : o ≡ o + 0 * 4 = omega arith in
        lands_as ! e refl (Answer-typed true b o) $ first ! $ switches_on ! (get_tag ! (vrt ! refl (fld ! refl (stop !))) (whole !)) $ exec ! 𝓣.C 𝓣.Λ En (arm_body 0 arms) Then $
        sets ! (of_opd ! (get_in ! (vrt ! refl (fld ! refl (stop !))) (in_variant ! 0 0 refl refl (whole !)))) refl (tt, tt) $
        sets ! (of_opd ! (get ! refl)) refl (tt, tt) $ sets ! (agg ! (no_more !)) refl (tt, tt) $
        sets ! (agg ! (and_then ! (get ! refl) (and_then ! (get ! refl) (no_more !)))) refl typed $
        sets_last ! (agg ! (and_then ! (lit ! tt) (and_then ! (get ! refl) (no_more !)))) refl ok $
        exec ! 𝓣.C 𝓣.Λ En rest (at_ret En Post) $ sets ! (of_opd ! (get ! refl)) refl ok $
        returns ! (look_at ! 0 refl) $ free_all ! refl $ keep ! (0 ∷ 1 ∷ 2 ∷ 3 ∷ []) $
        -- [the block's room; the token; the token of κ₁; the other tokens]
        rewrite ! 0 (λ (k : ℕ). ‵ (froom (room_ty k) b o)) all refl $ rewrite ! 0 (λ (k : ℕ). ‵ (froom (room_ty (n - 0)) b k)) at refl $ fjoin ! $
        nothing ! $ feq_i ! ℕ 0 0 refl $ fjoin ! $ use1 𝓛 (‵ (part_at (Array u32 0) full_share [] b o)) (Array-whole 𝓛 u32 full_share 0 [] b o) $ fjoin ! $ region_made Z ! d $
        use1 𝓛 (‵ ((Out Z).own_val (Ok d) (live 0 (vcons made vnil) ∷ []))) (ok_of 𝓛 (Rg Z) AE.the_row d made) $
        suffices ! _ (ends_at 𝓛 (ended Z) (stayed Z) held bound (live 0 (vcons made vnil)) (Ok d) (tt, (tt, tt)) (tt, (tt, tt))) $ says ! (refl, refl, refl) $
        move ! (1 ∷ 2 ∷ []) $ join ! $ frame ! $ nothing ! $ nothing ! $ fjoin ! $ nothing ! $ fjoin ! $ done !)
        (λ e.
        let Refusal : RattleType = Struct (Declared.shape AE.the_type) in let none : Val = live 1 (vcons (vstruct vnil) vnil) in
        lands_as ! e refl (Answer-typed false 0 0) $ first ! $ switches_on ! (get_tag ! (vrt ! refl (fld ! refl (stop !))) (whole !)) $ exec ! 𝓣.C 𝓣.Λ En (arm_body 1 arms) Then $
        sets ! (of_opd ! (get_in ! (vrt ! refl (fld ! refl (stop !))) (in_variant ! 1 0 refl refl (whole !)))) refl (tt, tt) $
        sets_last ! (agg ! (and_then ! (lit ! tt) (and_then ! (get ! refl) (no_more !)))) refl (tt, (record { fits = lit< tt }, (tt, tt))) $
        exec ! 𝓣.C 𝓣.Λ En rest (at_ret En Post) $ sets ! (of_opd ! (get ! refl)) refl (tt, (record { fits = lit< tt }, (tt, tt))) $
        returns ! (look_at ! 0 refl) $ free_all ! refl $ keep ! (0 ∷ 1 ∷ []) $
        owned ! Refusal (Is Refusal) (Struct-Makes 𝓛 (Declared.shape AE.the_type) tt) tt (vstruct vnil ∷ []) (tt, (refl, tt)) $
        use1 𝓛 (‵ ((Out Z).own_val (Err (record {})) (none ∷ []))) (err_of 𝓛 (Rg Z) AE.the_row (record {}) (vstruct vnil)) $
        suffices ! _ (ends_at 𝓛 (ended Z) (stayed Z) held bound none (Err (record {})) (tt, (tt, tt)) (tt, (tt, tt))) $ says ! tt $
        move ! (1 ∷ 2 ∷ []) $ join ! $ frame ! $ nothing ! $ nothing ! $ fjoin ! $ nothing ! $ fjoin ! $ done !))))

pub allocate_spec : {M : Type 1} → stated.statement M
unfolding tables_of
allocate_spec 𝓤 𝓛 𝓜 𝓡 wired Y L g d d' met _ =
    let Z : Al = record { row = Y; laws = L; g = g; d = d; drops = d' } in
    let A = 𝓛.A in
    let 𝓣 : Tables 𝓤 𝓛.H = tables_of 𝓤 𝓛.H 𝓜 (tables 𝓤 𝓛.H 𝓜 𝓡 𝓡.env) in
    proved 𝓛 (ended Z) (stayed Z) (F.clauses Y g d d' 𝓛 𝓜.mem 𝓡.returns) 𝓜 𝓡 (Goes-dropped 𝓛 2 (handle Z) yes (λ κs x f. refl), (Goes-dropped 𝓛 2 (plain (λ _. u32)) yes (λ κs x f. refl), tt))
    (key.name (args Z)) (here Z) (code.unfolded 𝓤 𝓛.H 𝓜 𝓡 wired (Y, tt) d d')
    (λ κs. (shr_vals, (uint_vals w32, tt))) (λ κs. (shr_Tells (named 0) κs.0 (P Z), (uint_Tells w32, tt)))
    (λ κs qs bounds a g are. walk Z 𝓛 𝓜.mem 𝓡.returns 𝓣 (met.allocate d') κs.0 κs.1.0 qs.0 qs.1.0 bounds.0 a.0 a.1.0 are.1.0.1)
