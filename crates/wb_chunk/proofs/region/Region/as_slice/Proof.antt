-- `as_slice` shows the words that the region lends. Assumes `Logic`.
use mathlib.Core.Path.{◌≡◌, refl, ap}
use mathlib.Core.List.{List, [], ◌∷◌}
use Prim.Native.Nat.{ℕ, ◌+◌, ◌*◌, ◌<◌, ◌^◌}
use native.Mathlib.Omega.{arith}
use lib.ListN.{length}
use seplogic.Ra.Ura.{Ura}
use mir.Syntax.{Fn, named, w32}
use mir.MapTy.{inst_fn}
use mir.Val.{Val, vptr, vint}
use base.Logic.{SProp, ent}
use base.Fml.{Lft, Share, ftrue, fhide, flft}
use prog.Memory.{Memory}
use prog.Routine.{Routine}
use prog.Wp.{WpFn, Tables}
use types.Logic.{Logic}
use types.Kit.{‵, raw, ◌⊛◌, at_ret, ◌$◌, ◌∵◌, !, qed, move, keep, drop, use1, split, join, fsplit, fjoin, feq_i, flt_i, suffices, frame, done}
use types.Run.{stop, fld, load, look, un, of_opd, and_then, no_more, first, blocks, exec, returns, enter}
use types.Part.{agg}
use types.ByLocal.{alloc_all, pass_all, free_all, look_at, get, through, sets, sets_last, env}
use contract.Monad.{Fun, fact}
use contract.BorrowLft.{◌⊑◌}
use contract.Running.{tables, tables_of}
use denote.Builtin.{u32, RefOf}
use denote.Exit.{yes}
use denote.Memory.{hidden_shr}
use denote.Opens.{unhide, hide}
use denote.Plain.{uint_vals, uint_Tells}
use denote.RattleType.{owns}
use denote.RawPtr.{InBlock, block_of, count_of}
use denote.Ref.{Bor, shr_vals, shr_Tells}
use denote.Signature.{Slot, plain, types_at}
use denote.Slice.{slice_val}
use denote.Steps.{heard, nothing}
use denote.Struct.Lending.{in_block_says, lent_out}
use denote.Triple.Clauses.{Ended, Clauses}
use denote.Triple.Walked.{says, Stays, stay_dropped, walk_of, ends_at, Goes-dropped}
use Rattle.std.proofs.alloc.Calls.{Al}
use Rattle.std.proofs.alloc.Shapes.{after}
use Rattle.std.proofs.raw_atomic.Walks.{proved}
use Rattle.std.proofs.Words.{pointer_in, pointer_out}
use Rattle.wb_chunk.proofs.RegionSteps.{args, P, Rg, Fields, fields, shows_start}
use Rattle.std.specs.contracts.marker.PhantomData as marker
use Rattle.wb_chunk.specs.contracts.region.Region as C
use Rattle.wb_chunk.specs.contracts.region.Region.as_slice as F
use Rattle.wb_chunk.specs.contracts.region.Region.as_slice.Key as key
use Rattle.wb_chunk.proofs.region.Region.as_slice.Statement as stated
use Rattle.wb_chunk.proofs.region.Region.as_slice.Code as code

module _ (Z : Al) where
  abbrev here : Fn
  here = inst_fn (args Z) code.function

  abbrev self : Slot 2
  self = RefOf (0 ∷ []) tt (plain (λ _. Rg Z)) (λ _. tt)

  abbrev ended : Ended
  ended = F.ended Z.row Z.g Z.d Z.drops

  abbrev stayed : Stays ended.signature.params ended.kept
  stayed = (stay_dropped self yes, (stay_dropped (plain (λ _. u32)) yes, tt))

module _ (Z : Al) {M : Type 1} {𝓤 : Ura M} (𝓛 : Logic 𝓤) (at_mem : Memory → SProp 𝓤) (run : Routine → Fun 𝓤) (𝓣 : Tables 𝓤 𝓛.H) where
  open 𝓛 use {H}

  abbrev held : Clauses 𝓤 (ended Z)
  held = F.clauses Z.row Z.g Z.d Z.drops 𝓛 at_mem run

  module _ (κ₁ κ₂ : Lft) (q₁ q₂ : Share) (inn : κ₁ ⊑ κ₂) (r : Bor (Rg Z).Denot) (n : ℕ) where
    abbrev bound : (walk_of 𝓛 (ended Z) (stayed Z) held).Ghost
    bound = (((κ₁, (κ₂, tt)), (q₁, (q₂, tt)), (inn, tt), (r, (n, tt)), (shr_vals r, (vint w32 n ∷ [], tt))), tt)

    abbrev vs : List Val
    vs = vptr r.ref_ptr.0 r.ref_ptr.1 ∷ vint w32 n ∷ []

    walk : n < 2 ^ 32 → ent 𝓤 ((walk_of 𝓛 (ended Z) (stayed Z) held).pre bound) (WpFn 𝓤 H 𝓣.C 𝓣.Λ (here Z) vs ((walk_of 𝓛 (ended Z) (stayed Z) held).post bound))
    walk small =
        let d : (Rg Z).Denot = r.now in let b = r.ref_ptr.0 in let o = r.ref_ptr.1 in
        let Post = (walk_of 𝓛 (ended Z) (stayed Z) held).post bound in
        let at : ℕ × ℕ = (block_of d.start, count_of d.start) in
        let wide : n < 2 ^ 64 = omega arith in
        qed 𝓛 (((‵ (flft κ₁ q₁) ⊛ ‵ (flft κ₂ q₂) ⊛ ‵ ftrue) ⊛ ‵ (owns (types_at (ended Z).signature.params bound.0.0) bound.0.3 bound.0.4)) ∷ (raw (fact 𝓤 (κ₂ ⊑ Z.row.lives)) ⊛ raw (fact 𝓤 (n ≡ length d.words))) ∷ []) ∵
        move ! (1 ∷ []) $ split ! $ heard ! (κ₂ ⊑ Z.row.lives) (λ le. heard ! (n ≡ length d.words) (λ count.
        split ! $ split ! $ move ! (2 ∷ []) $ fsplit ! $ fsplit ! $ drop ! $
        -- [what the `&` shows; the count; the tokens]
        use1 𝓛 (‵ (hidden_shr (Fields Z) κ₁ (fields Z d) b o) ⊛ ‵ (fhide (C.the_lent (P Z) Z.g d d.start κ₁)))
        (lent_out 𝓛 (C.struct (P Z) Z.g) (C.the_codes Z.row.Denot Z.row.coded (marker.the_row (P Z)).coded) (C.the_heap (P Z) Z.g) (C.the_lent (P Z) Z.g) κ₁ d b o) $ split ! $
        move ! (1 ∷ []) $ unhide ! $ fsplit ! $ use1 𝓛 (raw (fact 𝓤 (InBlock d.start))) (in_block_says 𝓛 d.start) $ heard ! (InBlock d.start) (λ inb. fsplit ! $ drop ! $ hide ! $
        -- [the words; what the `&` shows of the fields; the count; the tokens]
        move ! (1 ∷ 3 ∷ 0 ∷ 4 ∷ []) $
        enter ! 𝓣.C 𝓣.Λ (here Z) vs _ $ alloc_all ! (λ l. pass_all ! refl ((tt, tt), ((tt, record { fits = small }), tt)) $
        first ! $ blocks ! $
        pointer_in ! tt d.start inb b (o + 0) (shows_start Z 𝓛 κ₁ b o d) (λ q.
        sets ! (of_opd ! (load ! (through ! refl (fld ! refl (stop !))) (look ! 1 refl))) refl (tt, tt) $
        pointer_out ! tt d.start inb b (o + 0) $
        sets ! (un ! (get ! refl) (record { fits = wide })) refl (tt, record { fits = wide }) $
        sets_last ! (agg ! (and_then ! (get ! refl) (and_then ! (get ! refl) (no_more !)))) refl (tt, (tt, (record { fits = wide }, tt))) $
        exec ! 𝓣.C 𝓣.Λ (env (here Z).locals l) (after 1 (here Z).body) (at_ret (env (here Z).locals l) Post) $
        sets ! (of_opd ! (get ! refl)) refl (tt, (tt, (record { fits = wide }, tt))) $
        returns ! (look_at ! 0 refl) $ free_all ! refl $ keep ! (2 ∷ 0 ∷ 3 ∷ []) $
        flt_i ! (length d.words * 4) (2 ^ 63) (omega (arith, count, small)) $ flt_i ! (length d.words) (2 ^ 64) (omega (arith, count, small)) $ fjoin ! $
        feq_i ! (List Val) (slice_val at n ∷ []) (slice_val at (length d.words) ∷ []) (ap (λ (k : ℕ). slice_val at k ∷ []) count) $ fjoin ! $ fjoin ! $
        -- [the slice; the tokens]
        suffices ! _ (ends_at 𝓛 (ended Z) (stayed Z) held bound (slice_val at n) (record { ref_ptr = at; now = d.words }) (tt, (tt, tt)) (tt, (tt, tt))) $ says ! refl $
        move ! (1 ∷ 2 ∷ []) $ join ! $ frame ! $ nothing ! $ nothing ! $ fjoin ! $ nothing ! $ fjoin ! $ done !)))))

pub as_slice_spec : {M : Type 1} → stated.statement M
unfolding tables_of
as_slice_spec 𝓤 𝓛 𝓜 𝓡 wired Y L g d d' met _ =
    let Z : Al = record { row = Y; laws = L; g = g; d = d; drops = d' } in
    let A = 𝓛.A in
    let 𝓣 : Tables 𝓤 𝓛.H = tables_of 𝓤 𝓛.H 𝓜 (tables 𝓤 𝓛.H 𝓜 𝓡 𝓡.env) in
    proved 𝓛 (ended Z) (stayed Z) (F.clauses Y g d d' 𝓛 𝓜.mem 𝓡.returns) 𝓜 𝓡 (Goes-dropped 𝓛 2 (self Z) yes (λ κs x f. refl), (Goes-dropped 𝓛 2 (plain (λ _. u32)) yes (λ κs x f. refl), tt))
    (key.name (args Z)) (here Z) (code.unfolded 𝓤 𝓛.H 𝓜 𝓡 wired (Y, tt) d d')
    (λ κs. (shr_vals, (uint_vals w32, tt))) (λ κs. (shr_Tells (named 0) κs.0 (Rg Z), (uint_Tells w32, tt)))
    (λ κs qs bounds a g are. walk Z 𝓛 𝓜.mem 𝓡.returns 𝓣 κs.0 κs.1.0 qs.0 qs.1.0 bounds.0 a.0 a.1.0 are.1.0.1)
