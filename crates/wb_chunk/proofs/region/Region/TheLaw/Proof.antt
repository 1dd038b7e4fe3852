-- A `&` to a region reaches its words. Assumes `Logic`.
use mir.Syntax.{w32, ty_array, ty_int}
use base.Fraction.{full_share}
use base.Fml.{fsep}
use denote.RattleType.{RattleType}
use denote.Array.{Array, Array-row_laws}
use denote.Builtin.{u32}
use denote.Copied.{uint_Copied}
use denote.Plain.{uint_row_laws}
use denote.RawPtr.{lies_at, room_for, ◌+ₚ◌}
use denote.Shares.{Shares-Array}
use denote.Param.Laws.{Laws}
use denote.Param.Shared.{copy_shared}
use denote.Struct.Field.{RawPtr-field}
use denote.Struct.Laws.{RawPtr-copy, field_copy}
use denote.Struct.Lending.{lent_at, lent_at_shr_laws, Lends-first, Lends-lies, of_Lends}
use Rattle.std.specs.Prelude.{length, ◌*◌, ◌-◌}
use Rattle.std.specs.declared.alloc.Allocator.{Ghosts}
use Rattle.std.specs.contracts.marker.PhantomData as marker
use Rattle.wb_chunk.specs.contracts.region.Region as C
use Rattle.wb_chunk.proofs.region.Region.TheLaw.Statement.{statement}

pub shares : (A : RattleType) (g : Ghosts A.Denot) (P : Laws A) → statement A g P
shares A g P =
    of_Lends (C.struct A g) (C.the_codes A.Denot A.coded (marker.the_row A).coded) (C.the_heap A g) (C.the_lent A g)
    (λ d p. lent_at_shr_laws (Array u32 (length d.words)) (Array-row_laws u32 (uint_row_laws w32) (length d.words)) d.start d.words)
    (copy_shared RawPtr-field RawPtr-copy, (copy_shared (marker.the_field A) (field_copy (marker.the_type A) tt), tt))
    (λ M 𝓤 𝓛 d p.
    let l = (C.the_row A g).lives in let n = length d.words in
    Lends-first 𝓛 (lies_at (Array u32 n) full_share d.start d.words)
    (fsep (room_for (ty_array (ty_int w32) (d.capacity - n)) (d.start +ₚ (n * 4))) (g.dealloc_token d.alloc (ty_array (ty_int w32) d.capacity) d.start))
    (lent_at (Array u32 n) d.start d.words) l
    (Lends-lies 𝓛 (Array u32 n) l d.start d.words (Shares-Array 𝓛 u32 tt n l ((uint_Copied 𝓛 w32).shares full_share l) d.words)))
