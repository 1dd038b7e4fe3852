-- Proof: Cells::has_payload_of. The payload is a range of the words, from four words after the cell's place on.
use Rattle.std.proofs.Common.{◌≡◌, ◌+◌, ◌*◌, ◌/◌, ◌<◌, get_or, length, ℕ, ap, sym, ◌∙◌, arith}
use Rattle.std.proofs.lemmas.List.{ext_get_or}
use Rattle.wb_cells.proofs.Changing.{valid, some_cell, payload_within, word_of-payload}
use Rattle.wb_cells.proofs.cells.Cells.has_payload_of.Goals as goal

pub has_words_of-requires-clause-within : goal.has_words_of-requires-clause-within
has_words_of-requires-clause-within c =
    let v = valid _ _ _ _ c.self.invariant.laid c.args.ptr _ (ap (λ v. v.row) c.self.view_is) (some_cell c.args.ptr c.args.self.now.row c.requires.live) in
    omega (arith, payload_within _ _ _ _ v.cell, ap length v.payload, c.requires.words, c.payload_at.ensures)

pub has_words_of-requires-clause-other_within : goal.has_words_of-requires-clause-other_within
has_words_of-requires-clause-other_within c =
    let w = valid _ _ _ _ c.other.invariant.laid c.args.there _ (ap (λ v. v.row) c.other.view_is) (some_cell c.args.there c.args.other.now.row c.requires.other_live) in
    omega (arith, payload_within _ _ _ _ w.cell, ap length w.payload, c.requires.other_words, c.payload_at.ensures, c.requires.place)

pub returns : goal.returns
returns c is =
    let v = valid _ _ _ _ c.self.invariant.laid c.args.ptr _ (ap (λ v. v.row) c.self.view_is) (some_cell c.args.ptr c.args.self.now.row c.requires.live) in
    let w = valid _ _ _ _ c.other.invariant.laid c.args.there _ (ap (λ v. v.row) c.other.view_is) (some_cell c.args.there c.args.other.now.row c.requires.other_live) in
    let long : length v.cell.body ≡ c.args.n = ap length (sym v.payload) ∙ c.requires.words in
    let other_long : length w.cell.body ≡ c.args.n = ap length (sym w.payload) ∙ c.requires.other_words in
    let first : c.payload_at.result ≡ c.args.ptr.place / 16 * 4 + 4 = c.payload_at.ensures in
    let words = c.self.inside.words in
    let others = c.other.inside.words in
    let same : (i : ℕ) → i < length w.cell.body → get_or w.cell.body i 0 ≡ get_or v.cell.body i 0 =
    λ i lt.
    let here : c.args.ptr.place / 16 * 4 + 4 + i ≡ c.payload_at.result + i = omega (arith, first) in
    let there : c.args.there.place / 16 * 4 + 4 + i ≡ c.payload_at.result + i = omega (arith, first, c.requires.place) in
    sym (word_of-payload _ _ _ _ w.cell i lt) ∙ ap (λ k. get_or others k 0) there
    ∙ c.has_words_of.ensures is (c.payload_at.result + i) (omega arith) (omega (arith, lt, other_long))
    ∙ ap (λ k. get_or words k 0) (sym here) ∙ word_of-payload _ _ _ _ v.cell i (omega (arith, lt, long, other_long)) in
    w.payload ∙ ext_get_or 0 w.cell.body v.cell.body (other_long ∙ sym long) same ∙ sym v.payload
