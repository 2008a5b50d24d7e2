-- The cell is that of the bytes' kind and body; the laws are lemmas over the definitions.
use Rattle.std.proofs.Common.{◌≡◌, ℕ, ◌<◌, List, length, get_or, Option, sym, ap, ◌∙◌, rules}
use Rattle.cells.specs.declared.Cell.{Cell}
use Rattle.packing.specs.Cells.{body_of, cell_of, unpack_cell}
use Rattle.packing.proofs.Cells.{cell_only, cell_lawful, cell_fits_lem}
use Rattle.packing.proofs.unpack_cell.Goals as goal

unpacked_from : {V : Type 0} (taken : ℕ → Option V) (bs : List ℕ) (p : ℕ × ℕ) (c : Cell V) → p ≡ (get_or bs 0 0, body_of bs) → c ≡ cell_of taken p.0 p.1 → c ≡ unpack_cell taken bs
unfolding unpack_cell
unpacked_from taken bs p c split made = made ∙ ap (λ (q : ℕ × ℕ). cell_of taken q.0 q.1) split

pub returns : goal.returns
returns g c =
    let laws = g.met.V.LeafKind.laws in
    let bytes = c.args.bytes in
    let cell = c.cell_of.result in
    let p = c.split_bytes-kind in
    let unpacked = unpacked_from g.V.LeafKind.taken bytes p.result cell p.ensures c.cell_of.ensures in
    let len : length bytes ≡ 9 = search rules in
    let small : (k : ℕ) → k < 9 → get_or bytes k 0 < 256 = λ k h. search rules in
    record {
      unpacked = unpacked;
      only = cell_only laws bytes len small cell (sym unpacked);
      leaf = cell_lawful laws bytes cell (sym unpacked);
      fits = cell_fits_lem laws bytes cell (sym unpacked);
    }
