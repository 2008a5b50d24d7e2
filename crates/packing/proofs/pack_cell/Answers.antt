-- The bytes are those of the cell's kind and body; the laws are lemmas over the definitions.
use Rattle.std.proofs.Common.{◌≡◌, ℕ, Bool, List, sym, ap, ◌∙◌, subst}
use Rattle.cells.specs.declared.Cell.{Cell}
use Rattle.packing.specs.Cells.{nine_bytes, kind_and_body, pack_cell, unpack_cell, Alone}
use Rattle.packing.proofs.Cells.{cell_back, cell_unlawful, cell_alone}
use Rattle.packing.proofs.pack_cell.Goals as goal

packed_from : {V : Type 0} (lawful : V → Bool) (word : V → ℕ) (c : Cell V) (p : ℕ × ℕ) (bs : List ℕ) → bs ≡ nine_bytes p.0 p.1 → p ≡ kind_and_body lawful word c → bs ≡ pack_cell lawful word c
unfolding pack_cell
packed_from lawful word c p bs made parted = made ∙ ap (λ (q : ℕ × ℕ). nine_bytes q.0 q.1) parted

pub returns : goal.returns
returns g c =
    let laws = g.met.V.LeafKind.laws in
    let cell = c.args.c.now in
    let p = c.kind_and_body-kind in
    let bs = c.nine_bytes.result in
    let packed = packed_from g.V.LeafKind.lawful g.V.LeafKind.word cell p.result bs c.nine_bytes.ensures p.ensures.parted in
    record {
      packed = packed;
      fits = p.ensures.fits;
      back = λ good. ap (unpack_cell g.V.LeafKind.taken) packed ∙ cell_back laws cell good p.ensures.fits;
      lost = λ bad. ap (unpack_cell g.V.LeafKind.taken) packed ∙ cell_unlawful laws cell bad;
      alone = subst (Alone g.V.LeafKind.lawful g.V.LeafKind.word cell) (sym packed) (cell_alone laws cell p.ensures.fits);
    }
