-- The bytes of the cells alone are lent: they hold all the cells, and the rest comes back as it was.
use Rattle.std.proofs.Common.{◌≡◌, ℕ, ◌-◌, ◌*◌, ◌<◌, Bool, true, List, ◌++◌, length, get_or, drop, Some, sym, ap, ◌∙◌, arith, rules}
use Rattle.std.proofs.lemmas.List.{length-take-le, length-drop}
use Rattle.std.proofs.lemmas.Bool.{cond-true, and_parts, ltb-true}
use Rattle.std.proofs.lemmas.Bool.Decides.{nat_tests}
use Rattle.cells.specs.declared.Cell.{Cell}
use Rattle.cells.specs.declared.Cell.TheVariants.{Blank}
use Rattle.cells.specs.Banks.{cell_at, takes, after_put}
use Rattle.banks.specs.Packed.{size_of, packed_cells}
use Rattle.banks.proofs.LentCells.{cell_at_set}
use Rattle.banks.proofs.LentBytes.{length_packed, packed_front, packed_used, left_over_front, packed_bytes}
use Rattle.banks.proofs.lent.put_into_bytes.Goals as goal

-- a cell that was taken is read again, and is not blank
put_found : {V : Type 0} (lawful : V → Bool) (cs : List (Cell V)) (a : ℕ) (c : Cell V) → takes lawful cs a c ≡ true → cell_at (after_put lawful cs a c) a ≡ Some c
put_found lawful cs a c h =
    ap (λ ds. cell_at ds a) (cond-true (takes lawful cs a c) _ _ h) ∙ cell_at_set cs a c (ltb-true a (length cs) (and_parts _ _ h).0)

put_full : {V : Type 0} (lawful : V → Bool) (cs : List (Cell V)) (a : ℕ) (c : Cell V) → takes lawful cs a c ≡ true → c ≡ Blank → ⊥
put_full lawful cs a c h e = grind (arith, nat_tests)

pub returns : goal.returns
returns g c =
    let lawful = g.V.LeafKind.lawful in
    let taken = g.V.LeafKind.taken in
    let bs = c.args.bytes.now in
    let a = c.args.at in
    let cell = c.args.cell.now in
    let used = 9 * c.size_packed-used.result - 0 in
    let ys = c.put_into_all.new.bytes in
    let whole : used ≡ 9 * size_of bs = omega (arith, c.size_packed-used.ensures) in
    let same = packed_used taken bs used whole in
    let size = length_packed taken bs in
    let long = length-take-le used bs (omega arith) in
    let front : length ys ≡ 9 * size_of bs = omega (arith, c.put_into_all.auto.bytes) in
    let small : (k : ℕ) → get_or (ys ++ drop used bs) k 0 < 256 = λ k. let fits = c.type_inv.bytes k in search rules in
    let few : length (drop used bs) < 9 = simp length-drop (omega arith) in
    let joined = packed_front taken (size_of bs) ys (drop used bs) front few in
    let after : packed_cells taken (ys ++ drop used bs) ≡ after_put lawful (packed_cells taken bs) a cell = joined ∙ c.put_into_all.ensures.after ∙ ap (λ cs. after_put lawful cs a cell) same in
    let answer = c.put_into_all.ensures.answer ∙ ap (λ cs. takes lawful cs a cell) same in
    record {
      answer = rw size at answer;
      after = after;
      nine = λ yes.
          let took : takes lawful (packed_cells taken bs) a cell ≡ true = sym answer ∙ yes in
          packed_bytes g.met.V.LeafKind.laws (ys ++ drop used bs) a cell small (ap (λ cs. cell_at cs a) after ∙ put_found lawful (packed_cells taken bs) a cell took) (put_full lawful (packed_cells taken bs) a cell took);
      rest = left_over_front (size_of bs) ys (drop used bs) front few ∙ ap (λ n. drop n bs) whole;
    }
