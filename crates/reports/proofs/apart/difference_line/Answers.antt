use Rattle.std.proofs.Common.{◌≡◌, IfOk, string_bytes, sym, subst}
use Rattle.reports.specs.declared.apart.Difference.TheVariants.{Cell}
use Rattle.reports.specs.Apart.{FoundText, apart_line, DifferenceLine}
use Rattle.reports.proofs.Steps.{made_more}
use Rattle.reports.proofs.apart.difference_line.Goals as goal

pub returns-in_ok-y-in-Cell : goal.returns-in_ok-y-in-Cell
returns-in_ok-y-in-Cell g c =
    let x = subst (λ o. FoundText g.V.LeafKind.lawful g.V.LeafKind.word g.V.TypedLeaf.shows o c.as_str-in-Cell.result.now) c.cell_of.ensures.found
    (subst (λ bs. FoundText g.V.LeafKind.lawful g.V.LeafKind.word g.V.TypedLeaf.shows c.cell_of.result bs) (sym c.as_str-in-Cell.ensures.value) c.in_ok-x-in-Cell.ensures) in
    let y = subst (λ o. FoundText g.V.LeafKind.lawful g.V.LeafKind.word g.V.TypedLeaf.shows o c.as_str-in-Cell-2.result.now) c.cell_of-in-Cell.ensures.found
    (subst (λ bs. FoundText g.V.LeafKind.lawful g.V.LeafKind.word g.V.TypedLeaf.shows c.cell_of-in-Cell.result bs) (sym c.as_str-in-Cell-2.ensures.value) c.in_ok-y-in-Cell.ensures) in
    subst (λ d. IfOk c.apart_line-in-Cell.result (λ t. DifferenceLine g.V.LeafKind.lawful g.V.LeafKind.word g.V.TypedLeaf.shows g.V.LeafKind.taken c.args.a.now c.args.b.now d (string_bytes t))) (sym c.in-Cell.is)
    (made_more c.apart_line-in-Cell.result (λ t. string_bytes t ≡ apart_line (Cell c.in-Cell.at) c.as_str-in-Cell.result.now c.as_str-in-Cell-2.result.now) _
    (λ t e. (c.as_str-in-Cell.result.now, c.as_str-in-Cell-2.result.now, x, y, e)) c.apart_line-in-Cell.ensures)
