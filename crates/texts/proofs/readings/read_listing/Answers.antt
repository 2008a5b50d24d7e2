use Rattle.std.proofs.Common.{◌≡◌, ◌+◌, ◌<◌, length, vec_items, sym, ap, ◌∙◌, subst, arith}
use Rattle.std.proofs.lemmas.Result.{err_from_is_err_and}
use Rattle.texts.specs.Typed.{word_bytes}
use Rattle.texts.specs.Splits.{lines_of}
use Rattle.texts.specs.Lists.{Listed, after}
use Rattle.texts.proofs.Listings.{line_count, line_at, after_none, Upto, upto_passes, upto_takes, upto_stops, upto_ends}
use Rattle.texts.proofs.readings.read_listing.Goals as goal
use Rattle.texts.proofs.readings.read_listing.Goals.{in-Some+in_ok-push, in_default}

pub loop-i-init : goal.loop-i-init
loop-i-init g c r k =
    subst (λ es. Listed g.V.TypedLeaf.reads g.V.LeafKind.tidied 1 (lines_of c.args.text.now) (after es r)) (sym c.new-entries.ensures.items)
    (subst (Listed g.V.TypedLeaf.reads g.V.LeafKind.tidied 1 (lines_of c.args.text.now)) (sym (after_none r)) k)

pub loop-i-preserved : goal.loop-i-preserved
loop-i-preserved g c =
    let text = c.args.text.now in
    let lines = c.deref-line-items.result.now in
    let all : word_bytes lines ≡ lines_of text = ap word_bytes c.deref-line-items.ensures.value ∙ c.in_ok-lines.ensures in
    let n = line_count lines text all in
    let inside : c.loop-i.i < length (lines_of text) = omega arith in
    let is = line_at lines text c.loop-i.i _ all c.loop-i-test.true in
    elim c.match-branch-3.branch [
      | in-Some+in_ok-push w ↦
          subst (λ vs. Upto g.V.TypedLeaf.reads g.V.LeafKind.tidied text (c.loop-i.i + 1) (vec_items vs)) (sym w.entries-is)
          (upto_takes g.V.TypedLeaf.reads g.V.LeafKind.tidied text c.loop-i.i (vec_items c.loop-i.entries) c.loop-i.invariant _ inside is (vec_items w.push.new.self) w.in-Some.entry (rw w.in-Some.is at c.in_ok-entry.ensures) w.in_ok-push.ensures.items)
      | in_default w ↦
          subst (λ vs. Upto g.V.TypedLeaf.reads g.V.LeafKind.tidied text (c.loop-i.i + 1) (vec_items vs)) (sym w.entries-is)
          (upto_passes g.V.TypedLeaf.reads g.V.LeafKind.tidied text c.loop-i.i (vec_items c.loop-i.entries) c.loop-i.invariant _ inside is (rw w.in_default.is at c.in_ok-entry.ensures))
    ]

pub returns-in_err-entry : goal.returns-in_err-entry
returns-in_err-entry g c =
    let text = c.args.text.now in
    let lines = c.deref-line-items.result.now in
    let all : word_bytes lines ≡ lines_of text = ap word_bytes c.deref-line-items.ensures.value ∙ c.in_ok-lines.ensures in
    let n = line_count lines text all in
    let inside : c.loop-i.i < length (lines_of text) = omega arith in
    let is = line_at lines text c.loop-i.i _ all c.loop-i-test.true in
    let p = err_from_is_err_and c.from_residual-in_err-entry.result c.from_residual-in_err-entry.ensures.1 in
    rw (p.1, p.2) (upto_stops g.V.TypedLeaf.reads g.V.LeafKind.tidied text c.loop-i.i (vec_items c.loop-i.entries) c.loop-i.invariant _ inside is c.in_err-entry.field-0.0 c.in_err-entry.ensures)

pub returns : goal.returns
returns g c =
    let text = c.args.text.now in
    let lines = c.deref-line-items.result.now in
    let n = line_count lines text (ap word_bytes c.deref-line-items.ensures.value ∙ c.in_ok-lines.ensures) in
    upto_ends g.V.TypedLeaf.reads g.V.LeafKind.tidied text c.loop-i.i (vec_items c.loop-i.entries) c.loop-i.invariant (omega arith)
