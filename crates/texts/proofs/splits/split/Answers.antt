use Rattle.std.proofs.Common.{◌≡◌, ℕ, ◌+◌, ◌-◌, List, [], ◌++◌, length, get_or, vec_items, IsUtf8, sym, ap, ◌∙◌, subst, arith, Bor}
use Rattle.std.specs.List.{between}
use Rattle.std.proofs.lemmas.Slice.{between_to_end}
use Rattle.std.proofs.lemmas.Str.{IsCharBoundary-start}
use Rattle.texts.specs.Typed.{word_bytes}
use Rattle.texts.specs.Splits.{keeps, pieces_from}
use Rattle.texts.proofs.Pieces.{At, at_on, at_kept, at_none, one_more_lem, last_kept, last_none}
use Rattle.texts.proofs.splits.split.Goals as goal
use Rattle.texts.proofs.splits.split.Goals.{then-separates, else-separates, then-keeps+in_ok-push, else-keeps, then-keeps-2+in_ok-push-2, else-keeps-2}

pub loop-i-init : goal.loop-i-init
loop-i-init c = (
  omega arith,
  IsCharBoundary-start c.args.text.now (subst IsUtf8 c.as_bytes-bytes.ensures.value c.as_bytes-bytes.ensures.utf8),
  ap (λ (vs : List (Bor (List ℕ))). word_bytes vs ++ pieces_from c.args.by [] c.args.text.now) c.new-pieces.ensures.items,
)

pub loop-i-preserved : goal.loop-i-preserved
loop-i-preserved c =
    let text = c.args.text.now in
    let i = c.loop-i.i in
    let utf8 = subst IsUtf8 c.as_bytes-bytes.ensures.value c.as_bytes-bytes.ensures.utf8 in
    let is : get_or c.as_bytes-bytes.result.now i 0 ≡ get_or text i 0 = ap (λ (bs : List ℕ). get_or bs i 0) c.as_bytes-bytes.ensures.value in
    let found = word_bytes (vec_items c.loop-i.pieces) in
    elim c.if-separates.branch [
      | then-separates w ↦ elim w.if-keeps.branch [
        | then-keeps+in_ok-push v ↦
            subst (λ s. At c.args.by text (word_bytes (vec_items c.if-separates.pieces)) s (i + 1)) (sym w.start-is)
            (at_kept c.args.by text utf8 found c.loop-i.start i c.loop-i.invariant (get_or c.as_bytes-bytes.result.now i 0) (omega arith) is (word_bytes (vec_items c.if-separates.pieces))
            w.if-separates.ensures v.if-keeps.ensures
            (ap (λ ps. word_bytes (vec_items ps)) (w.pieces-is ∙ v.pieces-is)
            ∙ one_more_lem (vec_items c.loop-i.pieces) (vec_items v.push.new.self) v.range.result (between c.loop-i.start i text) v.in_ok-push.ensures.items v.range.ensures.value))
        | else-keeps v ↦
            subst (λ s. At c.args.by text (word_bytes (vec_items c.if-separates.pieces)) s (i + 1)) (sym w.start-is)
            (subst (λ f. At c.args.by text f (i + 1) (i + 1)) (ap (λ ps. word_bytes (vec_items ps)) (sym (w.pieces-is ∙ v.pieces-is)))
            (at_none c.args.by text utf8 found c.loop-i.start i c.loop-i.invariant (get_or c.as_bytes-bytes.result.now i 0) (omega arith) is w.if-separates.ensures v.if-keeps.ensures))
      ]
      | else-separates w ↦
          subst (λ s. At c.args.by text (word_bytes (vec_items c.if-separates.pieces)) s (i + 1)) (sym w.start-is)
          (subst (λ f. At c.args.by text f c.loop-i.start (i + 1)) (ap (λ ps. word_bytes (vec_items ps)) (sym w.pieces-is))
          (at_on c.args.by text utf8 found c.loop-i.start i c.loop-i.invariant (get_or c.as_bytes-bytes.result.now i 0) (omega arith) is w.if-separates.ensures))
    ]

pub returns : goal.returns
returns c =
    let text = c.args.text.now in
    let i = c.loop-i.i in
    let start = c.loop-i.start in
    let found = word_bytes (vec_items c.loop-i.pieces) in
    let e : i ≡ length text = omega (arith, c.as_bytes-bytes.ensures.len) in
    let n : length c.as_bytes-bytes.result.now ≡ i = omega (arith, c.as_bytes-bytes.ensures.len) in
    elim c.if-keeps-2.branch [
      | then-keeps-2+in_ok-push-2 w ↦
          last_kept c.args.by text start i c.loop-i.invariant.0 found c.loop-i.invariant.2 (word_bytes (vec_items c.if-keeps-2.pieces)) e (w.if-keeps-2.ensures ∙ ap (λ m. keeps c.args.by (m - start)) n)
          (ap (λ ps. word_bytes (vec_items ps)) w.pieces-is
          ∙ one_more_lem (vec_items c.loop-i.pieces) (vec_items w.push-then-keeps-2.new.self) w.range_from.result (between start i text) w.in_ok-push-2.ensures.items (w.range_from.ensures.value ∙ sym (between_to_end text start i (omega arith))))
      | else-keeps-2 w ↦
          ap (λ ps. word_bytes (vec_items ps)) w.pieces-is ∙ last_none c.args.by text start i c.loop-i.invariant.0 found c.loop-i.invariant.2 e (w.if-keeps-2.ensures ∙ ap (λ m. keeps c.args.by (m - start)) n)
    ]
