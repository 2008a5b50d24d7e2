use Rattle.std.proofs.Common.{ℕ, rules}
use Rattle.std.proofs.lemmas.List.FromFn.{fill_by_all}
use Rattle.cells.specs.declared.Field.{Field}
use Rattle.cells.specs.declared.Field.TheVariants.{Nil}
use Rattle.images.specs.Layout.{stored_hand, or_nil, stored_hands}
use Rattle.images.proofs.FromFn.{at_index}
use Rattle.images.proofs.opening.hands_in.Goals as goal

pub returns : goal.returns
unfolding stored_hands
returns c =
    let hand : ℕ → Field = λ k. or_nil (stored_hand c.args.body.now.bytes.now k) in
    fill_by_all hand c.from_fn.result 16 Nil c.from_fn.ensures.items.long
    (λ k h. at_index _ _ hand (λ i y q m. (search rules, search rules)) c.from_fn.result 16 c.from_fn.ensures.items k Nil h)
