use Rattle.std.proofs.Common.{◌≡◌, Some, vec_items, arith}
use Rattle.texts.proofs.Tidied.{tidy_more}
use Rattle.texts.proofs.lists.read_list.Goals as goal

pub loop-i-preserved : goal.loop-i-preserved
loop-i-preserved g c =
    let is : c.in_ok-read_value.field-0 ≡ Some c.in_ok-value.value = grind arith in
    let lawful = rw is at c.in_ok-read_value.ensures in
    tidy_more g.V.LeafKind.lawful (vec_items c.loop-i.entries) (vec_items c.push.new.self) (record { line = c.saturating_add-number.result; value = c.in_ok-value.value })
    c.in_ok-push.ensures.items c.loop-i.invariant lawful
