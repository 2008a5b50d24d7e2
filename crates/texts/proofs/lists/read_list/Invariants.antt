use Rattle.std.proofs.Common.{vec_items}
use Rattle.texts.specs.Lists.{Tidy}
use Rattle.texts.proofs.lists.read_list.Given as goal

abbrev pub invariant-loop-i : goal.invariant-loop-i
invariant-loop-i g l = Tidy g.V.LeafKind.lawful (vec_items l.entries)
