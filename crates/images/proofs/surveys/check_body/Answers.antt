use Rattle.std.proofs.Common.{ℕ, refl, rules}
use Rattle.std.proofs.lemmas.List.{length-replicate, get_or-replicate}
use Rattle.images.specs.Layout.{held}
use Rattle.images.proofs.Steps.{surveyed_start}
use Rattle.images.proofs.surveys.check_body.Goals as goal

pub run-requires : goal.run-requires
run-requires g c = (
  search rules,
  surveyed_start (held g.V.LeafKind.taken c.args.body.now.bytes.now c.args.body.now.count) _ refl (length-replicate {A = ℕ} 32768 0) (λ a l. get_or-replicate {A = ℕ} 32768 a 0 0 l),
)
